-- Repair of empty cells: document 01's rule. Definitions only.
use Rattle.std.specs.Prelude.{◌≡◌, ℕ, zero, suc, ◌-◌, ◌<◌, ◌≤◌, false, not, ◌||◌, cond, List, [], ◌∷◌, ◌++◌, T, eqb, leb, ltb, negsuc, length, Float, Option, None, Some}
use Rattle.std.specs.Float.{fin, binary64}
use Rattle.std.specs.Float.Ieee.{add, sub, mul, div, lt, le}
use Rattle.error.specs.Numbers.{Outcome, completed, refused, and_then, whole}
use Rattle.ieee.specs.Sum.{plus_zero}
use Rattle.root.specs.Sqrt.{sqrt_of}
use Rattle.lloyd_search.specs.Distance.{distance}
use Rattle.lloyd_events.specs.declared.LloydRepairEvent.{LloydRepairEvent}
use Rattle.lloyd_cells.specs.Cells.{total}

-- The cells of an update: codewords by cell and coordinate, tallies and distortions. A cell's tally is document 01's:
-- its samples, less those given away, plus one if filled.
pub record Cells : Type 0 where
  pub word : ℕ → ℕ → Float
  pub tally : ℕ → ℕ
  pub distortion : ℕ → Float

-- what an update is given beside samples and codebook: coordinates, cells, the restart and iteration that its events
-- bear, free event slots, and the slots that refusal 19 shows
pub record Terms : Type 0 where
  pub dim : ℕ
  pub cells : ℕ
  pub restart : ℕ
  pub iteration : ℕ
  pub free : ℕ
  pub shown : ℕ

-- The donor among the first n cells: tally above 1 and the largest distortion, the last of equals
abbrev pub or_larger : (ℕ → Float) → ℕ → Option ℕ → Option ℕ
or_larger d n None = Some n
or_larger d n (Some b) = cond (lt (d n) (d b)) (Some b) (Some n)

unfoldable pub donor_to : (ℕ → ℕ) → (ℕ → Float) → ℕ → Option ℕ
donor_to t d zero = None
donor_to t d (suc n) = cond (ltb 1 (t n)) (or_larger d n (donor_to t d n)) (donor_to t d n)

-- what is meant by it: cell c has tally above 1; no such cell has
-- a larger distortion, and each later one has a strictly smaller
pub record LastLargest (t : ℕ → ℕ) (d : ℕ → Float) (n c : ℕ) : Type 0 where
  pub within : c < n
  pub plenty : 1 < t c
  pub none_larger : (i : ℕ) → i < n → 1 < t i → T (not (lt (d c) (d i)))
  pub last : (i : ℕ) → c < i → i < n → 1 < t i → T (lt (d i) (d c))

-- 1.0e-6, the binary64 nearest to it, by which a donor's codeword is moved
abbrev pub epsilon : Float
epsilon = fin false 4722366482869645 (negsuc 71)

-- 2 ^ -52: a residual of no larger norm has no direction
abbrev pub least_norm : Float
least_norm = fin false 1 (negsuc 51)

-- the residual of a donor is its farthest sample less its codeword as it now stands
abbrev pub residual_norm : ℕ → (ℕ → Float) → (ℕ → Float) → Float
residual_norm k far word = sqrt_of binary64 (distance k far word)

-- epsilon times the residual's direction, at one coordinate
abbrev pub shift : Float → Float → Float → Float
shift far word norm = mul binary64 epsilon (div binary64 (sub binary64 far word) norm)

-- The donor c gives a sample to the empty cell e: their codewords part along
-- the residual, c's tally falls by 1, e's becomes 1, both distortions become 0.
abbrev pub split : ℕ → (ℕ → Float) → Float → Cells → ℕ → ℕ → Cells
split k far norm st c e = record {
  word = λ i j.
      cond (eqb i c) (sub binary64 (st.word c j) (shift (far j) (st.word c j) norm))
      (cond (eqb i e) (add binary64 (st.word c j) (shift (far j) (st.word c j) norm)) (st.word i j));
  tally = λ i. cond (eqb i c) (st.tally c - 1) (cond (eqb i e) 1 (st.tally i));
  distortion = λ i. cond (eqb i c || eqb i e) plus_zero (st.distortion i);
}

-- the event of that repair
abbrev pub event_of : Terms → Cells → ℕ → ℕ → Float → LloydRepairEvent
event_of t st c e norm = record {
  restart = t.restart;
  iteration = t.iteration;
  empty_cell = e;
  donor_cell = c;
  donor_count_before = st.tally c;
  donor_distortion = st.distortion c;
  residual_norm = norm;
  split_epsilon = epsilon;
}

-- the cells after some repairs, and the events of these, in order
pub record Repaired : Type 0 where
  pub cells : Cells
  pub events : List LloydRepairEvent

-- One repair of the empty cell e, with the donor that was found: 15, 16, 19. `far c` is the farthest sample of cell c.
abbrev pub repair_by : Terms → (ℕ → ℕ → Float) → ℕ → Repaired → Option ℕ → Outcome Repaired
repair_by t far e r None = refused 15 (whole e ∷ [])
repair_by t far e r (Some c) =
    let norm = residual_norm t.dim (far c) (r.cells.word c) in
    cond (le norm least_norm) (refused 16 (whole c ∷ []))
    (cond (leb t.free (length r.events)) (refused 19 (whole t.shown ∷ []))
    (completed (record {
      cells = split t.dim (far c) norm r.cells c e;
      events = r.events ++ (event_of t r.cells c e norm ∷ []);
    })))

abbrev pub repair_cell : Terms → (ℕ → ℕ → Float) → ℕ → Repaired → Outcome Repaired
repair_cell t far e r = repair_by t far e r (donor_to r.cells.tally r.cells.distortion t.cells)

-- cell e, in its turn: it is repaired where it is empty
abbrev pub turn : Terms → (ℕ → ℕ → Float) → ℕ → Repaired → Outcome Repaired
turn t far e r = cond (eqb (r.cells.tally e) 0) (repair_cell t far e r) (completed r)

-- the first e cells in rising order
unfoldable pub repair_to : Terms → (ℕ → ℕ → Float) → Cells → ℕ → Outcome Repaired
repair_to t far st zero = completed (record { cells = st; events = [] })
repair_to t far st (suc e) = and_then (repair_to t far st e) (turn t far e)

-- What the repairs of the first e of n cells make of the tallies t: an empty cell stands at 1 once its turn has come,
-- and at 0 before; any other may have given samples away, and keeps one; none is lost
pub record Tallied (n e : ℕ) (t after : ℕ → ℕ) : Type 0 where
  pub filled : (i : ℕ) → i < e → t i ≡ 0 → after i ≡ 1
  pub empty : (i : ℕ) → e ≤ i → t i ≡ 0 → after i ≡ 0
  pub some : (i : ℕ) → 0 < t i → (0 < after i) × (after i ≤ t i)
  pub all : total after n ≡ total t n
