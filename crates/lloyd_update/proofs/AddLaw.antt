-- One sample more is added up: its cell, its distance, and the number of its cell's farthest sample. Assumes nothing.
use Rattle.std.proofs.Common.{◌≡◌, ℕ, suc, ◌+◌, ◌-◌, ◌*◌, ◌<◌, ◌≤◌, Bool, true, false, cond, List, length, get_or, take, drop, set, pos, sym, refl, ap, ◌∙◌, mul-le-mul, le-mul_of_pos_right, add-one, arith, get_or-set_other, get_or-set_same}
use native.Mathlib.Decide.{ℕ_discrete}
use lib.Ieee.{Float, nan, binary64, lt, of_int}
use Rattle.lloyd_search.specs.Distance.{distance, vector_of, row_of}
use Rattle.lloyd_search.proofs.Parts.{row_fits, part_length, part_row, distance_ext}
use Rattle.lloyd_cells.specs.declared.Places.{Places}
use Rattle.lloyd_cells.specs.Cells.{Farthest, farthest}
use Rattle.lloyd_cells.specs.Work.{Fit, Gathered, gather_work}
use Rattle.lloyd_cells.proofs.CellsLaw.{farthest_in, farthest_out}
use Rattle.lloyd_cells.proofs.WorkLaw.{gathered_next, gathered_same, gather_kept}
use Rattle.lloyd_update.specs.Alone.{Call}
use Rattle.lloyd_update.specs.declared.UpdateTerms.{UpdateTerms}
use Rattle.lloyd_update.specs.Progress.{call_of, places_of, cell_of, sample_of, distance_of, Added, Addable}

-- the parts of the work of an update alone
pub shape : (n k L : ℕ) → 0 < k → L ≡ 2 * (n * k) + 2 * n → Fit (places_of n k) n k L
shape n k L h e = record { some = h; words = omega arith; distortions = omega arith; farthest = omega arith }

-- the room for the numbers ends where the distortions begin
pub numbers_room : (n k i : ℕ) → 0 < k → i < n → n * k + i < 2 * (n * k)
numbers_room n k i h l = omega (arith, le-mul_of_pos_right {m = k} n h)

-- its places are small numbers
pub places_small : (n k : ℕ) → n ≤ 1048576 → k ≤ 256 → 2 * (n * k) + n < 0x1_0000_0000_0000
places_small n k h g = omega (arith, mul-le-mul h g)

-- ---- one sample more, for one call
module _ (c : Call) (s cell : ℕ) (sample : List Float) (d : Float) (work : List Float) (counts : List ℕ)
    (h : Added c s work counts) (fit : Fit (places_of c.size c.dim) c.size c.dim (length work))
    (is : cell_of c s ≡ cell) (l : cell < c.size) (m : c.size ≤ length counts)
    (row : (j : ℕ) → j < c.dim → vector_of sample j ≡ sample_of c s j) (dist : distance_of c s ≡ d) where
  abbrev joined : List Float
  joined = gather_work (places_of c.size c.dim) c.dim cell sample d work

  abbrev more : List ℕ
  more = set counts cell (get_or counts cell 0 + 1)

  next : Gathered (places_of c.size c.dim) c.size c.dim (cell_of c) (sample_of c) (distance_of c) (suc s) joined more
  next =
      gathered_next (places_of c.size c.dim) c.size c.dim (cell_of c) (sample_of c) (distance_of c) s work counts cell sample d fit h.gathered is l m row dist

  -- the numbers so far stay
  stays : (i : ℕ) → i < c.size → get_or joined (c.size * c.dim + i) nan ≡ of_int binary64 (pos (farthest (cell_of c) (distance_of c) i s).sample)
  stays i o =
      let r = numbers_room c.size c.dim i fit.some o in
      (gather_kept (places_of c.size c.dim) c.size c.dim cell sample d work fit l).between (c.size * c.dim + i) (omega arith) (omega arith) ∙ h.numbers i o

  -- a sample of another cell changes no other
  others : (i : ℕ) → (i ≡ cell → ⊥) → farthest (cell_of c) (distance_of c) i (suc s) ≡ farthest (cell_of c) (distance_of c) i s
  others i o = farthest_out (cell_of c) i s (distance_of c) (λ q. o (sym q ∙ is))

  own : (b : Bool) → lt (get_or work ((places_of c.size c.dim).farthest + cell) nan) d ≡ b
      → farthest (cell_of c) (distance_of c) cell (suc s) ≡ cond b (record { sample = s; distance = distance_of c s }) (farthest (cell_of c) (distance_of c) cell s)
  own b t = farthest_in (cell_of c) cell s (distance_of c) is ∙ ap (λ (z : Bool). cond z (record { sample = s; distance = distance_of c s }) (farthest (cell_of c) (distance_of c) cell s)) test
    where
      test : lt (farthest (cell_of c) (distance_of c) cell s).distance (distance_of c s) ≡ b
      test = rw (← h.gathered.distances cell l, dist) t

  nearer : lt (get_or work ((places_of c.size c.dim).farthest + cell) nan) d ≡ false → Added c (suc s) joined more
  nearer t = record {
    gathered = next;
    numbers = λ i o. elim (ℕ_discrete i cell) [
      | yes q ↦ stays i o ∙ ap (λ (z : Farthest). of_int binary64 (pos z.sample)) (ap (λ (z : ℕ). farthest (cell_of c) (distance_of c) z s) q ∙ sym (own false t) ∙ ap (λ (z : ℕ). farthest (cell_of c) (distance_of c) z (suc s)) (sym q))
      | no q ↦ stays i o ∙ ap (λ (z : Farthest). of_int binary64 (pos z.sample)) (sym (others i q))
    ];
  }

  farther : lt (get_or work ((places_of c.size c.dim).farthest + cell) nan) d ≡ true → Added c (suc s) (set joined (c.size * c.dim + cell) (of_int binary64 (pos s))) more
  farther t = record {
    gathered =
        gathered_same (places_of c.size c.dim) c.size c.dim (cell_of c) (sample_of c) (distance_of c) (suc s) joined (set joined (c.size * c.dim + cell) (of_int binary64 (pos s))) more next
        (λ i u v. apart i (λ q. omega arith))
        (λ i u v. apart i (λ q. let r = numbers_room c.size c.dim cell fit.some l in omega arith))
        (λ i u v. apart i (λ q. let r = numbers_room c.size c.dim cell fit.some l in omega arith));
    numbers = λ i o. elim (ℕ_discrete i cell) [
      | yes q ↦ ap (λ (z : ℕ). get_or (set joined (c.size * c.dim + cell) (of_int binary64 (pos s))) (c.size * c.dim + z) nan) q
          ∙ get_or-set_same joined (c.size * c.dim + cell) (of_int binary64 (pos s)) nan inside
          ∙ ap (λ (z : Farthest). of_int binary64 (pos z.sample)) (sym (own true t) ∙ ap (λ (z : ℕ). farthest (cell_of c) (distance_of c) z (suc s)) (sym q))
      | no q ↦ apart (c.size * c.dim + i) (λ e. q (omega arith)) ∙ stays i o ∙ ap (λ (z : Farthest). of_int binary64 (pos z.sample)) (sym (others i q))
    ];
  }
    where
      apart : (i : ℕ) → (i ≡ c.size * c.dim + cell → ⊥) → get_or (set joined (c.size * c.dim + cell) (of_int binary64 (pos s))) i nan ≡ get_or joined i nan
      apart i o = get_or-set_other joined (c.size * c.dim + cell) i (of_int binary64 (pos s)) nan o

      inside : c.size * c.dim + cell < length joined
      inside =
          let r = numbers_room c.size c.dim cell fit.some l in
          let e = (gather_kept (places_of c.size c.dim) c.size c.dim cell sample d work fit l).size in
          omega arith

-- ---- the same, for every call that was told this
module _ (t : UpdateTerms) (codebook work₀ : List Float) (counts₀ : List ℕ) where
  abbrev pub AddedTo : ℕ → List Float → List ℕ → Type 0
  AddedTo s work counts =
      (floats integers slots : ℕ) → Added (call_of t codebook floats integers slots) 0 work₀ counts₀ → Added (call_of t codebook floats integers slots) s work counts

module _ (t : UpdateTerms) {codebook work₀ : List Float} {counts₀ : List ℕ} (good : Addable t.codebook_size t.block_dim codebook t.samples.now t.assignments.now work₀ counts₀) (s : ℕ) (work : List Float) (counts : List ℕ) (below : s < length t.assignments.now)
    (size : length work ≡ length work₀) (cells : length counts ≡ length counts₀) where
  abbrev n : ℕ
  n = t.codebook_size

  abbrev k : ℕ
  k = t.block_dim

  abbrev samples : List Float
  samples = t.samples.now

  abbrev cell : ℕ
  cell = get_or t.assignments.now s 0

  abbrev part : List Float
  part = take (s * k + k - s * k) (drop (s * k) samples)

  abbrev word : List Float
  word = take (cell * k + k - cell * k) (drop (cell * k) codebook)

  cell_below : cell < n
  cell_below = good.cells s below

  sample_fits : s * k + k ≤ length samples
  sample_fits = row_fits s (length t.assignments.now) k (s * k) (length samples) below refl good.rows

  word_fits : cell * k + k ≤ length codebook
  word_fits = row_fits cell n k (cell * k) (length codebook) cell_below refl good.words

  part-size : length part ≡ k
  part-size = part_length samples s k (s * k) refl sample_fits

  work_fit : Fit (places_of n k) n k (length work)
  work_fit = shape n k (length work) good.some (size ∙ good.floats)

  tallies : length counts ≡ n
  tallies = cells ∙ good.integers

  pub counts_upto : ((i : ℕ) → i < n → get_or counts i 0 ≤ s) → (i : ℕ) → i < n → get_or (set counts cell (get_or counts cell 0 + 1)) i 0 ≤ s + 1
  counts_upto h i l = elim (ℕ_discrete i cell) [
    | yes q ↦
        let e = ap (λ (z : ℕ). get_or (set counts cell (get_or counts cell 0 + 1)) z 0) q ∙ get_or-set_same counts cell (get_or counts cell 0 + 1) 0 (omega (arith, tallies, cell_below)) in
        omega (arith, h cell cell_below)
    | no q ↦ let e = get_or-set_other counts cell i (get_or counts cell 0 + 1) 0 q in omega (arith, h i l)
  ]

  module _ (h : AddedTo t codebook work₀ counts₀ s work counts) (p : Places) (is-p : p ≡ places_of n k) (d : Float) (is-d : d ≡ distance (length part) (vector_of part) (vector_of word))
      (after : List Float) (left : List ℕ)
      (is-after : after ≡ gather_work p (length part) cell part d work)
      (is-left : left ≡ set counts cell (get_or counts cell 0 + 1)) where
    joined_is : after ≡ gather_work (places_of n k) k cell part d work
    joined_is = is-after ∙ rw (is-p, part-size)

    is_distance : distance k (row_of k samples s) (row_of k codebook cell) ≡ d
    is_distance =
        sym (is-d ∙ ap (λ (z : ℕ). distance z (vector_of part) (vector_of word)) part-size
        ∙ distance_ext k (vector_of part) (vector_of word) (row_of k samples s) (row_of k codebook cell) (part_row samples s k (s * k) refl) (part_row codebook cell k (cell * k) refl))

    test_is : (b : Bool) → lt (get_or work (p.farthest + cell) nan) d ≡ b → lt (get_or work ((places_of n k).farthest + cell) nan) d ≡ b
    test_is b e = ap (λ (z : Places). lt (get_or work (z.farthest + cell) nan) d) (sym is-p) ∙ e

    pub added_nearer : lt (get_or work (p.farthest + cell) nan) d ≡ false → AddedTo t codebook work₀ counts₀ (s + 1) after left
    added_nearer e floats integers slots z =
        rw (add-one, joined_is, is-left)
        (nearer (call_of t codebook floats integers slots) s cell part d work counts (h floats integers slots z) work_fit refl cell_below (omega (arith, tallies)) (part_row samples s k (s * k) refl) is_distance (test_is false e))

    pub added_farther : (v : Float) → v ≡ of_int binary64 (pos s) → lt (get_or work (p.farthest + cell) nan) d ≡ true
        → AddedTo t codebook work₀ counts₀ (s + 1) (set after (n * k + cell) v) left
    added_farther v is-v e floats integers slots z =
        rw (add-one, is-v, joined_is, is-left)
        (farther (call_of t codebook floats integers slots) s cell part d work counts (h floats integers slots z) work_fit refl cell_below (omega (arith, tallies)) (part_row samples s k (s * k) refl) is_distance (test_is true e))
