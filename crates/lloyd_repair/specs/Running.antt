-- How far the repairs of an update have come, and what its work holds between two of them. Definitions only.
use Rattle.std.specs.Prelude.{◌≡◌, ℕ, suc, ◌+◌, ◌*◌, ◌^◌, ◌<◌, ◌≤◌, List, [], ◌∷◌, ◌++◌, length, get_or, pos, slice_index, slice_index_or, Float, Some, Option, None, Result, Ok, Err}
use Rattle.std.specs.Float.{nan, binary64}
use Rattle.std.specs.Float.Ieee.{of_int}
use Rattle.error.specs.Numbers.{completed, refusal}
use Rattle.lloyd_search.specs.Distance.{row_of}
use Rattle.lloyd_events.specs.declared.LloydRepairEvent.{LloydRepairEvent}
use Rattle.lloyd_cells.specs.declared.Places.{Places}
use Rattle.lloyd_cells.specs.Repair.{Cells, Terms, Repaired, repair_to, donor_to}
use Rattle.lloyd_cells.specs.Work.{Fit, Held}
use Rattle.lloyd_repair.specs.declared.Numbers.{Numbers}
use Rattle.lloyd_repair.specs.declared.Numbers.TheVariants.{InFloats, InInts}
use Rattle.lloyd_repair.specs.declared.RepairTerms.{RepairTerms}
use Rattle.lloyd_repair.specs.declared.Repair.{Repair}
use Rattle.error.specs.declared.Refusal.{Refusal}

abbrev pub terms_of : RepairTerms → Terms
terms_of t = record {
  dim = t.dim;
  cells = t.cells;
  restart = t.restart;
  iteration = t.iteration;
  free = t.free;
  shown = t.shown;
}

-- the cells that the work shows
abbrev pub cells_in : Places → ℕ → List Float → List ℕ → Cells
cells_in p k work ints = record {
  word = λ c j. slice_index_or work (p.words + (c * k + j)) nan;
  tally = λ c. slice_index ints c;
  distortion = λ c. slice_index_or work (p.distortions + c) nan;
}

-- s is the number that is held for a cell: in the float work, as a whole number, or in the integer work
abbrev pub NumberAt : Numbers → List Float → List ℕ → ℕ → ℕ → Type 0
NumberAt (InFloats start) work ints cell s =
    (slice_index_or work (start + cell) nan ≡ of_int binary64 (pos s)) × (s < 2 ^ 53)
NumberAt (InInts start) work ints cell s = slice_index ints (start + cell) ≡ s

-- the sample of that number is the farthest of its cell, whose coordinates are `far`
pub record HoldsFarthest (m : Numbers) (k : ℕ) (samples : List Float) (far : ℕ → Float) (cell : ℕ) (work : List Float)
    (ints : List ℕ) : Type 0 where
  pub number : ℕ
  pub at : NumberAt m work ints cell number
  pub inside : suc number * k ≤ length samples
  pub is : (j : ℕ) → j < k → far j ≡ row_of k samples number j

-- these numbers stand between words and distortions, or behind the n counts
abbrev pub NumbersFit : Numbers → Places → ℕ → ℕ → ℕ → Type 0
NumbersFit (InFloats start) p n k L = (p.words + n * k ≤ start) × (start + n ≤ p.distortions)
NumbersFit (InInts start) p n k L = (n ≤ start) × (start + n ≤ L)

-- the cells below `next` have had their turn, which came to r, and the work holds it
pub record Running (p : Places) (m : Numbers) (t : Terms) (samples : List Float) (far : ℕ → ℕ → Float) (start : Cells)
    (next : ℕ) (r : Repaired) (work : List Float) (ints : List ℕ) : Type 0 where
  pub fit : Fit p t.cells t.dim (length work)
  pub small : t.cells ≤ 1048576
  pub counts : t.cells ≤ length ints
  pub room : NumbersFit m p t.cells t.dim (length ints)
  pub reached : next ≤ t.cells
  pub came : repair_to t far start next ≡ completed r
  pub held : Held p t.cells t.dim r.cells work ints
  pub farthest : (c : ℕ) → c < t.cells → 1 < r.cells.tally c → HoldsFarthest m t.dim samples (far c) c work ints

-- some repairs are under way
pub record ReadyRepairs (p : Places) (m : Numbers) (t : Terms) (samples : List Float) (used next : ℕ)
    (work : List Float) (ints : List ℕ) : Type 0 where
  pub far : ℕ → ℕ → Float
  pub start : Cells
  pub r : Repaired
  pub events : length r.events ≡ used
  pub running : Running p m t samples far start next r work ints

-- one repair more, with its event
pub record OneMore (p : Places) (m : Numbers) (t : Terms) (samples : List Float) (far : ℕ → ℕ → Float) (start : Cells)
    (r : Repaired) (e : LloydRepairEvent) (next : ℕ) (work : List Float) (ints : List ℕ) : Type 0 where
  pub after : Repaired
  pub event : after.events ≡ r.events ++ (e ∷ [])
  pub running : Running p m t samples far start next after work ints

-- What a turn says of the repairs that came to r before it, by its
-- answer. In every case it leaves the float work below the words alone.
module _ (p : Places) (m : Numbers) (t : Terms) (samples : List Float) (far : ℕ → ℕ → Float) (start : Cells)
    (r : Repaired) (work : List Float) (ints : List ℕ) where
  abbrev pub Turned : Result (Option Repair) Refusal → Type 0
  Turned (Ok (Some x)) = OneMore p m t samples far start r x.event x.next work ints
  Turned (Ok None) = (repair_to t far start t.cells ≡ completed r) × Running p m t samples far start t.cells r work ints
  Turned (Err x) = repair_to t far start t.cells ≡ refusal x

-- the place of a cell's number is one of the work's
abbrev pub NumberWithin : Numbers → ℕ → List Float → List ℕ → Type 0
NumberWithin (InFloats start) cell work ints = start + cell < length work
NumberWithin (InInts start) cell work ints = start + cell < length ints

-- some number is held for a cell
pub record Numbered (m : Numbers) (cell : ℕ) (work : List Float) (ints : List ℕ) : Type 0 where
  pub number : ℕ
  pub is : NumberAt m work ints cell number
  pub within : NumberWithin m cell work ints

-- e is empty, and the work shows this donor
pub record Chosen (p : Places) (t : Terms) (e donor : ℕ) (work : List Float) (ints : List ℕ) : Type 0 where
  pub below : e < t.cells
  pub empty : get_or ints e 0 ≡ 0
  pub shows : donor_to (λ c. slice_index ints c) (λ c. get_or work (p.distortions + c) nan) t.cells ≡ Some donor

-- what stands behind the counts is left alone
pub record BehindKept (n : ℕ) (before after : List ℕ) : Type 0 where
  pub size : length after ≡ length before
  pub behind : (i : ℕ) → n ≤ i → slice_index after i ≡ slice_index before i
