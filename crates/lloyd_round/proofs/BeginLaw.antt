-- The beginning of a round: cleared work, samples added up, means, and where that leaves the repairs. Assumes nothing.
use mathlib.Core.Path.{◌≡◌, refl, sym, ap, ◌∙◌}
use Prim.Native.Nat.{ℕ, ◌+◌, ◌*◌, ◌≤◌, ◌<◌}
use native.Mathlib.Nat.{zero-add, mul-le-mul_right}
use native.Mathlib.Omega.{arith}
use mathlib.Core.List.{List, ◌++◌}
use lib.ListN.{length, get_or, replicate, get_or-replicate, get_or-append, length-append}
use Rattle.std.proofs.lemmas.List.{get_or-append-add}
use lib.Seq.{get_or-take, length-take-le, ext_get_or}
use lib.Ieee.{Float, nan}
use Rattle.lloyd_search.specs.Distance.{row_of}
use Rattle.lloyd_cells.specs.declared.Places.{Places}
use Rattle.lloyd_cells.specs.Cells.{farthest}
use Rattle.lloyd_cells.specs.Repair.{Terms, repair_to}
use Rattle.lloyd_cells.specs.Work.{cleared, Fit, Kept, Held, means_to}
use Rattle.lloyd_cells.proofs.CellsLaw.{count_to_upto, farthest_within}
use Rattle.lloyd_cells.proofs.WorkLaw.{held_means, means_kept}
use Rattle.lloyd_cells.proofs.ClearLaw.{cleared_size, cleared_below, cleared_gathered}
use Rattle.lloyd_repair.specs.Running.{HoldsFarthest}
use Rattle.lloyd_round.specs.Round.{cell_of, means_of, far_of, places_of, numbers_of, Holding, Roomy, AtFirst}
use Rattle.lloyd_round.specs.Adding.{front, distance_of, Added}
use Rattle.lloyd_round.proofs.AddLaw.{shape, front_same}

-- the lengths decide
pub same_room : (n k S : ℕ) (samples work₀ work : List Float) (ints : List ℕ) → Roomy n k S samples work₀ ints → length work ≡ length work₀ → Roomy n k S samples work ints
same_room n k S samples work₀ work ints r floats = record {
  some = r.some;
  least = r.least;
  any = r.any;
  most = r.most;
  rows = r.rows;
  few = r.few;
  floats = floats ∙ r.floats;
  integers = r.integers;
}

-- ---- nothing is added up yet
module _ {n k S : ℕ} {samples work₀ : List Float} {ints₀ : List ℕ} (good : Roomy n k S samples work₀ ints₀) (p : Places) (is-p : p ≡ places_of n k) (work : List Float) (is-work : work ≡ cleared p n work₀) where
  fits : Fit (places_of n k) n k (length work₀)
  fits = shape n k (length work₀) good.some good.floats

  is : work ≡ cleared (places_of n k) n work₀
  is = is-work ∙ ap (λ (q : Places). cleared q n work₀) is-p

  pub untouched : (i : ℕ) → i < 2 * (n * k) → get_or work i nan ≡ get_or work₀ i nan
  untouched = cleared_below (places_of n k) n k work₀ work fits is

  pub cleared_front : front n k work ≡ front n k work₀
  cleared_front = front_same n k work₀ work (omega (arith, good.floats)) (cleared_size (places_of n k) n k work₀ work fits is) (λ i l. untouched i (omega arith))

  pub none_added : (codebook : List Float) (counts numbers : List ℕ) → counts ≡ replicate n 0 → numbers ≡ replicate n 0 → Added k n S samples codebook 0 work counts numbers
  unfolding farthest
  none_added codebook counts numbers e q = record {
    gathered =
        cleared_gathered (places_of n k) n k work₀ work fits is (cell_of k n S samples codebook) (row_of k samples) (distance_of k n S samples codebook) counts (λ i l. rw e (get_or-replicate n i 0 0 l));
    noted = λ i l. rw q (get_or-replicate n i 0 0 l);
  }

-- ---- the means
module _ {n k S : ℕ} {samples work : List Float} {ints : List ℕ} (good : Roomy n k S samples work ints) (codebook : List Float) (counts numbers : List ℕ) (tallies : length counts ≡ n) (places : length numbers ≡ n)
    (added : Added k n S samples codebook S work counts numbers) (p : Places) (is-p : p ≡ places_of n k) (after : List Float) (is-after : after ≡ means_to p k counts work n) where
  fit : Fit (places_of n k) n k (length work)
  fit = shape n k (length work) good.some good.floats

  is_means : after ≡ means_to (places_of n k) k counts work n
  is_means = is-after ∙ ap (λ (q : Places). means_to q k counts work n) is-p

  pub means_left : Kept (places_of n k) n k work after
  means_left = rw is_means (means_kept (places_of n k) n k counts work)

  means_held : Held (places_of n k) n k (means_of k n S samples codebook) after counts
  means_held = rw is_means (held_means (places_of n k) n k S (row_of k samples) (cell_of k n S samples codebook) (row_of k codebook) work counts fit added.gathered)

  -- in front of the numbers
  held : Held (places_of n k) n k (means_of k n S samples codebook) after (counts ++ numbers)
  held = record { tally = λ c l. get_or-append counts numbers 0 c (omega arith) ∙ means_held.tally c l; words = means_held.words; distortions = means_held.distortions }

  farthest_held : (c : ℕ) → c < n → 1 < (means_of k n S samples codebook).tally c → HoldsFarthest (numbers_of n) k samples (far_of k n S samples codebook c) c after (counts ++ numbers)
  farthest_held c l h =
      let some : 1 ≤ S = omega (arith, count_to_upto (cell_of k n S samples codebook) c S) in
      let w = farthest_within (cell_of k n S samples codebook) (distance_of k n S samples codebook) c S some in
      record {
        number = (farthest (cell_of k n S samples codebook) (distance_of k n S samples codebook) c S).sample;
        at = ap (λ (z : ℕ). get_or (counts ++ numbers) (z + c) 0) (sym tallies) ∙ get_or-append-add counts numbers c 0 ∙ added.noted c l;
        inside = omega (arith, mul-le-mul_right k w, good.rows);
        is = λ j m. refl;
      }

  pub at_first : (t : Terms) → t.dim ≡ k → t.cells ≡ n → AtFirst k n S samples codebook t after (counts ++ numbers)
  unfolding repair_to
  at_first t ek en =
      let size = length-append counts numbers in
      record {
        fit = rw (en, ek, means_left.size) fit;
        small = omega (arith, good.most);
        counts = omega arith;
        room = (omega arith, omega arith);
        reached = omega arith;
        came = refl;
        held = rw (en, ek) held;
        farthest = λ c l h. rw ek (farthest_held c (omega arith) h);
      }

-- the codebook that stands at the front
pub held_front : (n k : ℕ) (codebook work : List Float) → n * k ≤ length work → Holding n k 0 codebook work → codebook ≡ front n k work
held_front n k codebook work room h =
    let b = length-take-le (n * k) work room in
    ext_get_or nan codebook (front n k work) (h.size ∙ sym b)
    (λ i l. let m : i < n * k = omega (arith, h.size) in sym (h.values i m) ∙ ap (λ (z : ℕ). get_or work z nan) (zero-add i) ∙ sym (get_or-take (n * k) work i nan m))
