-- The beginning of a refinement: the initial codebook is the first restart's
-- start and the best so far. Assumes nothing.
use mathlib.Core.Path.{◌≡◌, refl, sym, ap, ◌∙◌, subst}
use Prim.Native.Nat.{ℕ, ◌+◌, ◌*◌, ◌/◌}
use native.Mathlib.Omega.{arith}
use mathlib.Core.List.{List}
use lib.ListN.{length, get_or}
use lib.Ieee.{Float, nan}
use Rattle.error.specs.Numbers.{completed}
use Rattle.slices.specs.Lists.{patched}
use Rattle.slices.proofs.ListLaw.{length-patched, patched_inside, patched_below}
use Rattle.lloyd_round.specs.Round.{Holding}
use Rattle.lloyd_search.specs.Distance.{row_of}
use Rattle.lloyd_search.specs.Nearest.{mean_error}
use Rattle.lloyd_refine.specs.Refine.{Job, size_of, dim_of, refine_checks, start_of, trained_from, error_of, start_best, restarts_to}
use Rattle.lloyd_steps.specs.Steps.{first_state, AtRound}
use Rattle.lloyd_refine.proofs.CheckLaw.{checks_passed}
use Rattle.lloyd_steps.proofs.RestartLaw.{measured, Kept, starts}

-- ---- the first restart
abbrev values_of : Job → ℕ → Float
values_of j i = get_or j.initial i nan

module _ (j : Job) (checked : refine_checks j ≡ completed tt) (work one two : List Float) (floats : length work ≡ j.float_work)
    (is_one : one ≡ patched work 0 (length j.initial) (values_of j)) (is-two : two ≡ patched one (size_of j * dim_of j) (length j.initial) (values_of j)) where
  size_one : length one ≡ length work
  size_one = ap length is_one ∙ length-patched work 0 (length j.initial) (values_of j)

  size_two : length two ≡ length work
  size_two = ap length is-two ∙ length-patched one (size_of j * dim_of j) (length j.initial) (values_of j) ∙ size_one

  current : Holding (size_of j) (dim_of j) 0 j.initial two
  current =
      let p = checks_passed j checked in
      let n = p.initial_length in
      record {
        size = n;
        values = λ i l.
            ap (λ (z : List Float). get_or z (0 + i) nan) is-two
            ∙ patched_below one (size_of j * dim_of j) (length j.initial) (values_of j) (0 + i) nan (omega arith)
            ∙ ap (λ (z : List Float). get_or z (0 + i) nan) is_one
            ∙ patched_inside work 0 (length j.initial) (values_of j) i nan (omega (arith, p.floats)) (omega arith);
      }

  kept : Holding (size_of j) (dim_of j) (size_of j * dim_of j) j.initial two
  kept =
      let p = checks_passed j checked in
      let n = p.initial_length in
      record {
        size = n;
        values = λ i l. ap (λ (z : List Float). get_or z (size_of j * dim_of j + i) nan) is-two ∙ patched_inside one (size_of j * dim_of j) (length j.initial) (values_of j) i nan (omega (arith, p.floats, size_one)) (omega arith);
      }

  pub begins : (e : Float) → e ≡ mean_error (dim_of j) (size_of j) (row_of (dim_of j) j.initial) (row_of (dim_of j) j.samples) (length j.samples / dim_of j)
      → (ints : List ℕ) → length ints ≡ j.integer_work → AtRound j (start_best j) (trained_from j 0 (start_best j)) (first_state e) two ints
  unfolding restarts_to
  begins e is ints integers =
      let m : e ≡ error_of j j.initial = is ∙ measured j checked j.initial in
      let p = checks_passed j checked in
      let k : Kept j 0 (start_best j) (first_state e) two = record { floats = size_two ∙ floats; bests = refl; kept = kept; first = refl; earlier = refl; made = refl; init = m; best = m; winner = refl } in
      let q : start_of j 0 ≡ j.initial = refl in
      starts k checked ints integers (omega (arith, p.valid.settings.restarts_least)) two refl (subst (λ (z : List Float). Holding (size_of j) (dim_of j) 0 z two) (sym q) current) (λ i l. refl)
