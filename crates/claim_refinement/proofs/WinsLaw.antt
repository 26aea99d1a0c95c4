-- Which codebook an accepted refinement returns: of the start and the ends of its restarts the first of the least error.
-- Assumes nothing.
use Rattle.std.specs.Prelude.{Option, None, Some}
use mathlib.Core.Path.{◌≡◌, refl, sym, ap, ◌∙◌, subst}
use Prim.Native.Nat.{ℕ, zero, suc, ◌*◌, ◌≤◌, ◌<◌}
use native.Mathlib.Nat.{le_refl, zero-lt-suc}
use native.Mathlib.Omega.{arith}
use mathlib.Core.Bool.{Bool, true, false, not, cond}
use mathlib.Core.List.{List}
use lib.Dec.{T, lit≤}
use lib.ListN.{length}
use lib.Ieee.{Float, inf, lt}
use lib.Ieee.Scale.{finite}
use Rattle.error.specs.Numbers.{completed}
use Rattle.ieee.proofs.Order.{finite_lt_inf}
use Rattle.slices.specs.Limit.{first_outside}
use Rattle.lloyd_search.specs.declared.Found.{Found}
use Rattle.lloyd_search.specs.Distance.{row_of}
use Rattle.lloyd_search.specs.Nearest.{pick, first_least, Least}
use Rattle.lloyd_search.specs.Finite.{FiniteMean}
use Rattle.lloyd_search.proofs.NearestLaw.{first_least_lem}
use Rattle.lloyd_search.proofs.FiniteLaw.{finite_mean}
use Rattle.lloyd_update.specs.Alone.{update_limit}
use Rattle.lloyd_refine.specs.Refine.{Job, size_of, dim_of, count_of, restarts_of, iterations_of, error_of, Best, after_restart, restarts_to}
use Rattle.lloyd_refine.specs.Report.{report_of}
use Rattle.lloyd_refine.proofs.CheckLaw.{Passed}
use Rattle.claim_refinement.specs.Refinement.{candidate, place_of, error_at, Wins}
use Rattle.claim_refinement.proofs.CourseLaw.{best_at, stand_at, course_of, best_last, best_next}
use Rattle.claim_refinement.proofs.StandLaw.{rows_bounded, samples-within, initial-within}
use Rattle.claim_refinement.proofs.TameLaw.{stand_tame}
use Rattle.claim_refinement.proofs.WinnerLaw.{Chosen, kept_none, none_kept, same_kept, won_first, first_won}

module _ (j : Job) (pass : Passed j) where
  -- values of at most 2 ^ 48 have a finite mean error, with all that it is made of
  pub error_finite : (codebook : List Float) → length codebook ≡ size_of j * dim_of j → first_outside update_limit codebook ≡ None → FiniteMean (dim_of j) (size_of j) (row_of (dim_of j) codebook) (row_of (dim_of j) j.samples) (count_of j)
  error_finite codebook e h =
      let p = pass.valid in
      let l = p.shape.book_least in
      let m = p.settings.samples_least in
      finite_mean 48 (lit≤ tt) (dim_of j) p.shape.block_most (size_of j) (omega arith) (row_of (dim_of j) codebook) (rows_bounded 48 (size_of j) (dim_of j) codebook h e)
      (row_of (dim_of j) j.samples) (count_of j) (rows_bounded 48 (count_of j) (dim_of j) j.samples (samples-within j pass) pass.samples_length) p.settings.samples_most (omega arith)

  module _ (b : Best) (done : restarts_to j (restarts_of j) ≡ completed b) where
    abbrev errors : ℕ → Float
    errors = error_at j (course_of j)

    errors_finite : (p : ℕ) → p < suc (restarts_of j) → T (finite (errors p))
    errors_finite zero l = (error_finite j.initial pass.initial_length (initial-within j pass)).quotient
    errors_finite (suc r) l =
        let end = stand_tame j pass b done r (iterations_of j) (omega arith) (le_refl (iterations_of j)) in
        (error_finite (stand_at j r (iterations_of j)).codebook end.0 end.1).quotient

    -- ---- after the first r restarts: what is kept is what a search among the errors finds
    abbrev found_of : Best → Found
    found_of x = record { index = place_of x.winner; distance = x.error }

    abbrev Kept : ℕ → Best → Type 0
    Kept r x = (first_least errors (suc r) ≡ found_of x) × (x.codebook ≡ candidate j (course_of j) (place_of x.winner)) × (x.error ≡ error_of j x.codebook)

    kept_start : Kept 0 (best_at j 0)
    unfolding restarts_to first_least
    kept_start = (go (lt (errors 0) (inf false)) (finite_lt_inf (errors 0) (errors_finite 0 (zero-lt-suc (restarts_of j)))), refl, refl)
      where
        go : (q : Bool) → T q → pick q (record { index = 0; distance = errors 0 }) (record { index = 0; distance = inf false }) ≡ record { index = 0; distance = errors 0 }
        go true h = refl
        go false h = absurd h

    -- restart r, beside the best before it
    kept_next : (r : ℕ) (x : Best) → Kept r x → Kept (suc r) (after_restart j r x (stand_at j r (iterations_of j)))
    unfolding first_least
    kept_next r x (f, c, e) = go (lt (errors (suc r)) x.error) (ap (λ (y : Found). pick (lt (errors (suc r)) y.distance) (record { index = suc r; distance = errors (suc r) }) y) f)
      where
        go : (q : Bool) → first_least errors (suc (suc r)) ≡ pick q (record { index = suc r; distance = errors (suc r) }) (found_of x)
            → Kept (suc r) (cond q
            (record { codebook = (stand_at j r (iterations_of j)).codebook; error = errors (suc r); winner = Some r; events = (stand_at j r (iterations_of j)).events })
            (record { codebook = x.codebook; error = x.error; winner = x.winner; events = (stand_at j r (iterations_of j)).events }))
        go true h = (h, refl, refl)
        go false h = (h, c, e)

    kept : (r : ℕ) → r ≤ restarts_of j → Kept r (best_at j r)
    kept zero l = kept_start
    kept (suc r) l = subst (Kept (suc r)) (sym (best_next j (restarts_of j) b done r l)) (kept_next r (best_at j r) (kept r (omega arith)))

    pub wins : Wins j (course_of j) b.codebook (report_of j b)
    wins =
        let (f, c, e) = subst (Kept (restarts_of j)) (best_last j (restarts_of j) b done) (kept (restarts_of j) (le_refl (restarts_of j))) in
        let least : Least errors (suc (restarts_of j)) (found_of b) = subst (Least errors (suc (restarts_of j))) f (first_least_lem errors (suc (restarts_of j)) (omega arith) errors_finite) in
        let same : b.error ≡ errors (place_of b.winner) = e ∙ ap (error_of j) c in
        let chosen : Chosen j (course_of j) b.winner = record {
          one_of = least.within;
          none_less = λ p l. subst (λ (x : Float). T (not (lt (errors p) x))) same (least.none_nearer p l);
          earlier_more = λ p l. subst (λ (x : Float). T (lt x (errors p))) same (least.first p l);
        } in
        record {
          one_of = least.within;
          codebook = c;
          error = e;
          start_error = refl;
          finite_errors = errors_finite;
          none_less = least.none_nearer;
          earlier_more = least.first;
          start_kept = (kept_none j (course_of j) b.winner chosen, none_kept j (course_of j) b.winner chosen);
          errors_tell = (λ k. same ∙ ap (λ (w : (Option ℕ)). errors (place_of w)) k, λ k. same_kept j (course_of j) b.winner chosen (sym same ∙ k));
          restart_won = λ q. (won_first j (course_of j) b.winner chosen q, first_won j (course_of j) b.winner chosen q);
        }
