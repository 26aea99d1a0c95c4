-- The report of a refinement, and the test of a report against its profile. Definitions only.
use Rattle.std.specs.Prelude.{ℕ, Bool, true, not, ◌&&◌, cond, List, [], ◌∷◌, eqb, ltb, length, Option, None, Some}
use Rattle.std.specs.Float.Ieee.Scale.{finite}
use Rattle.error.specs.Names.{mse_site, repair_count_site, settings_site}
use Rattle.error.specs.Numbers.{Outcome, completed, refused, whole}
use Rattle.profile.specs.declared.FibQuantProfile.{FibQuantProfile}
use Rattle.profile.specs.Fields.{ascii, same_bytes}
use Rattle.lloyd_refine.specs.declared.LloydReport.{LloydReport}
use Rattle.lloyd_refine.specs.Refine.{Job, Best, error_of}

-- the report of a refinement that came to b
abbrev pub report_of : Job → Best → LloydReport
report_of j b = record {
  restarts = j.profile.lloyd_restarts;
  iterations = j.profile.lloyd_iterations;
  training_samples = j.profile.training_samples;
  init_mse = error_of j j.initial;
  best_mse = b.error;
  best_restart = b.winner;
  empty_cells_repaired = length b.events;
  events_used = length b.events;
  seed = j.profile.codebook_seed;
}

-- ---- the test
unfoldable pub report_schema : List ℕ
unfolding ascii
report_schema = ascii "lloyd_report_v1"

-- the start was kept, or the restart that won is one of R
abbrev pub winner_below : ℕ → Option ℕ → Bool
winner_below restarts None = true
winner_below restarts (Some r) = ltb r restarts

-- the report has the profile's settings, and a winner that they allow
abbrev pub same_settings : LloydReport → FibQuantProfile → Bool
same_settings r p =
    eqb r.restarts p.lloyd_restarts
    && (eqb r.iterations p.lloyd_iterations
    && (eqb r.training_samples p.training_samples
    && (eqb r.seed p.codebook_seed
    && winner_below p.lloyd_restarts r.best_restart)))

unfoldable pub report_test : LloydReport → List ℕ → FibQuantProfile → Outcome Unit
report_test r schema p =
    cond (not (same_bytes schema report_schema && same_settings r p)) (refused 20 (whole settings_site ∷ []))
    (cond (not (finite r.init_mse && finite r.best_mse)) (refused 20 (whole mse_site ∷ []))
    (cond (not (eqb r.empty_cells_repaired r.events_used)) (refused 20 (whole repair_count_site ∷ []))
    (completed tt)))
