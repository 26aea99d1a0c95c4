-- `ffi_training::put_refined` meets its contract, by the two cases of the answer. Assumes nothing.
use mathlib.Core.Path.{◌≡◌, refl, sym, ap, ◌∙◌}
use mathlib.Core.List.{List}
use Prim.Native.Nat.{ℕ}
use lib.Ieee.{of_bits}
use mathlib.Core.List.{[], ◌∷◌}
use mathlib.Core.Bool.{Bool}
use mir.Val.{bool_byte}
use Rattle.std.specs.Prelude.{Result, Option, None, Some, is_some, unwrap_or}
use Rattle.error.specs.declared.Refusal.{Refusal}
use Rattle.error.specs.Numbers.{refusal, outcome}
use Rattle.error.proofs.Refusals.{by_refusal}
use Rattle.lloyd_refine.specs.declared.LloydReport.{LloydReport}
use Rattle.ffi_crossing.specs.Crossing.{Crossed, crossed, none, whole_values, real_values}
use Rattle.ffi_crossing.proofs.CrossingLaws.{same_refusal}
use Rattle.ffi_training.specs.Training.{won_of, number_of, errors_in, members_of, report_after}
use Rattle.ffi_training.proofs.put_refined.Goals as goal

abbrev across : Result LloydReport Refusal → Crossed
across answer = crossed errors_in (outcome answer)

abbrev after : List ℕ → Result LloydReport Refusal → List ℕ
after old answer = report_after (outcome answer) old

-- a refusal leaves the room for the members as it was
kept : (r : Refusal) (old : List ℕ) → report_after (refusal r) old ≡ old
kept r old = by_refusal {B = ℕ} (λ o p. report_after o old ≡ old) (λ n vs. refl) r

-- the two numbers of a winner
won : (w : Option ℕ) (b : Bool) → b ≡ is_some w → bool_byte b ≡ won_of w
won None b e = rw e refl
won (Some r) b e = rw e refl

number : (w : Option ℕ) (n : ℕ) → n ≡ unwrap_or w 0 → n ≡ number_of w
number None n e = e
number (Some r) n e = e

by_winner : {w x n m : ℕ} (a b c d e f : ℕ) → w ≡ x → n ≡ m
    → ◌≡◌ {A = List ℕ} (a ∷ b ∷ c ∷ w ∷ n ∷ d ∷ e ∷ f ∷ []) (a ∷ b ∷ c ∷ x ∷ m ∷ d ∷ e ∷ f ∷ [])
by_winner a b c d e f h k = rw (h, k) refl

pub returns-in-Ok : goal.returns-in-Ok
unfolding whole_values real_values members_of of_bits
returns-in-Ok c =
    let e = sym c.in-Ok.is in
    let w = c.in-Ok.found.best_restart in
    record { real_after = c.put.ensures ∙ ap across e; report_after = by_winner _ _ _ _ _ _ (won w c.is_some.result c.is_some.ensures) (number w c.unwrap_or.result c.unwrap_or.ensures) ∙ ap (after c.args.report.now) e }

pub returns-in-Err : goal.returns-in-Err
returns-in-Err c =
    let old = c.args.report.now in
    record { real_after = c.put_refusal.ensures ∙ same_refusal none errors_in c.in-Err.refusal ∙ ap across (sym c.in-Err.is); report_after = sym (kept c.in-Err.refusal old) ∙ ap (after old) (sym c.in-Err.is) }
