-- The end of a refinement: what its answer and the events say of the buffers. Assumes nothing.
use Rattle.std.specs.Prelude.{Ok, Err, Result, is_ok}
use mathlib.Core.Path.{◌≡◌, refl, sym, ap, ◌∙◌}
use Prim.Native.Nat.{ℕ, ◌+◌, ◌*◌, ◌≤◌, ◌<◌}
use native.Mathlib.Omega.{arith}
use mathlib.Core.Bool.{Bool, true, false, cond}
use mathlib.Core.List.{List}
use lib.ListN.{length, get_or, replicate}
use lib.Ieee.{Float, nan, binary32}
use Rattle.error.specs.declared.Refusal.{Refusal}
use Rattle.error.specs.Numbers.{Value, Outcome, completed, refused, and_then, leaves, outcome}
use Rattle.slices.specs.Lists.{tabulate}
use Rattle.slices.proofs.TabulateLaw.{tabulate_ext}
use Rattle.narrow.specs.Pack.{narrow_to}
use Rattle.lloyd_events.specs.declared.LloydRepairEvent.{LloydRepairEvent}
use Rattle.lloyd_events.specs.Events.{zero_event}
use Rattle.lloyd_events.proofs.Log.{logged}
use Rattle.lloyd_update.proofs.RepairsLaw.{not_completed}
use Rattle.lloyd_refine.specs.declared.LloydReport.{LloydReport}
use Rattle.lloyd_refine.specs.Refine.{Job, size_of, dim_of, refine_checks, Best, refine_of, refinement, narrowed, codewords_after, work_after, slots_after}
use Rattle.lloyd_refine.specs.Report.{report_of}
use Rattle.lloyd_round.specs.Round.{Holding}
use Rattle.lloyd_refine.proofs.CheckLaw.{checks_passed}

-- ---- the answer's case is the outcome's
abbrev reported : Job → Outcome Best → Outcome LloydReport
reported j o = and_then o (λ b. completed (report_of j b))

accepted : (a : Result LloydReport Refusal) (r : LloydReport) → outcome a ≡ completed r → is_ok a ≡ true
accepted (Ok r') r e = refl
accepted (Err x) r e = absurd (not_completed x r e)

not_accepted : (a : Result LloydReport Refusal) (n : ℕ) (vs : List Value) → outcome a ≡ refused n vs → is_ok a ≡ false
not_accepted (Ok r) n vs e = let z : ◌≡◌ {A = ℕ} 0 1 = cc in absurd (omega arith)
not_accepted (Err x) n vs e = refl

-- the best codebook stands second in the work, and narrows to the codewords
narrows : (n : ℕ) (codebook work : List Float) → length codebook ≡ n → ((i : ℕ) → i < n → get_or work (n + i) nan ≡ get_or codebook i nan) → tabulate n (λ i. narrow_to binary32 (get_or work (n + i) nan)) ≡ narrowed codebook
narrows n codebook work size values =
    tabulate_ext n (λ i. narrow_to binary32 (get_or work (n + i) nan)) (λ i. narrow_to binary32 (get_or codebook i nan)) (λ i l. ap (narrow_to binary32) (values i l))
    ∙ ap (λ (m : ℕ). tabulate m (λ i. narrow_to binary32 (get_or codebook i nan))) (sym size)

-- ---- once it has begun
module _ (j : Job) (checked : refine_checks j ≡ completed tt) (work : List Float) (slots slots₀ : List LloydRepairEvent) (a : Result LloydReport Refusal)
    (e : (outcome a ≡ and_then (refinement j) (λ b. completed (report_of j b))) × ((b : Best) → refinement j ≡ completed b → (slots ≡ logged b.events slots₀) × Holding (size_of j) (dim_of j) (size_of j * dim_of j) b.codebook work)) where
  whole : (o : Outcome Best) → refine_of j ≡ o → refinement j ≡ o
  whole o q = ap (λ (x : Outcome Unit). and_then x (λ u. refine_of j)) checked ∙ q

  -- the work is long enough for the best codebook
  pub long_enough : (codewords : List Float) → length codewords ≡ j.codewords → length work ≡ j.float_work → 2 * length codewords ≤ length work
  long_enough codewords lc lw = let p = checks_passed j checked in omega (arith, lc, lw, p.floats, p.codewords_length)

  -- what is said of both outcomes, each with the answer's case, is said of the refinement's
  by : (P : Bool → Outcome Best → Type 0) → ((b : Best) → refine_of j ≡ completed b → P true (completed b)) → ((n : ℕ) (vs : List Value) → P false (refused n vs)) → P (is_ok a) (refine_of j)
  by P done late = go (refine_of j) refl
    where
      go : (o : Outcome Best) → refine_of j ≡ o → P (is_ok a) (refine_of j)
      go (completed b) q = rw (accepted a (report_of j b) (e.0 ∙ ap (reported j) (whole (completed b) q)), q) (done b q)
      go (refused n vs) q = rw (not_accepted a n vs (e.0 ∙ ap (reported j) (whole (refused n vs) q)), q) (late n vs)

  pub codewords_are : (codewords : List Float) → length codewords ≡ j.codewords
      → cond (is_ok a) (tabulate (length codewords) (λ i. narrow_to binary32 (get_or work (length codewords + i) nan))) codewords ≡ codewords_after j codewords
  codewords_are codewords l =
      let size = l ∙ (checks_passed j checked).codewords_length in
      rw checked
      (by (λ z o. cond z (tabulate (length codewords) (λ i. narrow_to binary32 (get_or work (length codewords + i) nan))) codewords ≡ leaves (completed tt) o codewords (λ b. narrowed b.codebook) codewords)
      (λ b q. let held = (e.1 b (whole (completed b) q)).1 in rw size (narrows (size_of j * dim_of j) b.codebook work held.size held.values)) (λ n vs. refl))

  pub work_is : {A : Type 0} (nought : A) (before : List A) (m : ℕ) → m ≡ length before → replicate m nought ≡ work_after nought j before
  work_is {A} nought before m l =
      rw (checked, l)
      (by (λ z o. replicate (length before) nought ≡ leaves (completed tt) o before (λ b. replicate (length before) nought) (replicate (length before) nought)) (λ b q. refl) (λ n vs. refl))

  pub slots_are : (m : ℕ) → m ≡ length slots₀ → cond (is_ok a) slots (replicate m zero_event) ≡ slots_after j slots₀
  slots_are m l =
      rw (checked, l)
      (by (λ z o. cond z slots (replicate (length slots₀) zero_event) ≡ leaves (completed tt) o slots₀ (λ b. logged b.events slots₀) (replicate (length slots₀) zero_event))
      (λ b q. (e.1 b (whole (completed b) q)).0) (λ n vs. refl))
