-- The end of an update alone: what its last step and the events
-- so far say of its answer and of the buffers. Assumes nothing.
use Rattle.std.specs.Prelude.{Err, Result, Ok, is_ok}
use Rattle.std.specs.Result.{is_err}
use mathlib.Core.Path.{◌≡◌, refl, sym, ap, ◌∙◌}
use Prim.Native.Nat.{ℕ, ◌+◌, ◌*◌, ◌/◌, ◌%◌, ◌≤◌, ◌<◌}
use native.Mathlib.Nat.{le_refl, zero-add, mod-lt, div-lt_iff_lt-mul, div-add-mod'}
use native.Mathlib.Omega.{arith}
use mathlib.Core.Bool.{Bool, true, false, cond}
use mathlib.Core.List.{List}
use lib.ListN.{length, get_or, take, replicate}
use lib.Seq.{length-take-le, get_or-take}
use lib.Ieee.{Float, nan}
use Rattle.error.specs.Numbers.{Value, Outcome, completed, refused, and_then, leaves, outcome}
use Rattle.error.specs.declared.Refusal.{Refusal}
use Rattle.slices.specs.Lists.{tabulate, words_of}
use Rattle.slices.proofs.TabulateLaw.{tabulate_is}
use Rattle.lloyd_events.specs.declared.LloydRepairEvent.{LloydRepairEvent}
use Rattle.lloyd_events.specs.Events.{zero_event}
use Rattle.lloyd_events.proofs.Log.{logged}
use Rattle.lloyd_cells.specs.Repair.{Repaired}
use Rattle.lloyd_cells.proofs.TallyLaw.{tallied, tallied_some}
use Rattle.lloyd_update.specs.Alone.{Call, terms_of, update_of, update_alone, codebook_after, work_after, slots_after}
use Rattle.lloyd_update.specs.Progress.{start_cells, far_of, Under, Ended}
use Rattle.lloyd_update.proofs.CheckLaw.{checks_passed}
use Rattle.lloyd_update.proofs.RepairsLaw.{event_count, not_completed}

-- ---- the answer's case is the outcome's
accepted : (a : Result ℕ Refusal) (n : ℕ) → outcome a ≡ completed n → is_ok a ≡ true
accepted (Ok m) n e = refl
accepted (Err x) n e = absurd (not_completed x n e)

not_accepted : (a : Result ℕ Refusal) (n : ℕ) (vs : List Value) → outcome a ≡ refused n vs → is_ok a ≡ false
not_accepted (Ok m) n vs e = let z : ◌≡◌ {A = ℕ} 0 1 = cc in absurd (omega arith)
not_accepted (Err x) n vs e = refl

-- the slots are zeroed where the answer is an error
pub zeroed : {A : Type 0} (a : Result ℕ Refusal) (l z : A) → is_err a ≡ true → z ≡ cond (is_ok a) l z
zeroed (Ok m) l z h = cc
zeroed (Err x) l z h = refl

pub kept : {A : Type 0} (a : Result ℕ Refusal) (l z : A) → is_err a ≡ false → l ≡ cond (is_ok a) l z
kept (Ok m) l z h = refl
kept (Err x) l z h = cc

-- ---- the words of a finished update stand first in its work
words_held : (c : Call) (r : Repaired) (work : List Float) (counts : List ℕ) → Under c c.size r work counts → take (c.size * c.dim) work ≡ words_of c.size c.dim r.cells.word
words_held c r work counts h =
    let n = c.size in
    let k = c.dim in
    let u = h.running in
    let some = u.fit.some in
    let size = length-take-le (n * k) work (omega (arith, u.fit.words, u.fit.distortions, u.fit.farthest)) in
    let full = tallied_some (tallied (terms_of c) (far_of c) (start_cells c) n r (le_refl n) u.came) in
    tabulate_is nan (take (n * k) work) (λ i. r.cells.word (i / k) (i % k)) (λ i l.
    let m : i < n * k = omega (arith, size, l) in
    let q = (div-lt_iff_lt-mul some).1 m in
    get_or-take (n * k) work i nan m
    ∙ ap (λ (z : ℕ). get_or work z nan) (sym (zero-add (i / k * k + i % k) ∙ div-add-mod' i k))
    ∙ u.held.words (i / k) (i % k) q (mod-lt i some) (full (i / k) q))
    ∙ ap (λ (z : ℕ). tabulate z (λ i. r.cells.word (i / k) (i % k))) size

-- ---- once it has begun
module _ (c : Call) (events : List LloydRepairEvent) (work : List Float) (counts : List ℕ) (a : Result ℕ Refusal) (e : Ended c events work counts a) where
  alone : (o : Outcome Repaired) → update_of c ≡ o → update_alone c ≡ o
  alone o q = ap (λ (x : Outcome Unit). and_then x (λ u. update_of c)) e.checked ∙ q

  -- work is long enough for the codebook
  pub long_enough : length work ≡ c.float_work → length c.codebook ≤ length work
  long_enough l = let p = checks_passed c e.checked in omega (arith, l, p.floats, p.book.length_is)

  -- what is said of both outcomes, each with the answer's case, is said of the update's
  by : (P : Bool → Outcome Repaired → Type 0) → ((r : Repaired) → update_of c ≡ completed r → P true (completed r)) → ((n : ℕ) (vs : List Value) → P false (refused n vs)) → P (is_ok a) (update_of c)
  by P done late = go (update_of c) refl
    where
      go : (o : Outcome Repaired) → update_of c ≡ o → P (is_ok a) (update_of c)
      go (completed r) q = rw (accepted a (length r.events) (e.answers ∙ ap event_count (alone (completed r) q)), q) (done r q)
      go (refused n vs) q = rw (not_accepted a n vs (e.answers ∙ ap event_count (alone (refused n vs) q)), q) (late n vs)

  pub codebook_is : cond (is_ok a) (take (length c.codebook) work) c.codebook ≡ codebook_after c
  codebook_is =
      let size = (checks_passed c e.checked).book.length_is in
      rw e.checked
      (by (λ b o. cond b (take (length c.codebook) work) c.codebook ≡ leaves (completed tt) o c.codebook (λ r. words_of c.size c.dim r.cells.word) c.codebook)
      (λ r q. rw size (words_held c r work counts (e.done r (alone (completed r) q)).1)) (λ n vs. refl))

  pub work_is : {A : Type 0} (nought : A) (before : List A) (m : ℕ) → m ≡ length before → replicate m nought ≡ work_after nought c before
  work_is {A} nought before m l =
      rw (e.checked, l)
      (by (λ b o. replicate (length before) nought ≡ leaves (completed tt) o before (λ r. replicate (length before) nought) (replicate (length before) nought)) (λ r q. refl) (λ n vs. refl))

  pub slots_are : (slots : List LloydRepairEvent) → cond (is_ok a) (logged events slots) (replicate (length slots) zero_event) ≡ slots_after c slots
  slots_are slots =
      rw e.checked
      (by (λ b o. cond b (logged events slots) (replicate (length slots) zero_event) ≡ leaves (completed tt) o slots (λ r. logged r.events slots) (replicate (length slots) zero_event))
      (λ r q. ap (λ (z : List LloydRepairEvent). logged z slots) (e.done r (alone (completed r) q)).0) (λ n vs. refl))
