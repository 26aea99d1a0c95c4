-- Demand 3 on updates called alone: `history`, at the end, for any list of requests and any codebook.
-- Assumes nothing.
use mathlib.Core.Path.{◌≡◌, refl, sym, ap, ◌∙◌, subst}
use mathlib.Core.Logic.{inl, inr}
use Prim.Native.Nat.{ℕ, ◌≤◌}
use native.Mathlib.Nat.{le_refl}
use native.Mathlib.Omega.{arith}
use mathlib.Core.Bool.{◌&&◌, cond}
use mathlib.Core.List.{List, [], ◌∷◌, ◌++◌}
use lib.Dec.{ltb}
use lib.ListN.{length, get_or, take, drop, length-append}
use lib.Ieee.{Float}
use Rattle.error.specs.Numbers.{Value, Outcome, completed, refused, whole}
use Rattle.error.proofs.Outcomes.{passed, refused_later, then_completed, then_refused}
use Rattle.lloyd_search.specs.Distance.{row_of}
use Rattle.lloyd_events.specs.declared.LloydRepairEvent.{LloydRepairEvent}
use Rattle.lloyd_cells.specs.Cells.{count_to, total}
use Rattle.lloyd_cells.specs.Repair.{Cells, Repaired, repair_to}
use Rattle.lloyd_cells.specs.Update.{means, farthest_sample, fails_closed, empty_cells, updated}
use Rattle.lloyd_cells.proofs.CellsLaw.{total_count}
use Rattle.lloyd_cells.proofs.TallyLaw.{donor_found}
use Rattle.lloyd_update.specs.Alone.{Call, update_checks, terms_of, update_of, update_alone, codebook_after, slots_after}
use Rattle.lloyd_update.proofs.RepairsLaw.{events_within}
use Rattle.claim_history.specs.History.{Request, call_with, after, answers, is_completed, completions, accepted, sample_count, assigned_tally, tally_after, Sound, Balanced, Tallies, AcceptedCall, RefusedCall, Link, Chain, History}
use Rattle.claim_history.proofs.ChecksLaw.{one_for_each, all_cells, checks_not_15}
use Rattle.claim_history.proofs.TalliesLaw.{counted, follows, balanced}

take-front : {A : Type 0} (xs ys : List A) → take (length xs) (xs ++ ys) ≡ xs
take-front [] ys = refl
take-front (x ∷ xs) ys = ap (λ (r : List _). x ∷ r) (take-front xs ys)

-- ---- one call
module _ (c : Call) where
  abbrev cell : ℕ → ℕ
  cell s = get_or c.assignments s 0

  -- the rule's cells before the repairs, and their farthest samples
  abbrev start : Cells
  start = means c.dim (sample_count c) (row_of c.dim c.samples) cell (row_of c.dim c.codebook)

  abbrev far : ℕ → ℕ → Float
  far = farthest_sample c.dim (sample_count c) (row_of c.dim c.samples) cell (row_of c.dim c.codebook)

  abbrev none : ℕ
  none = empty_cells start.tally c.size

  abbrev repairs : Outcome Repaired
  repairs = repair_to (terms_of c) far start c.size

  repairs_completed : (r : Repaired) → update_of c ≡ completed r → repairs ≡ completed r
  unfolding updated
  repairs_completed r h = (passed (fails_closed c.policy && ltb 0 none) 14 (whole none ∷ []) repairs r h).1

  repairs_refused : (vs : List Value) → update_of c ≡ refused 15 vs → repairs ≡ refused 15 vs
  unfolding updated
  repairs_refused vs h = refused_later (fails_closed c.policy && ltb 0 none) 14 (whole none ∷ []) repairs 15 vs (λ q. omega arith) h

  module _ (pass : update_checks c ≡ completed tt) where
    start_is : start.tally ≡ assigned_tally c.assignments
    start_is = ap {B = ℕ → ℕ} (λ n i. count_to cell i n) (sym (one_for_each c pass))

    start_all : total start.tally c.size ≡ sample_count c
    start_all = total_count cell c.size (sample_count c) (λ s l. all_cells c pass s (rw (one_for_each c pass) l))

    module _ (r : Repaired) (done : update_of c ≡ completed r) where
      tallies_of : (slots : List LloydRepairEvent) → length r.events ≤ length slots → take (length r.events) slots ≡ r.events → Tallies c slots (length r.events)
      tallies_of slots l e =
          let h = repairs_completed r done in
          let s : Sound (assigned_tally c.assignments) r.events = rw start_is at (follows (terms_of c) far start c.size r h).0 in
          let b : Balanced (sample_count c) c.size (tally_after (assigned_tally c.assignments) r.events) = rw start_is at (balanced (terms_of c) far start (sample_count c) r start_all h) in
          record { reported = l; free = events_within (terms_of c) far start c.size r h; sound = rw e s; counted = rw e (counted (assigned_tally c.assignments) r.events s); balanced = rw e b }

      slots_are : (slots : List LloydRepairEvent) → slots_after c slots ≡ r.events ++ drop (length r.events) slots
      slots_are slots = rw (pass, done)

      room : (slots : List LloydRepairEvent) → length r.events ≤ length (slots_after c slots)
      room slots = rw (slots_are slots, length-append r.events (drop (length r.events) slots)) (omega arith)

      front : (slots : List LloydRepairEvent) → take (length r.events) (slots_after c slots) ≡ r.events
      front slots = rw (slots_are slots) (take-front r.events (drop (length r.events) slots))

      accepted_call : AcceptedCall c r
      accepted_call = record { rule = done; words = rw (pass, done); repairs = front; tallies = λ slots. tallies_of (slots_after c slots) (room slots) (front slots) }

  pub call_accepted : (r : Repaired) → update_alone c ≡ completed r → AcceptedCall c r
  call_accepted r h = let (u, p, q) = then_completed (update_checks c) (λ (u : Unit). update_of c) r h in accepted_call p r q

  call_leaves : (n : ℕ) (vs : List Value) → update_alone c ≡ refused n vs → codebook_after c ≡ c.codebook
  call_leaves n vs h = elim (then_refused (update_checks c) (λ (u : Unit). update_of c) n vs h) [
    | inl p ↦ rw p
    | inr (u, p, q) ↦ rw (p, q)
  ]

  call_donor : c.size ≤ sample_count c → (vs : List Value) → update_alone c ≡ refused 15 vs → ⊥
  call_donor l vs h = elim (then_refused (update_checks c) (λ (u : Unit). update_of c) 15 vs h) [
    | inl p ↦ checks_not_15 c vs p
    | inr (u, p, q) ↦ donor_found (terms_of c) far start c.size vs (le_refl c.size) (rw (start_all p) l) (repairs_refused vs q)
  ]

  call_refused : (n : ℕ) (vs : List Value) → update_alone c ≡ refused n vs → RefusedCall c n
  call_refused n vs h = record { words = call_leaves n vs h; donor = λ l e. call_donor l vs (rw (← e) h) }

-- ---- one request more, by what its call comes to
module _ (q : Request) (rest : List Request) (codebook : List Float) where
  abbrev here : Call
  here = call_with q codebook

  abbrev next : List Float
  next = codebook_after here

  abbrev others : List Request
  others = accepted rest next

  -- what follows from the codebook that the call leaves
  chain_more : (follows : List Float → Type 0) (o : Outcome Repaired) → update_alone here ≡ o → follows next → Link here o follows
  chain_more follows (completed r) e h = let a = call_accepted here r e in (a, subst follows a.words h)
  chain_more follows (refused n vs) e h = let a = call_refused here n vs e in (a, subst follows a.words h)

  codebook_more : (o : Outcome Repaired) → update_alone here ≡ o → after others next ≡ after rest next → after (cond (is_completed o) (q ∷ others) others) codebook ≡ after rest next
  unfolding after
  codebook_more (completed r) e h = h
  codebook_more (refused n vs) e h = ap (after others) (sym (call_leaves here n vs e)) ∙ h

  answers_more : (o : Outcome Repaired) → update_alone here ≡ o → answers others next ≡ completions (answers rest next)
      → answers (cond (is_completed o) (q ∷ others) others) codebook ≡ completions (o ∷ answers rest next)
  unfolding answers completions
  answers_more (completed r) e h = rw (e, h)
  answers_more (refused n vs) e h = ap (answers others) (sym (call_leaves here n vs e)) ∙ h

-- ---- the list
chain : (requests : List Request) (codebook : List Float) → Chain requests codebook (after requests codebook)
unfolding after Chain
chain [] codebook = refl
chain (q ∷ rest) codebook =
    let last = after rest (codebook_after (call_with q codebook)) in
    chain_more q rest codebook (λ next. Chain rest next last) (update_alone (call_with q codebook)) refl
    (chain rest (codebook_after (call_with q codebook)))

same_codebook : (requests : List Request) (codebook : List Float) → after (accepted requests codebook) codebook ≡ after requests codebook
unfolding accepted after
same_codebook [] codebook = refl
same_codebook (q ∷ rest) codebook = codebook_more q rest codebook (update_alone (call_with q codebook)) refl (same_codebook rest (codebook_after (call_with q codebook)))

same_answers : (requests : List Request) (codebook : List Float) → answers (accepted requests codebook) codebook ≡ completions (answers requests codebook)
unfolding accepted answers completions
same_answers [] codebook = refl
same_answers (q ∷ rest) codebook = answers_more q rest codebook (update_alone (call_with q codebook)) refl (same_answers rest (codebook_after (call_with q codebook)))

-- ---- the claim, of any list and any codebook
pub history : (requests : List Request) (codebook : List Float) → History requests codebook
history requests codebook = record {
  chain = chain requests codebook;
  same_answers = same_answers requests codebook;
  same_codebook = same_codebook requests codebook;
}
