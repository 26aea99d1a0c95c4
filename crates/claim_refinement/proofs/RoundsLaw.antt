-- The rounds of a restart are a history of updates alone, with the answers of the rounds; and the events of each stand
-- in the refinement's event slots from the round's first free slot on.
-- Assumes nothing.
use mathlib.Core.Path.{◌≡◌, refl, sym, ap, ◌∙◌, subst}
use mathlib.Core.Logic.{inl, inr}
use Prim.Native.Nat.{ℕ, zero, suc, ◌≤◌, ◌<◌}
use native.Mathlib.Nat.{le_refl, eq-or-lt_of_le, le_of_suc-le-suc, zero-lt-suc}
use native.Mathlib.Omega.{arith}
use mathlib.Core.List.{List, [], ◌∷◌, ◌++◌, append_assoc, append-nil}
use lib.Dec.{lit≤}
use lib.ListN.{length, get_or, take, drop, length-append}
use lib.Seq.{take-append_seam, drop-append_seam}
use lib.Ieee.{Float}
use Rattle.error.specs.Numbers.{Outcome, completed}
use Rattle.slices.specs.Lists.{tabulate}
use Rattle.slices.proofs.TabulateLaw.{get_d_tabulate}
use Rattle.lloyd_search.specs.Distance.{row_of}
use Rattle.lloyd_search.specs.Nearest.{nearest, Least}
use Rattle.lloyd_search.proofs.FiniteLaw.{nearest_least}
use Rattle.lloyd_events.specs.declared.LloydRepairEvent.{LloydRepairEvent}
use Rattle.lloyd_cells.specs.Repair.{Repaired}
use Rattle.lloyd_update.specs.Alone.{Call, update_limit, update_alone, codebook_after}
use Rattle.lloyd_update.specs.Alone as alone
use Rattle.lloyd_refine.specs.Refine.{Job, size_of, dim_of, count_of, restarts_of, iterations_of, Trained, rounds_to, start_of, Best, refine_checks, restarts_to, slots_after}
use Rattle.lloyd_refine.proofs.CheckLaw.{Passed}
use Rattle.claim_history.specs.History.{Request, call_with, after, answers, Tallies, AcceptedCall}
use Rattle.claim_history.proofs.HistoryLaw.{call_accepted, history}
use Rattle.claim_refinement.specs.Refinement.{Course, Ran, Reached, round_request, round_call_at, requests_to, to_word, Rounds, Logged}
use Rattle.claim_refinement.proofs.CourseLaw.{best_at, rounds_at, stand_at, repairs_at, course_of, stand_came, round_came, stand_next, best_came, end_came, ran}
use Rattle.claim_refinement.proofs.StandLaw.{rows_bounded, samples-within}
use Rattle.claim_refinement.proofs.TameLaw.{Tame, reached_tame}
use Rattle.claim_refinement.proofs.AloneLaw.{alone_done, alone_leaves}

-- ---- n requests, each given the codebook that the last one left
module _ where
  -- c i stands before request i
  after_list : (n : ℕ) (q : ℕ → Request) (c : ℕ → List Float) → ((i : ℕ) → i < n → codebook_after (call_with (q i) (c i)) ≡ c (suc i)) → after (tabulate n q) (c 0) ≡ c n
  unfolding after tabulate
  after_list zero q c h = refl
  after_list (suc n) q c h = ap (after (tabulate n (λ i. q (suc i)))) (h 0 (zero-lt-suc n)) ∙ after_list n (λ i. q (suc i)) (λ i. c (suc i)) (λ i l. h (suc i) (omega arith))

  answers_list : (n : ℕ) (q : ℕ → Request) (c : ℕ → List Float) (o : ℕ → Outcome Repaired) → ((i : ℕ) → i < n → codebook_after (call_with (q i) (c i)) ≡ c (suc i)) → ((i : ℕ) → i < n → update_alone (call_with (q i) (c i)) ≡ o i)
      → answers (tabulate n q) (c 0) ≡ tabulate n o
  unfolding answers tabulate
  answers_list zero q c o h k = refl
  answers_list (suc n) q c o h k =
      rw (k 0 (zero-lt-suc n), h 0 (zero-lt-suc n)) (ap (λ (l : List (Outcome Repaired)). o 0 ∷ l) (answers_list n (λ i. q (suc i)) (λ i. c (suc i)) (λ i. o (suc i)) (λ i l. h (suc i) (omega arith)) (λ i l. k (suc i) (omega arith))))

-- ---- what events begin with
abbrev Begins : List LloydRepairEvent → List LloydRepairEvent → Type 0
Begins xs ys = (zs : List LloydRepairEvent) × (ys ≡ xs ++ zs)

begins_same : (xs ys : List LloydRepairEvent) → ys ≡ xs → Begins xs ys
begins_same xs ys e = ([], e ∙ sym (append-nil xs))

begins_more : (xs ys zs : List LloydRepairEvent) → Begins xs ys → Begins ys zs → Begins xs zs
begins_more xs ys zs (us, p) (vs, q) = (us ++ vs, q ∙ ap (λ (l : List LloydRepairEvent). l ++ vs) p ∙ append_assoc xs us vs)

module _ (j : Job) (c : Course) (b : Best) (ran : Ran j c b) where
  -- those of round i, of the rounds before round n of restart r
  rounds_begin : (r n i : ℕ) → r < restarts_of j → n ≤ iterations_of j → i ≤ n → Begins (c.stand r i).events (c.stand r n).events
  rounds_begin r zero i l m k = elim (eq-or-lt_of_le k) [ inl e ↦ begins_same _ _ (ap (λ (x : ℕ). (c.stand r x).events) (sym e)) | inr o ↦ absurd (omega arith) ]
  rounds_begin r (suc n) i l m k = elim (eq-or-lt_of_le k) [
    | inl e ↦ begins_same _ _ (ap (λ (x : ℕ). (c.stand r x).events) (sym e))
    | inr o ↦ begins_more (c.stand r i).events (c.stand r n).events (c.stand r (suc n)).events (rounds_begin r n i l (omega arith) (le_of_suc-le-suc o)) ((c.repairs r n).events, ap (λ (t : Trained). t.events) (ran.next r n l m))
  ]

  -- of restart r, of the restarts up to restart n
  restarts_begin : (n r : ℕ) → n < restarts_of j → r ≤ n → Begins (c.stand r (iterations_of j)).events (c.stand n (iterations_of j)).events
  restarts_begin zero r l k = elim (eq-or-lt_of_le k) [ inl e ↦ begins_same _ _ (ap (λ (x : ℕ). (c.stand x (iterations_of j)).events) (sym e)) | inr o ↦ absurd (omega arith) ]
  restarts_begin (suc n) r l k = elim (eq-or-lt_of_le k) [
    | inl e ↦ begins_same _ _ (ap (λ (x : ℕ). (c.stand x (iterations_of j)).events) (sym e))
    | inr o ↦
        begins_more (c.stand r (iterations_of j)).events (c.stand n (iterations_of j)).events (c.stand (suc n) (iterations_of j)).events (restarts_begin n r (omega arith) (le_of_suc-le-suc o))
        (begins_more (c.stand n (iterations_of j)).events (c.stand (suc n) 0).events (c.stand (suc n) (iterations_of j)).events (begins_same _ _ (ran.more_events n l)) (rounds_begin (suc n) (iterations_of j) 0 l (le_refl (iterations_of j)) (omega arith)))
  ]

  all_begin : (r : ℕ) → r < restarts_of j → Begins (c.stand r (iterations_of j)).events b.events
  all_begin r l = go (restarts_of j) refl
    where
      go : (m : ℕ) → m ≡ restarts_of j → Begins (c.stand r (iterations_of j)).events b.events
      go zero e = absurd (omega arith)
      go (suc m) e =
          begins_more (c.stand r (iterations_of j)).events (c.stand m (iterations_of j)).events b.events (restarts_begin m r (omega arith) (omega arith)) (begins_same _ _ (ran.last_events m e))

  -- all events: those before round i of restart r, those of it, and the rest
  parted : (r i : ℕ) → r < restarts_of j → i < iterations_of j → (rest : List LloydRepairEvent) × (b.events ≡ (c.stand r i).events ++ ((c.repairs r i).events ++ rest))
  parted r i l m =
      let (rest, e) = begins_more (c.stand r (suc i)).events (c.stand r (iterations_of j)).events b.events (rounds_begin r (iterations_of j) (suc i) l (le_refl (iterations_of j)) m) (all_begin r l) in
      (rest, e ∙ ap (λ (t : Trained). t.events ++ rest) (ran.next r i l m) ∙ append_assoc (c.stand r i).events (c.repairs r i).events rest)

-- tallies are about the events in the first slots alone
same_tallies : (c : Call) (xs ys : List LloydRepairEvent) (n : ℕ) → n ≤ length ys → take n ys ≡ take n xs → Tallies c xs n → Tallies c ys n
same_tallies c xs ys n l e t = record { reported = l; free = t.free; sound = rw e t.sound; counted = rw e t.counted; balanced = rw e t.balanced }

-- ---- the first n rounds of restart r, all of them completed
module _ (j : Job) (pass : Passed j) (r n : ℕ) (l : r < restarts_of j) (best : restarts_to j r ≡ completed (best_at j r)) (e : Trained)
    (come : rounds_at j r n ≡ completed e) where
  abbrev at : ℕ → Trained
  at = stand_at j r

  reached : (i : ℕ) → i ≤ n → Reached j r i (at i)
  reached i m = record { best = best_at j r; restarts = best; rounds = stand_came j r n e come i m }

  tame : (i : ℕ) → i ≤ n → Tame j (at i).codebook
  tame i m = reached_tame j pass r i (at i) l (reached i m)

  pub answer_at : (i : ℕ) → i < n → update_alone (round_call_at j (course_of j) r i) ≡ completed (repairs_at j r i)
  answer_at i m = let t = tame i (omega arith) in alone_done j pass r i (at i) t.0 t.1 (repairs_at j r i) (round_came j r n e come i m)

  left_at : (i : ℕ) → i < n → codebook_after (round_call_at j (course_of j) r i) ≡ (at (suc i)).codebook
  left_at i m =
      let t = tame i (omega arith) in
      alone_leaves j pass r i (at i) t.0 t.1 (repairs_at j r i) (round_came j r n e come i m)
      ∙ ap (λ (t : Trained). t.codebook) (sym (stand_next j r n e come i m))

  codebooks : (i : ℕ) → i ≤ n → after (requests_to j (course_of j) r i) (start_of j r) ≡ (at i).codebook
  unfolding rounds_to
  codebooks i m = after_list i (λ k. round_request j r k (at k)) (λ k. (at k).codebook) (λ k o. left_at k (omega arith))

  accepted : answers (requests_to j (course_of j) r n) (start_of j r) ≡ tabulate n (λ i. completed (repairs_at j r i))
  unfolding rounds_to
  accepted = answers_list n (λ k. round_request j r k (at k)) (λ k. (at k).codebook) (λ k. completed (repairs_at j r k)) left_at answer_at

  nearest_words : (i s : ℕ) → i ≤ n → s < count_of j
      → let w = get_or (round_request j r i (at i)).assignments s 0 in
      Least (to_word j (at i) s) (size_of j) (record { index = w; distance = to_word j (at i) s w })
  nearest_words i s m o =
      let N = size_of j in
      let k = dim_of j in
      let book = row_of k (at i).codebook in
      let x = row_of k j.samples s in
      let p = pass.valid.shape in
      let some = p.book_least in
      let t = tame i m in
      let h : Least (to_word j (at i) s) N (nearest k N book x) =
      nearest_least 48 (lit≤ tt) k p.block_most N (omega arith) book (rows_bounded 48 N k (at i).codebook t.1 t.0) x
      (rows_bounded 48 (count_of j) k j.samples (samples-within j pass) pass.samples_length s o) in
      subst (λ (w : ℕ). Least (to_word j (at i) s) N (record { index = w; distance = to_word j (at i) s w }))
      (sym (get_d_tabulate (count_of j) (λ q. (nearest k N book (row_of k j.samples q)).index) s 0 o))
      (subst (λ (y : Float). Least (to_word j (at i) s) N (record { index = (nearest k N book x).index; distance = y })) h.is h)

  pub rounds : Rounds j (course_of j) r n
  rounds = record {
    reached = reached;
    codebooks = codebooks;
    nearest_words = nearest_words;
    accepted = accepted;
    history = history (requests_to j (course_of j) r n) (start_of j r);
  }

-- ---- the events of an accepted refinement
module _ (j : Job) (pass : Passed j) (b : Best) (checks : refine_checks j ≡ completed tt) (done : restarts_to j (restarts_of j) ≡ completed b) (r : ℕ)
    (l : r < restarts_of j) where
  abbrev c : Course
  c = course_of j

  module _ (i : ℕ) (m : i < iterations_of j) (slots : List LloydRepairEvent) where
    -- the slots from the round's first free one on
    own : (rest : List LloydRepairEvent) × (drop (length (c.stand r i).events) (slots_after j slots) ≡ (c.repairs r i).events ++ rest)
    own =
        let (rest, e) = parted j c b (ran j b done) r i l m in
        let after-all = drop (length b.events) slots in
        let left : slots_after j slots ≡ b.events ++ after-all = rw (checks, done) in (
          rest ++ after-all,
          ap (drop (length (c.stand r i).events)) (left ∙ ap (λ (x : List LloydRepairEvent). x ++ after-all) e ∙ append_assoc (c.stand r i).events ((c.repairs r i).events ++ rest) after-all)
              ∙ drop-append_seam (c.stand r i).events (((c.repairs r i).events ++ rest) ++ after-all)
              ∙ append_assoc (c.repairs r i).events rest after-all,
        )

    events : take (length (c.repairs r i).events) (drop (length (c.stand r i).events) (slots_after j slots)) ≡ (c.repairs r i).events
    events = let (rest, e) = own in rw e (take-append_seam (c.repairs r i).events rest)

    book : Tallies (round_call_at j c r i) (drop (length (c.stand r i).events) (slots_after j slots)) (length (c.repairs r i).events)
    book =
        let (rest, e) = own in
        let come = end_came j (restarts_of j) b done r l in
        let best = best_came j (restarts_of j) b done r (omega arith) in
        let a : AcceptedCall (round_call_at j c r i) (c.repairs r i) = call_accepted (round_call_at j c r i) (c.repairs r i) (answer_at j pass r (iterations_of j) l best _ come i m) in
        let room : length (c.repairs r i).events ≤ length (drop (length (c.stand r i).events) (slots_after j slots)) = rw (e, length-append (c.repairs r i).events rest) (omega arith) in
        same_tallies (round_call_at j c r i) (alone.slots_after (round_call_at j c r i) []) _ (length (c.repairs r i).events) room (events ∙ sym (a.repairs [])) (a.tallies [])

  pub logged : Logged j c r
  logged = record { events = events; tallies = book }
