-- `EitherRoom` holds of every job: only the checks look at the lengths of the work. Assumes nothing.
use mathlib.Core.Path.{◌≡◌, refl, sym, ap, ◌∙◌}
use mathlib.Core.Logic.{◌⊎◌, inl, inr}
use Prim.Native.Nat.{ℕ, zero, suc, ◌-◌, ◌*◌}
use mathlib.Core.Bool.{Bool, true, false, not, cond, true≢false}
use mathlib.Core.List.{List, [], ◌∷◌, ◌++◌}
use lib.Dec.{eqb, leb}
use lib.ListN.{length, replicate, drop}
use lib.Ieee.{Float}
use borrow.Author.Tests.{not-false, eq-eqb, eqb-true}
use Rattle.error.specs.Numbers.{Outcome, completed, refused, and_then, also, whole, leaves}
use Rattle.profile.specs.Checks.{validity}
use Rattle.lloyd_events.specs.declared.LloydRepairEvent.{LloydRepairEvent}
use Rattle.lloyd_events.specs.Events.{zero_event}
use Rattle.lloyd_refine.specs.Refine.{Job, size_of, dim_of, count_of, restarts_of, iterations_of, Room, room_of, length_checks, value_checks, refine_checks, Trained, round_on, rounds_to, Best, after_restart, trained_from, restart_on, restarts_to, refine_of, narrowed}
use Rattle.lloyd_refine.specs.Report.{report_of}
use Rattle.lloyd_refine.proofs.CheckLaw.{checks_passed}
use Rattle.claim_room.specs.Room.{earlier_room, lent, Seen, seen, seen_in, seen_earlier, seen_refused, EitherRoom}

-- ---- the refinement itself
module _ (room : Room) (j : Job) where
  rounds_same : (r : ℕ) (t : Trained) (i : ℕ) → rounds_to (lent room j) r t i ≡ rounds_to j r t i
  unfolding rounds_to
  rounds_same r t zero = refl
  rounds_same r t (suc i) = ap (λ (o : Outcome Trained). and_then o (round_on j r i)) (rounds_same r t i)

  restart_same : (r : ℕ) (o : Outcome Best) → and_then o (restart_on (lent room j) r) ≡ and_then o (restart_on j r)
  restart_same r (completed b) = ap (λ (o : Outcome Trained). and_then o (λ t. completed (after_restart j r b t))) (rounds_same r (trained_from j r b) (iterations_of j))
  restart_same r (refused n vs) = refl

  restarts_same : (r : ℕ) → restarts_to (lent room j) r ≡ restarts_to j r
  unfolding restarts_to
  restarts_same zero = refl
  restarts_same (suc r) = ap (λ (o : Outcome Best). and_then o (restart_on (lent room j) r)) (restarts_same r) ∙ restart_same r (restarts_to j r)

-- ---- the checks, with `fit` what they come to where the work fits
data Decided (floats integers : Bool) (fit o : Outcome Unit) : Type 0 where
  as_fit : o ≡ fit → Decided floats integers fit o
  by_floats : floats ≡ true → o ≡ refused 7 (whole 7 ∷ []) → Decided floats integers fit o
  by_integers : floats ≡ false → integers ≡ true → o ≡ refused 7 (whole 8 ∷ []) → Decided floats integers fit o

work_first : (floats integers : Bool) (rest : Outcome Unit) → Decided floats integers rest (cond floats (refused 7 (whole 7 ∷ [])) (cond integers (refused 7 (whole 8 ∷ [])) rest))
work_first true integers rest = by_floats refl refl
work_first false true rest = by_integers refl refl refl
work_first false false rest = as_fit refl

module _ {floats integers : Bool} {fit o : Outcome Unit} where
  -- a test before them
  after_test : (t : Bool) (r : Outcome Unit) → Decided floats integers fit o → Decided floats integers (cond t r fit) (cond t r o)
  after_test true r d = as_fit refl
  after_test false r d = d

  after_check : (c : Outcome Unit) → Decided floats integers fit o → Decided floats integers (also c fit) (also c o)
  after_check (completed u) d = d
  after_check (refused n vs) d = as_fit refl

  -- and one after them
  before_check : (c : Outcome Unit) → Decided floats integers fit o → Decided floats integers (also fit c) (also o c)
  before_check c (as_fit e) = as_fit (ap (λ (q : Outcome Unit). also q c) e)
  before_check c (by_floats f e) = by_floats f (ap (λ (q : Outcome Unit). also q c) e)
  before_check c (by_integers f i e) = by_integers f i (ap (λ (q : Outcome Unit). also q c) e)

abbrev other : ℕ → ℕ → Bool
other have want = not (eqb have want)

own_length : (n : ℕ) → other n n ≡ false
own_length n = ap not (eq-eqb n n refl)

is_own : (have want : ℕ) → other have want ≡ false → have ≡ want
is_own have want o = eqb-true have want (not-false _ o)

not_own : (have want : ℕ) → other have want ≡ true → have ≡ want → ⊥
not_own have want o e = true≢false (sym o ∙ ap not (eq-eqb have want e))

-- a job's checks, by whether slice 7 and slice 8 have other lengths than they are to have
module _ (j : Job) where
  abbrev checks_by : Bool → Bool → Outcome Unit
  checks_by floats integers =
      also (validity j.profile j.schema j.algorithm j.log2)
      (also
      (cond (other (length j.initial) (size_of j * dim_of j)) (refused 7 (whole 1 ∷ []))
      (cond (other (length j.samples) (count_of j * dim_of j)) (refused 7 (whole 2 ∷ []))
      (cond (other (length j.matrices) ((restarts_of j - 1) * (dim_of j * dim_of j))) (refused 7 (whole 3 ∷ []))
      (cond (other j.codewords (size_of j * dim_of j)) (refused 7 (whole 4 ∷ []))
      (cond floats (refused 7 (whole 7 ∷ []))
      (cond integers (refused 7 (whole 8 ∷ []))
      (cond (not (leb j.slots 1048576)) (refused 7 (whole 9 ∷ []))
      (completed tt))))))))
      (value_checks j))

  decided : (floats integers : Bool) → Decided floats integers (checks_by false false) (checks_by floats integers)
  decided floats integers =
      after_check (validity j.profile j.schema j.algorithm j.log2)
      (before_check (value_checks j)
      (after_test (other (length j.initial) (size_of j * dim_of j)) (refused 7 (whole 1 ∷ []))
      (after_test (other (length j.samples) (count_of j * dim_of j)) (refused 7 (whole 2 ∷ []))
      (after_test (other (length j.matrices) ((restarts_of j - 1) * (dim_of j * dim_of j))) (refused 7 (whole 3 ∷ []))
      (after_test (other j.codewords (size_of j * dim_of j)) (refused 7 (whole 4 ∷ []))
      (work_first floats integers (cond (not (leb j.slots 1048576)) (refused 7 (whole 9 ∷ [])) (completed tt))))))))

-- ---- what is seen, with what stood in codewords and slots
module _ (j : Job) (codewords : List Float) (slots : List LloydRepairEvent) where
  -- once the checks come to o
  abbrev after : Outcome Unit → Outcome Best → Seen
  after o run = record {
    answer = and_then (and_then o (λ u. run)) (λ b. completed (report_of j b));
    codewords = leaves o run codewords (λ b. narrowed b.codebook) codewords;
    slots = leaves o run slots (λ b. b.events ++ drop (length b.events) slots) (replicate (length slots) zero_event);
  }

  in_room : (room had : Room) → seen_in room (lent had j) codewords slots ≡ after (checks_by j (other had.floats room.floats) (other had.integers room.integers)) (refine_of j)
  unfolding length_checks value_checks
  in_room room had = ap (after (checks_by j (other had.floats room.floats) (other had.integers room.integers))) (restarts_same had j (restarts_of j))

  in_own_room : (room : Room) → seen_in room (lent room j) codewords slots ≡ after (checks_by j false false) (refine_of j)
  in_own_room room = in_room room room ∙ rw (own_length room.floats, own_length room.integers)

  -- by refine's contract
  contracted : seen j codewords slots ≡ seen_in (room_of j) j codewords slots
  unfolding refine_checks
  contracted = refl

  abbrev had : Room
  had = record { floats = j.float_work; integers = j.integer_work }

  by_checks : (o : Outcome Unit) → checks_by j (other had.floats (room_of j).floats) (other had.integers (room_of j).integers) ≡ o → seen j codewords slots ≡ after o (refine_of j)
  by_checks o e = contracted ∙ in_room (room_of j) had ∙ ap (λ (q : Outcome Unit). after q (refine_of j)) e

  any : Decided (other had.floats (room_of j).floats) (other had.integers (room_of j).integers) (checks_by j false false) (checks_by j (other had.floats (room_of j).floats) (other had.integers (room_of j).integers))
      → (seen j codewords slots ≡ seen_earlier j codewords slots)
      ⊎ (((j.float_work ≡ (room_of j).floats → ⊥) × (seen j codewords slots ≡ seen_refused 7 codewords slots))
      ⊎ ((j.float_work ≡ (room_of j).floats) × (j.integer_work ≡ (room_of j).integers → ⊥) × (seen j codewords slots ≡ seen_refused 8 codewords slots)))
  any (as_fit e) = inl (by_checks (checks_by j false false) e ∙ sym (in_own_room (earlier_room j)))
  any (by_floats f e) = inr (inl (not_own had.floats (room_of j).floats f, by_checks (refused 7 (whole 7 ∷ [])) e))
  any (by_integers f i e) = inr (inr (is_own had.floats (room_of j).floats f, not_own had.integers (room_of j).integers i, by_checks (refused 7 (whole 8 ∷ [])) e))

pub either_room : (j : Job) (codewords : List Float) (slots : List LloydRepairEvent) → EitherRoom j codewords slots
either_room j codewords slots =
    let now = in_own_room j codewords slots (room_of j) in
    let earlier = in_own_room j codewords slots (earlier_room j) in
    record {
      exact = λ e. let p = checks_passed j e in (p.floats, p.integers);
      contract = contracted j codewords slots;
      same = contracted (lent (room_of j) j) codewords slots ∙ now ∙ sym earlier;
      any_lengths = any j codewords slots (decided j (other j.float_work (room_of j).floats) (other j.integer_work (room_of j).integers));
    }
