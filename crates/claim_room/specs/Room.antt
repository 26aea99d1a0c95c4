-- Document 02's K10: a refinement in its smaller work gives what it gave in document 01's, refusals and their values
-- included. `EitherRoom`, at the end; proofs/RoomLaw.antt proves it of every job. Definitions only.
use Rattle.std.specs.Prelude.{◌≡◌, ◌⊎◌, ℕ, ◌+◌, ◌*◌, List, [], ◌∷◌, ◌++◌, length, replicate, drop, Float}
use Rattle.error.specs.Names.{float_work_slice, integer_work_slice}
use Rattle.error.specs.Numbers.{Outcome, completed, refused, and_then, whole, leaves}
use Rattle.lloyd_events.specs.declared.LloydRepairEvent.{LloydRepairEvent}
use Rattle.lloyd_events.specs.Events.{zero_event}
use Rattle.lloyd_refine.specs.declared.LloydReport.{LloydReport}
use Rattle.lloyd_refine.specs.Refine.{Job, size_of, dim_of, count_of, Room, room_of, checks_in, refine_checks, refine_of, refinement, narrowed, codewords_after, slots_after}
use Rattle.lloyd_refine.specs.Report.{report_of}

-- the lengths that document 01 gave slices 7 and 8
abbrev pub earlier_room : Job → Room
earlier_room j = record { floats = 4 * (size_of j * dim_of j) + 2 * size_of j; integers = size_of j + count_of j }

-- the same job, lent work of these lengths
abbrev pub lent : Room → Job → Job
lent room j = record {
  profile = j.profile;
  schema = j.schema;
  algorithm = j.algorithm;
  log2 = j.log2;
  initial = j.initial;
  samples = j.samples;
  matrices = j.matrices;
  codewords = j.codewords;
  float_work = room.floats;
  integer_work = room.integers;
  slots = j.slots;
}

-- ---- what a caller sees beside the work: the answer, and codewords and event slots afterwards
pub record Seen : Type 0 where
  pub answer : Outcome LloydReport
  pub codewords : List Float
  pub slots : List LloydRepairEvent

-- by refine's contract
abbrev pub seen : Job → List Float → List LloydRepairEvent → Seen
seen j codewords slots = record {
  answer = and_then (refinement j) (λ b. completed (report_of j b));
  codewords = codewords_after j codewords;
  slots = slots_after j slots;
}

-- by the same definitions, where slices 7 and 8 are to have the lengths of a room
abbrev pub seen_in : Room → Job → List Float → List LloydRepairEvent → Seen
seen_in room j codewords slots =
    let checks = checks_in room j in
    record {
      answer = and_then (and_then checks (λ u. refine_of j)) (λ b. completed (report_of j b));
      codewords = leaves checks (refine_of j) codewords (λ b. narrowed b.codebook) codewords;
      slots = leaves checks (refine_of j) slots (λ b. b.events ++ drop (length b.events) slots)
          (replicate (length slots) zero_event);
    }

-- under document 01's lengths, of a job that is lent them
abbrev pub seen_earlier : Job → List Float → List LloydRepairEvent → Seen
seen_earlier j = seen_in (earlier_room j) (lent (earlier_room j) j)

-- where a slice has a wrong length
abbrev pub seen_refused : ℕ → List Float → List LloydRepairEvent → Seen
seen_refused slice codewords slots = record {
  answer = refused 7 (whole slice ∷ []);
  codewords = codewords;
  slots = slots;
}

-- ---- what is claimed of every job, whatever stood in codewords and slots
pub record EitherRoom (j : Job) (codewords : List Float) (slots : List LloydRepairEvent) : Type 0 where
  -- past its checks the work has these lengths and no others
  pub exact : refine_checks j ≡ completed tt
      → (j.float_work ≡ 3 * (size_of j * dim_of j) + 2 * size_of j) × (j.integer_work ≡ 2 * size_of j)
  -- `seen_in` at refine's own room is what its contract says
  pub contract : seen j codewords slots ≡ seen_in (room_of j) j codewords slots
  -- lent the room that it asks for, it gives what it gave under the earlier lengths
  pub same : seen (lent (room_of j) j) codewords slots ≡ seen_earlier j codewords slots
  -- lent any, it gives that too, or is refused by 7 for the first of slices 7 and 8 that has another length
  pub any_lengths : (seen j codewords slots ≡ seen_earlier j codewords slots)
      ⊎ (((j.float_work ≡ (room_of j).floats → ⊥) × (seen j codewords slots ≡ seen_refused float_work_slice codewords slots))
      ⊎ ((j.float_work ≡ (room_of j).floats) × (j.integer_work ≡ (room_of j).integers → ⊥)
      × (seen j codewords slots ≡ seen_refused integer_work_slice codewords slots)))
