-- The table of refusals: the number of each case, and the values that come back with it. Definitions only.
use Rattle.std.specs.Prelude.{ℕ, cond, List, [], ◌∷◌, eqb, Float, Result, Ok, Err}
use Rattle.error.specs.Names.{slice_number, field_number, frame_site_number, packing_site_number, report_site_number}
use Rattle.error.specs.declared.Refusal.{Refusal}
use Rattle.error.specs.declared.Refusal.TheVariants.{ZeroDimension, InvalidBlockDim, DimensionNotDivisible, InvalidCodebookSize, ResourceLimitExceeded, ProfileField, ProfileRate, SliceLength, CompactFrame, PackedIndices, Norm, IndexOutOfRange, NonFiniteInput, ZeroNorm, EmptyCells, NoDonor, NoDirection, CodeHeader, OutOfBounds, EventSlotsUsed, Report, InvalidRadius, InexactNorm}

-- a value that comes back with a number
pub data Value : Type 0 where
  whole : ℕ → Value
  real : Float → Value

-- what a call comes to: it is completed, with what it answers, or refused by a number with its values
pub data Outcome (A : Type 0) : Type 0 where
  completed : A → Outcome A
  refused : ℕ → List Value → Outcome A

-- the table
abbrev pub refusal : {A : Type 0} → Refusal → Outcome A
refusal ZeroDimension = refused 1 []
refusal (InvalidBlockDim d k) = refused 2 (whole d ∷ whole k ∷ [])
refusal (DimensionNotDivisible d k) = refused 3 (whole d ∷ whole k ∷ [])
refusal (InvalidCodebookSize n) = refused 4 (whole n ∷ [])
refusal ResourceLimitExceeded = refused 5 []
refusal (ProfileField f) = refused 6 (whole (field_number f) ∷ [])
refusal (ProfileRate f given expected) = refused 6 (whole (field_number f) ∷ real given ∷ real expected ∷ [])
refusal (SliceLength s) = refused 7 (whole (slice_number s) ∷ [])
refusal (CompactFrame site) = refused 8 (whole (frame_site_number site) ∷ [])
refusal (PackedIndices site) = refused 9 (whole (packing_site_number site) ∷ [])
refusal Norm = refused 10 []
refusal (IndexOutOfRange index bound) = refused 11 (whole index ∷ whole bound ∷ [])
refusal (NonFiniteInput place) = refused 12 (whole place ∷ [])
refusal ZeroNorm = refused 13 []
refusal (EmptyCells n) = refused 14 (whole n ∷ [])
refusal (NoDonor cell) = refused 15 (whole cell ∷ [])
refusal (NoDirection donor) = refused 16 (whole donor ∷ [])
refusal CodeHeader = refused 17 []
refusal (OutOfBounds slice place) = refused 18 (whole (slice_number slice) ∷ whole place ∷ [])
refusal (EventSlotsUsed slots) = refused 19 (whole slots ∷ [])
refusal (Report site) = refused 20 (whole (report_site_number site) ∷ [])
refusal InvalidRadius = refused 21 []
refusal InexactNorm = refused 27 []

-- what an answer of the program comes to
abbrev pub outcome : {A : Type 0} → Result A Refusal → Outcome A
outcome (Ok x) = completed x
outcome (Err r) = refusal r

-- one step after another: the first refusal decides
abbrev pub and_then : {A B : Type 0} → Outcome A → (A → Outcome B) → Outcome B
and_then (completed x) next = next x
and_then (refused n values) next = refused n values

-- a check, and what comes after it
abbrev pub also : {A : Type 0} → Outcome Unit → Outcome A → Outcome A
also (completed u) next = next
also (refused n values) next = refused n values

-- what a lent buffer holds afterwards: the new contents where the call was completed, else the old
abbrev pub if_completed : {A B : Type 0} → Outcome A → B → B → B
if_completed (completed x) new old = new
if_completed (refused n values) new old = old

-- a lent slice that has to be `want` elements long, and what comes after it
abbrev pub of_length : {A : Type 0} → ℕ → ℕ → ℕ → Outcome A → Outcome A
of_length slice want have rest = cond (eqb have want) rest (refused 7 (whole slice ∷ []))

-- the answer of a call whose result is written to a lent buffer
abbrev pub accepted : {A : Type 0} → Outcome A → Outcome Unit
accepted (completed x) = completed tt
accepted (refused n values) = refused n values

-- and what that buffer holds afterwards
abbrev pub contents : {A : Type 0} → Outcome (List A) → List A → List A
contents (completed xs) old = xs
contents (refused n values) old = old

-- what a buffer holds after a job: `before` where a check refuses, `done r`
-- where the job is accepted, `begun` where it is refused once it has begun
abbrev pub leaves : {A B : Type 0} → Outcome Unit → Outcome A → B → (A → B) → B → B
leaves (refused n values) o before done begun = before
leaves (completed u) (completed r) before done begun = done r
leaves (completed u) (refused n values) before done begun = begun
