-- The log of repairs in a row of slots: the events so far in the first
-- slots, and the others as they were. It says nothing of the crates above.
--     log_more         one event more is written to the slot after them.        length_more     and they are one more
-- Assumes nothing.
use Rattle.std.proofs.Common.{◌≡◌, ◌<◌, ◌+◌, List, [], ◌∷◌, ◌++◌, length, set, drop, refl, arith}
use Rattle.std.proofs.lemmas.Grind.{common_steps}
use Rattle.lloyd_events.specs.declared.LloydRepairEvent.{LloydRepairEvent}

abbrev pub logged : List LloydRepairEvent → List LloydRepairEvent → List LloydRepairEvent
logged events slots = events ++ drop (length events) slots

pub log_more : (events slots : List LloydRepairEvent) (e : LloydRepairEvent) → length events < length slots → set (logged events slots) (length events) e ≡ logged (events ++ (e ∷ [])) slots
log_more events [] e l = absurd (omega arith)
log_more [] (x ∷ slots) e l = refl
log_more (a ∷ events) (x ∷ slots) e l = let next = log_more events slots e (omega arith) in cc

pub length_more : (events : List LloydRepairEvent) (e : LloydRepairEvent) → length (events ++ (e ∷ [])) ≡ length events + 1
length_more events e = grind (arith, common_steps)
