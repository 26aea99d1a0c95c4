-- What holds of every refusal, whichever it is. Assumes nothing.
use mathlib.Core.Path.{◌≡◌, refl, sym, ap, ◌∙◌}
use Rattle.std.specs.Prelude.{Result, Ok, Err}
use Rattle.std.specs.Result.{IsErrAnd}
use Prim.Native.Nat.{ℕ}
use mathlib.Core.List.{List}
use Rattle.error.specs.declared.Refusal.{Refusal}
use Rattle.error.specs.declared.Refusal.TheVariants.{ZeroDimension, InvalidBlockDim, DimensionNotDivisible, InvalidCodebookSize, ResourceLimitExceeded, ProfileField, ProfileRate, SliceLength, CompactFrame, PackedIndices, Norm, IndexOutOfRange, NonFiniteInput, ZeroNorm, EmptyCells, NoDonor, NoDirection, CodeHeader, OutOfBounds, EventSlotsUsed, Report, InvalidRadius, InexactNorm}
use Rattle.error.specs.Numbers.{Value, Outcome, completed, refused, refusal, outcome, also}

-- what holds of every refused outcome holds of every refusal, at two types of answers
pub by_refusal : {A B : Type 0} (P : Outcome A → Outcome B → Type 0) → ((n : ℕ) (values : List Value) → P (refused n values) (refused n values)) → (r : Refusal) → P (refusal r) (refusal r)
by_refusal P h ZeroDimension = h _ _
by_refusal P h (InvalidBlockDim d k) = h _ _
by_refusal P h (DimensionNotDivisible d k) = h _ _
by_refusal P h (InvalidCodebookSize n) = h _ _
by_refusal P h ResourceLimitExceeded = h _ _
by_refusal P h (ProfileField f) = h _ _
by_refusal P h (ProfileRate f given expected) = h _ _
by_refusal P h (SliceLength s) = h _ _
by_refusal P h (CompactFrame site) = h _ _
by_refusal P h (PackedIndices site) = h _ _
by_refusal P h Norm = h _ _
by_refusal P h (IndexOutOfRange index bound) = h _ _
by_refusal P h (NonFiniteInput place) = h _ _
by_refusal P h ZeroNorm = h _ _
by_refusal P h (EmptyCells n) = h _ _
by_refusal P h (NoDonor cell) = h _ _
by_refusal P h (NoDirection donor) = h _ _
by_refusal P h CodeHeader = h _ _
by_refusal P h (OutOfBounds slice place) = h _ _
by_refusal P h (EventSlotsUsed slots) = h _ _
by_refusal P h (Report site) = h _ _
by_refusal P h InvalidRadius = h _ _
by_refusal P h InexactNorm = h _ _

-- ---- a check and what comes after it: a refusal stays, a completed check passes on, and a completed chain has completed parts
pub refused_first : {A : Type 0} (r : Refusal) (o : Outcome A) → also (refusal r) o ≡ refusal r
refused_first {A} r o = by_refusal (λ (q : Outcome Unit) (p : Outcome A). also q o ≡ p) (λ n values. refl) r

pub also_refused : {A : Type 0} (o : Outcome Unit) (q : Outcome A) (r : Refusal) → o ≡ refusal r → also o q ≡ refusal r
also_refused o q r h = ap (λ (x : Outcome Unit). also x q) h ∙ refused_first r q

pub also_then : {A : Type 0} (o : Outcome Unit) (q : Outcome A) → o ≡ completed tt → also o q ≡ q
also_then o q h = ap (λ (x : Outcome Unit). also x q) h

pub also_first : {A : Type 0} {x : A} (o : Outcome Unit) (q : Outcome A) → also o q ≡ completed x → o ≡ completed tt
also_first (completed tt) q h = refl
also_first (refused n values) q h = cc

pub also_next : {A : Type 0} {x : A} (o : Outcome Unit) (q : Outcome A) → also o q ≡ completed x → q ≡ completed x
also_next (completed tt) q h = h
also_next (refused n values) q h = cc

-- ---- answers of the program, handed on by `?`: a refusal is the caller's answer, after it nothing more is checked
pub handed_on : {A : Type 0} (y : Result A Refusal) (r : Refusal) → IsErrAnd y (λ e. e ≡ r) → outcome y ≡ refusal r
handed_on (Ok x) r h = absurd h
handed_on (Err e) r h = ap refusal h

pub also_exit : {A : Type 0} (y : Result A Refusal) (r : Refusal) (o : Outcome Unit) (q : Outcome A) → IsErrAnd y (λ e. e ≡ r) → refusal r ≡ o → outcome y ≡ also o q
also_exit y r o q h e = handed_on y r h ∙ sym (also_refused o q r (sym e))

pub also_on : {A : Type 0} (p : Outcome A) (o : Outcome Unit) (q : Outcome A) → completed tt ≡ o → p ≡ q → p ≡ also o q
also_on p o q h e = e ∙ sym (also_then o q (sym h))

-- two checks in one
pub also_both : {A : Type 0} (p : Outcome A) (a b : Outcome Unit) (q : Outcome A) → p ≡ also a (also b q) → p ≡ also (also a b) q
also_both p (completed tt) b q h = h
also_both p (refused n values) b q h = h
