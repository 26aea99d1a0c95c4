-- Norms as document 02's K3 has them: rounded once, as IEEE 754 describes a conversion, with refusal 10 by that result
-- (`RoundedOnce`). And nothing is lost by it: what document 01's two steps coded is still coded (`StillCoded`).
-- proofs/NormsLaw.antt proves both of every float. The contract of encode_norm cites `norm_bits`; so does the definition of
-- encode, for the norm of its input. Definitions only.
use Rattle.std.specs.Prelude.{◌≡◌, ℕ, ◌*◌, ◌^◌, ◌<◌, true, false, [], negsuc, Float}
use Rattle.std.specs.Float.{nan, inf, fin, binary32}
use Rattle.std.specs.Float.Ieee.{up, down}
use Rattle.error.specs.Numbers.{Outcome, completed, refused}
use Rattle.narrow.specs.Format.{inf_of, Rounded}
use Rattle.narrow.specs.Pack.{packed, narrow_to}
use Rattle.norm.specs.Norm.{written_as, norm_bits}

-- ---- a norm num / den, and what writing it comes to
pub record Once (num den : ℕ) (outcome : Outcome ℕ) : Type 0 where
  -- The one pattern of binary16 that num / den is rounded to: no other stands for a nearer number, and a tie goes to the
  -- even one. Zero's pattern, 0, and infinity's, inf_of 11 15, are among them; the latter stands for 65,536 here.
  pub bits : ℕ
  pub nearest : Rounded 11 15 num den bits
  pub only : (o : ℕ) → Rounded 11 15 num den o → o ≡ bits
  -- it is written, or 10 comes where it is zero's or infinity's
  pub written : 0 < bits → bits < inf_of 11 15 → outcome ≡ completed bits
  pub zero : bits ≡ 0 → outcome ≡ refused 10 []
  pub infinite : bits ≡ inf_of 11 15 → outcome ≡ refused 10 []
  -- in numbers: the pattern is zero's exactly for num / den up to 2 ^ -25, and infinity's exactly from 65,520 on; so with
  -- the three above, 10 comes exactly there
  pub above : (0 < bits → den < num * 2 ^ 25) × (den < num * 2 ^ 25 → 0 < bits)
  pub below : (bits < inf_of 11 15 → num < 65520 * den) × (num < 65520 * den → bits < inf_of 11 15)

-- of any float: a NaN, an infinity or a minus sign is no norm, and refused
abbrev pub RoundedOnce : Float → Type 0
RoundedOnce nan = norm_bits nan ≡ refused 10 []
RoundedOnce (inf s) = norm_bits (inf s) ≡ refused 10 []
RoundedOnce (fin true m e) = norm_bits (fin true m e) ≡ refused 10 []
RoundedOnce (fin false m e) = Once (m * up e) (down e) (norm_bits (fin false m e))

-- ---- document 01's two steps: to binary32, and from there to binary16
abbrev pub earlier_bits : Float → Outcome ℕ
earlier_bits x = written_as x (packed 11 15 (narrow_to binary32 x))

-- what they made of K3's two examples, 1 + 2 ^ -11 + 2 ^ -40 and the binary64 value just under 65,520, and of the one just
-- above 2 ^ -25; `once_row` of worked_samples has what becomes of them now
pub record EarlierAnswers : Type 0 where
  pub another_bit : earlier_bits (fin false 1100048498689 (negsuc 39)) ≡ completed 0x3C00
  pub large_refused : earlier_bits (fin false 9005000231485439 (negsuc 36)) ≡ refused 10 []
  pub small_refused : earlier_bits (fin false 4503599627370497 (negsuc 76)) ≡ refused 10 []

-- x has a pattern now
pub record Coded (x : Float) : Type 0 where
  pub bits : ℕ
  pub written : norm_bits x ≡ completed bits

-- as it does if it had one, the same or another
abbrev pub StillCoded : Float → Type 0
StillCoded x = (earlier : ℕ) → earlier_bits x ≡ completed earlier → Coded x
