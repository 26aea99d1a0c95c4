-- How an answer crosses to the Rust host: by a number, four whole values and two real ones. Definitions only.
use Rattle.std.specs.Prelude.{ℕ, List, [], ◌∷◌, get_or, Float}
use Rattle.error.specs.Numbers.{Value, whole, real, Outcome, completed, refused}
use Rattle.ieee.specs.Sum.{plus_zero}
use Rattle.ffi_crossing.specs.declared.Row.{Row}

-- what the host finds: the number that the export returns, and what it wrote to the room for whole and for real values
pub record Crossed : Type 0 where
  pub number : ℕ
  pub wholes : List ℕ
  pub reals : List Float

abbrev pub found : ℕ → List ℕ → List Float → Crossed
found n ws rs = record { number = n; wholes = ws; reals = rs }

-- the values of each kind, in order
unfoldable pub whole_values : List Value → List ℕ
whole_values [] = []
whole_values (whole n ∷ vs) = n ∷ whole_values vs
whole_values (real x ∷ vs) = whole_values vs

unfoldable pub real_values : List Value → List Float
real_values [] = []
real_values (whole n ∷ vs) = real_values vs
real_values (real x ∷ vs) = x ∷ real_values vs

-- the room, with zeros after the values; no answer has more values than fit
abbrev pub four_of : List ℕ → List ℕ
four_of ns = get_or ns 0 0 ∷ get_or ns 1 0 ∷ get_or ns 2 0 ∷ get_or ns 3 0 ∷ []

abbrev pub two_of : List Float → List Float
two_of xs = get_or xs 0 plus_zero ∷ get_or xs 1 plus_zero ∷ []

abbrev pub crossing : ℕ → List Value → Crossed
crossing n vs = found n (four_of (whole_values vs)) (two_of (real_values vs))

-- A completed call crosses as 0 with the values of its result, a refused one as its number with its values.
abbrev pub crossed : {A : Type 0} → (A → List Value) → Outcome A → Crossed
crossed results (completed x) = crossing 0 (results x)
crossed results (refused n vs) = crossing n vs

-- the values of some results
abbrev pub none : Unit {0} → List Value
none _ = []

abbrev pub one_whole : ℕ → List Value
one_whole n = whole n ∷ []

abbrev pub one_real : Float → List Value
one_real x = real x ∷ []

-- a row of the table that has at most two values of each kind
abbrev pub row_found : Row → Crossed
row_found r = found r.number (r.first ∷ r.second ∷ 0 ∷ 0 ∷ []) (r.given ∷ r.expected ∷ [])
