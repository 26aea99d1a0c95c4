-- A norm that has a pattern: it is at least 2 ^ -26, and no value of the input reaches 2 ^ 16. Assumes nothing.
use mathlib.Core.Path.{refl, sym, subst}
use Prim.Native.Nat.{ℕ, ◌*◌, ◌^◌, ◌≤◌, ◌<◌}
use native.Mathlib.Nat.{le_trans, le_of_eq, le_of_lt, lt_of_not-le, mul-one}
use native.Mathlib.Omega.{arith}
use mathlib.Core.Bool.{true, false, true≢false}
use mathlib.Core.List.{List}
use lib.Dec.{T, lit<, lit≤}
use lib.ListN.{length, get_or}
use lib.Ieee.{Float, nan, inf, fin, binary64, up, down, lt, fits}
use lib.Ieee.Fits.{down_pos}
use lib.Ieee.Scale.{finite}
use Rattle.ieee.specs.Bounds.{AtLeast, Upto, NotNegative}
use Rattle.ieee.specs.Sum.{sum_to}
use Rattle.ieee.proofs.Value.{holds_true}
use Rattle.ieee.proofs.Sign.{square_not_negative}
use Rattle.root.specs.Sqrt.{sqrt_of}
use Rattle.root.proofs.Bounds.{sqrt_not_negative, sqrt_at_least_power}
use Rattle.ieee.proofs.Least.{sum_to_fits}
use Rattle.norm.proofs.NormLaw.{Written}
use Rattle.encode.specs.Encode.{square_at, norm_of}
use Rattle.claim_codes.proofs.PastLaw.{Past, past_square, past_sum}
use Rattle.claim_codes.proofs.NormsLaw.{coded_range}

-- ---- a norm that has a pattern
pub norm_at_least : (x : Float) (b : ℕ) → Written x b → AtLeast x 1 (2 ^ 26)
unfolding lt
norm_at_least nan b w = true≢false (sym w.codable)
norm_at_least (inf s) b w = true≢false (sym w.codable)
norm_at_least (fin true m e) b w = absurd (true≢false (sym w.codable))
norm_at_least (fin false m e) b w = let r = (coded_range m e b w).0 in omega arith

not_past : (x : Float) (b : ℕ) → Written x b → Past x (2 ^ 16) → ⊥
not_past nan b w h = h
not_past (inf s) b w h = true≢false (sym w.codable)
not_past (fin true m e) b w h = true≢false h.0
not_past (fin false m e) b w h = let r = (coded_range m e b w).1 in let l = h.1 in omega (arith, down_pos e)

-- ---- the root of a sum of squares
not_less : (x : Float) (a : ℕ) → NotNegative x → AtLeast x a 1 → Past x a
not_less nan a n h = n
not_less (inf s) a n h = n
not_less (fin s m e) a n h = (n, le_trans h (le_of_eq (mul-one (m * up e))))

past_root : (x : Float) → T (fits binary64 x) → Past x (2 ^ 32) → Past (sqrt_of binary64 x) (2 ^ 16)
unfolding sqrt_of
past_root nan t h = h
past_root (inf true) t h = absurd (true≢false h)
past_root (inf false) t h = refl
past_root (fin s m e) t h =
    let x : Float = fin s m e in
    not_less (sqrt_of binary64 x) (2 ^ 16) (sqrt_not_negative binary64 x h.0) (sqrt_at_least_power x 16 (lit≤ tt) t h.0 (le_trans h.1 (le_of_eq (sym (mul-one (m * up e))))))

under : (x : Float) (a : ℕ) → T (finite x) → (AtLeast x a 1 → ⊥) → Upto x a
under nan a t h = t
under (inf s) a t h = t
under (fin s m e) a t h = le_of_lt (subst (λ (z : ℕ). z < a * down e) (sym (mul-one (m * up e))) (lt_of_not-le (λ (g : a * down e ≤ m * up e). h (le_trans g (le_of_eq (sym (mul-one (m * up e))))))))

pub input_upto : (input : List Float) (b : ℕ) → Written (norm_of input) b → ((i : ℕ) → i < length input → T (finite (get_or input i nan))) → (i : ℕ) → i < length input → Upto (get_or input i nan) (2 ^ 16)
unfolding norm_of
input_upto input b w h i l =
    let x : Float = get_or input i nan in
    under x (2 ^ 16) (h i l)
    (λ g. let s = past_square binary64 x (2 ^ 16) (record { q = 1; j = 32; small = lit< tt; reach = lit≤ tt; is = refl }) g in
    let t = past_sum (square_at input) (length input) i (2 ^ 32) (record { q = 1; j = 32; small = lit< tt; reach = lit≤ tt; is = refl }) (λ j m. square_not_negative binary64 (get_or input j nan) (h j m)) l s in
    not_past (norm_of input) b w (past_root (sum_to (square_at input) (length input)) (holds_true (sum_to_fits (square_at input) (length input))) t))
