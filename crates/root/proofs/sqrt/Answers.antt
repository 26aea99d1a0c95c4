-- `root::sqrt` meets its contract, by the pattern of x. Assumes nothing.
use Rattle.std.proofs.Common.{◌≡◌, ℕ, zero, suc, ◌+◌, ◌*◌, ◌/◌, ◌%◌, ◌^◌, ◌≤◌, ◌<◌, Bool, true, false, not, cond, T, eqb, leb, ℤ, inl, inr, refl, sym, ap, ◌∙◌, subst, true≢false, zero-mul, mod-eq_of_lt, arith, leb→le, lt→ltb, le-leb}
use lib.Dec.{nleb→lt}
use lib.Ieee.{Float, nan, inf, fin, Format, binary64, prec, emax, low, hid, up, down, odd, of_bits, of_fields, to_bits, is_nan, fits}
use lib.Ieee.Bits.{of_bits-to_bits, nan_bits_is, nan_bits_above}
use Rattle.narrow.proofs.PackLaw.{to_bits_at}
use Rattle.root.specs.Sqrt.{sqrt_of}
use Rattle.root.proofs.Bounds.{sqrt_fits}
use Rattle.root.proofs.sqrt.Goals as goal

-- ---- signs
abbrev Signed : Bool → Float → Type 0
Signed s nan = Unit
Signed s (inf t) = t ≡ s
Signed s (fin t m e) = t ≡ s

odd_signed : (s : Bool) (d q k l : ℕ) → Signed s (odd d s q k l)
unfolding odd
odd_signed s d zero k l = refl
odd_signed s d (suc q) k l = refl

fields_signed : (f : Format) (s : Bool) (x t : ℕ) → Signed s (of_fields f s x t)
unfolding of_fields
fields_signed f s zero t = odd_signed s (prec f) t 0 (low f)
fields_signed f s (suc x) t = go (eqb (suc x) (2 * emax f + 1)) (eqb t 0)
  where
    go : (a b : Bool) → Signed s (cond a (cond b (inf s) nan) (odd (prec f) s (hid f + t) x (low f)))
    go true true = refl
    go true false = tt
    go false b = odd_signed s (prec f) (hid f + t) x (low f)

bits_signed : (b : ℕ) (s : Bool) → leb 0x8000000000000000 b ≡ s → Signed s (of_bits binary64 b)
unfolding of_bits
bits_signed b s h =
    subst (λ (t : Bool). Signed s (of_fields binary64 t (b % 0x8000000000000000 / 0x10000000000000) (b % 0x10000000000000))) (sym h)
    (fields_signed binary64 s (b % 0x8000000000000000 / 0x10000000000000) (b % 0x10000000000000))

-- the pattern of a zero
zero_bits : (e : ℤ) → to_bits binary64 (fin true 0 e) ≡ 0x8000000000000000
unfolding to_bits
zero_bits e = to_bits_at binary64 (fin true 0 e) true 0 (refl, zeros e)
  where
    zeros : (e : ℤ) → 0 * up e * 2 ^ 1074 ≡ 0 * down e
    zeros e = ap (λ (n : ℕ). n * 2 ^ 1074) (zero-mul (up e)) ∙ sym (zero-mul (down e))

below_zero : (x : Float) → Signed true x → (to_bits binary64 x ≡ 0x8000000000000000 → ⊥) → sqrt_of binary64 x ≡ nan
unfolding sqrt_of
below_zero nan m h = refl
below_zero (inf true) m h = refl
below_zero (inf false) m h = absurd (true≢false (sym m))
below_zero (fin true zero e) m h = absurd (h (zero_bits e))
below_zero (fin true (suc n) e) m h = refl
below_zero (fin false n e) m h = absurd (true≢false (sym m))

-- above infinity's are the patterns of NaNs, and of what has a minus sign
nan_signed : (x : Float) → T (is_nan x) → Signed true x
unfolding is_nan
nan_signed nan h = tt
nan_signed (inf s) h = absurd h
nan_signed (fin s m e) h = absurd h

above : (b : ℕ) → 0x7ff0000000000000 < b → Signed true (of_bits binary64 b)
above b l = go (leb 0x8000000000000000 b) (leb→le 0x8000000000000000 b) (nleb→lt 0x8000000000000000 b)
  where
    go : (s : Bool) → (T s → 0x8000000000000000 ≤ b) → (T (not s) → b < 0x8000000000000000) → Signed true (of_bits binary64 b)
    go true h k = bits_signed b true (le-leb 0x8000000000000000 b (h tt))
    go false h k =
        let m : b % 0x8000000000000000 ≡ b = mod-eq_of_lt (k tt) in
        nan_signed (of_bits binary64 b) (subst T (sym (rw m at (nan_bits_above binary64 b)) ∙ nan_bits_is binary64 b) (lt→ltb 0x7ff0000000000000 b l))

-- ---- the patterns of the values that are their own roots
abbrev Own : ℕ → Type 0
Own n = sqrt_of binary64 (of_bits binary64 n) ≡ of_bits binary64 n

own_roots : Own 0 × Own 0x7ff0000000000000 × Own 0x7ff8000000000000 × Own 0x8000000000000000
unfolding sqrt_of of_bits
own_roots = (refl, refl, refl, refl)

-- ---- x, by its pattern b
module _ (x : Float) (b : ℕ) (fit : fits binary64 x ≡ true) (e : b ≡ to_bits binary64 x) where
  back : of_bits binary64 b ≡ x
  back = rw (e, of_bits-to_bits binary64 x (subst T (sym fit) tt))

  own : (n : ℕ) → b ≡ n → Own n → x ≡ sqrt_of binary64 x
  own n i r = rw (← back, i) (sym r)

pub returns-in-0 : goal.returns-in-0
returns-in-0 c =
    let x = c.args.x in
    let f = c.f64_to_bits_with_nan-b in
    let self = own x f.result c.well_formed.0.1 f.ensures in
    elim c.in-0.is [
      | inl z ↦ self 0 z own_roots.0
      | inr o ↦ elim o [ inl i ↦ self 0x7ff0000000000000 i own_roots.1 | inr p ↦ elim p [ inl n ↦ self 0x7ff8000000000000 n own_roots.2 | inr m ↦ self 0x8000000000000000 m own_roots.3 ] ]
    ]

pub returns-in-1-to-9218868437227405311 : goal.returns-in-1-to-9218868437227405311
returns-in-1-to-9218868437227405311 c =
    let x = c.args.x in
    let f = c.f64_to_bits_with_nan-b in
    c.f64_from_bits_with_nan.ensures
    ∙ rw (c.positive_root.ensures, back x f.result c.well_formed.0.1 f.ensures) (of_bits-to_bits binary64 (sqrt_of binary64 x) (sqrt_fits binary64 x (subst T (sym c.well_formed.0.1) tt)))

pub returns-in_default : goal.returns-in_default
unfolding of_bits
returns-in_default c =
    let x = c.args.x in
    let f = c.f64_to_bits_with_nan-b in
    let past : (0x7ff0000000000000 < f.result) × (f.result ≡ 0x8000000000000000 → ⊥) = (grind arith, grind arith) in
    sym (below_zero x (subst (Signed true) (back x f.result c.well_formed.0.1 f.ensures) (above f.result past.0)) (λ e. past.1 (f.ensures ∙ e)))
