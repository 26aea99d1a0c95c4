-- The decoder's values step by step: gathered, rotated back and scaled, they are what the definition says; where all of
-- them are finite, binary32 holds them. Assumes nothing.
use Rattle.std.specs.Prelude.{None}
use mathlib.Core.Path.{◌≡◌, sym, ap, subst}
use Prim.Native.Nat.{ℕ, ◌<◌}
use mathlib.Core.Bool.{not}
use mathlib.Core.List.{List}
use lib.Dec.{T}
use lib.ListN.{length, get_or}
use lib.Ieee.{Float, nan, inf, fin, binary32, binary64, mul, fits, is_nan}
use lib.Ieee.Fits.{and_i}
use lib.Ieee.Scale.{finite}
use Rattle.slices.specs.First.{first_where}
use Rattle.slices.specs.Lists.{tabulate}
use Rattle.slices.specs.Limit.{first_not_finite}
use Rattle.slices.proofs.FirstLaw.{all_finite}
use Rattle.slices.proofs.TabulateLaw.{length-tabulate, get_d_tabulate}
use Rattle.narrow.specs.Pack.{narrow_to}
use Rattle.narrow.proofs.PackLaw.{narrow_fits}
use Rattle.rotation.specs.Apply.{applied_inverse}
use Rattle.decode.specs.Decode.{rotated, decoded_at, decoded}
use Rattle.decode.specs.Work.{Binary32}
use Rattle.decode.proofs.ListLaw.{first_where_ext}

finite_no_nan : (x : Float) → T (finite x) → T (not (is_nan x))
unfolding is_nan
finite_no_nan nan h = absurd h
finite_no_nan (inf s) h = absurd h
finite_no_nan (fin s m e) h = tt

-- each value times the norm, rounded
abbrev pub scaled : Float → List Float → ℕ → Float
scaled norm values i = narrow_to binary32 (mul binary64 (get_or values i nan) norm)

-- the first of them that is not finite is found by what each comes to
pub first_bad : (norm : Float) (values : List Float) (n : ℕ) → first_where (λ i. not (finite (scaled norm values i))) n ≡ first_not_finite (tabulate n (scaled norm values))
first_bad norm values n =
    let g : ℕ → Float = scaled norm values in
    rw (length-tabulate n g)
    (first_where_ext (λ i. not (finite (g i))) (λ i. not (finite (get_or (tabulate n g) i nan))) n (λ i l. ap (λ (y : Float). not (finite y)) (sym (get_d_tabulate n g i nan l))))

-- where all of it is finite, binary32 holds all of it
pub copyable : (norm : Float) (values xs : List Float) (n : ℕ) → xs ≡ tabulate n (scaled norm values) → first_not_finite xs ≡ None → (i : ℕ) → i < length xs → Binary32 (get_or xs i nan)
copyable norm values xs n s e i l =
    let g : ℕ → Float = scaled norm values in
    let b : i < n = subst (λ (m : ℕ). i < m) (length-tabulate n g) (subst (λ (v : List Float). i < length v) s l) in
    let here : get_or xs i nan ≡ g i = rw s (get_d_tabulate n g i nan b) in
    let f : T (finite (g i)) = subst (λ (y : Float). T (finite y)) here (all_finite xs e i l) in
    subst Binary32 (sym here) (and_i (fits binary32 (g i)) (not (is_nan (g i))) (narrow_fits binary32 _) (finite_no_nan (g i) f))

-- gathered into x, rotated back to y, scaled to z
pub scaled_is : (d k : ℕ) (matrix codewords : List Float) (indices : List ℕ) (norm : Float) (n m l : ℕ) (x y z : List Float) → n ≡ d → m ≡ d → l ≡ d
    → x ≡ rotated n k codewords indices → y ≡ applied_inverse m matrix x → z ≡ tabulate l (scaled norm y) → z ≡ decoded d k matrix codewords indices norm
unfolding decoded_at
scaled_is d k matrix codewords indices norm n m l x y z a b e g r s = rw (s, r, g, a, b, e)
