-- The order of the finite floats: `<` is irreflexive, asymmetric and transitive, x < y ≤ z gives x < z, and where
-- neither x < y nor y < x, x == y. Of any floats, x ≤ y < z gives x < z, and x ≤ y ≤ z gives x ≤ z; of any but NaN,
-- x ≤ y or y < x. Assumes nothing.
use Rattle.std.proofs.Common.{◌≡◌, ℕ, ◌+◌, ◌*◌, ◌<◌, ◌≤◌, Bool, true, false, not, ◌&&◌, ◌||◌, T, eqb, ltb, ◌⊎◌, sym, ◌∙◌, inl, inr, le_trans, le_of_eq, lt_of_lt_of_le, lt_of_le_of_lt, lt_irrefl, mul-le-mul_right, eq-zero-or-pos, le_antisymm, lt_of_mul-lt-mul_right, mul-lt-mul_of_pos_right, mul-pos, zero-mul, mul_right_comm, arith, eqb→eq, ltb→lt, lt→ltb, nltb→le, T_not}
use lib.Dec.{not_T}
use lib.Ieee.{Float, nan, inf, fin, up, down, below, level, lt, eq, le, is_nan}
use lib.Ieee.Fits.{down_pos, and_i, and_l, and_r, eq→eqb}
use lib.Ieee.Scale.{finite}
use lib.Ieee.Positive.{first_pos}

-- a / p < b / q ≤ c / r
across : (a b c p q r : ℕ) → 0 < q → 0 < r → a * q < b * p → b * r ≤ c * q → a * r < c * p
across a b c p q r Q R h k =
    lt_of_mul-lt-mul_right q
    (lt_of_le_of_lt (le_of_eq (mul_right_comm a r q))
    (lt_of_lt_of_le (mul-lt-mul_of_pos_right h R)
    (le_trans (le_of_eq (mul_right_comm b p r)) (le_trans (mul-le-mul_right p k) (le_of_eq (mul_right_comm c q p))))))

-- a / p ≤ b / q < c / r
across' : (a b c p q r : ℕ) → 0 < p → 0 < q → a * q ≤ b * p → b * r < c * q → a * r < c * p
across' a b c p q r P Q h k =
    lt_of_mul-lt-mul_right q
    (lt_of_le_of_lt (le_trans (le_of_eq (mul_right_comm a r q)) (le_trans (mul-le-mul_right r h) (le_of_eq (mul_right_comm b p r))))
    (lt_of_lt_of_le (mul-lt-mul_of_pos_right k P) (le_of_eq (mul_right_comm c q p))))

-- a product that is zero, of a number above zero, has the other factor zero
gone : (n u : ℕ) → 0 < u → n * u ≤ 0 → n ≡ 0
gone n u U h = elim (eq-zero-or-pos n) [ inl z ↦ z | inr N ↦ let W = mul-pos N U in absurd (omega arith) ]

-- ±a / p < ±b / q
abbrev Below : Bool → ℕ → ℕ → Bool → ℕ → ℕ → Bool
Below s a p t b q = below s (a * q) t (b * p)

module _ (a b c p q r : ℕ) (P : 0 < p) (Q : 0 < q) (R : 0 < r) where
  cut : (s t u : Bool) → T (Below s a p t b q) → T (not (Below u c r t b q)) → T (Below s a p u c r)
  cut false false false h k = lt→ltb (a * r) (c * p) (across a b c p q r Q R (ltb→lt (a * q) (b * p) h) (nltb→le (c * q) (b * r) k))
  cut false false true h k =
      let x = ltb→lt (a * q) (b * p) h in
      let y = nltb→le 0 (c * q + b * r) k in
      let B : 0 < b = first_pos b p (omega arith) in
      let Z = mul-pos B R in
      absurd (omega arith)
  cut false true u h k = absurd h
  cut true false false h k =
      let x = ltb→lt 0 (a * q + b * p) h in
      let y = nltb→le (c * q) (b * r) k in
      lt→ltb 0 (a * r + c * p) (elim (eq-zero-or-pos a) [
        | inl z ↦
            let w : a * q ≡ 0 = rw z (zero-mul q) in
            let B : 0 < b = first_pos b p (omega arith) in
            let Z = mul-pos B R in
            let C : 0 < c = first_pos c q (omega arith) in
            let W = mul-pos C P in
            omega arith
        | inr A ↦ let W = mul-pos A R in omega arith
      ])
  cut true false true h k =
      let x = ltb→lt 0 (a * q + b * p) h in
      let y = nltb→le 0 (c * q + b * r) k in
      let b0 : b ≡ 0 = gone b r R (omega arith) in
      let c0 : c ≡ 0 = gone c q Q (omega arith) in
      let bp : b * p ≡ 0 = rw b0 (zero-mul p) in
      let cp : c * p ≡ 0 = rw c0 (zero-mul p) in
      let A : 0 < a = first_pos a q (omega arith) in
      let W = mul-pos A R in
      lt→ltb (c * p) (a * r) (omega arith)
  cut true true false h k =
      let x = ltb→lt (b * p) (a * q) h in
      let A : 0 < a = first_pos a q (omega arith) in
      let W = mul-pos A R in
      lt→ltb 0 (a * r + c * p) (omega arith)
  cut true true true h k = lt→ltb (c * p) (a * r) (across' c b a r q p R Q (nltb→le (b * r) (c * q) k) (ltb→lt (b * p) (a * q) h))

-- x < y ≤ z
pub cut_lt : (x y z : Float) → T (finite x) → T (finite y) → T (finite z) → T (lt x y) → T (not (lt z y)) → T (lt x z)
unfolding lt
cut_lt nan y z f g h a b = absurd f
cut_lt (inf s) y z f g h a b = absurd f
cut_lt (fin s m e) nan z f g h a b = absurd g
cut_lt (fin s m e) (inf t) z f g h a b = absurd g
cut_lt (fin s m e) (fin t n d) nan f g h a b = absurd h
cut_lt (fin s m e) (fin t n d) (inf u) f g h a b = absurd h
cut_lt (fin s m e) (fin t n d) (fin u o i) f g h a b = cut (m * up e) (n * up d) (o * up i) (down e) (down d) (down i) (down_pos e) (down_pos d) (down_pos i) s t u a b

once : (s t : Bool) (a b : ℕ) → T (below s a t b) → T (not (below t b s a))
once false false a b h = not_T (ltb b a) (λ k. let x = ltb→lt a b h in let y = ltb→lt b a k in omega arith)
once false true a b h = absurd h
once true false a b h = tt
once true true a b h = not_T (ltb a b) (λ k. let x = ltb→lt b a h in let y = ltb→lt a b k in omega arith)

pub lt_asym : (x y : Float) → T (lt x y) → T (not (lt y x))
unfolding lt
lt_asym nan y h = absurd h
lt_asym (inf s) nan h = absurd h
lt_asym (inf true) (inf true) h = absurd h
lt_asym (inf true) (inf false) h = tt
lt_asym (inf false) (inf t) h = absurd h
lt_asym (inf true) (fin t n d) h = tt
lt_asym (inf false) (fin t n d) h = absurd h
lt_asym (fin s m e) nan h = absurd h
lt_asym (fin s m e) (inf true) h = absurd h
lt_asym (fin s m e) (inf false) h = tt
lt_asym (fin s m e) (fin t n d) h = once s t (m * up e * down d) (n * up d * down e) h

self : (s : Bool) (a : ℕ) → T (not (below s a s a))
self false a = not_T (ltb a a) (λ k. lt_irrefl a (ltb→lt a a k))
self true a = not_T (ltb a a) (λ k. lt_irrefl a (ltb→lt a a k))

pub lt_irr : (x : Float) → T (not (lt x x))
unfolding lt
lt_irr nan = tt
lt_irr (inf true) = tt
lt_irr (inf false) = tt
lt_irr (fin s m e) = self s (m * up e * down e)

pub finite_lt_inf : (x : Float) → T (finite x) → T (lt x (inf false))
unfolding lt
finite_lt_inf nan h = absurd h
finite_lt_inf (inf s) h = absurd h
finite_lt_inf (fin s m e) h = tt

-- ---- what follows for any three, and any two
-- x < y < z
pub lt_trans : (x y z : Float) → T (finite x) → T (finite y) → T (finite z) → T (lt x y) → T (lt y z) → T (lt x z)
lt_trans x y z f g h a b = cut_lt x y z f g h a (lt_asym y z b)

-- x ≥ y ≥ z
pub not_lt_trans : (x y z : Float) → T (finite x) → T (finite y) → T (finite z) → T (not (lt x y)) → T (not (lt y z)) → T (not (lt x z))
not_lt_trans x y z f g h a b = not_T (lt x z) (λ k. T_not (lt x y) a (cut_lt x z y f h g k b))

-- x < y, or not
pub lt_or_not : (x y : Float) → T (lt x y) ⊎ T (not (lt x y))
lt_or_not x y = go (lt x y)
  where
    go : (b : Bool) → T b ⊎ T (not b)
    go true = inl tt
    go false = inr tt

-- ---- `==`
sums_to_zero : (a b : ℕ) → a + b ≤ 0 → (a ≡ 0) × (b ≡ 0)
sums_to_zero a b h = (omega arith, omega arith)

zeros : (a b : ℕ) → a ≡ 0 → b ≡ 0 → T (eqb a b && eqb a 0)
zeros a b p q = and_i (eqb a b) (eqb a 0) (eq→eqb (p ∙ sym q)) (eq→eqb p)

level_of_neither : (s t : Bool) (a b : ℕ) → T (not (below s a t b)) → T (not (below t b s a)) → T (level s a t b)
level_of_neither false false a b h k = and_i (eqb a b) true (eq→eqb (le_antisymm (nltb→le b a k) (nltb→le a b h))) tt
level_of_neither false true a b h k = let z = sums_to_zero b a (nltb→le 0 (b + a) k) in zeros a b z.1 z.0
level_of_neither true false a b h k = let z = sums_to_zero a b (nltb→le 0 (a + b) h) in zeros a b z.0 z.1
level_of_neither true true a b h k = and_i (eqb a b) true (eq→eqb (le_antisymm (nltb→le b a h) (nltb→le a b k))) tt

-- neither x < y nor y < x: then they are equal
pub eq_of_neither : (x y : Float) → T (finite x) → T (finite y) → T (not (lt x y)) → T (not (lt y x)) → T (eq x y)
unfolding lt eq
eq_of_neither nan y f g h k = absurd f
eq_of_neither (inf s) y f g h k = absurd f
eq_of_neither (fin s m e) nan f g h k = absurd g
eq_of_neither (fin s m e) (inf t) f g h k = absurd g
eq_of_neither (fin s m e) (fin t n d) f g h k = level_of_neither s t (m * up e * down d) (n * up d * down e) h k

level_not_below : (s t : Bool) (a b : ℕ) → T (level s a t b) → T (not (below t b s a))
level_not_below false false a b h = let e = eqb→eq a b (and_l (eqb a b) true h) in not_T (ltb b a) (λ k. let l = ltb→lt b a k in omega arith)
level_not_below false true a b h =
    let e = eqb→eq a b (and_l (eqb a b) (eqb a 0) h) in
    let z = eqb→eq a 0 (and_r (eqb a b) (eqb a 0) h) in
    not_T (ltb 0 (b + a)) (λ k. let l = ltb→lt 0 (b + a) k in omega arith)
level_not_below true false a b h = tt
level_not_below true true a b h = let e = eqb→eq a b (and_l (eqb a b) true h) in not_T (ltb a b) (λ k. let l = ltb→lt a b k in omega arith)

eq_not_lt : (x y : Float) → T (eq x y) → T (not (lt y x))
unfolding lt eq
eq_not_lt nan y h = absurd h
eq_not_lt (inf s) nan h = absurd h
eq_not_lt (inf true) (inf true) h = tt
eq_not_lt (inf true) (inf false) h = absurd h
eq_not_lt (inf false) (inf true) h = absurd h
eq_not_lt (inf false) (inf false) h = tt
eq_not_lt (inf s) (fin t n d) h = absurd h
eq_not_lt (fin s m e) nan h = absurd h
eq_not_lt (fin s m e) (inf t) h = absurd h
eq_not_lt (fin s m e) (fin t n d) h = level_not_below s t (m * up e * down d) (n * up d * down e) h

-- x ≤ y: then not y < x. Of any floats
pub le_not_lt : (x y : Float) → T (le x y) → T (not (lt y x))
unfolding le
le_not_lt x y h = go (lt x y) (lt_asym x y) h
  where
    go : (b : Bool) → (T b → T (not (lt y x))) → T (b || eq x y) → T (not (lt y x))
    go true k h = k tt
    go false k h = eq_not_lt x y h

-- x ≤ y < z. Of any floats
pub le_lt : (x y z : Float) → T (le x y) → T (lt y z) → T (lt x z)
unfolding lt eq le
le_lt nan y z a b = absurd a
le_lt (inf s) nan z a b = absurd a
le_lt (inf true) (inf true) z a b = b
le_lt (inf true) (inf false) nan a b = absurd b
le_lt (inf true) (inf false) (inf u) a b = absurd b
le_lt (inf true) (inf false) (fin u o i) a b = absurd b
le_lt (inf false) (inf true) z a b = absurd a
le_lt (inf false) (inf false) z a b = b
le_lt (inf true) (fin t n d) nan a b = absurd b
le_lt (inf true) (fin t n d) (inf u) a b = b
le_lt (inf true) (fin t n d) (fin u o i) a b = tt
le_lt (inf false) (fin t n d) z a b = absurd a
le_lt (fin s m e) nan z a b = absurd a
le_lt (fin s m e) (inf true) z a b = absurd a
le_lt (fin s m e) (inf false) nan a b = absurd b
le_lt (fin s m e) (inf false) (inf u) a b = absurd b
le_lt (fin s m e) (inf false) (fin u o i) a b = absurd b
le_lt (fin s m e) (fin t n d) nan a b = absurd b
le_lt (fin s m e) (fin t n d) (inf u) a b = b
le_lt (fin s m e) (fin t n d) (fin u o i) a b = elim (lt_or_not (fin s m e) (fin u o i)) [
  | inl l ↦ l
  | inr l ↦ absurd (T_not (lt (fin t n d) (fin s m e)) (le_not_lt (fin s m e) (fin t n d) a) (cut_lt (fin t n d) (fin u o i) (fin s m e) tt tt tt b l))
]

-- ---- `<=` of any floats
pub or_left : (a b : Bool) → T a → T (a || b)
or_left true b t = tt
or_left false b t = absurd t

pub or_right : (a b : Bool) → T b → T (a || b)
or_right true b t = tt
or_right false b t = t

pub lt_le : (x y : Float) → T (lt x y) → T (le x y)
unfolding le
lt_le x y h = or_left (lt x y) (eq x y) h

pub eq_le : (x y : Float) → T (eq x y) → T (le x y)
unfolding le
eq_le x y h = or_right (lt x y) (eq x y) h

-- what is compared with `<=` is no NaN
pub le_numbers : (x y : Float) → T (le x y) → T (not (is_nan x)) × T (not (is_nan y))
unfolding lt eq le is_nan
le_numbers nan y h = absurd h
le_numbers (inf s) nan h = absurd h
le_numbers (inf s) (inf t) h = (tt, tt)
le_numbers (inf s) (fin t n d) h = (tt, tt)
le_numbers (fin s m e) nan h = absurd h
le_numbers (fin s m e) (inf t) h = (tt, tt)
le_numbers (fin s m e) (fin t n d) h = (tt, tt)

pub finite_number : (x : Float) → T (finite x) → T (not (is_nan x))
unfolding is_nan
finite_number nan h = absurd h
finite_number (inf s) h = tt
finite_number (fin s m e) h = tt

-- x ≤ y, or y < x. Of any floats but NaN
finite_le_or_lt : (x y : Float) → T (finite x) → T (finite y) → T (le x y) ⊎ T (lt y x)
finite_le_or_lt x y f g = elim (lt_or_not y x) [
  | inl l ↦ inr l
  | inr k ↦ inl (elim (lt_or_not x y) [ inl l ↦ lt_le x y l | inr h ↦ eq_le x y (eq_of_neither x y f g h k) ])
]

pub le_or_lt : (x y : Float) → T (not (is_nan x)) → T (not (is_nan y)) → T (le x y) ⊎ T (lt y x)
unfolding lt eq le is_nan
le_or_lt nan y f g = absurd f
le_or_lt (inf s) nan f g = absurd g
le_or_lt (inf true) (inf true) f g = inl tt
le_or_lt (inf true) (inf false) f g = inl tt
le_or_lt (inf false) (inf true) f g = inr tt
le_or_lt (inf false) (inf false) f g = inl tt
le_or_lt (inf true) (fin t n d) f g = inl tt
le_or_lt (inf false) (fin t n d) f g = inr tt
le_or_lt (fin s m e) nan f g = absurd g
le_or_lt (fin s m e) (inf true) f g = inr tt
le_or_lt (fin s m e) (inf false) f g = inl tt
le_or_lt (fin s m e) (fin t n d) f g = finite_le_or_lt (fin s m e) (fin t n d) tt tt

-- x ≤ y ≤ z. Of any floats
pub le_le : (x y z : Float) → T (le x y) → T (le y z) → T (le x z)
le_le x y z a b = elim (le_or_lt x z (le_numbers x y a).0 (le_numbers y z b).1) [
  | inl l ↦ l
  | inr l ↦ absurd (T_not (lt y x) (le_not_lt x y a) (le_lt y z x b l))
]
