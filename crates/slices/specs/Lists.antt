-- Lists by their elements. Definitions only.
use Rattle.std.specs.Prelude.{ℕ, zero, suc, ◌+◌, ◌*◌, ◌/◌, ◌%◌, List, [], ◌∷◌, ◌++◌, set, drop}

-- f 0, f 1, .., f (n - 1)
unfoldable pub tabulate : {A : Type 0} → ℕ → (ℕ → A) → List A
tabulate zero f = []
tabulate (suc n) f = f 0 ∷ tabulate n (λ i. f (suc i))

-- l with its first n elements replaced by f 0, .., f (n - 1)
abbrev pub filled : {A : Type 0} → ℕ → (ℕ → A) → List A → List A
filled n f l = tabulate n f ++ drop n l

-- xs with f 0, .., f (n - 1) at the n places from `at` on
unfoldable pub patched : {A : Type 0} → List A → ℕ → ℕ → (ℕ → A) → List A
patched xs at zero f = xs
patched xs at (suc n) f = set (patched xs at n f) (at + n) (f n)

-- n rows of k elements each, one after another
abbrev pub words_of : {A : Type 0} → ℕ → ℕ → (ℕ → ℕ → A) → List A
words_of n k word = tabulate (n * k) (λ i. word (i / k) (i % k))
