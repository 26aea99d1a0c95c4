-- The first place at which a test holds, whether there is one, and how many there are. Definitions only.
use Rattle.std.specs.Prelude.{ℕ, zero, suc, ◌+◌, Bool, false, ◌||◌, cond, Option, None, Some}

-- an earlier place stays; else i where its test holds
abbrev pub or_at : Option ℕ → ℕ → Bool → Option ℕ
or_at (Some j) i t = Some j
or_at None i t = cond t (Some i) None

-- among the places below n
unfoldable pub first_where : (ℕ → Bool) → ℕ → Option ℕ
first_where t zero = None
first_where t (suc n) = or_at (first_where t n) n (t n)

-- whether there is one
unfoldable pub some_where : (ℕ → Bool) → ℕ → Bool
some_where t zero = false
some_where t (suc n) = some_where t n || t n

-- how many there are
unfoldable pub count_where : (ℕ → Bool) → ℕ → ℕ
count_where t zero = 0
count_where t (suc n) = count_where t n + cond (t n) 1 0
