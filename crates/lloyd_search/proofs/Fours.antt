-- Four codewords that stand one after another, and a search that passes them. Assumes nothing.
use Rattle.std.proofs.Common.{◌≡◌, ℕ, zero, suc, ◌+◌, ◌<◌, List, Float, refl, ap, ◌∙◌, arith, add-zero}
use Rattle.lloyd_search.specs.declared.Choice.{Choice}
use Rattle.lloyd_search.specs.Distance.{distance, vector_of}
use Rattle.lloyd_search.specs.Choice.{choice, chosen, passing_all}
use Rattle.lloyd_search.specs.Four.{four_from}
use Rattle.lloyd_search.proofs.NearestLaw.{one_more}

-- the choice after m more is that among so many codewords more
pub all_more : (d : ℕ → Float) (i m : ℕ) (best : Choice) (far : ℕ → Float) → best ≡ choice d i → ((j : ℕ) → j < m → far j ≡ d (i + j)) → passing_all best i far m ≡ choice d (i + m)
all_more d i zero best far h e = rw add-zero h
all_more d i (suc m) best far h e =
    one_more d (i + m) (i + suc m) (passing_all best i far m) (passing_all best i far (suc m)) (far m) (omega arith) (all_more d i m best far h (λ j l. e j (omega arith))) (e m (omega arith)) refl

-- each of four distances is that of its codeword
pub four_each : (k : ℕ) (x : ℕ → Float) (book : ℕ → ℕ → Float) (i j : ℕ) → j < 4 → vector_of (four_from k x book i) j ≡ distance k x (book (i + j))
four_each k x book i zero l = rw add-zero refl
four_each k x book i (suc zero) l = refl
four_each k x book i (suc (suc zero)) l = refl
four_each k x book i (suc (suc (suc zero))) l = refl
four_each k x book i (suc (suc (suc (suc j)))) l = absurd (omega arith)

-- four more codewords of a search
pub four_more : (k : ℕ) (x : ℕ → Float) (book : ℕ → ℕ → Float) (i : ℕ) (best : Choice) (four : List Float) (r : Choice) → best ≡ chosen k i book x → four ≡ four_from k x book i → r ≡ passing_all best i (vector_of four) 4
    → r ≡ chosen k (i + 4) book x
four_more k x book i best four r h e p =
    p ∙ all_more (λ m. distance k x (book m)) i 4 best (vector_of four) h (λ j l. ap (λ (f : List Float). vector_of f j) e ∙ four_each k x book i j l)
