-- The samples of a cell can be counted in rising order, and what is added
-- up over the cell is the sum over them in that order. Assumes nothing.
use mathlib.Core.Path.{◌≡◌, refl, sym, ap, ◌∙◌}
use mathlib.Core.Logic.{inl, inr}
use Prim.Native.Nat.{ℕ, zero, suc, ◌<◌}
use native.Mathlib.Nat.{le_step, lt-suc_self, eq-or-lt_of_le, le_of_suc-le-suc}
use native.Mathlib.Omega.{arith}
use native.Mathlib.Decide.{ℕ_discrete}
use mathlib.Core.Bool.{cond}
use lib.Dec.{ltb}
use lib.Ieee.{Float, binary64, add}
use borrow.Author.Tests.{lt-ltb, le-ltb}
use Rattle.ieee.specs.Sum.{sum_to}
use Rattle.ieee.proofs.Bound.{sum_to_ext}
use Rattle.lloyd_cells.specs.Cells.{count_to, cell_sum}
use Rattle.lloyd_cells.proofs.CellsLaw.{count_to_in, count_to_out, cell_sum_in, cell_sum_out}
use Rattle.claim_rule.specs.Rule.{Members}

-- the members, and the sums over them
pub record Counted (a : ℕ → ℕ) (S i : ℕ) : Type 0 where
  pub member : ℕ → ℕ
  pub members : Members a S i member
  pub sums : (t : ℕ → Float) → cell_sum a t i S ≡ sum_to (λ q. t (member q)) (count_to a i S)

module _ (a : ℕ → ℕ) (i n : ℕ) (h : Counted a n i) where
  abbrev count : ℕ
  count = count_to a i n

  -- sample n is in another cell
  outside : (a n ≡ i → ⊥) → Counted a (suc n) i
  outside o =
      let same = count_to_out a i n o in
      record {
        member = h.member;
        members = record {
          within = λ q l. le_step (h.members.within q (rw same at l));
          in_cell = λ q l. h.members.in_cell q (rw same at l);
          rising = λ p q g l. h.members.rising p q g (rw same at l);
          all = λ s l e. rw same (h.members.all s (elim (eq-or-lt_of_le (le_of_suc-le-suc l)) [ inl q ↦ absurd (o (ap a (sym q) ∙ e)) | inr m ↦ m ]) e);
        };
        sums = λ t. rw (cell_sum_out a i n t o, same) (h.sums t);
      }

  -- it is the last member
  module _ (e : a n ≡ i) where
    one : count_to a i (suc n) ≡ suc count
    one = let k = count_to_in a i n e in omega arith

    abbrev more : ℕ → ℕ
    more q = cond (ltb q count) (h.member q) n

    old : (q : ℕ) → q < count → more q ≡ h.member q
    old q l = rw (lt-ltb q count l)

    new : more count ≡ n
    new = rw (le-ltb count count (omega arith))

    -- what holds of the members and of the last
    each : (P : ℕ → Type 0) → ((q : ℕ) → q < count → P (h.member q)) → P n → (q : ℕ) → q < count_to a i (suc n) → P (more q)
    each P f g q l = let k = one in elim (eq-or-lt_of_le (le_of_suc-le-suc {n = q} {m = count} (omega arith))) [
      | inl z ↦ rw (z, new) g
      | inr m ↦ rw (old q m) (f q m)
    ]

    rising : (p q : ℕ) → p < q → q < count_to a i (suc n) → more p < more q
    rising p q g l = let k = one in elim (eq-or-lt_of_le (le_of_suc-le-suc {n = q} {m = count} (omega arith))) [
      | inl z ↦ let m : p < count = omega arith in rw (z, new, old p m) (h.members.within p m)
      | inr m ↦ rw (old q m, old p (omega arith)) (h.members.rising p q g m)
    ]

    all : (s : ℕ) → s < suc n → a s ≡ i → (q : ℕ) × (q < count_to a i (suc n)) × (more q ≡ s)
    all s l m = let k = one in elim (eq-or-lt_of_le (le_of_suc-le-suc l)) [
      | inl z ↦ (count, omega arith, new ∙ sym z)
      | inr u ↦ let (q, v, w) = h.members.all s u m in (q, omega arith, old q v ∙ w)
    ]

    sums : (t : ℕ → Float) → cell_sum a t i (suc n) ≡ sum_to (λ q. t (more q)) (count_to a i (suc n))
    unfolding sum_to
    sums t =
        rw (cell_sum_in a i n t e, one, new)
        (ap (λ (x : Float). add binary64 x (t n)) (h.sums t ∙ sum_to_ext (λ q. t (h.member q)) (λ q. t (more q)) count (λ q l. ap t (sym (old q l)))))

    inside : Counted a (suc n) i
    inside = record {
      member = more;
      members = record {
        within = each (λ (s : ℕ). s < suc n) (λ q l. le_step (h.members.within q l)) (lt-suc_self n);
        in_cell = each (λ (s : ℕ). a s ≡ i) h.members.in_cell e;
        rising = rising;
        all = all;
      };
      sums = sums;
    }

pub counted : (a : ℕ → ℕ) (i S : ℕ) → Counted a S i
unfolding count_to cell_sum sum_to
counted a i zero = record {
  member = λ q. 0;
  members = record { within = λ q l. absurd (omega arith); in_cell = λ q l. absurd (omega arith); rising = λ p q g l. absurd (omega arith); all = λ s l e. absurd (omega arith) };
  sums = λ t. refl;
}
counted a i (suc n) = elim (ℕ_discrete (a n) i) [ yes e ↦ inside a i n (counted a i n) e | no o ↦ outside a i n (counted a i n) o ]
