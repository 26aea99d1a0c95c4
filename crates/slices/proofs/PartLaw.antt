-- A part of a list that was written as a whole is a list that was patched there. Assumes nothing.
use mathlib.Core.Path.{◌≡◌, refl, sym, ap, ◌∙◌}
use mathlib.Core.List.{List}
use Prim.Native.Nat.{ℕ, zero, suc, ◌+◌, ◌≤◌, ◌<◌}
use native.Mathlib.Nat.{add-zero, add-suc, add_assoc, zero-add}
use native.Mathlib.Omega.{arith}
use lib.ListN.{length, get_or, take, drop, replicate, length-drop, length-replicate, get_or-replicate}
use lib.Seq.{get_or-take, get_or-drop, length-take-le}
use borrow.Rule.Slice.PartMut.{put_mid}
use Rattle.std.proofs.Math.Seq.{paste, paste-zero, paste-suc}
use Rattle.std.proofs.lemmas.Slice.{put_mid-paste}
use Rattle.slices.specs.Lists.{patched}
use Rattle.slices.proofs.ListLaw.{length-patched, patched_inside, patched_next}

module _ {A : Type 0} where
  pub paste_patched : (xs : List A) (at : ℕ) (ys : List A) (n : ℕ) (f : ℕ → A) (d : A) → at + n ≤ length xs → n ≤ length ys → ((j : ℕ) → j < n → get_or ys j d ≡ f j) → paste xs at ys n ≡ patched xs at n f
  unfolding patched
  paste_patched xs at ys zero f d a b h = sym (paste-zero xs at ys)
  paste_patched xs at ys (suc n) f d a b h =
      sym (paste-suc xs at ys n d (omega arith) (omega arith))
      ∙ rw (paste_patched xs at ys n f d (omega arith) (omega arith) (λ j l. h j (omega arith)), h n (omega arith))

  -- as a write to `xs[at..end]` leaves it, where the part now holds ys
  pub part_patched : (xs ys : List A) (at k n : ℕ) (f : ℕ → A) (d : A) → n ≡ k → length ys ≡ n → at + n ≤ length xs → ((j : ℕ) → j < n → get_or ys j d ≡ f j) → put_mid at k xs ys ≡ patched xs at n f
  part_patched xs ys at k n f d e l a h = put_mid-paste at k xs ys ys n refl e (sym l) ∙ paste_patched xs at ys n f d a (omega arith) h

  -- one value at every place
  pub part_filled : (xs ys : List A) (at k n : ℕ) (v : A) → n ≡ k → at + n ≤ length xs → ys ≡ replicate (length (take k (drop at xs))) v → put_mid at k xs ys ≡ patched xs at n (λ j. v)
  part_filled xs ys at k n v e a h =
      let size : length (take k (drop at xs)) ≡ n = length-take-le k (drop at xs) (omega (arith, length-drop at xs)) ∙ sym e in
      part_patched xs ys at k n (λ j. v) v e (ap length h ∙ length-replicate (length (take k (drop at xs))) v ∙ size) a
      (λ j l. ap (λ (z : List A). get_or z j v) h ∙ get_or-replicate (length (take k (drop at xs))) j v v (omega arith))

  -- the next value of a part that is written one place after another is still the first one
  pub part_next : (xs s : List A) (at k j : ℕ) (f : ℕ → A) (d : A) → s ≡ patched (take k (drop at xs)) 0 j f → j < k → get_or s j d ≡ get_or xs (at + j) d
  part_next xs s at k j f d e h = patched_next (take k (drop at xs)) s 0 j j f d e (sym (zero-add j)) ∙ ap (λ (z : ℕ). get_or (take k (drop at xs)) z d) (zero-add j) ∙ get_or-take k (drop at xs) j d h ∙ get_or-drop at xs j d

  -- and the whole is patched where the part is written to its end
  pub part_written : (xs ys : List A) (at k m n : ℕ) (f : ℕ → A) (d : A) → n ≡ k → at + n ≤ length xs → m ≡ length (take k (drop at xs)) → ys ≡ patched (take k (drop at xs)) 0 m f → put_mid at k xs ys ≡ patched xs at n f
  part_written xs ys at k m n f d e a t h =
      let size : length (take k (drop at xs)) ≡ n = length-take-le k (drop at xs) (omega (arith, length-drop at xs)) ∙ sym e in
      part_patched xs ys at k n f d e (ap length h ∙ length-patched (take k (drop at xs)) 0 m f ∙ size) a
      (λ j l. ap (λ (z : List A). get_or z j d) h ∙ ap (λ (z : ℕ). get_or (patched (take k (drop at xs)) 0 m f) z d) (sym (zero-add j)) ∙ patched_inside (take k (drop at xs)) 0 m f j d (omega (arith, zero-add m)) (omega arith))

  -- one part after another
  pub patched_then : (xs : List A) (at n m : ℕ) (f : ℕ → A) → patched (patched xs at n f) (at + n) m (λ j. f (n + j)) ≡ patched xs at (n + m) f
  unfolding patched
  patched_then xs at n zero f = rw add-zero refl
  patched_then xs at n (suc m) f = rw (patched_then xs at n m f, add-suc, add_assoc) refl
