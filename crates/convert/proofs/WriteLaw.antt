-- Writing a frame with another norm, by `writing`, is what `with_norm` says. Assumes nothing.
use mathlib.Core.Path.{◌≡◌, refl, sym, ap, ◌∙◌}
use mathlib.Core.Bool.{Bool, true, false, cond, not}
use mathlib.Core.List.{List, [], ◌∷◌}
use Prim.Native.Nat.{ℕ, ◌+◌, ◌≤◌}
use lib.Dec.{eqb}
use lib.ListN.{length}
use borrow.Author.Tests.{le-ltb}
use Rattle.error.specs.Numbers.{Outcome, completed, refused, whole, if_completed, accepted, contents}
use Rattle.compact.specs.Frame.{Parts, frame_of, writing}
use Rattle.compact.proofs.FrameLaws.{length_frame}
use Rattle.convert.specs.Convert.{with_norm}

module _ (parts : Parts) (norm output : List ℕ) (short : length norm ≤ 65535) where
  abbrev pub frame : List ℕ
  frame = frame_of parts.width parts.count norm parts.indices

  -- the length that both ask for
  sized : eqb (length output) (11 + length norm + length parts.indices) ≡ eqb (length output) (length frame)
  sized = ap (eqb (length output)) (sym (length_frame parts.width parts.count norm parts.indices))

  same_writing : writing norm parts.indices output ≡ cond (not (eqb (length output) (length frame))) (refused 7 (whole 6 ∷ [])) (completed tt)
  unfolding writing
  same_writing = rw (le-ltb 65535 (length norm) short, sized) refl

  refusing : (t : Bool) → cond (not t) (refused 7 (whole 6 ∷ [])) (completed tt) ≡ accepted (cond t (completed frame) (refused 7 (whole 6 ∷ [])))
  refusing true = refl
  refusing false = refl

  leaving : (t : Bool) → if_completed {A = Unit} (cond (not t) (refused 7 (whole 6 ∷ [])) (completed tt)) frame output ≡ contents (cond t (completed frame) (refused 7 (whole 6 ∷ []))) output
  leaving true = refl
  leaving false = refl

  pub written : writing norm parts.indices output ≡ accepted (with_norm (length output) parts norm)
  written = same_writing ∙ refusing (eqb (length output) (length frame))

  pub output_after : if_completed (writing norm parts.indices output) frame output ≡ contents (with_norm (length output) parts norm) output
  output_after = ap (λ (o : Outcome Unit). if_completed o frame output) same_writing ∙ leaving (eqb (length output) (length frame))
