-- `encode::write_front` meets its contract: the header fills its part, and the pattern's two bytes come after it.
-- Assumes nothing.
use mathlib.Core.Path.{◌≡◌, ◌∙◌}
use native.Mathlib.Omega.{arith}
use mathlib.Core.List.{List, ◌++◌, append-nil}
use Prim.Native.Nat.{ℕ, ◌≤◌}
use lib.ListN.{length, drop, drop_of_length-le}
use Rattle.slices.specs.Bytes.{bytes_of}
use Rattle.compact.specs.Frame.{header}
use Rattle.encode.proofs.write_front.Goals as goal

joined : (n : ℕ) (head two out rest old : List ℕ) → out ≡ head ++ drop n old → length old ≤ n → rest ≡ two → out ++ rest ≡ head ++ two
joined n head two out rest old e h f = rw (e, f, drop_of_length-le old h, append-nil head)

pub returns : goal.returns
unfolding bytes_of
returns c =
    let a = c.args in
    joined 11 (header a.width a.count 2) (bytes_of 2 a.bits) c.write_header.new.output c.copy_from_slice.new.self c.split_at_mut-head.result.0.now c.write_header.ensures (omega arith)
    (c.copy_from_slice.ensures.after ∙ c.to_le_bytes.ensures)
