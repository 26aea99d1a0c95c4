-- `Search::write_frame` meets its contract: the first 13 bytes, and the packed indices after them. Assumes nothing.
use mathlib.Core.Path.{◌≡◌}
use mathlib.Core.List.{List, ◌++◌, append_assoc}
use Prim.Native.Nat.{ℕ}
use Rattle.slices.specs.Bytes.{bytes_of}
use Rattle.compact.specs.Frame.{header, frame_of}
use Rattle.encode.proofs.search.Search.write_frame.Goals as goal

-- header, norm and indices are the frame
framed : (width count bits : ℕ) (front indices l : List ℕ) → front ≡ header width count 2 ++ bytes_of 2 bits → indices ≡ l → front ++ indices ≡ frame_of width count (bytes_of 2 bits) l
unfolding frame_of bytes_of
framed width count bits front indices l e f = rw (e, f, append_assoc (header width count 2))

pub returns : goal.returns
returns c =
    let s = c.args.self in
    let i = c.write_indices.ensures in
    (framed s.width s.count c.args.bits c.write_front.new.output c.write_indices.new.output _ c.write_front.ensures i.0, i.1)
