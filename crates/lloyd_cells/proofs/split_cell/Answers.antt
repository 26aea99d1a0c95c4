-- `lloyd_cells::split_cell` meets its contract: the words of two cells lie apart. Assumes nothing.
use Prim.Native.Nat.{ℕ, ◌+◌, ◌*◌, ◌≤◌, ◌<◌}
use lib.ListN.{length}
use Rattle.lloyd_cells.proofs.FitLaw.{word_within, words_apart}
use Rattle.lloyd_cells.proofs.split_cell.Goals as goal

pub move_to-requires : goal.move_to-requires
move_to-requires c =
    let a = c.args in
    let within : (i : ℕ) → i < length a.counts.now → a.p.words + i * length a.far.now + length a.far.now ≤ length a.work.now = λ i h. word_within a.p (length a.counts.now) (length a.far.now) (length a.work.now) i c.requires.4 h in
    (within a.donor c.requires.0, within a.empty c.requires.1, words_apart a.p (length a.far.now) a.donor a.empty c.requires.2)
