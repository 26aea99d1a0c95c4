-- `lloyd_alone::watch_fours` meets its contract: what either closure gives are the distances of a four. Assumes nothing.
use Rattle.std.proofs.Common.{◌≡◌, sym, ◌∙◌}
use Rattle.lloyd_search.specs.Distance.{vector_of, row_of}
use Rattle.lloyd_alone.proofs.watch_fours.Goals as goal

pub returns-then-block-eq4 : goal.returns-then-block-eq4
returns-then-block-eq4 c =
    let book = c.args.codewords in
    let four : book.dim ≡ 4 = sym c.requires ∙ c.if-block-eq4.true in
    rw four (c.watch_all.ensures 4 (row_of 4 book.values.now) (vector_of c.args.block.now) (λ i far l given. given))

pub returns-else-block-eq4 : goal.returns-else-block-eq4
returns-else-block-eq4 c =
    let book = c.args.codewords in
    c.watch_all-else-block-eq4.ensures book.dim (row_of book.dim book.values.now) (vector_of c.args.block.now) (λ i far l given. rw c.requires at given)
