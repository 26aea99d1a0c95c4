-- `codebook::codeword` meets its contract: what `widen_row` patched is the whole output. Assumes nothing.
use Rattle.std.proofs.Common.{◌≡◌, ℕ, true, length, sym, ap, ◌∙◌, eq-eqb, lt-ltb}
use lib.Ieee.{Float, nan}
use Rattle.slices.specs.Lists.{tabulate, patched}
use Rattle.slices.proofs.ListLaw.{patched_all}
use Rattle.lloyd_search.specs.Shape.{codebook_shaped}
use Rattle.lloyd_search.specs.Distance.{row_of}
use Rattle.codebook.specs.Codebook.{codeword_alone}
use Rattle.codebook.proofs.codeword.Goals as goal

pub returns : goal.returns
unfolding codeword_alone
returns c =
    let a = c.args in
    let shaped : codebook_shaped a.codebook_size a.block_dim (length a.codewords.now) ≡ true = sym c.codebook_shaped.ensures ∙ c.if-not-codebook_shaped.false in
    let l : length a.output.now ≡ a.block_dim = c.if-output-block_dim.false in
    let row : ℕ → Float = row_of a.block_dim a.codewords.now a.index in
    let w = eq-eqb (length a.output.now) a.block_dim l in
    let i = lt-ltb a.index a.codebook_size c.if-index-codebook_size.false in (
      rw (shaped, w, i),
      rw (shaped, w, i)
          (c.widen_row.ensures
          ∙ ap (λ (n : ℕ). patched a.output.now 0 n row) (sym l)
          ∙ patched_all a.output.now row nan
          ∙ ap (λ (n : ℕ). tabulate n row) l),
    )
