-- `around::codewords_within` meets its contract: what its checks have shown is what the loop asks. Assumes nothing.
use Rattle.std.proofs.Common.{sym, arith, length}
use borrow.Author.Tests.{eqb-true}
use Rattle.around.specs.Around.{query}
use Rattle.around.proofs.SoundLaw.{sound_means}
use Rattle.around.proofs.codewords_within.Goals as goal

pub invariant_of-book : goal.invariant_of-book
invariant_of-book c =
    let a = c.args in
    let (p, fits) = sound_means (query a.codebook_size a.block_dim a.codewords.now a.block.now) _ (sym c.in_ok-check_sound.ensures) in
    record { shape = p.shape.length_is; widens = p.codewords_finite }

pub gather-requires : goal.gather-requires
gather-requires c =
    let a = c.args in
    let (p, fits) = sound_means (query a.codebook_size a.block_dim a.codewords.now a.block.now) _ (sym c.in_ok-check_sound.ensures) in
    (p.block_length, p.block_finite, eqb-true (length a.numbers.now) a.codebook_size fits, omega (arith, p.shape.codewords_upto))
