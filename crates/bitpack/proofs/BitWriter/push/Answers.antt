-- `BitWriter::push` meets its contract: the value goes above the bits that are held, and each whole byte is put out.
-- Assumes nothing.
use mathlib.Core.Path.{◌∙◌}
use Prim.Native.Nat.{◌+◌, ◌%◌}
use native.Mathlib.Omega.{arith}
use lib.ListN.{length-set}
use Rattle.bitpack.specs.Cursor.{Writing}
use Rattle.bitpack.proofs.Steps.{shifted, writing_add, writing_put, writing-length}
use Rattle.bitpack.proofs.BitWriter.push.Goals as goal

pub loop-have-preserved : goal.loop-have-preserved
loop-have-preserved c =
    let l = c.loop-have in record {
      same = length-set l.out l.at (l.acc % 256) ∙ l.invariant.same;
      room = omega arith;
      writes = λ f p old r.
          let now : Writing f p old l.out l.at l.acc l.have = l.invariant.writes f p old r in
          writing_put f p old l.out l.at l.acc l.have now c.loop-have-test.true (omega (arith, writing-length f p old l.out l.at l.acc l.have now));
    }

pub returns : goal.returns
returns c =
    let a = c.args in
    let w = a.self.now in
    λ f p old r v. record {
      few = c.loop-have-test.false;
      writing = c.loop-have.invariant.writes f (p + a.width) old
          (rw (shifted a.value w.have c.ranges.value.fits (omega (arith, c.requires.few)))
          (writing_add f p old a.out.now w.at w.acc w.have a.value a.width r.writing v));
    }
