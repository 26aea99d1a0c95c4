use mathlib.Core.Path.{◌≡◌}
use Prim.Native.Nat.{◌+◌, ◌*◌, ◌-◌, ◌^◌, ◌<◌}
use Rattle.bitpack.specs.Layout.{field, stream_bit}
use Rattle.bitpack.proofs.BitReader.pull.Given as goal

abbrev pub invariant-loop-have : goal.invariant-loop-have
invariant-loop-have l =
    let p = 8 * l.self.byte + l.self.bit in record {
      few : l.have < l.w + 8;
      small : l.held < 2 ^ l.have;
      place : p + l.have ≡ 8 * (l.byte + 1);
      holds : l.held ≡ field (stream_bit l.bytes) p l.have;
    }

abbrev pub decreases-loop-have : goal.decreases-loop-have
decreases-loop-have l = l.w - l.have
