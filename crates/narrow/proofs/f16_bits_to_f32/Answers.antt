-- `narrow::f16_bits_to_f32` meets its contract: a pattern with the sign's bit set stands for the negative of the rest.
-- Assumes nothing.
use Rattle.std.proofs.Common.{◌≡◌, ◌+◌, ◌-◌, sym, ap, ◌∙◌, arith}
use lib.Ieee.{neg}
use Rattle.narrow.specs.Format.{unpacked}
use Rattle.narrow.proofs.Unpacked.{unpacked_neg}
use Rattle.narrow.proofs.f16_bits_to_f32.Goals as goal

pub returns : goal.returns
returns c =
    let b = c.args.b in
    let e : 32768 + (b - 32768) ≡ b = omega arith in
    ap neg c.unsigned_f16-2.ensures ∙ sym (unpacked_neg 11 15 (b - 32768) (omega arith)) ∙ ap (unpacked 11 15) e
