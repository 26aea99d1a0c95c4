-- `narrow::f64_to_f32` meets its contract: the pattern is that of the rounded value. Assumes nothing.
use Rattle.std.proofs.Common.{sym, ap, ◌∙◌}
use lib.Ieee.{binary32, of_bits}
use lib.Ieee.Bits.{of_bits-to_bits}
use Rattle.narrow.specs.Pack.{narrow_to}
use Rattle.narrow.proofs.PackLaw.{packed_is, narrow_fits}
use Rattle.narrow.proofs.f64_to_f32.Goals as goal

pub returns : goal.returns
returns c =
    c.f32_from_bits_with_nan.ensures
    ∙ ap (of_bits binary32) (c.f64_to_f32_bits.ensures ∙ sym (packed_is binary32 c.args.x))
    ∙ of_bits-to_bits binary32 (narrow_to binary32 c.args.x) (narrow_fits binary32 c.args.x)
