-- `narrow::f32_bits_to_f64` meets its contract: the language's library reads a pattern as `unpacked` has it. Assumes nothing.
use mathlib.Core.Path.{sym, ◌∙◌}
use lib.Ieee.{binary32}
use Rattle.narrow.proofs.Unpacked.{unpacked_is}
use Rattle.narrow.proofs.f32_bits_to_f64.Goals as goal

pub returns : goal.returns
returns c = c.f32_to_f64.ensures ∙ c.f32_from_bits_with_nan.ensures ∙ sym (unpacked_is binary32 c.args.b)
