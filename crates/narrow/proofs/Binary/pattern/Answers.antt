-- `narrow::Binary::pattern` meets its contract: the pattern that `narrowed` gives is that of x's own value. Assumes
-- nothing.
use Rattle.std.proofs.Common.{T, sym, subst}
use lib.Ieee.{binary64}
use lib.Ieee.Bits.{of_bits-to_bits}
use Rattle.narrow.proofs.Fields.{packed_lt}
use Rattle.narrow.proofs.Binary.pattern.Goals as goal

pub returns-clause-value : goal.returns-clause-value
returns-clause-value c = rw (c.narrowed.ensures, c.f64_to_bits_with_nan.ensures, of_bits-to_bits binary64 c.args.x (subst T (sym c.well_formed.1.0.1) tt))

pub returns-clause-bound : goal.returns-clause-bound
returns-clause-bound c = rw (returns-clause-value c) (packed_lt c.args.self.digits c.args.self.emax c.args.x)
