-- `narrow::unsigned_f16` meets its contract, case by case. Assumes nothing.
use Rattle.std.proofs.Common.{sym, ◌∙◌, arith, le-ltb, lt-ltb}
use native.Mathlib.Nat.{div-eq_of_lt}
use lib.Ieee.{of_bits}
use Rattle.narrow.proofs.Unpacked.{unpacked_nan, unpacked_inf, unpacked_fin}
use Rattle.narrow.proofs.unsigned_f16.Goals as goal

pub returns-in-0-to-1023 : goal.returns-in-0-to-1023
returns-in-0-to-1023 c =
    let m = c.args.m in
    c.scaled.ensures ∙ sym (unpacked_fin 11 15 m (omega arith) (omega arith) ∙ rw (lt-ltb m 1024 (omega arith), div-eq_of_lt {n = m} {m = 1024} (omega arith)))

pub returns-in-1024-to-31743 : goal.returns-in-1024-to-31743
returns-in-1024-to-31743 c =
    let m = c.args.m in
    c.scaled-in-1024-to-31743.ensures ∙ sym (unpacked_fin 11 15 m (omega arith) (omega arith) ∙ rw (le-ltb m 1024 (omega arith)))

pub returns-in-31744 : goal.returns-in-31744
unfolding of_bits
returns-in-31744 c = sym (unpacked_inf 11 15 c.args.m (omega arith) c.in-31744.is)

pub returns-in_default : goal.returns-in_default
unfolding of_bits
returns-in_default c = sym (unpacked_nan 11 15 c.args.m (omega arith) (omega arith))
