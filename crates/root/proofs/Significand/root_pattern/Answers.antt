-- `root::Significand::root_pattern` meets its contract, by the law of the rounded root. Assumes nothing.
use Rattle.std.proofs.Common.{◌*◌, ◌^◌, refl, arith, pow_pos}
use Rattle.root.proofs.Rounded.{root_is}
use Rattle.root.proofs.Significand.root_pattern.Goals as goal

pub returns : goal.returns
returns c =
    let s = c.args.self in
    let r = c.integer_root-r.ensures in
    let law = root_is (s.sig * 2 ^ s.h) (2 ^ 1126) s.sig s.h
    (record { some = pow_pos 1126; low = s.digits.0; high = s.digits.1; reach = s.reach; same = refl }) in
    omega arith
