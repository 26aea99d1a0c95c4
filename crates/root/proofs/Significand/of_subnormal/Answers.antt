-- `root::Significand::of_subnormal` meets its contract: t has h + 1 digits, and moved up by 52 - h places it has 53.
-- Assumes nothing.
use Rattle.std.proofs.Common.{◌≡◌, ℕ, ◌+◌, ◌-◌, ◌*◌, ◌%◌, ◌^◌, ◌<◌, ◌≤◌, sym, ap, ◌∙◌, lt_of_not-le, not-le_of_lt, lt_of_lt_of_le, le_of_lt, mul_assoc, mul-le-mul_right, mul-lt-mul_of_pos_right, mod-eq_of_lt, arith, pow_pos, pow_mono, pow-add}
use Rattle.root.specs.Parts.{Normal}
use Rattle.root.proofs.Significand.of_subnormal.Goals as goal

-- h is at most 51, and nothing is shifted out
few : (t h : ℕ) → 2 ^ h ≤ t → t < 2 ^ 52 → h ≤ 52
few t h l u = le_of_lt (lt_of_not-le (λ (g : 52 ≤ h). not-le_of_lt (lt_of_lt_of_le u (pow_mono g)) l))

normal : {t h : ℕ} → 2 ^ h ≤ t → t < 2 * 2 ^ h → t < 2 ^ 52 → Normal t (t * 2 ^ (52 - h) % 18446744073709551616) h
normal {t} {h} l u v =
    let f = few t h l v in
    let back : 52 - h + h ≡ 52 = omega arith in
    let whole : 2 ^ (52 - h) * 2 ^ h ≡ 2 ^ 52 = sym (pow-add 2 (52 - h) h) ∙ ap (λ (x : ℕ). 2 ^ x) back in
    let low : 2 ^ h * 2 ^ (52 - h) ≤ t * 2 ^ (52 - h) = mul-le-mul_right (2 ^ (52 - h)) l in
    let high : t * 2 ^ (52 - h) < 2 * 2 ^ h * 2 ^ (52 - h) = mul-lt-mul_of_pos_right u (pow_pos (52 - h)) in
    let kept : t * 2 ^ (52 - h) % 18446744073709551616 ≡ t * 2 ^ (52 - h) = mod-eq_of_lt (omega arith) in
    record { low = omega arith; high = omega arith; few = f; same = rw kept (mul_assoc t (2 ^ (52 - h)) (2 ^ h) ∙ ap (λ (x : ℕ). t * x) whole) }

pub overflow_sub-result : goal.overflow_sub-result
overflow_sub-result c = few c.args.t c.ilog2-h.result c.ilog2-h.ensures.power_le c.requires.1

pub invariant_of-result : goal.invariant_of-result
invariant_of-result c =
    let e = c.ilog2-h.ensures in
    let n = normal e.power_le e.next_power_gt c.requires.1 in
    record { digits = (n.low, n.high); reach = omega arith }

pub returns : goal.returns
returns c = let e = c.ilog2-h.ensures in normal e.power_le e.next_power_gt c.requires.1
