-- `root::integer_root` meets its contract, by one digit of the root at a time (proofs/Steps.antt). Assumes nothing.
use Rattle.std.proofs.Common.{◌≡◌, ℕ, ◌<◌, ◌≤◌, subst, arith}
use Rattle.root.proofs.Steps.{State, bounded, one_more, no_more, all_steps}
use Rattle.root.proofs.integer_root.Goals as goal
use Rattle.root.proofs.integer_root.Goals.{else-least-next, then-least-next}

-- one step, with the bound
step : {sig a r m i : ℕ} → State sig a r m i → i ≤ 54 → record { state : State sig a r m i; few : r < 0x40000000000000 }
step {sig} {a} {r} {m} {i} h l = record { state = h; few = bounded sig a r m i h l }

pub loop-preserved : goal.loop-preserved
loop-preserved c =
    let l = c.loop in
    let s = l.invariant.state in
    elim c.if-least-next.branch [
      | then-least-next w ↦ rw (w.root-is, w.rest-is) (step (one_more c.args.sig l.digits l.root l.rest l.counter s w.if-least-next.true) (omega arith))
      | else-least-next w ↦ rw (w.root-is, w.rest-is) (step (no_more c.args.sig l.digits l.root l.rest l.counter s w.if-least-next.false) (omega arith))
    ]

pub returns : goal.returns
returns c =
    let l = c.loop in
    let all : l.counter ≡ 54 = omega arith in
    all_steps c.args.sig l.digits l.root l.rest (subst (State c.args.sig l.digits l.root l.rest) all l.invariant.state)
