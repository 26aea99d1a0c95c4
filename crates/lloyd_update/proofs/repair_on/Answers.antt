-- `lloyd_update::repair_on` meets its contract: a turn of the repairs says how far the update has come. Assumes nothing.
use Rattle.std.proofs.Common.{◌≡◌, sym, ap, ◌∙◌, Ok, Some, arith}
use Rattle.lloyd_update.specs.Progress.{start_cells, far_of}
use Rattle.lloyd_update.proofs.RepairsLaw.{ready_small, used_small, to_turn, of_turn, goes_on}
use Rattle.lloyd_update.proofs.repair_on.Goals as goal

pub places-requires : goal.places-requires
places-requires c = ready_small c.requires

pub overflow_cast-result : goal.overflow_cast-result
overflow_cast-result c = omega (arith, used_small c.requires)

pub returns-in-Ok-Some : goal.returns-in-Ok-Some
returns-in-Ok-Some c = λ call r same used h.
    let n = c.repair_next in
    let p = c.places in
    let is : n.result ≡ Ok (Some c.in-Ok-Some.repair) = c.in-Ok-Some.is ∙ ap Ok c.in-Ok-Some.field-0-is in
    goes_on h n.new.work n.new.ints c.in-Ok-Some.repair
    (of_turn same p.result p.ensures r n.new.work n.new.ints (Ok (Some c.in-Ok-Some.repair)) (rw is at (n.ensures.turned (far_of call) (start_cells call) r (sym used) (to_turn same p.result p.ensures h))))
