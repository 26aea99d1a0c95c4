-- `metrics::squared_error` meets its contract. The loop's invariant: the sum is that of the elements passed.
-- Assumes nothing.
use Rattle.std.proofs.Common.{refl, add-one}
use Rattle.std.proofs.lemmas.List.{length_push}
use Rattle.std.proofs.lemmas.Slice.Zip.{zip_turn}
use lib.Ieee.{of_bits, nan}
use Rattle.ieee.specs.Sum.{sum_to}
use Rattle.metrics.proofs.squared_error.Goals as goal

pub loop-x-init : goal.loop-x-init
unfolding of_bits sum_to
loop-x-init c = refl

pub loop-x-preserved : goal.loop-x-preserved
unfolding sum_to
loop-x-preserved c =
    let l = c.loop-x in
    let t = zip_turn c.args.left.now c.args.right.now l.yielded c.into_iter-x-iterator.result l.x-iterator c.next.new.self _ (cc) (cc) l.yielded_by (c.in-Some.x, c.in-Some.y) c.in-Some.is c.next.ensures.steps in
    rw (length_push l.yielded (c.in-Some.x, c.in-Some.y), add-one, l.invariant, c.f32_to_f64_with_nan.ensures, c.f32_to_f64_with_nan-in-loop-x.ensures, t.2 nan, t.3 nan)
