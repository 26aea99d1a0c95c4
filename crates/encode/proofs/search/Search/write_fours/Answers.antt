-- `Search::write_fours` meets its contract: before a turn the writer stands at the bit of
-- the first of its four indices, and the tied blocks before it are counted. Assumes nothing.
use mathlib.Core.Path.{◌≡◌, refl}
use Prim.Native.Nat.{◌+◌, ◌*◌}
use native.Mathlib.Nat.{zero-mul}
use native.Mathlib.Omega.{arith}
use Rattle.slices.specs.First.{count_where}
use Rattle.slices.proofs.CountLaw.{count_upto}
use Rattle.bitpack.proofs.Packing.{packed_binary}
use Rattle.encode.specs.Encode.{tied_for}
use Rattle.encode.specs.Search.{indices_of}
use Rattle.encode.proofs.IndexLaw.{packing}
use Rattle.encode.proofs.TurnLaw.{inside, first_small, second_small, third_small, fourth_small, first_asks, second_asks, third_asks, fourth_asks, after_fourth, counted}
use Rattle.encode.proofs.search.Search.write_fours.Goals as goal

pub loop-turn-init : goal.loop-turn-init
unfolding count_where
loop-turn-init c =
    let s = c.args.self in
    record { written = rw (zero-mul s.width) (c.new-writer.ensures (packing s) c.args.output.now (packed_binary (indices_of s) s.width)); tied = refl }

pub slice_bounds-search_four_f32-end : goal.slice_bounds-search_four_f32-end
slice_bounds-search_four_f32-end c =
    let l = c.loop-turn in
    inside c.args.self c.args.output.now c.requires l.turn (omega arith) (l.turn * 4 * c.args.self.codewords.dim) refl

pub overflow_cast-found : goal.overflow_cast-found
overflow_cast-found c =
    let l = c.loop-turn in
    let f = c.search_four_f32-found in
    record { fits = first_small c.args.self c.args.output.now c.requires l.turn (omega arith) (l.turn * 4 * c.args.self.codewords.dim) refl f.result f.ensures _ }

pub push-requires : goal.push-requires
push-requires c =
    let l = c.loop-turn in
    let f = c.search_four_f32-found in
    first_asks c.args.self c.args.output.now c.requires l.turn (omega arith) (l.turn * 4 * c.args.self.codewords.dim) refl f.result f.ensures _ l.invariant.written

pub overflow_cast-found-in-loop-turn : goal.overflow_cast-found-in-loop-turn
overflow_cast-found-in-loop-turn c =
    let l = c.loop-turn in
    let f = c.search_four_f32-found in
    record { fits = second_small c.args.self c.args.output.now c.requires l.turn (omega arith) (l.turn * 4 * c.args.self.codewords.dim) refl f.result f.ensures _ }

pub push-requires-in-loop-turn : goal.push-requires-in-loop-turn
push-requires-in-loop-turn c =
    let l = c.loop-turn in
    let f = c.search_four_f32-found in
    second_asks c.args.self c.args.output.now c.requires l.turn (omega arith) (l.turn * 4 * c.args.self.codewords.dim) refl f.result f.ensures _ l.invariant.written c.push.ensures

pub overflow_cast-found-in-loop-turn-2 : goal.overflow_cast-found-in-loop-turn-2
overflow_cast-found-in-loop-turn-2 c =
    let l = c.loop-turn in
    let f = c.search_four_f32-found in
    record { fits = third_small c.args.self c.args.output.now c.requires l.turn (omega arith) (l.turn * 4 * c.args.self.codewords.dim) refl f.result f.ensures _ }

pub push-requires-in-loop-turn-2 : goal.push-requires-in-loop-turn-2
push-requires-in-loop-turn-2 c =
    let l = c.loop-turn in
    let f = c.search_four_f32-found in
    third_asks c.args.self c.args.output.now c.requires l.turn (omega arith) (l.turn * 4 * c.args.self.codewords.dim) refl f.result f.ensures _ l.invariant.written c.push.ensures c.push-in-loop-turn.ensures

pub overflow_cast-found-in-loop-turn-3 : goal.overflow_cast-found-in-loop-turn-3
overflow_cast-found-in-loop-turn-3 c =
    let l = c.loop-turn in
    let f = c.search_four_f32-found in
    record { fits = fourth_small c.args.self c.args.output.now c.requires l.turn (omega arith) (l.turn * 4 * c.args.self.codewords.dim) refl f.result f.ensures _ }

pub push-requires-in-loop-turn-3 : goal.push-requires-in-loop-turn-3
push-requires-in-loop-turn-3 c =
    let l = c.loop-turn in
    let f = c.search_four_f32-found in
    fourth_asks c.args.self c.args.output.now c.requires l.turn (omega arith) (l.turn * 4 * c.args.self.codewords.dim) refl f.result f.ensures _ l.invariant.written c.push.ensures c.push-in-loop-turn.ensures c.push-in-loop-turn-2.ensures

pub overflow_add-tied_blocks : goal.overflow_add-tied_blocks
overflow_add-tied_blocks c =
    let l = c.loop-turn in
    let f = c.search_four_f32-found in
    let e = counted c.args.self c.args.output.now c.requires l.turn (omega arith) (l.turn * 4 * c.args.self.codewords.dim) refl f.result f.ensures l.tied_blocks c.count_four-tied_blocks.result l.invariant.tied c.count_four-tied_blocks.ensures in
    let s = c.args.self in
    record { fits = omega (arith, e, count_upto (tied_for s.codewords.dim s.codewords.count s.codewords.values.now s.values.now) (l.turn * 4 + 4), c.loop-turn-test.true) }

pub loop-turn-preserved : goal.loop-turn-preserved
loop-turn-preserved c =
    let l = c.loop-turn in
    let f = c.search_four_f32-found in
    let e : (l.turn + 1) * 4 ≡ l.turn * 4 + 4 = omega arith in
    let w = after_fourth c.args.self c.args.output.now c.requires l.turn (omega arith) (l.turn * 4 * c.args.self.codewords.dim) refl f.result f.ensures _ l.invariant.written c.push.ensures c.push-in-loop-turn.ensures c.push-in-loop-turn-2.ensures
    c.push-in-loop-turn-3.ensures in
    record {
      written = rw e w;
      tied = rw e (counted c.args.self c.args.output.now c.requires l.turn (omega arith) (l.turn * 4 * c.args.self.codewords.dim) refl f.result f.ensures l.tied_blocks c.count_four-tied_blocks.result l.invariant.tied c.count_four-tied_blocks.ensures);
    }
