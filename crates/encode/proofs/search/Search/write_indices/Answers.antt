-- `Search::write_indices` meets its contract: from where the fours end, the writer stands at bit i * width of the
-- packing of the nearest codewords before block i, and the tied blocks before it are counted. Assumes nothing.
use mathlib.Core.Path.{◌≡◌, refl, ap, ◌∙◌}
use Prim.Native.Nat.{ℕ, ◌+◌, ◌*◌}
use native.Mathlib.Nat.{mul-le-mul_right}
use native.Mathlib.Omega.{arith}
use lib.ListN.{length}
use Rattle.slices.proofs.TabulateLaw.{filled_all}
use Rattle.slices.proofs.CountLaw.{count_upto, one_counted}
use Rattle.bitpack.specs.Layout.{packed_bytes, byte_of, bytes_for}
use Rattle.bitpack.proofs.Packing.{packed_after}
use Rattle.bitpack.proofs.Steps.{finishable, writing-length}
use Rattle.lloyd_search.specs.declared.Choice.{Choice}
use Rattle.lloyd_search.specs.Distance.{row_of}
use Rattle.lloyd_search.specs.Choice.{chosen}
use Rattle.lloyd_search.proofs.Parts.{part_chosen}
use Rattle.encode.specs.Encode.{tied_for}
use Rattle.encode.specs.Search.{indices_of, tied_of}
use Rattle.encode.proofs.EncodeLaw.{length_indices, mark_counted}
use Rattle.encode.proofs.IndexLaw.{packing, index_small, index_pushable, index_pushed}
use Rattle.encode.proofs.search.Search.write_indices.Goals as goal

pub overflow_cast-index : goal.overflow_cast-index
overflow_cast-index c =
    let s = c.args.self in
    let l = c.loop-i in
    let k = s.codewords.dim in
    let chooses : c.search-choice.result ≡ chosen k s.codewords.count (row_of k s.codewords.values.now) (row_of k s.values.now l.i) =
    c.search-choice.ensures ∙ part_chosen (row_of k s.codewords.values.now) s.values.now s.codewords.count l.i k (l.i * k) refl in
    record { fits = index_small s l.i _ (ap (λ (r : Choice). r.found.index) chooses) }

pub push-requires : goal.push-requires
push-requires c =
    let s = c.args.self in
    let l = c.loop-i in
    let k = s.codewords.dim in
    let chooses : c.search-choice.result ≡ chosen k s.codewords.count (row_of k s.codewords.values.now) (row_of k s.values.now l.i) =
    c.search-choice.ensures ∙ part_chosen (row_of k s.codewords.values.now) s.values.now s.codewords.count l.i k (l.i * k) refl in
    let room : length c.write_fours-fours.new.output ≡ length c.args.output.now =
    writing-length _ _ _ _ _ _ _ c.write_fours-fours.ensures.0.writing in
    index_pushable s l.i _ (ap (λ (r : Choice). r.found.index) chooses) c.loop-i-test.true (room ∙ c.requires) l.invariant.writes

pub overflow_add-tied_blocks : goal.overflow_add-tied_blocks
overflow_add-tied_blocks c =
    let s = c.args.self in
    let l = c.loop-i in
    let k = s.codewords.dim in
    let chooses : c.search-choice.result ≡ chosen k s.codewords.count (row_of k s.codewords.values.now) (row_of k s.values.now l.i) =
    c.search-choice.ensures ∙ part_chosen (row_of k s.codewords.values.now) s.values.now s.codewords.count l.i k (l.i * k) refl in
    let counted : l.tied_blocks + c.count_one-tied_blocks.result ≡ tied_of s (l.i + 1) =
    one_counted (tied_for k s.codewords.count s.codewords.values.now s.values.now) l.i l.tied_blocks c.count_one-tied_blocks.result l.invariant.counted
    (c.count_one-tied_blocks.ensures ∙ mark_counted k s.codewords.count l.i s.codewords.values.now s.values.now _ chooses) in
    record { fits = omega (arith, counted, count_upto (tied_for k s.codewords.count s.codewords.values.now s.values.now) (l.i + 1), c.loop-i-test.true) }

pub loop-i-preserved : goal.loop-i-preserved
loop-i-preserved c =
    let s = c.args.self in
    let l = c.loop-i in
    let k = s.codewords.dim in
    let chooses : c.search-choice.result ≡ chosen k s.codewords.count (row_of k s.codewords.values.now) (row_of k s.values.now l.i) =
    c.search-choice.ensures ∙ part_chosen (row_of k s.codewords.values.now) s.values.now s.codewords.count l.i k (l.i * k) refl in
    let counted : l.tied_blocks + c.count_one-tied_blocks.result ≡ tied_of s (l.i + 1) =
    one_counted (tied_for k s.codewords.count s.codewords.values.now s.values.now) l.i l.tied_blocks c.count_one-tied_blocks.result l.invariant.counted
    (c.count_one-tied_blocks.ensures ∙ mark_counted k s.codewords.count l.i s.codewords.values.now s.values.now _ chooses) in
    record {
      few = omega arith;
      writes = index_pushed s l.i _ (ap (λ (r : Choice). r.found.index) chooses) c.loop-i-test.true (l.i + 1) refl l.invariant.writes c.push.ensures;
      counted = counted;
    }

pub finish-requires : goal.finish-requires
finish-requires c =
    let s = c.args.self in
    let l = c.loop-i in
    let room : length c.write_fours-fours.new.output ≡ length c.args.output.now =
    writing-length _ _ _ _ _ _ _ c.write_fours-fours.ensures.0.writing in
    finishable (packing s) (l.i * s.width) _ l.output l.writer l.invariant.writes (omega (arith, c.requires, room, mul-le-mul_right s.width l.invariant.few))

pub returns : goal.returns
returns c =
    let s = c.args.self in
    let l = c.loop-i in
    let room : length c.write_fours-fours.new.output ≡ length c.args.output.now =
    writing-length _ _ _ _ _ _ _ c.write_fours-fours.ensures.0.writing in
    let f = packing s in
    let len = length_indices s.count s.codewords.dim s.codewords.count s.codewords.values.now s.values.now in
    let e : l.i ≡ length (indices_of s) = rw len (omega arith) in
    let packed : c.finish.new.out ≡ packed_bytes (indices_of s) s.width =
    c.finish.ensures f (length (indices_of s) * s.width) _ (rw e at l.invariant.writes) (packed_after (indices_of s) s.width)
    ∙ filled_all (bytes_for (length (indices_of s) * s.width)) (byte_of f) _ (omega (arith, c.requires, room, ap (λ (m : ℕ). m * s.width) len)) in
    let all : l.i ≡ s.count = omega arith in
    (packed, rw (← all) l.invariant.counted)
