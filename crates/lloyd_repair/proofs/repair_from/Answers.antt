-- `lloyd_repair::repair_from` meets its contract: what it reads
-- of the donor is what the repairs so far left. Assumes nothing.
use Rattle.std.proofs.Common.{ℕ, ◌*◌, List, ◌++◌, drop, sym, ap, refl, ◌∙◌, arith}
use lib.Ieee.{of_bits}
use lib.Seq.{length-take-le}
use Rattle.lloyd_search.proofs.Parts.{part_length}
use Rattle.lloyd_repair.specs.Running.{terms_of}
use Rattle.lloyd_repair.proofs.DonorFacts.{below, two, apart, numbered, word_ends, sample_fits, part_far, norm_is}
use Rattle.lloyd_repair.proofs.RepairLaw.{all_undirected, all_used, work_kept, one_more, front_count, front_split, front_event}
use Rattle.lloyd_repair.proofs.repair_from.Goals as goal

pub number_of-number-requires : goal.number_of-number-requires
number_of-number-requires c = numbered c.requires.ready.running c.requires.chosen

pub overflow_mul-at : goal.overflow_mul-at
overflow_mul-at c = let f = sample_fits c.requires.ready.running c.requires.chosen c.number_of-number.result c.number_of-number.ensures in omega arith

pub overflow_add-end : goal.overflow_add-end
overflow_add-end c = let f = sample_fits c.requires.ready.running c.requires.chosen c.number_of-number.result c.number_of-number.ensures in omega arith

pub offset_bounds-samples-at : goal.offset_bounds-samples-at
offset_bounds-samples-at c = let f = sample_fits c.requires.ready.running c.requires.chosen c.number_of-number.result c.number_of-number.ensures in omega arith

pub slice_bounds-far-end : goal.slice_bounds-far-end
slice_bounds-far-end c = sample_fits c.requires.ready.running c.requires.chosen c.number_of-number.result c.number_of-number.ensures

pub overflow_mul-word : goal.overflow_mul-word
overflow_mul-word c = let w = word_ends c.requires.ready.running c.requires.chosen in omega arith

pub overflow_add-word : goal.overflow_add-word
overflow_add-word c = let w = word_ends c.requires.ready.running c.requires.chosen in omega arith

pub residual_norm-norm-requires : goal.residual_norm-norm-requires
residual_norm-norm-requires c =
    let a = c.args in
    let f = sample_fits c.requires.ready.running c.requires.chosen c.number_of-number.result c.number_of-number.ensures in
    let size = part_length a.samples.now c.number_of-number.result a.t.dim (c.number_of-number.result * a.t.dim) refl f in
    let w = word_ends c.requires.ready.running c.requires.chosen in
    omega arith

pub returns-then-norm-clause-turned : goal.returns-then-norm-clause-turned
unfolding of_bits
returns-then-norm-clause-turned c = λ far start r len run.
    let q = c.number_of-number in
    let n = c.residual_norm-norm in
    all_undirected run c.requires.chosen n.result (norm_is run c.requires.chosen q.result q.ensures _ refl ∙ sym n.ensures) c.if-norm.true

pub returns-then-free-used-clause-turned : goal.returns-then-free-used-clause-turned
unfolding of_bits
returns-then-free-used-clause-turned c = λ far start r len run.
    let q = c.number_of-number in
    let n = c.residual_norm-norm in
    all_used run c.requires.chosen n.result (norm_is run c.requires.chosen q.result q.ensures _ refl ∙ sym n.ensures) c.if-norm.false (omega (arith, len, c.if-free-used.true))

pub fill-event-requires : goal.fill-event-requires
fill-event-requires c =
    let a = c.args in
    let q = c.number_of-number in
    let run = c.requires.ready.running in
    let chosen = c.requires.chosen in
    let within = below run chosen in
    let plenty = two run chosen in
    let part-size = part_length a.samples.now q.result a.t.dim (q.result * a.t.dim) refl (sample_fits run chosen q.result q.ensures) in
    rw (length-take-le a.t.cells a.ints.now run.counts, front_count a.t.cells a.donor a.e a.ints.now within, part-size)
    (within, chosen.below, apart run chosen, omega (arith, plenty), run.fit, run.small)

pub returns-clause-turned : goal.returns-clause-turned
unfolding of_bits
returns-clause-turned c = λ far start r len run.
    let a = c.args in
    let q = c.number_of-number in
    let n = c.residual_norm-norm in
    let f = c.fill-event in
    let chosen = c.requires.chosen in
    let within = below run chosen in
    let part-size = part_length a.samples.now q.result a.t.dim (q.result * a.t.dim) refl (sample_fits run chosen q.result q.ensures) in
    one_more run chosen _ n.result part-size f.ensures.work
    (ap (λ (z : List ℕ). z ++ drop a.t.cells a.ints.now) f.ensures.counts ∙ front_split a.t.cells a.donor a.e a.ints.now within chosen.below)
    (part_far run chosen q.result q.ensures _ refl)
    (norm_is run chosen q.result q.ensures _ refl ∙ sym n.ensures) c.if-norm.false (omega (arith, len, c.if-free-used.false)) f.result
    (f.ensures.event ∙ front_event a.t.cells a.donor a.e a.ints.now within (terms_of a.t) a.p a.t.dim a.work.now n.result)

pub returns-clause-kept : goal.returns-clause-kept
returns-clause-kept c =
    let a = c.args in
    let q = c.number_of-number in
    let run = c.requires.ready.running in
    let chosen = c.requires.chosen in
    let part-size = part_length a.samples.now q.result a.t.dim (q.result * a.t.dim) refl (sample_fits run chosen q.result q.ensures) in
    work_kept run chosen _ c.residual_norm-norm.result part-size c.fill-event.ensures.work refl
