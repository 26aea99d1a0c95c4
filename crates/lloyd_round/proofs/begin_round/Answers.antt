-- `lloyd_round::begin_round` meets its contract: cleared work, the samples added up, and the means. Assumes nothing.
use Rattle.std.proofs.Common.{◌≡◌, length, length-append, arith, sym, ◌∙◌}
use Rattle.lloyd_round.specs.Adding.{front}
use Rattle.lloyd_round.proofs.BeginLaw.{same_room, untouched, cleared_front, none_added, means_left, at_first, held_front}
use Rattle.lloyd_round.proofs.begin_round.Goals as goal

pub add_samples-requires-clause-none : goal.add_samples-requires-clause-none
add_samples-requires-clause-none c =
    let a = c.args in
    let s = c.split_at_mut-counts in
    let n-is = s.ensures.front_len in
    let places : length s.result.1.now ≡ a.n = omega (arith, c.requires.integers) in
    let tallies = c.clear.auto.counts ∙ n-is in
    rw tallies
    (none_added c.requires c.places-p.result c.places-p.ensures c.clear.new.work (rw n-is at c.clear.ensures.work) (front a.n a.k c.clear.new.work) c.clear.new.counts c.fill.new.self
    (rw n-is at c.clear.ensures.counts) (rw places at (c.fill.ensures.after (λ y h. h))))

pub returns : goal.returns
returns c =
    let a = c.args in
    let s = c.split_at_mut-counts in
    let p = c.places-p in
    let v = c.clear.new.work in
    let j = c.add_samples in
    let n-is = s.ensures.front_len in
    let cleared-work = rw n-is at c.clear.ensures.work in
    let tallies = c.clear.auto.counts ∙ n-is in
    let left : length j.new.counts ≡ a.n = j.auto.counts ∙ tallies in
    let places : length j.new.numbers ≡ a.n = omega (arith, c.requires.integers) in
    let floats = j.auto.work ∙ c.clear.auto.work in
    let room = same_room a.n a.k a.count a.samples.now a.work.now j.new.work a.ints.now c.requires floats in
    let sums = rw tallies at j.ensures in
    let is-means = rw left at c.means.ensures in
    record {
      first = λ t codebook ek en h.
          let book : codebook ≡ front a.n a.k v = held_front a.n a.k codebook a.work.now (omega (arith, c.requires.floats)) h ∙ sym (cleared_front c.requires p.result p.ensures v cleared-work) in
          rw book (at_first room (front a.n a.k v) j.new.counts j.new.numbers left places sums.added p.result p.ensures c.means.new.work is-means t ek en);
      kept = (
        c.means.auto.work ∙ floats,
        λ i l.
            (means_left room (front a.n a.k v) j.new.counts j.new.numbers left places sums.added p.result p.ensures c.means.new.work is-means).below i l
            ∙ sums.kept.below i l ∙ untouched c.requires p.result p.ensures v cleared-work i l,
        omega (arith, length-append j.new.counts j.new.numbers),
      );
    }
