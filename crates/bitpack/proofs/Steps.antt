-- The steps of a reader and of a writer: bits are held, a field taken; a field is added, a byte put out. And what a
-- step asks follows from where the reader or the writer stands. Assumes nothing.
use Prim.Native.Nat.{ℕ, suc, ◌+◌, ◌*◌, ◌-◌, ◌/◌, ◌%◌, ◌^◌, ◌<◌, ◌≤◌}
use mathlib.Core.Path.{◌≡◌, refl, sym, ap, ◌∙◌}
use mathlib.Core.List.{List}
use native.Mathlib.Nat.{add_comm, mul-le-mul_right, suc-mul, one-mul}
use native.Mathlib.Numerals.{add-one}
use native.Mathlib.Omega.{arith}
use lib.ListN.{length, get_or, set, length-append, length-drop}
use lib.Pow.{pow-add, shl_exact}
use lib.Bits.{bit_and, and_mask}
use Rattle.slices.specs.Lists.{filled}
use Rattle.slices.proofs.TabulateLaw.{length-tabulate, filled_with}
use Rattle.bitpack.specs.Layout.{field, stream_bit, byte_of, bytes_for}
use Rattle.bitpack.specs.Cursor.{ReaderAt, Pullable, PulledAt, Writing, WriterAt, Pushable, Finishable}
use Rattle.bitpack.specs.declared.BitReader.{BitReader}
use Rattle.bitpack.specs.declared.BitWriter.{BitWriter}
use Rattle.bitpack.specs.declared.packed.PackedIndices.{PackedIndices}
use Rattle.bitpack.proofs.Fields.{field_zero, field_add, field_lt, field_mod, field_div}
use Rattle.bitpack.proofs.Packing.{stream_binary, field_whole}

-- the program's shifts lose nothing, and its mask is a remainder
pub shifted : (a k : ℕ) → a < 2 ^ 32 → k < 32 → a * 2 ^ k % 18446744073709551616 ≡ a * 2 ^ k
shifted a k l h = shl_exact 32 k 64 l (omega arith)

pub power : (w : ℕ) → w ≤ 32 → 1 * 2 ^ w % 18446744073709551616 ≡ 2 ^ w
power w l = shl_exact {a = 1} 1 w 64 (omega arith) (omega arith) ∙ one-mul (2 ^ w)

masked : (acc w : ℕ) → w ≤ 32 → bit_and acc (1 * 2 ^ w % 18446744073709551616 - 1) ≡ acc % 2 ^ w
masked acc w l = rw (power w l) (and_mask acc w)

-- bits above those held make a value below the next power
pub load_small : (acc have b k : ℕ) → acc < 2 ^ have → b < 2 ^ k → acc + b * 2 ^ have < 2 ^ (have + k)
load_small acc have b k small l =
    rw (add_comm have k, pow-add 2 k have) (omega (arith, mul-le-mul_right {m = suc b} {n = 2 ^ k} (2 ^ have) l, suc-mul b (2 ^ have)))

-- index i + 1 of width w starts where index i ends, and the last of n ends at n * w
pub next_place : (i w : ℕ) → (i + 1) * w ≡ i * w + w
next_place i w = rw add-one (suc-mul i w)

pub next_within : (i n w : ℕ) → i < n → i * w + w ≤ n * w
next_within i n w l = omega (arith, mul-le-mul_right {m = suc i} {n = n} w l, suc-mul i w)

-- the next byte, above the bits from p on that a reader holds
pub held_next : (bytes : List ℕ) (p b held have : ℕ) → held ≡ field (stream_bit bytes) p have → p + have ≡ 8 * b → get_or bytes b 0 < 256
    → held + get_or bytes b 0 * 2 ^ have ≡ field (stream_bit bytes) p (have + 8)
held_next bytes p b held have e place small = rw (field_add (stream_bit bytes) p have 8, ← e, place, field_whole bytes b small)

-- n bits make a value below 2 ^ n
pub held_small : (bytes : List ℕ) (p held have : ℕ) → held ≡ field (stream_bit bytes) p have → held < 2 ^ have
held_small bytes p held have e = rw e (field_lt (stream_bit bytes) p have (stream_binary bytes))

-- the low w of the bits that a reader holds
pub held_taken : (bytes : List ℕ) (p held have w : ℕ) → held ≡ field (stream_bit bytes) p have → w ≤ 32 → w ≤ have
    → bit_and held (1 * 2 ^ w % 18446744073709551616 - 1) ≡ field (stream_bit bytes) p w
held_taken bytes p held have w e narrow l =
    let split : have ≡ w + (have - w) = omega arith in
    masked held w narrow ∙ rw (e, split) (field_mod (stream_bit bytes) p w (have - w) (stream_binary bytes))

-- along a packing, before index i of it: what a pull asks
pub pullable : (packed : PackedIndices) (i : ℕ) {reader : BitReader} → ReaderAt packed.bytes.now (i * packed.width) reader → i < packed.count
    → Pullable packed.width reader
pullable packed i {reader} r l =
    let last = next_within i packed.count packed.width l in
    record { within = r.within; some = packed.some; narrow = packed.narrow; enough = rw r.of (omega (arith, r.place, packed.whole)) }

-- and where it leaves the reader: before the next index
pub next_index : (packed : PackedIndices) (i : ℕ) {value : ℕ} {reader : BitReader} → PulledAt packed.bytes.now (i * packed.width) packed.width value reader
    → ReaderAt packed.bytes.now ((i + 1) * packed.width) reader
next_index packed i r = rw (next_place i packed.width) r.next

-- a field added above the bits that are held
pub writing_add : (f : ℕ → ℕ) (p : ℕ) (old out : List ℕ) (at acc have value w : ℕ) → Writing f p old out at acc have → value ≡ field f p w
    → Writing f (p + w) old out at (acc + value * 2 ^ have) (have + w)
writing_add f p old out at acc have value w r v =
    let place = r.place in
    record {
      binary = r.binary;
      place = omega arith;
      held = rw (field_add f (8 * at) have w, ← r.held, ← r.place, ← v);
      within = r.within;
      done = r.done;
    }

-- the low byte put out
pub writing_put : (f : ℕ → ℕ) (p : ℕ) (old out : List ℕ) (at acc have : ℕ) → Writing f p old out at acc have → 8 ≤ have → at < length old
    → Writing f p old (set out at (acc % 256)) (at + 1) (acc / 256) (have - 8)
writing_put f p old out at acc have r l h =
    let place = r.place in
    let e : 8 + (have - 8) ≡ have = omega arith in
    let next : 8 * at + 8 ≡ 8 * (at + 1) = omega arith in
    record {
      binary = r.binary;
      place = omega arith;
      held = rw (← next) (rw r.held (ap (λ (n : ℕ). field f (8 * at) n / 256) (sym e) ∙ field_div f (8 * at) 8 (have - 8) r.binary));
      within = omega arith;
      done = rw r.done
          (filled_with at (at + 1) (byte_of f) old (acc % 256) h refl
          (rw r.held (ap (λ (n : ℕ). field f (8 * at) n % 256) (sym e) ∙ field_mod f (8 * at) 8 (have - 8) r.binary)));
    }

pub writing-length : (f : ℕ → ℕ) (p : ℕ) (old out : List ℕ) (at acc have : ℕ) → Writing f p old out at acc have → length out ≡ length old
writing-length f p old out at acc have r = rw (r.done, length-append, length-tabulate, length-drop) (omega (arith, r.within))

pub writing_small : (f : ℕ → ℕ) (p : ℕ) (old out : List ℕ) (at acc have : ℕ) → Writing f p old out at acc have → acc < 2 ^ have
writing_small f p old out at acc have r = rw r.held (field_lt f (8 * at) have r.binary)

-- what a push asks, where the writer stands
pub pushable : (f : ℕ → ℕ) (p : ℕ) (old out : List ℕ) (value w : ℕ) (writer : BitWriter) → WriterAt f p old out writer → value ≡ field f p w
    → w ≤ 32 → p + w ≤ 8 * length old → Pushable out value w writer
pushable f p old out value w writer r v l room =
    let place = r.writing.place in
    let same = writing-length f p old out writer.at writer.acc writer.have r.writing in
    record {
      few = r.few;
      small = writing_small f p old out writer.at writer.acc writer.have r.writing;
      fits = rw v (field_lt f p w r.writing.binary);
      narrow = l;
      room = omega arith;
    }

-- what the end asks, where the writer stands
pub finishable : (f : ℕ → ℕ) (p : ℕ) (old out : List ℕ) (writer : BitWriter) → WriterAt f p old out writer → p ≤ 8 * length old → Finishable out writer
finishable f p old out writer r room =
    let place = r.writing.place in
    let same = writing-length f p old out writer.at writer.acc writer.have r.writing in
    record {
      few = r.few;
      small = writing_small f p old out writer.at writer.acc writer.have r.writing;
      room = omega arith;
    }

-- the end of a stream that has no bit set from p on: the last byte is what is held
pub finish_part : (f : ℕ → ℕ) (p : ℕ) (old out : List ℕ) (writer : BitWriter) → WriterAt f p old out writer → 0 < writer.have → 8 * writer.at + writer.have ≤ 8 * length out
    → ((j : ℕ) → p ≤ j → f j ≡ 0) → set out writer.at writer.acc ≡ filled (bytes_for p) (byte_of f) old
finish_part f p old out writer w pos room clear =
    let at = writer.at in
    let have = writer.have in
    let r = w.writing in
    let place = r.place in
    let few = w.few in
    let h : at < length old = omega (arith, writing-length f p old out at writer.acc have r) in
    let e : bytes_for p ≡ at + 1 = omega arith in
    let n : have + (8 - have) ≡ 8 = omega arith in
    let none : field f (8 * at + have) (8 - have) ≡ 0 = field_zero f (8 * at + have) (8 - have) (λ j l. clear (8 * at + have + j) (omega arith)) in
    let whole : field f (8 * at) 8 ≡ field f (8 * at) have + field f (8 * at + have) (8 - have) * 2 ^ have = rw n at (field_add f (8 * at) have (8 - have)) in
    rw (e, r.done) (filled_with at (at + 1) (byte_of f) old writer.acc h refl (r.held ∙ sym (rw none at whole ∙ omega arith)))
