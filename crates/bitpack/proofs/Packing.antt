-- Laws of the packed layout: what stands at a bit of a packing, that unpacking undoes packing, and that every byte string
-- with no padding bit set is the packing of what it unpacks to. Assumes nothing.
use Prim.Native.Nat.{ℕ, ◌+◌, ◌*◌, ◌-◌, ◌/◌, ◌%◌, ◌^◌, ◌<◌, ◌≤◌}
use mathlib.Core.Path.{◌≡◌, refl, sym, ap, ◌∙◌}
use mathlib.Core.Bool.{Bool, true, false, cond}
use mathlib.Core.List.{List}
use native.Mathlib.Nat.{mod-lt, mod-eq_of_lt, div-add-mod', div-lt_iff_lt-mul, div-one}
use native.Mathlib.Omega.{arith}
use lib.ListN.{length, get_or}
use lib.Arith.{digits_div, digits_mod, digits_lt}
use lib.Dec.{ltb}
use lib.Pow.{shr_lt}
use borrow.Author.Tests.{lt-ltb, le-ltb, ltb-true, ltb-false}
use Rattle.slices.proofs.TabulateLaw.{length-tabulate, get_d_tabulate, tabulate_is}
use Rattle.bitpack.specs.Layout.{bit_of, field, stream_bit, byte_of, index_at, unpacked_indices, padding_from, packed_bit, packed_bytes, bytes_for}
use Rattle.bitpack.proofs.Fields.{field_ext, field-none, bit_field, field_clear, field-bit_of}

pub stream_binary : (bytes : List ℕ) (p : ℕ) → stream_bit bytes p < 2
unfolding stream_bit
stream_binary bytes p = mod-lt _ (omega arith)

-- bit j of byte b
pub stream_byte : (bytes : List ℕ) (b j : ℕ) → j < 8 → stream_bit bytes (8 * b + j) ≡ bit_of (get_or bytes b 0) j
unfolding stream_bit
stream_byte bytes b j l =
    let q : (8 * b + j) / 8 ≡ b = omega arith in
    let r : (8 * b + j) % 8 ≡ j = omega arith in
    rw (q, r)

-- a part of byte b, from its bit k on
pub field_byte : (bytes : List ℕ) (b k n : ℕ) → k + n ≤ 8 → field (stream_bit bytes) (8 * b + k) n ≡ get_or bytes b 0 / 2 ^ k % 2 ^ n
field_byte bytes b k n l =
    field_ext (stream_bit bytes) (bit_of (get_or bytes b 0)) (8 * b + k) k n
    (λ j h. let e : 8 * b + k + j ≡ 8 * b + (k + j) = omega arith in rw e (stream_byte bytes b (k + j) (omega arith)))
    ∙ field-bit_of (get_or bytes b 0) k n

-- a whole byte
pub field_whole : (bytes : List ℕ) (b : ℕ) → get_or bytes b 0 < 256 → field (stream_bit bytes) (8 * b) 8 ≡ get_or bytes b 0
field_whole bytes b small =
    let z : 8 * b + 0 ≡ 8 * b = omega arith in
    (rw z at (field_byte bytes b 0 8 (omega arith))) ∙ rw div-one (mod-eq_of_lt small)

-- a byte from its bit k on
pub field_rest : (bytes : List ℕ) (b k : ℕ) → k ≤ 8 → get_or bytes b 0 < 256 → get_or bytes b 0 / 2 ^ k ≡ field (stream_bit bytes) (8 * b + k) (8 - k)
field_rest bytes b k l small =
    let whole : 8 - k + k ≡ 8 = omega arith in
    let byte : get_or bytes b 0 < 2 ^ (8 - k + k) = rw whole small in
    sym (field_byte bytes b k (8 - k) (omega arith) ∙ mod-eq_of_lt (shr_lt (8 - k) k byte))

-- the padding after n bits: none where there is no byte, else the last byte from the bit on at which the n bits end
pub padding_none : (bytes : List ℕ) (n : ℕ) → length bytes ≡ 0 → padding_from bytes n ≡ 0
padding_none bytes n len =
    let z : 8 * length bytes - n ≡ 0 = omega arith in
    rw z (field-none (stream_bit bytes) n)

pub padding_last : (bytes : List ℕ) (n : ℕ) → length bytes ≡ bytes_for n → (length bytes ≡ 0 → ⊥) → get_or bytes (length bytes - 1) 0 < 256
    → padding_from bytes n ≡ get_or bytes (length bytes - 1) 0 / 2 ^ (n - 8 * (length bytes - 1))
padding_last bytes n len some small =
    let last : ℕ = length bytes - 1 in
    let place : n ≡ 8 * last + (n - 8 * last) = omega arith in
    let size : 8 * length bytes - n ≡ 8 - (n - 8 * last) = omega arith in
    ap (λ (m : ℕ). field (stream_bit bytes) n m) size
    ∙ ap (λ (p : ℕ). field (stream_bit bytes) p (8 - (n - 8 * last))) place
    ∙ sym (field_rest bytes last (n - 8 * last) (omega arith) small)

pub packed_binary : (xs : List ℕ) (w p : ℕ) → packed_bit xs w p < 2
unfolding packed_bit
packed_binary xs w p = go (ltb p (length xs * w))
  where
    go : (t : Bool) → cond t (bit_of (get_or xs (p / w) 0) (p % w)) 0 < 2
    go true = mod-lt _ (omega arith)
    go false = omega arith

-- bit j of index i
pub packed_bit_lem : (xs : List ℕ) (w i j : ℕ) → i < length xs → j < w → packed_bit xs w (i * w + j) ≡ bit_of (get_or xs i 0) j
unfolding packed_bit
packed_bit_lem xs w i j l h = rw (lt-ltb (i * w + j) (length xs * w) (digits_lt l h), digits_div i h, digits_mod i h)

-- no bit is set after the last index
pub packed_after : (xs : List ℕ) (w p : ℕ) → length xs * w ≤ p → packed_bit xs w p ≡ 0
unfolding packed_bit
packed_after xs w p l = rw (le-ltb p (length xs * w) l)

-- the bits of index i in the packing
pub packed_index : (xs : List ℕ) (w i : ℕ) → i < length xs → get_or xs i 0 < 2 ^ w → field (packed_bit xs w) (i * w) w ≡ get_or xs i 0
packed_index xs w i l h =
    field_ext (packed_bit xs w) (bit_of (get_or xs i 0)) (i * w) 0 w (λ j b. let z : 0 + j ≡ j = omega arith in rw z (packed_bit_lem xs w i j l b))
    ∙ field-bit_of (get_or xs i 0) 0 w
    ∙ rw div-one (mod-eq_of_lt h)

pub length_packed : (xs : List ℕ) (w : ℕ) → length (packed_bytes xs w) ≡ bytes_for (length xs * w)
length_packed xs w = length-tabulate (bytes_for (length xs * w)) (byte_of (packed_bit xs w))

pub packed_byte : (xs : List ℕ) (w b : ℕ) → b < bytes_for (length xs * w) → get_or (packed_bytes xs w) b 0 ≡ byte_of (packed_bit xs w) b
packed_byte xs w b l = get_d_tabulate (bytes_for (length xs * w)) (byte_of (packed_bit xs w)) b 0 l

pub length-unpacked : (bytes : List ℕ) (count w : ℕ) → length (unpacked_indices bytes count w) ≡ count
length-unpacked bytes count w = length-tabulate count (index_at bytes w)

pub unpacked_index : (bytes : List ℕ) (count w i : ℕ) → i < count → get_or (unpacked_indices bytes count w) i 0 ≡ index_at bytes w i
unpacked_index bytes count w i l = get_d_tabulate count (index_at bytes w) i 0 l

-- the bits of the packed bytes are the packing's
stream_packed : (xs : List ℕ) (w p : ℕ) → p < length xs * w → stream_bit (packed_bytes xs w) p ≡ packed_bit xs w p
unfolding stream_bit
stream_packed xs w p l =
    let q : 8 * (p / 8) + p % 8 ≡ p = omega arith in
    rw (packed_byte xs w (p / 8) (omega arith), bit_field (packed_bit xs w) (8 * (p / 8)) 8 (p % 8) (packed_binary xs w) (omega arith), q)

-- unpacking undoes packing
pub unpack_pack : (xs : List ℕ) (w : ℕ) → ((i : ℕ) → i < length xs → get_or xs i 0 < 2 ^ w) → unpacked_indices (packed_bytes xs w) (length xs) w ≡ xs
unpack_pack xs w small =
    sym
    (tabulate_is 0 xs (index_at (packed_bytes xs w) w)
    (λ i l. sym (field_ext (stream_bit (packed_bytes xs w)) (packed_bit xs w) (i * w) (i * w) w (λ j h. stream_packed xs w (i * w + j) (digits_lt l h))
    ∙ packed_index xs w i l (small i l))))

-- the bits of what a byte string unpacks to, repacked, are the string's
packed_stream : (bytes : List ℕ) (count w p : ℕ) → 0 < w → padding_from bytes (count * w) ≡ 0 → p < 8 * length bytes
    → packed_bit (unpacked_indices bytes count w) w p ≡ stream_bit bytes p
unfolding packed_bit
packed_stream bytes count w p pos clear l = rw length-unpacked (go (ltb p (count * w)) refl)
  where
    go : (t : Bool) → ltb p (count * w) ≡ t → cond t (bit_of (get_or (unpacked_indices bytes count w) (p / w) 0) (p % w)) 0 ≡ stream_bit bytes p
    go true e =
        let l' : p / w < count = (div-lt_iff_lt-mul pos).1 (ltb-true p (count * w) e) in
        rw (unpacked_index bytes count w (p / w) l', bit_field (stream_bit bytes) (p / w * w) w (p % w) (stream_binary bytes) (mod-lt p pos), div-add-mod' p w)
    go false e =
        let l' : count * w ≤ p = ltb-false p (count * w) e in
        let q : count * w + (p - count * w) ≡ p = omega arith in
        sym (rw q at (field_clear (stream_bit bytes) (count * w) (8 * length bytes - count * w) (p - count * w) (stream_binary bytes) clear (omega arith)))

-- a byte string of the right length with no padding bit set is the packing of what it unpacks to
pub pack_unpack : (bytes : List ℕ) (count w : ℕ) → 0 < w → ((i : ℕ) → i < length bytes → get_or bytes i 0 < 256) → length bytes ≡ bytes_for (count * w)
    → padding_from bytes (count * w) ≡ 0 → packed_bytes (unpacked_indices bytes count w) w ≡ bytes
pack_unpack bytes count w pos small len clear =
    rw (length-unpacked bytes count w, ← len)
    (sym
    (tabulate_is 0 bytes (byte_of (packed_bit (unpacked_indices bytes count w) w))
    (λ b l. sym (field_ext (packed_bit (unpacked_indices bytes count w) w) (stream_bit bytes) (8 * b) (8 * b) 8
    (λ j h. packed_stream bytes count w (8 * b + j) pos clear (omega arith))
    ∙ field_whole bytes b (small b l)))))
