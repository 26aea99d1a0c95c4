-- Laws of the frame: its lengths, which answer parsing gives, and that parsing
-- and writing undo each other. Assumes nothing.
use mathlib.Core.Path.{◌≡◌, refl, sym, ap, ◌∙◌, subst}
use mathlib.Core.Bool.{true, not}
use mathlib.Core.List.{List, [], ◌∷◌, ◌++◌}
use Prim.Native.Nat.{ℕ, ◌+◌, ◌*◌, ◌-◌, ◌^◌, ◌≤◌, ◌<◌}
use native.Mathlib.Omega.{arith}
use lib.Dec.{ltb, eqb}
use lib.ListN.{length, get_or, take, drop, length-append, length-drop, take-append-drop, get_or-append}
use lib.Seq.{drop-cons, drop_at, take-append_seam, length-take-le, take-add, get_or-take, get_or-drop, take-append-le, drop-append-le}
use borrow.Author.Tests.{ltb-false, eqb-true, not-false, le-ltb, eq-eqb}
use Rattle.error.specs.Numbers.{Value, completed, refused}
use Rattle.error.proofs.Outcomes.{both, completed_same, passed, never, after_test}
use Rattle.slices.specs.Bytes.{Bytes, bytes_of, number_of}
use Rattle.slices.proofs.BytesLaw.{number_of_bytes, bytes_of_number}
use Rattle.bitpack.specs.Layout.{bytes_for}
use Rattle.compact.specs.Frame.{header, frame_of, Parts, magic_in, count_in, norm_length_in, parts_in, parsed, WellFormed}

-- ---- the fields of a header, byte by byte

part_bytes : (bs : List ℕ) (at n : ℕ) → Bytes bs → at + n ≤ length bs → (length (take n (drop at bs)) ≡ n) × Bytes (take n (drop at bs))
part_bytes bs at n h room =
    let e : length (take n (drop at bs)) ≡ n = length-take-le n (drop at bs) (omega (arith, length-drop at bs)) in
    (e, λ i l. rw (get_or-take n (drop at bs) i 0 (omega arith), get_or-drop at bs i 0) (h (at + i) (omega arith)))

-- n bytes of a list, from their number
field : (bs : List ℕ) (at n : ℕ) → Bytes bs → at + n ≤ length bs → bytes_of n (number_of (take n (drop at bs))) ≡ take n (drop at bs)
field bs at n h room =
    let b = part_bytes bs at n h room in
    subst (λ (m : ℕ). bytes_of m (number_of (take n (drop at bs))) ≡ take n (drop at bs)) b.0 (bytes_of_number (take n (drop at bs)) b.1)

-- ---- what parsing asks

module _ (bs : List ℕ) where
  pub parsed_whole : WellFormed bs → parsed bs ≡ completed (parts_in bs)
  unfolding parsed
  parsed_whole w =
      rw (
        le-ltb (length bs) 11 w.long,
        w.magic,
        w.version,
        le-ltb (length bs) (11 + norm_length_in bs) w.norm_within,
        eq-eqb (length bs - (11 + norm_length_in bs)) (bytes_for (count_in bs * get_or bs 4 0)) w.sized,
      )

pub parsed_inverse : (bs : List ℕ) (p : Parts) → parsed bs ≡ completed p → WellFormed bs × (p ≡ parts_in bs)
unfolding parsed
parsed_inverse bs p e =
    let s1 = passed _ _ _ _ p e in
    let s2 = passed _ _ _ _ p s1.1 in
    let s3 = passed _ _ _ _ p s2.1 in
    let s4 = passed _ _ _ _ p s3.1 in
    let s5 = passed _ _ _ _ p s4.1 in (
      record {
        long = ltb-false _ _ s1.0;
        magic = not-false _ s2.0;
        version = eqb-true _ _ (not-false _ s3.0);
        norm_within = ltb-false _ _ s4.0;
        sized = eqb-true _ _ (not-false _ s5.0);
      },
      sym (completed_same _ _ s5.1),
    )

-- ---- lengths

pub length-header : (width count n : ℕ) → length (header width count n) ≡ 11
unfolding header bytes_of
length-header width count n = refl

pub length_frame : (width count : ℕ) (norm indices : List ℕ) → length (frame_of width count norm indices) ≡ 11 + length norm + length indices
unfolding frame_of
length_frame width count norm indices = rw (length-append, length-append, length-header)

pub length_norm : (bs : List ℕ) → WellFormed bs → length (take (norm_length_in bs) (drop 11 bs)) ≡ norm_length_in bs
length_norm bs w = length-take-le (norm_length_in bs) (drop 11 bs) (omega (arith, w.norm_within, length-drop 11 bs))

-- the indices of what parses are as long as their count and width ask
pub length_indices : (bs : List ℕ) (p : Parts) → parsed bs ≡ completed p → length p.indices ≡ bytes_for (p.count * p.width)
length_indices bs p e =
    let w = parsed_inverse bs p e in
    rw w.1 (length-drop (11 + norm_length_in bs) bs ∙ w.0.sized)

-- ---- parsing and writing undo each other

module _ (width count : ℕ) (norm indices : List ℕ) (small_count : count < 2 ^ 32) (short-norm : length norm ≤ 65535) where
  count_in_lem : count_in (frame_of width count norm indices) ≡ count
  unfolding frame_of header bytes_of
  count_in_lem = number_of_bytes 4 count small_count

  norm_length_in_lem : norm_length_in (frame_of width count norm indices) ≡ length norm
  unfolding frame_of header bytes_of
  norm_length_in_lem = number_of_bytes 2 (length norm) (omega arith)

  norm_in : take (length norm) (drop 11 (frame_of width count norm indices)) ≡ norm
  unfolding frame_of header bytes_of
  norm_in = take-append_seam norm indices

  indices_in : drop (11 + length norm) (frame_of width count norm indices) ≡ indices
  unfolding frame_of
  indices_in = drop_at (header width count (length norm) ++ norm) indices (11 + length norm) (rw (length-append, length-header))

  magic_in_lem : magic_in (frame_of width count norm indices) ≡ true
  unfolding frame_of header bytes_of
  magic_in_lem = refl

  version_in : get_or (frame_of width count norm indices) 3 0 ≡ 1
  unfolding frame_of header bytes_of
  version_in = refl

  width_in : get_or (frame_of width count norm indices) 4 0 ≡ width
  unfolding frame_of header bytes_of
  width_in = refl

  well_formed : length indices ≡ bytes_for (count * width) → WellFormed (frame_of width count norm indices)
  well_formed e = record {
    long = omega (arith, length_frame width count norm indices);
    magic = magic_in_lem;
    version = version_in;
    norm_within = rw norm_length_in_lem (omega (arith, length_frame width count norm indices));
    sized = rw (norm_length_in_lem, width_in, count_in_lem, length_frame width count norm indices) (left (length norm) (length indices) ∙ e);
  }
    where
      left : (a b : ℕ) → 11 + a + b - (11 + a) ≡ b
      left a b = omega arith

  -- parsing what was written gives it back
  pub parse_written : length indices ≡ bytes_for (count * width)
      → parsed (frame_of width count norm indices) ≡ completed (record { width = width; count = count; norm = norm; indices = indices })
  parse_written e = parsed_whole (frame_of width count norm indices) (well_formed e) ∙ rw (norm_length_in_lem, width_in, count_in_lem, norm_in, indices_in)

-- the bytes before the count
first_five : (bs : List ℕ) → 11 ≤ length bs → take 5 bs ≡ get_or bs 0 0 ∷ get_or bs 1 0 ∷ get_or bs 2 0 ∷ get_or bs 3 0 ∷ get_or bs 4 0 ∷ []
first_five bs h =
    ap (λ (l : List ℕ). take 5 l) (drop-cons bs 0 0 (omega arith))
    ∙ rw (drop-cons bs 1 0 (omega arith), drop-cons bs 2 0 (omega arith), drop-cons bs 3 0 (omega arith), drop-cons bs 4 0 (omega arith))

opening : (bs : List ℕ) → WellFormed bs → take 5 bs ≡ 0x46 ∷ 0x42 ∷ 0x31 ∷ 0x01 ∷ get_or bs 4 0 ∷ []
opening bs w =
    let m = both _ _ w.magic in
    let m' = both _ _ m.1 in
    first_five bs w.long ∙ rw (eqb-true (get_or bs 0 0) 0x46 m.0, eqb-true (get_or bs 1 0) 0x42 m'.0, eqb-true (get_or bs 2 0) 0x31 m'.1, w.version)

header_in : (bs : List ℕ) → Bytes bs → WellFormed bs → header (get_or bs 4 0) (count_in bs) (norm_length_in bs) ≡ take 11 bs
unfolding header
header_in bs h w =
    rw (field bs 5 4 h (omega (arith, w.long)), field bs 9 2 h (omega (arith, w.long)))
    (sym (take-add 9 2 bs ∙ ap (λ (l : List ℕ). l ++ take 2 (drop 9 bs)) (take-add 5 4 bs ∙ ap (λ (l : List ℕ). l ++ take 4 (drop 5 bs)) (opening bs w))))

-- what parses is what writing its parts gives
pub write_parsed : (bs : List ℕ) (p : Parts) → Bytes bs → parsed bs ≡ completed p → bs ≡ frame_of p.width p.count p.norm p.indices
unfolding frame_of
write_parsed bs p h e =
    let w = parsed_inverse bs p e in
    rw (w.1, length_norm bs w.0, header_in bs h w.0)
    (sym (ap (λ (l : List ℕ). l ++ drop (11 + norm_length_in bs) bs) (sym (take-add 11 (norm_length_in bs) bs)) ∙ take-append-drop (11 + norm_length_in bs) bs))

-- the bytes of what parses
pub length_parsed : (bs : List ℕ) (p : Parts) → parsed bs ≡ completed p → length bs ≡ 11 + length p.norm + length p.indices
length_parsed bs p e =
    let w = parsed_inverse bs p e in
    rw (w.1, length_norm bs w.0, length-drop (11 + norm_length_in bs) bs) (omega (arith, w.0.norm_within))

-- the norm's are bytes where all are
pub bytes_norm : (bs : List ℕ) (p : Parts) → Bytes bs → parsed bs ≡ completed p → Bytes p.norm
bytes_norm bs p h e =
    let w = parsed_inverse bs p e in
    subst (λ (q : Parts). Bytes q.norm) (sym w.1) (part_bytes bs 11 (norm_length_in bs) h w.0.norm_within).1

-- and so are the indices'
pub bytes_indices : (bs : List ℕ) (p : Parts) → Bytes bs → parsed bs ≡ completed p → Bytes p.indices
bytes_indices bs p h e =
    let w = parsed_inverse bs p e in
    let start = 11 + norm_length_in bs in
    subst (λ (q : Parts). Bytes q.indices) (sym w.1) (λ i l. rw (get_or-drop start bs i 0) (h (start + i) (omega (arith, length-drop start bs))))

-- ---- what follows a header does not change it, and it says where its frame ends

module _ (bs rest : List ℕ) (long : 11 ≤ length bs) where
  same_part : (at n : ℕ) → at + n ≤ 11 → take n (drop at (bs ++ rest)) ≡ take n (drop at bs)
  same_part at n l = ap (λ (l : List ℕ). take n l) (drop-append-le at bs rest (omega arith)) ∙ take-append-le n (drop at bs) rest (omega (arith, length-drop at bs))

  pub same_norm_length : norm_length_in (bs ++ rest) ≡ norm_length_in bs
  same_norm_length = ap number_of (same_part 9 2 (omega arith))

  same_size : count_in (bs ++ rest) * get_or (bs ++ rest) 4 0 ≡ count_in bs * get_or bs 4 0
  same_size = rw (same_part 5 4 (omega arith), get_or-append bs rest 0 4 (omega arith))

-- so nothing that parses is a proper beginning of anything that does
pub no_beginning : (bs rest : List ℕ) (b : ℕ) (p q : Parts) → parsed bs ≡ completed p → parsed (bs ++ b ∷ rest) ≡ completed q → ⊥
no_beginning bs rest b p q e f =
    let v = (parsed_inverse bs p e).0 in
    let w = (parsed_inverse (bs ++ b ∷ rest) q f).0 in
    let s = ap bytes_for (same_size bs (b ∷ rest) v.long) in
    omega (arith, v.sized, w.sized, v.norm_within, s, same_norm_length bs (b ∷ rest) v.long, length-append bs (b ∷ rest))

-- parsing refuses by no number above 8
pub parsed_not : (bs : List ℕ) (m : ℕ) (us : List Value) → 8 < m → parsed bs ≡ refused m us → ⊥
unfolding parsed
parsed_not bs m us h e =
    let s1 = after_test m us (ltb (length bs) 11) 8 _ _ h e in
    let s2 = after_test m us (not (magic_in bs)) 8 _ _ h s1 in
    let s3 = after_test m us (not (eqb (get_or bs 3 0) 1)) 8 _ _ h s2 in
    let s4 = after_test m us (ltb (length bs) (11 + norm_length_in bs)) 8 _ _ h s3 in
    let s5 = after_test m us (not (eqb (length bs - (11 + norm_length_in bs)) (bytes_for (count_in bs * get_or bs 4 0)))) 8 _ _ h s4 in
    never m us (parts_in bs) (sym s5)
