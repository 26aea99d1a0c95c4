-- A profile whose checks are completed is valid: the plain facts behind the tests. Assumes nothing.
use Rattle.std.proofs.Common.{◌≡◌, ℕ, zero, suc, ◌*◌, ◌%◌, ◌≤◌, ◌<◌, Bool, true, false, cond, not, ◌||◌, ◌&&◌, pos, sym, eqb, ltb, leb, List, refl, le_of_suc-le-suc, mul-le-mul, lt_of_not-le, div-add-mod', arith, ltb-false, eqb-true, leb-false}
use lib.Ieee.{Float, binary64, of_int}
use borrow.Author.Tests.{eqb-false, not-false}
use Rattle.error.specs.Names.{schema_field, rotation_algorithm_field, paper_rate_field}
use Rattle.error.specs.Numbers.{Value, Outcome, completed, refused, also}
use Rattle.profile.specs.declared.NormFormat.{NormFormat}
use Rattle.profile.specs.declared.NormFormat.TheVariants.{Fp16Paper, F32Reference}
use Rattle.profile.specs.declared.SourceMode.{SourceMode}
use Rattle.profile.specs.declared.FibQuantProfile.{FibQuantProfile}
use Rattle.profile.specs.Fields.{profile_schema, rotation_algorithm, same_bytes, is_fp16, is_canonical, radius_for, direction_for, same_radius, same_direction, index_width, rate_agrees}
use Rattle.profile.specs.Checks.{named, shape_of, sizes_of, formats_of, width_of, rate_of, per_coord, rates_of, methods_of, settings_of, numbers_of, validity}
use Rattle.profile.specs.Valid.{Shape, Settings, Valid}
use Rattle.error.proofs.Outcomes.{passed, never, after_test, after_check}
use Rattle.error.proofs.Refusals.{also_first, also_next}
use Rattle.profile.proofs.Width.{width_range}

-- ---- what a completed answer says of its parts

neither : (a b : Bool) → (a || b) ≡ false → (a ≡ false) × (b ≡ false)
neither true b h = ((cc), (cc))
neither false b h = (refl, h)

-- ---- the parts

positive : (n : ℕ) → eqb n 0 ≡ false → 1 ≤ n
positive zero h = absurd (eqb-false 0 0 h refl)
positive (suc n) h = omega arith

pub shape_facts : (d k n : ℕ) → shape_of d k n ≡ completed tt → Shape d k n
unfolding shape_of
shape_facts d k n h =
    let a = passed (eqb d 0) _ _ _ tt h in
    let b = passed (eqb k 0 || leb d k) _ _ _ tt a.1 in
    let e = passed (not (eqb (d % k) 0)) _ _ _ tt b.1 in
    let f = passed (ltb 16384 d) _ _ _ tt e.1 in
    let g = passed (ltb 256 k) _ _ _ tt f.1 in
    let i = neither (ltb n 2) (ltb 1048576 n) (passed (ltb n 2 || ltb 1048576 n) _ _ _ tt g.1).0 in
    let o = neither (eqb k 0) (leb d k) b.0 in
    let z : d % k ≡ 0 = eqb-true (d % k) 0 (not-false (eqb (d % k) 0) e.0) in record {
      some_block = positive k o.0;
      smaller_block = leb-false d k o.1;
      whole_blocks = omega (arith, div-add-mod' d k, z);
      dim_most = ltb-false 16384 d f.0;
      block_most = ltb-false 256 k g.0;
      book_least = ltb-false n 2 i.0;
      book_most = ltb-false 1048576 n i.1;
    }

-- 4,097 squared is above 2 ^ 24
root_most : (d : ℕ) → d * d ≤ 16777216 → d ≤ 4096
root_most d h = le_of_suc-le-suc (lt_of_not-le (λ (g : 4097 ≤ d). omega (arith, mul-le-mul g g)))

fp16 : (norm : NormFormat) (source : SourceMode) → formats_of norm source ≡ completed tt → norm ≡ Fp16Paper
fp16 Fp16Paper source h = refl
fp16 F32Reference source h = cc

-- of a chain of nine checks that is completed, each is
nine : (a b e f g i j k l : Outcome Unit) → also a (also b (also e (also f (also g (also i (also j (also k l))))))) ≡ completed tt
    → (b ≡ completed tt) × (e ≡ completed tt) × (f ≡ completed tt) × (i ≡ completed tt) × (l ≡ completed tt)
nine a b e f g i j k l h =
    let h1 = also_next a (also b (also e (also f (also g (also i (also j (also k l))))))) h in
    let h2 = also_next b (also e (also f (also g (also i (also j (also k l)))))) h1 in
    let h3 = also_next e (also f (also g (also i (also j (also k l))))) h2 in
    let h4 = also_next f (also g (also i (also j (also k l)))) h3 in
    let h5 = also_next g (also i (also j (also k l))) h4 in
    let h6 = also_next i (also j (also k l)) h5 in (
      also_first b (also e (also f (also g (also i (also j (also k l)))))) h1,
      also_first e (also f (also g (also i (also j (also k l))))) h2,
      also_first f (also g (also i (also j (also k l)))) h3,
      also_first i (also j (also k l)) h5,
      also_next k l (also_next j (also k l) h6),
    )

settings_facts : (restarts iterations samples n : ℕ) → settings_of restarts iterations samples n ≡ completed tt → Settings restarts iterations samples n
unfolding settings_of
settings_facts restarts iterations samples n h =
    let r = passed (eqb restarts 0 || ltb 1024 restarts) _ _ _ tt h in
    let i = passed (eqb iterations 0 || ltb 100000 iterations) _ _ _ tt r.1 in
    let s = passed (ltb samples n || ltb 10000000 samples) _ _ _ tt i.1 in
    let r2 = neither (eqb restarts 0) (ltb 1024 restarts) r.0 in
    let i2 = neither (eqb iterations 0) (ltb 100000 iterations) i.0 in
    let s2 = neither (ltb samples n) (ltb 10000000 samples) s.0 in record {
      restarts_least = positive restarts r2.0;
      restarts_most = ltb-false 1024 restarts r2.1;
      iterations_least = positive iterations i2.0;
      iterations_most = ltb-false 100000 iterations i2.1;
      samples_least = ltb-false samples n s2.0;
      samples_most = ltb-false 10000000 samples s2.1;
    }

sizes_facts : (d k n : ℕ) → sizes_of d k n ≡ completed tt → (d ≤ 4096) × (n * k ≤ 67108864)
sizes_facts d k n h =
    let m = passed (ltb 16777216 (d * d)) _ _ _ tt h in
    let v = passed (ltb 67108864 (n * k)) _ _ _ tt m.1 in (root_most d (ltb-false 16777216 (d * d) m.0), ltb-false 67108864 (n * k) v.0)

width_fact : (bits n : ℕ) → width_of bits n ≡ completed tt → bits ≡ index_width n
width_fact bits n h = eqb-true bits (index_width n) (not-false (eqb bits (index_width n)) (passed (not (eqb bits (index_width n))) _ _ _ tt h).0)

pub valid : (p : FibQuantProfile) (schema algorithm : List ℕ) (log2 : Float) → validity p schema algorithm log2 ≡ completed tt → Valid p
unfolding validity numbers_of
valid p schema algorithm log2 h =
    let d = p.ambient_dim in
    let k = p.block_dim in
    let n = p.codebook_size in
    let all =
    nine
    (named 1 schema profile_schema)
    (shape_of d k n)
    (sizes_of d k n)
    (formats_of p.norm_format p.source_mode)
    (named 4 algorithm rotation_algorithm)
    (width_of p.wire_index_bits n)
    (rates_of p log2)
    (methods_of k p.radius_method p.direction_method)
    (settings_of p.lloyd_restarts p.lloyd_iterations p.training_samples n)
    h
    in
    let s = shape_facts d k n all.0 in
    let sizes = sizes_facts d k n all.1 in
    let e = width_fact p.wire_index_bits n all.3 in
    let range = width_range n s.book_least s.book_most in
    let t = settings_facts p.lloyd_restarts p.lloyd_iterations p.training_samples n all.4 in record {
      shape = s;
      dim_most = sizes.0;
      values_most = sizes.1;
      norm_format = fp16 p.norm_format p.source_mode all.2;
      width = e;
      width_least = omega (arith, e, range.0);
      width_most = omega (arith, e, range.1);
      settings = t;
    }

-- ---- its checks refuse by no number above 6
module _ (m : ℕ) (us : List Value) (h : 6 < m) where
  passes : ◌≡◌ {A = Outcome Unit} (completed tt) (refused m us) → ⊥
  passes e = never m us tt (sym e)

  field_not : (t : Bool) (vs : List Value) → ◌≡◌ {A = Outcome Unit} (cond t (refused 6 vs) (completed tt)) (refused m us) → ⊥
  field_not t vs e = passes (after_test m us t 6 vs (completed tt) h e)

  shape_not : (d k n : ℕ) → shape_of d k n ≡ refused m us → ⊥
  unfolding shape_of
  shape_not d k n e =
      let s1 = after_test m us (eqb d 0) 1 _ _ (omega arith) e in
      let s2 = after_test m us (eqb k 0 || leb d k) 2 _ _ (omega arith) s1 in
      let s3 = after_test m us (not (eqb (d % k) 0)) 3 _ _ (omega arith) s2 in
      let s4 = after_test m us (ltb 16384 d) 5 _ _ (omega arith) s3 in
      let s5 = after_test m us (ltb 256 k) 5 _ _ (omega arith) s4 in
      passes (after_test m us (ltb n 2 || ltb 1048576 n) 4 _ _ (omega arith) s5)

  sizes_not : (d k n : ℕ) → sizes_of d k n ≡ refused m us → ⊥
  sizes_not d k n e =
      passes (after_test m us (ltb 67108864 (n * k)) 5 _ _ (omega arith) (after_test m us (ltb 16777216 (d * d)) 5 _ _ (omega arith) e))

  formats_not : (norm : NormFormat) (source : SourceMode) → formats_of norm source ≡ refused m us → ⊥
  formats_not norm source e = field_not (not (is_canonical source)) _ (after_test m us (not (is_fp16 norm)) 6 _ _ h e)

  rates_not : (p : FibQuantProfile) (log2 : Float) → rates_of p log2 ≡ refused m us → ⊥
  unfolding rates_of
  rates_not p log2 e =
      let paper = per_coord log2 p.block_dim in
      let wire = per_coord (of_int binary64 (pos p.wire_index_bits)) p.block_dim in
      field_not (not (rate_agrees p.wire_bits_per_coord wire)) _
      (after_check m us (rate_of paper_rate_field p.paper_rate_bits_per_coord paper) _ (field_not (not (rate_agrees p.paper_rate_bits_per_coord paper)) _) e)

  settings_not : (restarts iterations samples n : ℕ) → settings_of restarts iterations samples n ≡ refused m us → ⊥
  unfolding settings_of
  settings_not restarts iterations samples n e =
      let s1 = after_test m us (eqb restarts 0 || ltb 1024 restarts) 6 _ _ h e in
      let s2 = after_test m us (eqb iterations 0 || ltb 100000 iterations) 6 _ _ h s1 in
      field_not (ltb samples n || ltb 10000000 samples) _ s2

  numbers_not : (p : FibQuantProfile) (log2 : Float) → numbers_of p log2 ≡ refused m us → ⊥
  unfolding numbers_of
  numbers_not p log2 e =
      let k = p.block_dim in
      let n = p.codebook_size in
      let s1 = after_check m us (width_of p.wire_index_bits n) _ (field_not (not (eqb p.wire_index_bits (index_width n))) _) e in
      let s2 = after_check m us (rates_of p log2) _ (rates_not p log2) s1 in
      let s3 = after_check m us (methods_of k p.radius_method p.direction_method) _
      (field_not (not (same_radius p.radius_method (radius_for k) && same_direction p.direction_method (direction_for k))) _) s2 in
      settings_not p.lloyd_restarts p.lloyd_iterations p.training_samples n s3

  pub validity_not : (p : FibQuantProfile) (schema algorithm : List ℕ) (log2 : Float) → validity p schema algorithm log2 ≡ refused m us → ⊥
  unfolding validity
  validity_not p schema algorithm log2 e =
      let d = p.ambient_dim in
      let k = p.block_dim in
      let n = p.codebook_size in
      let s1 = after_check m us (named schema_field schema profile_schema) _ (field_not (not (same_bytes schema profile_schema)) _) e in
      let s2 = after_check m us (shape_of d k n) _ (shape_not d k n) s1 in
      let s3 = after_check m us (sizes_of d k n) _ (sizes_not d k n) s2 in
      let s4 = after_check m us (formats_of p.norm_format p.source_mode) _ (formats_not p.norm_format p.source_mode) s3 in
      let s5 = after_check m us (named rotation_algorithm_field algorithm rotation_algorithm) _ (field_not (not (same_bytes algorithm rotation_algorithm)) _) s4 in
      numbers_not p log2 s5
