-- What the work shows of a donor: its number, its farthest sample, the norm of its residual. Assumes nothing.
use Rattle.std.proofs.Common.{◌≡◌, ℕ, ◌+◌, ◌-◌, ◌*◌, ◌<◌, ◌≤◌, List, length, get_or, take, drop, sym, ap, ◌∙◌, add_assoc, suc-mul, arith, Some}
use lib.Ieee.{Float, nan, binary64}
use Rattle.root.specs.Sqrt.{sqrt_of}
use Rattle.lloyd_search.specs.Distance.{vector_of, row_of}
use Rattle.lloyd_search.proofs.Parts.{part_length, part_row, distance_ext}
use Rattle.lloyd_cells.specs.declared.Places.{Places}
use Rattle.lloyd_cells.specs.Repair.{Cells, Terms, Repaired, donor_to, residual_norm}
use Rattle.lloyd_cells.proofs.DonorLaw.{donor_plenty}
use Rattle.lloyd_cells.proofs.FitLaw.{word_within}
use Rattle.lloyd_cells.proofs.WorkLaw.{held_donor}
use Rattle.lloyd_repair.specs.declared.Numbers.{Numbers}
use Rattle.lloyd_repair.specs.declared.Numbers.TheVariants.{InFloats, InInts}
use Rattle.lloyd_repair.specs.Running.{NumberAt, NumbersFit, NumberWithin, HoldsFarthest, Running, Numbered, Chosen}

module _ {p : Places} {m : Numbers} {t : Terms} {samples : List Float} {e donor : ℕ} {work : List Float} {ints : List ℕ} {far : ℕ → ℕ → Float} {start : Cells} {r : Repaired}
    (run : Running p m t samples far start e r work ints) (chosen : Chosen p t e donor work ints) where
  pub below : donor < t.cells
  below = (donor_plenty (λ c. get_or ints c 0) (λ c. get_or work (p.distortions + c) nan) t.cells donor chosen.shows).0

  pub two : 1 < get_or ints donor 0
  two = (donor_plenty (λ c. get_or ints c 0) (λ c. get_or work (p.distortions + c) nan) t.cells donor chosen.shows).1

  pub tally_two : 1 < r.cells.tally donor
  tally_two = rw (run.held.tally donor below) at two

  pub tally_none : r.cells.tally e ≡ 0
  tally_none = sym (run.held.tally e chosen.below) ∙ chosen.empty

  pub apart : donor ≡ e → ⊥
  apart h = let z : get_or ints donor 0 ≡ 0 = ap (λ (i : ℕ). get_or ints i 0) h ∙ chosen.empty in omega (arith, two)

  pub found : donor_to r.cells.tally r.cells.distortion t.cells ≡ Some donor
  found = sym (held_donor p t.cells t.dim r.cells work ints run.held) ∙ chosen.shows

  pub farthest_at : HoldsFarthest m t.dim samples (far donor) donor work ints
  farthest_at = run.farthest donor below tally_two

  within : (q : Numbers) → NumbersFit q p t.cells t.dim (length ints) → NumberWithin q donor work ints
  within (InFloats start) h = omega (arith, below, run.fit.distortions, run.fit.farthest)
  within (InInts start) h = omega (arith, below)

  pub numbered : Numbered m donor work ints
  numbered = record { number = farthest_at.number; is = farthest_at.at; within = within m run.room }

  pub word_ends : p.words + donor * t.dim + t.dim ≤ length work
  word_ends = word_within p t.cells t.dim (length work) donor run.fit below

  -- with the number that is held
  module _ (q : ℕ) (held : (s : ℕ) → NumberAt m work ints donor s → q ≡ s) where
    pub number_is : q ≡ farthest_at.number
    number_is = held farthest_at.number farthest_at.at

    pub sample_fits : q * t.dim + t.dim ≤ length samples
    sample_fits = let h = farthest_at.inside in let n = number_is in let s = suc-mul farthest_at.number t.dim in let a : q * t.dim ≡ farthest_at.number * t.dim = ap (λ (z : ℕ). z * t.dim) n in omega arith

    -- the part of the samples that is handed over is the farthest sample
    pub part_far : (at : ℕ) → at ≡ q * t.dim → (j : ℕ) → j < t.dim → vector_of (take (at + t.dim - at) (drop at samples)) j ≡ far donor j
    part_far at a j l = part_row samples q t.dim at a j l ∙ ap (λ (z : ℕ). row_of t.dim samples z j) number_is ∙ sym (farthest_at.is j l)

    pub norm_is : (at : ℕ) → at ≡ q * t.dim
        → residual_norm t.dim (far donor) (r.cells.word donor)
        ≡ residual_norm (length (take (at + t.dim - at) (drop at samples))) (vector_of (take (at + t.dim - at) (drop at samples))) (λ j. get_or work (p.words + donor * t.dim + j) nan)
    norm_is at a =
        let L = part_length samples q t.dim at a (let f = sample_fits in omega arith) in
        rw L
        (ap (sqrt_of binary64)
        (distance_ext t.dim (far donor) (r.cells.word donor) _ _ (λ j l. sym (part_far at a j l))
        (λ j l. sym (ap (λ (z : ℕ). get_or work z nan) (add_assoc p.words (donor * t.dim) j) ∙ run.held.words donor j below l (omega (arith, tally_two))))))
