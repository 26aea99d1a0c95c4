-- `profile::FibQuantProfile::paper_default` meets its contract: the shape is checked before the fields are made, and
-- the fields before they are handed out. Assumes nothing.
use Rattle.std.proofs.Common.{rules, arith, sym, refl}
use Rattle.error.proofs.Refusals.{also_exit, also_on}
use Rattle.profile.specs.Fields.{profile_schema, rotation_algorithm, ascii}
use Rattle.profile.specs.Paper.{paper_of}
use Rattle.profile.proofs.Facts.{shape_facts}
use Rattle.profile.proofs.FibQuantProfile.paper_default.Goals as goal

pub returns-in_err-shape : goal.returns-in_err-shape
unfolding paper_of
returns-in_err-shape c = search (rules, also_exit, also_on)

pub overflow_cast-ambient_dim : goal.overflow_cast-ambient_dim
overflow_cast-ambient_dim c = record { fits = omega (arith, (shape_facts _ _ _ (sym c.in_ok-shape.ensures)).dim_most) }

pub overflow_cast-block_dim : goal.overflow_cast-block_dim
overflow_cast-block_dim c = record { fits = omega (arith, (shape_facts _ _ _ (sym c.in_ok-shape.ensures)).block_most) }

pub overflow_cast-codebook_size : goal.overflow_cast-codebook_size
overflow_cast-codebook_size c = record { fits = omega (arith, (shape_facts _ _ _ (sym c.in_ok-shape.ensures)).book_most) }

pub returns-in_err-validate : goal.returns-in_err-validate
unfolding paper_of profile_schema rotation_algorithm ascii
returns-in_err-validate c = let e = c.paper_fields-profile.ensures in also_on _ _ _ c.in_ok-shape.ensures (also_exit _ _ _ _ c.from_residual-in_err-validate.ensures.1 (rw e at c.in_err-validate.ensures))

pub returns : goal.returns
unfolding paper_of profile_schema rotation_algorithm ascii
returns c = let e = c.paper_fields-profile.ensures in rw e (also_on _ _ _ c.in_ok-shape.ensures (also_on _ _ _ (rw e at c.in_ok-validate.ensures) refl))
