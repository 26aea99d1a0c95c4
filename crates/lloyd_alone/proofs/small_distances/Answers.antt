-- `lloyd_alone::small_distances` meets its contract. Assumes nothing.
use Rattle.std.proofs.Common.{◌≡◌, ℕ, Bool, true, not, Option, None, Some, refl, sym, ◌∙◌, true≢false}
use Rattle.std.specs.Option.{is_some}
use lib.Ieee.{of_bits}
use Rattle.lloyd_alone.proofs.small_distances.Goals as goal

none_there : (o : Option ℕ) (b : Bool) → is_some o ≡ not b → b ≡ true → o ≡ None
none_there None b e h = refl
none_there (Some x) b e h = absurd (true≢false (rw h at e))

pub returns-then-seen : goal.returns-then-seen
unfolding of_bits
returns-then-seen c h = record { all_near = c.if-seen.true; block_small = sym c.first_outside.ensures ∙ none_there _ _ c.is_none.ensures h }
