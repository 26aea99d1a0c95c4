-- What a reader who knows the width of an index and the number of blocks asks of a frame: 17, then 9. Definitions only.
use Rattle.std.specs.Prelude.{ℕ, ◌*◌, not, ◌&&◌, cond, [], ◌∷◌, eqb}
use Rattle.error.specs.Names.{padding_bit_site}
use Rattle.error.specs.Numbers.{Outcome, completed, refused, whole, also}
use Rattle.bitpack.specs.Layout.{padding_from}
use Rattle.compact.specs.Frame.{Parts}

-- 17: the frame has this width of an index and this number of blocks
abbrev pub headed : ℕ → ℕ → Parts → Outcome Unit
headed bits blocks parts =
    cond (not (eqb parts.width bits && eqb parts.count blocks)) (refused 17 [])
    (completed tt)

-- 9: no padding bit is set. Sites 1 and 2 can't come under a valid profile: `only_padding` of decode's DecodeLaw.antt.
abbrev pub unpadded : Parts → Outcome Unit
unpadded parts =
    let padding = padding_from parts.indices (parts.count * parts.width) in
    cond (not (eqb padding 0)) (refused 9 (whole padding_bit_site ∷ []))
    (completed tt)

-- both
unfoldable pub expected : ℕ → ℕ → Parts → Outcome Unit
expected bits blocks parts = also (headed bits blocks parts) (unpadded parts)
