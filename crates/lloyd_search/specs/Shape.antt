-- The shapes of a codebook and of samples that are lent. Definitions only.
use Rattle.std.specs.Prelude.{ℕ, ◌*◌, ◌/◌, ◌%◌, Bool, ◌&&◌, leb, eqb}

-- a codebook of n codewords of k coordinates, within the limits of calls alone, has this many values
abbrev pub codebook_shaped : ℕ → ℕ → ℕ → Bool
codebook_shaped n k values = leb 1 k && (leb k 256 && (leb 1 n && (leb n 1048576 && eqb values (n * k))))

-- up to ten million whole samples of k coordinates, for a k above 0
abbrev pub samples_shaped : ℕ → ℕ → Bool
samples_shaped k values = eqb (values % k) 0 && leb (values / k) 10000000
