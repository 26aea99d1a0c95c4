-- What a search finds. Definitions only.
use Rattle.std.specs.Prelude.{ℕ, List}
use Rattle.slices.specs.First.{count_where}
use Rattle.encode.specs.declared.search.Search.{Search}
use Rattle.encode.specs.Encode.{index_for, indices_for, tied_for}

-- the index of block i, and those of all blocks
abbrev pub index_of : Search → ℕ → ℕ
index_of s = index_for s.codewords.dim s.codewords.count s.codewords.values.now s.values.now

abbrev pub indices_of : Search → List ℕ
indices_of s = indices_for s.count s.codewords.dim s.codewords.count s.codewords.values.now s.values.now

-- how many of the first m blocks are tied
abbrev pub tied_of : Search → ℕ → ℕ
tied_of s m = count_where (tied_for s.codewords.dim s.codewords.count s.codewords.values.now s.values.now) m
