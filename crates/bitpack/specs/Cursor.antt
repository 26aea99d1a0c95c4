-- Where a reader and a writer of a stream of bits stand, at bit p of it, and what each step asks. Definitions only.
use Rattle.std.specs.Prelude.{ℕ, ◌+◌, ◌*◌, ◌≤◌, ◌<◌, ◌^◌, List, ◌≡◌, length}
use Rattle.slices.specs.Lists.{filled}
use Rattle.bitpack.specs.declared.BitReader.{BitReader}
use Rattle.bitpack.specs.declared.BitWriter.{BitWriter}
use Rattle.bitpack.specs.Layout.{field, stream_bit, byte_of}

-- the reader stands at bit p: for indices of width w, at i * w before index i
pub record ReaderAt (bytes : List ℕ) (p : ℕ) (reader : BitReader) : Type 0 where
  pub of : reader.bytes.now ≡ bytes
  pub within : reader.bit < 8
  pub place : 8 * reader.byte + reader.bit ≡ p

-- what a pull of w bits asks
pub record Pullable (w : ℕ) (reader : BitReader) : Type 0 where
  pub within : reader.bit < 8
  pub some : 1 ≤ w
  pub narrow : w ≤ 32
  pub enough : 8 * reader.byte + reader.bit + w ≤ 8 * length reader.bytes.now

-- what a pull of w bits at p gives: their value, and the reader after them
pub record PulledAt (bytes : List ℕ) (p w value : ℕ) (reader : BitReader) : Type 0 where
  pub value_is : value ≡ field (stream_bit bytes) p w
  pub next : ReaderAt bytes (p + w) reader

-- of the first p bits of the stream f, those of the first `at`
-- bytes are written, over `old`, and the other `have` are held
pub record Writing (f : ℕ → ℕ) (p : ℕ) (old out : List ℕ) (at acc have : ℕ) : Type 0 where
  pub binary : (j : ℕ) → f j < 2
  pub place : p ≡ 8 * at + have
  pub held : acc ≡ field f (8 * at) have
  pub within : at ≤ length old
  pub done : out ≡ filled at (byte_of f) old

-- the writer stands at bit p: for indices of width w, at i * w before index i
pub record WriterAt (f : ℕ → ℕ) (p : ℕ) (old out : List ℕ) (writer : BitWriter) : Type 0 where
  pub few : writer.have < 8
  pub writing : Writing f p old out writer.at writer.acc writer.have

-- what a push of w bits asks
pub record Pushable (out : List ℕ) (value w : ℕ) (writer : BitWriter) : Type 0 where
  pub few : writer.have < 8
  pub small : writer.acc < 2 ^ writer.have
  pub fits : value < 2 ^ w
  pub narrow : w ≤ 32
  pub room : 8 * writer.at + writer.have + w ≤ 8 * length out

-- what the end of a packing asks
pub record Finishable (out : List ℕ) (writer : BitWriter) : Type 0 where
  pub few : writer.have < 8
  pub small : writer.acc < 2 ^ writer.have
  pub room : 8 * writer.at + writer.have ≤ 8 * length out
