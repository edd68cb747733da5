-- The words and edges that the builder writes for a record.
use Rattle.std.specs.Prelude.{List, [], cond, ℕ, ◌+◌, ◌-◌, eqb}
use Rattle.format.specs.Layout.{word_at}
use Rattle.byte_slices.specs.ByteSlices.{bytes_written}

-- An edge of m bytes at a place: some bytes of T, then zeros.
abbrev pub edge_written : List ℕ → ℕ → List ℕ → ℕ → ℕ → ℕ → List ℕ
edge_written t at T from own m = bytes_written (bytes_written t at T from own) (at + own) [] 0 (m - own)

-- The count before a block: 0 at the start of its parent, else the sum of the two words at `left`.
abbrev pub before_word : List ℕ → ℕ → ℕ → ℕ → ℕ
before_word t left s parent = cond (eqb s parent) 0 (word_at t left + word_at t (left + 4))
