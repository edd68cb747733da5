-- The words that the builder writes in the header.
use Rattle.std.specs.Prelude.{List, ◌++◌, ℕ, zero, suc, ◌+◌, ◌-◌, length, replicate}
use Rattle.format.specs.Layout.{set_word, max_counted, count_at, offset_at}

-- The places for counted bytes.
abbrev pub places : List ℕ → List ℕ
places cs = cs ++ replicate (max_counted - length cs) 0

-- The two words of level x.
abbrev pub pair_written : List ℕ → ℕ → ℕ → ℕ → List ℕ
pair_written t x count table = set_word (set_word t (count_at x) count) (offset_at x) table

-- Zeros for n levels from level H on.
abbrev pub unused_written : List ℕ → ℕ → ℕ → List ℕ
unused_written t H zero = t
unused_written t H (suc n) = pair_written (unused_written t H n) (H + n) 0 0
