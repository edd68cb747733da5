-- Bytes cut at a byte: lines at byte 10, the tokens of a line at byte 32.
use Rattle.std.specs.Prelude.{List, ◌≡◌, ℕ, zero, suc, ◌+◌, ◌≤◌, ◌<◌, length, take, drop, eqb}
use Rattle.std.specs.List.{position_or_len}

-- The place of the first `stop`, or the number of bytes.
unfoldable pub place_of_stop : ℕ → List ℕ → ℕ
place_of_stop stop s = position_or_len (λ b. eqb b stop) s

-- The bytes before the first `stop`, or all bytes.
unfoldable pub front : ℕ → List ℕ → List ℕ
front stop s = take (place_of_stop stop s) s

-- The bytes after the first `stop`, or none.
unfoldable pub rest : ℕ → List ℕ → List ℕ
rest stop s = drop (place_of_stop stop s + 1) s

-- The bytes from token k on.
unfoldable pub after : List ℕ → ℕ → List ℕ
after line zero = line
after line (suc k) = rest 32 (after line k)

-- token k, from 0; empty where there are fewer
unfoldable pub token_of : List ℕ → ℕ → List ℕ
token_of line k = front 32 (after line k)

-- r is the place after the first `stop` from `at` on.
pub record Past (s : List ℕ) (at stop r : ℕ) : Type 0 where
  pub inside : r ≤ length s
  pub later : at < length s → at < r
  pub begins : drop r s ≡ rest stop (drop at s)

-- r is the place where token k begins
pub record Start (line : List ℕ) (k r : ℕ) : Type 0 where
  pub inside : r ≤ length line
  pub begins : drop r line ≡ after line k
