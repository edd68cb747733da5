-- The result of looking for a byte in a range of bytes, and the contents of a buffer after bytes are copied.
use Rattle.std.specs.Prelude.{List, ◌≡◌, ℕ, zero, suc, ◌+◌, ◌≤◌, ◌<◌, get_or, set}
use Rattle.text.specs.Text.{substring, count_in}

-- The j-th occurrence of the byte in the n bytes at a place is at r, or there are fewer.
pub record HasBytes (t : List ℕ) (from n byte j r : ℕ) : Type 0 where
  pub high : r ≤ n
  pub here : r < n → (get_or t (from + r) 0 ≡ byte) × (count_in byte (substring t from r) + 1 ≡ j)
  pub fewer : n ≤ r → count_in byte (substring t from n) < j

-- The n bytes of T from `from` on, written from `to` on.
abbrev pub bytes_written : List ℕ → ℕ → List ℕ → ℕ → ℕ → List ℕ
bytes_written t to T from zero = t
bytes_written t to T from (suc n) = set (bytes_written t to T from n) (to + n) (get_or T (from + n) 0)
