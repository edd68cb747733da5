-- The first occurrence of a byte in n bytes, and the number whose binary digits show which of the bytes are equal to it.
use Rattle.std.specs.Prelude.{List, cond, ◌≡◌, ℕ, zero, suc, ◌+◌, ◌*◌, ◌≤◌, ◌<◌, get_or, eqb}

-- None of the n bytes at a place is equal.
pub record Without (t : List ℕ) (from n byte : ℕ) : Type 0 where
  pub other : (x : ℕ) → x < n → get_or t (from + x) 0 ≡ byte → ⊥

-- The first of the n bytes at a place that is equal is the r-th, from 0; r is n if there is none.
pub record FirstByte (t : List ℕ) (from n byte r : ℕ) : Type 0 where
  pub high : r ≤ n
  pub absent : Without t from r byte
  pub there : r < n → get_or t (from + r) 0 ≡ byte

unfoldable pub bit_of : ℕ → ℕ → ℕ
bit_of a b = cond (eqb a b) 1 0

-- The number whose binary digit x is 1 if the x-th of the k bytes at a place is equal.
unfoldable pub mask_of : ℕ → List ℕ → ℕ → ℕ → ℕ
unfolding bit_of
mask_of zero t at byte = 0
mask_of (suc k) t at byte = bit_of (get_or t at 0) byte + 2 * mask_of k t (at + 1) byte
