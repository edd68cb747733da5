-- The head of a chain, in one word. Its low eight bits are marks: each item of the chain sets the one that its fingerprint modulo 8 selects. Above them is
-- one more than the number of the chain's first item, 0 for an empty chain.
use Rattle.std.specs.Prelude.{◌≡◌, ℕ, ◌+◌, ◌*◌, ◌/◌, ◌%◌, ◌^◌, ◌<◌}

-- The largest number of items that links can represent.
abbrev pub max_items : ℕ
max_items = 16777215

unfoldable pub link_of : ℕ → ℕ
link_of w = w / 256

unfoldable pub mark_of : ℕ → ℕ → ℕ
mark_of w j = w / 2 ^ j % 2

-- The chain of a fingerprint, among `heads` chains.
unfoldable pub bucket_of : ℕ → ℕ → ℕ
bucket_of heads h = h * heads / 2147483648

-- The head after item x, with fingerprint h, is prepended to its chain.
pub record Pushed (w h x r : ℕ) : Type 0 where
  pub link : link_of r ≡ x + 1
  pub mark : mark_of r (h % 8) ≡ 1
  pub others : (j : ℕ) → j < 8 → mark_of w j ≡ 1 → mark_of r j ≡ 1
