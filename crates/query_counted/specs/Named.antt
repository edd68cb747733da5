-- The precondition of looking for the number of a counted byte.
use Rattle.std.specs.Prelude.{List, ◌≡◌, ℕ, ◌≤◌, length}
use Rattle.format.specs.Layout.{max_counted, header_length}
use Rattle.format.specs.Layout as at

-- k bytes are counted
pub record Names (t : List ℕ) (k : ℕ) : Type 0 where
  pub long : header_length ≤ length t
  pub k_is : k ≡ at.counted_count t
  pub k_low : k ≤ max_counted
