-- A buffer that is filled with the bytes of a tree: every write stores what the tree has at that place, so bytes that are right stay right.
use Rattle.std.specs.Prelude.{List, ◌≡◌, ℕ, ◌≤◌, ◌<◌, length, get_or}

-- `new` differs from `old` only where it now equals D, and nothing past the end of D is written.
pub record WritesOnlyTree (D old new : List ℕ) : Type 0 where
  pub same_length : length new ≡ length old
  pub keeps : (k : ℕ) → get_or old k 0 ≡ get_or D k 0 → get_or new k 0 ≡ get_or D k 0
  pub past : (k : ℕ) → length D ≤ k → get_or new k 0 ≡ get_or old k 0

-- From place a up to w the buffer agrees with D.
pub record AgreesOn (D t : List ℕ) (a w : ℕ) : Type 0 where
  pub right : (k : ℕ) → a ≤ k → k < w → get_or t k 0 ≡ get_or D k 0
