-- The contents of a table while a guide is made, and the part of a guide that has been compared.
use Rattle.std.specs.Prelude.{List, ◌++◌, Bool, true, false, ◌≡◌, ℕ, ◌*◌, ◌≤◌, ◌<◌, length, get_or, take, drop}
use Rattle.format.specs.Layout.{word_at, words_bytes}
use Rattle.query_guide.specs.Guides.{guide_of, guide_bytes}

-- A table with the first e entries written.
unfoldable pub guide_written : List ℕ → ℕ → List ℕ → List ℕ
guide_written t e old = words_bytes (take e (guide_of t)) ++ drop (4 * e) old

-- The entries from one number up to another are written.
pub record Puts (t before after : List ℕ) (from to : ℕ) : Type 0 where
  pub same_length : length after ≡ length before
  pub puts : (old : List ℕ) → length before ≡ length old → before ≡ guide_written t from old → after ≡ guide_written t to old

-- The entries from one number up to another were compared with those of a guide.
pub record GuideCompared (t guide : List ℕ) (from to : ℕ) (r : Bool) : Type 0 where
  pub yes : r ≡ true → (i : ℕ) → from ≤ i → i < to → word_at guide (4 * i) ≡ get_or (guide_of t) i 0
  pub no : r ≡ false → guide ≡ guide_bytes t → ⊥
