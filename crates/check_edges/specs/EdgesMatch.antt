-- The preconditions of the check of edges, and the result of testing one edge.
use Rattle.std.specs.Prelude.{List, Option, Some, None, Bool, true, false, ◌&&◌, ◌≡◌, ℕ, ◌+◌, ◌-◌, ◌<◌, replicate}
use Rattle.text.specs.Text.{same_list, substring}
use Rattle.format.specs.Layout as at
use Rattle.format.specs.TreeReading.{links_ok}
use Rattle.layout.specs.declared.header.Header.{Header}
use Rattle.layout.specs.HeaderFields.{HeaderOf}
use Rattle.walk_steps.specs.Steps.{OnLevel}
use Rattle.walk_short.specs.declared.gather.Parts.{Parts}

-- A tree that passes questions 5 to 8, with its header.
pub record Linking (t : List ℕ) (h : Header) : Type 0 where
  pub header : HeaderOf t h
  pub linked : links_ok t ≡ true

-- A block of a layout 2 tree that passes questions 5 to 8.
pub record Edged (t : List ℕ) (h : Header) (level b i : ℕ) : Type 0 where
  pub tree : Linking t h
  pub two : at.layout t ≡ 2
  pub on : OnLevel t h.record_size level b
  pub block_in : i < at.level_count t level

-- A block of the last level of such a tree, and its bytes.
pub record Leafy (t : List ℕ) (h : Header) (level i own : ℕ) : Type 0 where
  pub tree : Linking t h
  pub last : level + 1 ≡ (at.settings t).levels
  pub block_in : i < at.level_count t level
  pub own_is : own ≡ at.block_length_at t level i

-- The m bytes at a are the x bytes that were found, then zeros.
abbrev pub found_is : List ℕ → ℕ → ℕ → ℕ → Option Parts → Bool
found_is t m a x None = false
found_is t m a x (Some q) =
    same_list (substring t a q.size) (substring t q.from q.size)
    && same_list (substring t (a + q.size) (x - q.size)) (substring t q.next (x - q.size))
    && same_list (substring t (a + x) (m - x)) (replicate (m - x) 0)
