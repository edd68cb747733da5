-- The result of the walk of a find, and where its steps stop.
use Rattle.std.specs.Prelude.{List, cond, ◌≡◌, ◌⊎◌, ℕ, ◌+◌, ◌/◌, ◌%◌, ◌≤◌, ◌<◌, ltb}
use Rattle.format.specs.Layout as at
use Rattle.format.specs.TreeReading.{check_result}
use Rattle.format.specs.Answers.{Answer, refused}
use Rattle.format.specs.Answers as find

-- The place of a text of n bytes that the word of a step represents: 2^48 for each block entered, plus the place.
unfoldable pub placed_in : ℕ → ℕ → Answer
placed_in n word =
    cond (ltb (word % 281474976710656) n) (record { number = 0; value = word % 281474976710656; entered = word / 281474976710656 }) (refused 14)

-- The result of the walk: determined on accepted trees, free on others.
pub record Sought (t : List ℕ) (byte j : ℕ) (s : Answer) : Type 0 where
  pub accepted : check_result t ≡ 0 → s ≡ find.found t byte j
  pub free : (s ≡ refused 14) ⊎ ((s.number ≡ 0) × (s.value < at.text_length t))

-- Block i of level 0 is the one where the steps for j stop.
pub record Stopped (t : List ℕ) (c j i : ℕ) : Type 0 where
  pub block_in : i < at.level_count t 0
  pub next : i + 1 < at.level_count t 0 → j ≤ at.before t 0 (i + 1) c

-- The result of the walk from a block: determined on accepted trees if fewer than j occurrences are before the block, free on others.
pub record SoughtIn (t : List ℕ) (byte c j i : ℕ) (s : Answer) : Type 0 where
  pub accepted : check_result t ≡ 0 → at.before t 0 i c < j → s ≡ find.found t byte j
  pub free : (s ≡ refused 14) ⊎ ((s.number ≡ 0) × (s.value < at.text_length t))
