-- Starts of blocks, one in each record from a place on.
use Rattle.std.specs.Prelude.{List, ℕ, zero, suc, ◌+◌, ◌*◌, ◌≤◌, length}
use Rattle.format.specs.Layout.{max_text, set_word}
use Rattle.format.specs.SizeLaws.{max_record}
use Rattle.theory_built.specs.BlockSizes.{max_table}

abbrev pub starts_written : List ℕ → ℕ → ℕ → ℕ → ℕ → ℕ → List ℕ
starts_written t at step s b zero = t
starts_written t at step s b (suc n) = set_word (starts_written t at step s b n) (at + n * step) (s + n * b)

pub record StartsAsk (t : List ℕ) (at step s b n : ℕ) : Type 0 where
  pub room : at + n * step ≤ length t
  pub step_low : 4 ≤ step
  pub step_few : step ≤ max_record
  pub at_few : at ≤ max_table + max_record * max_text
  pub count_few : n ≤ max_text
  pub ends : s + n * b ≤ 3 * max_text
