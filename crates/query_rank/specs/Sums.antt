-- The state of a count on its path, and the preconditions of its steps.
use Rattle.std.specs.Prelude.{List, [], ◌∷◌, Option as OptionOf, Some, None, ◌≡◌, ℕ, ◌+◌, ◌*◌, ◌≤◌, ◌<◌, ◌-◌, ◌/◌, ◌%◌, length, cond, eqb, leb}
use Rattle.std.proofs.Math.Option.{Option, none, some}
use Rattle.text.specs.Text.{count_in}
use Rattle.format.specs.Layout as at
use Rattle.format.specs.TreeReading.{Path, Visit, path_from}
use Rattle.format.specs.Answers.{added_after, added, taken, leaves_reached, Answer, refused}
use Rattle.walk_steps.specs.Steps.{OnLevel}
use Rattle.walk_path.specs.Walk.{KeptAt}
use Rattle.query_rank.specs.declared.sums.Landing.{Landing}
use Rattle.query_rank.specs.declared.sums.Sum.{Sum}

-- The state with its three words.
abbrev pub sum_of : ℕ → ℕ → ℕ → Sum
sum_of entered plus minus = record { entered = entered; plus = plus; minus = minus }

-- The state after one more block, with more added and subtracted.
unfoldable pub rank_onward : Sum → ℕ → ℕ → Sum
rank_onward s plus minus = record { entered = s.entered + 1; plus = s.plus + plus; minus = s.minus + minus }

module _ (t : List ℕ) where
  -- What is added after the first block, whose count before the caller adds.
  unfoldable pub added_rest : ℕ → List Visit → ℕ
  added_rest c [] = 0
  added_rest c (v ∷ vs) = added_after t c v vs

  -- The result of a walk to the end of a path: the number of its blocks, what is added with the leaf bytes reached, and what is subtracted.
  unfoldable pub summed : ℕ → ℕ → Sum → Option Path → OptionOf Sum
  summed byte c s none = None
  summed byte c s (some q) = Some (record {
    entered = s.entered + length q.visits;
    plus = s.plus + (added_rest c q.visits + count_in byte (leaves_reached t q));
    minus = s.minus + taken t c q.visits;
  })

  -- The state before the first block of a path is entered.
  unfoldable pub start_sum : ℕ → ℕ → Sum
  start_sum c i = record { entered = 0; plus = at.before t 0 i c; minus = 0 }

  -- The sums of a whole path.
  unfoldable pub whole_sum : ℕ → ℕ → Option Path → OptionOf Sum
  whole_sum byte c none = None
  whole_sum byte c (some q) =
      Some (record { entered = length q.visits; plus = added t c q.visits + count_in byte (leaves_reached t q); minus = taken t c q.visits })

  -- The number of a counted byte, and sums of at most one word for each block.
  pub record Carried (c : ℕ) (s : Sum) : Type 0 where
    pub number_in : c < at.counted_count t
    pub plus_few : s.plus ≤ (s.entered + 1) * 4294967295
    pub minus_few : s.minus ≤ s.entered * 4294967295

  -- A pointing block and its target: the linked block or the next one.
  pub record Across (size level i j : ℕ) : Type 0 where
    pub on : OnLevel t size level (at.full_length t level)
    pub block_in : i < at.level_count t level
    pub target_in : j < at.level_count t level
    pub link_low : at.link t level i ≤ j

-- The finished count, which is not negative.
unfoldable pub settled : OptionOf Sum → Answer
settled None = refused 14
settled (Some s) = cond (leb s.minus s.plus) (record { number = 0; value = s.plus - s.minus; entered = s.entered }) (refused 14)

-- The answer that the word of a count represents: the count + 2^48 × the blocks entered; all ones if the path breaks or the count is negative.
unfoldable pub answer_in : ℕ → Answer
answer_in w = cond (eqb w 18446744073709551615) (refused 14) (record { number = 0; value = w % 281474976710656; entered = w / 281474976710656 })

module _ (t : List ℕ) where
  -- The finished count from a place of a block on.
  abbrev pub settled_from : ℕ → ℕ → ℕ → ℕ → ℕ → Sum → Answer
  settled_from level byte c i o s = settled (summed t byte c s (path_from t ((at.settings t).levels - 1 - level) level i o))

  -- A kept block of the level from which the finished count is that from block i; or the path from block i breaks.
  unfoldable pub LandedSum : ℕ → ℕ → ℕ → ℕ → ℕ → ℕ → ℕ → Sum → OptionOf Landing → Type 0
  LandedSum size level b byte c i o s (Some l) =
      (KeptAt t size level b l.block.0 l.place.0 l.sum.entered) × (Carried t c l.sum)
      × (settled_from level byte c l.block.0 l.place.0 l.sum ≡ settled_from level byte c i o s)
  LandedSum size level b byte c i o s None = refused 14 ≡ settled_from level byte c i o s
