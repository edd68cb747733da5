-- The marking rule as the builder decides it, for each block and the next one.
use Rattle.std.specs.Prelude.{List, Bool, true, false, cond, ◌≡◌, ℕ, zero, suc, eqb}
use Rattle.text.specs.Text.{sum_below, leftmost}
use Rattle.format.specs.Layout.{Settings, block_length}
use Rattle.format.specs.Blocks.{starts_at, pair_at, first_pair_at}
use Rattle.theory_built.specs.Structure.{kept_at, width_of}
use Rattle.build_records.specs.declared.level_written.Level.{Level}
use Rattle.build_records.specs.State.{BlockNext}
use Rattle.build_marking.specs.declared.pair.Pair.{Pair}
use Rattle.build_marking.specs.declared.pair.Pair.TheVariants.{Apart, First, Again}

-- Whether a block is kept, by the pairs before and after it: one of them occurs here first, or there is none.
abbrev pub is_kept_by : Pair → Pair → Bool
is_kept_by First after = true
is_kept_by Apart Apart = true
is_kept_by Apart First = true
is_kept_by Apart Again = false
is_kept_by Again Apart = false
is_kept_by Again First = true
is_kept_by Again Again = false

-- The pair of len bytes at s: whether its bytes occur earlier.
abbrev pub pair_answer : List ℕ → ℕ → ℕ → Pair
pair_answer T s len = cond (eqb (leftmost T s len) s) First Again

-- The pair by the tests of docs/FORMAT.md, "Blocks".
abbrev pub pair_by : Bool → Bool → Pair
pair_by first pair = cond first First (cond pair Again Apart)

module _ (S : Settings) (T : List ℕ) (l : ℕ) where
  -- The pair of block i and the next one; on the last level no pair is looked for.
  unfoldable pub pair_of : ℕ → Pair
  pair_of i =
      cond (eqb (suc l) S.levels) Apart
      (pair_by (first_pair_at T (block_length S l) (starts_at S T l) i) (pair_at T (block_length S l) (starts_at S T l) i))

  -- The pair of block i and the one before it.
  unfoldable pub pair_before : ℕ → Pair
  pair_before zero = Apart
  pair_before (suc i) = pair_of i

module _ (S : Settings) (T : List ℕ) where
  -- Block i of a level is next in turn; its kind and its link are known.
  pub record Next (out : List ℕ) (level : Level) (i : ℕ) (kept : Bool) (link : ℕ) : Type 0 where
    pub on : BlockNext S T out level i
    pub kept_is : kept ≡ kept_at S T level.number i
    pub link_is : link ≡ sum_below i (width_of S T level.number)
