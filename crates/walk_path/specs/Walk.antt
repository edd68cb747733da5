-- The result of a walk down a path, and the preconditions of its steps.
use Rattle.std.specs.Prelude.{List, Some, None, true, cond, ◌&&◌, ◌≡◌, ℕ, ◌+◌, ◌-◌, ◌*◌, ◌/◌, ◌%◌, ◌≤◌, ◌<◌, min, eqb, length}
use Rattle.std.specs.Prelude as prelude
use Rattle.std.proofs.Math.Option.{Option, none, some}
use Rattle.format.specs.Layout as at
use Rattle.format.specs.TreeReading.{is_kept_block, pointing_block, target_block, target_place}
use Rattle.format.specs.Answers.{left_over}
use Rattle.walk_path.specs.declared.WalkState.{WalkState}
use Rattle.walk_path.specs.declared.PathEnd.{PathEnd}
use Rattle.walk_path.specs.declared.Landing.{Landing}
use Rattle.walk_steps.specs.Steps.{OnLevel}
use Rattle.walk_path.specs.Above.{Above}

-- The state after one more block with `here` bytes left in it.
unfoldable pub onward : WalkState → ℕ → WalkState
onward state here = record { entered = state.entered + 1; left = min state.left here }

-- The result of a walk: the block and the place on the last level, the number of blocks entered above it, and the bytes left in each of them, at the least.
unfoldable pub walked : List ℕ → WalkState → Option Above → prelude.Option PathEnd
walked t state none = None
walked t state (some a) = Some (record {
  block = record { 0 = a.block };
  place = record { 0 = a.place };
  state = record { entered = state.entered + length a.visits; left = left_over t a.visits state.left };
})

-- The result that the word of a step represents: the block + 2^28 × the place + 2^36 × the blocks entered + 2^40 × the bytes left; all ones if the path
-- breaks.
unfoldable pub walked_in : ℕ → prelude.Option PathEnd
walked_in w =
    cond (eqb w 18446744073709551615) None
    (Some (record {
      block = record { 0 = w % 268435456 };
      place = record { 0 = w / 268435456 % 256 };
      state = record { entered = w / 68719476736 % 16; left = w / 1099511627776 };
    }))

-- The kept block for a place of a block above the last level: the block itself if it is kept, else its kept target, with one more block entered.
unfoldable pub landing_at : List ℕ → WalkState → ℕ → ℕ → ℕ → prelude.Option Landing
landing_at t state l i o =
    cond (is_kept_block t l i) (Some (record { block = record { 0 = i }; place = record { 0 = o }; state = state }))
    (cond (pointing_block t l i && is_kept_block t l (target_block t l i o))
    (Some (record {
      block = record { 0 = target_block t l i o };
      place = record { 0 = target_place t l i o };
      state = onward state (at.full_length t l - o);
    })) None)

-- A kept block of a level, a place in it, and the number of blocks entered before it: at most two on each level above, and the one that points to it.
pub record KeptAt (t : List ℕ) (size level b i o entered : ℕ) : Type 0 where
  pub on : OnLevel t size level b
  pub place-in : o < b
  pub kept : is_kept_block t level i ≡ true
  pub few : entered ≤ 2 * level + 1

-- A block of a level at which a pointer may still be followed, a place in it, and the number of blocks entered before it.
pub record MayPoint (t : List ℕ) (size level b i o entered : ℕ) : Type 0 where
  pub on : OnLevel t size level b
  pub block_in : i < at.level_count t level
  pub place-in : o < b
  pub few : entered ≤ 2 * level
