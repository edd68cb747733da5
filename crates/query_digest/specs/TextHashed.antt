-- Definitions that only the contracts of inner functions use: the text is read and hashed part by part.
use Rattle.std.specs.Prelude.{List, Option, Some, None, Bool, true, ◌≡◌, ℕ, ◌+◌, ◌-◌, ◌/◌, ◌%◌, ◌≤◌, ◌<◌, get_or}
use Rattle.std.proofs.Math.Bool.{cond}
use Rattle.format.specs.Layout as at
use Rattle.format.specs.TreeReading.{text_of}
use Rattle.format.specs.Answers.{paths_hold}
use Rattle.sha256.specs.declared.HashState.{HashState}
use Rattle.sha256.specs.Sha256.{initial_state, state_after, hash_of}

module _ (t : List ℕ) where
  -- The hash value when the paths from place p on are still to be read; none if one of them breaks.
  unfoldable pub hash_answer : ℕ → Option HashState
  unfolding at.text_length
  hash_answer p = cond (paths_hold t p (at.text_length t - p)) (Some (hash_of (text_of t))) None

  -- The start of a buffer holds the len bytes of the text from p on, if none of their paths breaks (r).
  pub record PartRead (p len : ℕ) (r : Bool) (after : List ℕ) : Type 0 where
    pub holds : r ≡ paths_hold t p len
    pub bytes : r ≡ true → (x : ℕ) → x < len → get_or after x 0 ≡ get_or (text_of t) (p + x) 0

  -- The state s is the hash value of the text up to place p, a multiple of 64.
  pub record HashedUpTo (p : ℕ) (s : HashState) : Type 0 where
    pub in_text : p ≤ at.text_length t
    pub blocks : p % 64 ≡ 0
    pub value : s ≡ state_after initial_state (text_of t) (p / 64)
