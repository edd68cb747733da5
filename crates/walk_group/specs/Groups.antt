-- Some paths that are walked together, and the leaf bytes that they lead to. On a level the k-th path is in block k of a list `is`, at place k of a list `os`.
use Rattle.std.specs.Prelude.{List, Bool, true, false, Option as OptionOf, Some, None, ◌≡◌, ℕ, ◌+◌, ◌-◌, ◌*◌, ◌/◌, ◌%◌, ◌<◌, get_or}
use Rattle.std.proofs.Math.Option.{Option, none, some}
use Rattle.format.specs.Layout as at
use Rattle.format.specs.TreeReading.{path_from, path_of}
use Rattle.walk_steps.specs.declared.position.BlockPosition.{BlockPosition}
use Rattle.walk_ranges.specs.Segments.{leaf_number}

-- The first n of the places p, p + s and so on are below m.
abbrev pub PlacesBelow : ℕ → ℕ → ℕ → ℕ → Type 0
PlacesBelow p s n m = (k : ℕ) → k < n → p + k * s < m

-- The blocks and places of these places on level 0, where b is the block length.
abbrev pub AtTop : ℕ → ℕ → ℕ → ℕ → List ℕ → List ℕ → Type 0
AtTop p s n b is os = (k : ℕ) → k < n → (get_or is k 0 ≡ (p + k * s) / b) × (get_or os k 0 ≡ (p + k * s) % b)

module _ (t : List ℕ) where
  -- A block of level l and a place in it.
  pub record InBlock (l i o : ℕ) : Type 0 where
    pub block_in : i < at.level_count t l
    pub place-in : o < at.full_length t l

  -- The number of the leaf byte of place o of block i of level l; none if its path breaks.
  unfoldable pub leaf_at : ℕ → ℕ → ℕ → Option ℕ
  leaf_at l i o = leaf_number (path_from t ((at.settings t).levels - 1 - l) l i o)

  -- That of the k-th of the places p, p + s and so on.
  unfoldable pub place_leaf : ℕ → ℕ → ℕ → Option ℕ
  place_leaf p s k = leaf_number (path_of t (p + k * s))

  -- That of the k-th path, which has come to level l.
  unfoldable pub group_leaf : ℕ → List ℕ → List ℕ → ℕ → Option ℕ
  group_leaf l is os k = leaf_at l (get_or is k 0) (get_or os k 0)

  -- The first n paths have come to level l.
  abbrev pub GroupAt : ℕ → ℕ → List ℕ → List ℕ → Type 0
  GroupAt l n is os = (k : ℕ) → k < n → InBlock l (get_or is k 0) (get_or os k 0)

  -- The path of place o of block i of level l comes to place q of block j of level m.
  pub record GoesTo (l i o m j q : ℕ) : Type 0 where
    pub there : InBlock m j q
    pub same_leaf : leaf_at m j q ≡ leaf_at l i o

  -- The answer of `step`.
  abbrev pub StepAnswer : ℕ → ℕ → ℕ → OptionOf BlockPosition → Type 0
  StepAnswer l i o (Some x) = GoesTo l i o (l + 1) x.block.0 x.place.0
  StepAnswer l i o None = leaf_at l i o ≡ none

  -- The first n paths came from level l to blocks js and places qs of level m; or one of them breaks.
  abbrev pub WalkedTo : (l m n : ℕ) (is os js qs : List ℕ) → Bool → Type 0
  WalkedTo l m n is os js qs true = (k : ℕ) → k < n → GoesTo l (get_or is k 0) (get_or os k 0) m (get_or js k 0) (get_or qs k 0)
  WalkedTo l m n is os js qs false = (k : ℕ) × (k < n) × (group_leaf l is os k ≡ none)

  -- The answer of `leaf_byte` on the last level.
  abbrev pub LeafByteAnswer : ℕ → ℕ → OptionOf ℕ → Type 0
  LeafByteAnswer i o (Some v) = (x : ℕ) × (leaf_at ((at.settings t).levels - 1) i o ≡ some x) × (v ≡ at.leaf_byte t x)
  LeafByteAnswer i o None = leaf_at ((at.settings t).levels - 1) i o ≡ none
