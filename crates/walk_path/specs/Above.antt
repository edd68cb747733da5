-- A path without its last step: the blocks entered above the last level, and where it reaches the last level.
-- docs/FORMAT.md: "The path of a place".
use Rattle.std.specs.Prelude.{List, [], ◌++◌, Bool, true, false, ℕ, zero, suc, ◌+◌, ◌-◌, ◌/◌, ◌%◌, ltb}
use Rattle.std.proofs.Math.Option.{Option, none, some}
use Rattle.format.specs.Layout as at
use Rattle.format.specs.TreeReading.{Path, Visit, entered, resolved_block, resolved_place, resolved_visits, resolves, path_from}

-- The blocks entered, first to last; then a block of the last level, whose record has not been read, and the place in it.
pub record Above : Type 0 where
  pub visits : List Visit
  pub block : ℕ
  pub place : ℕ

-- The path with visits prepended.
abbrev pub entered_above : List Visit → Option Above → Option Above
entered_above vs none = none
entered_above vs (some a) = some (record { visits = vs ++ a.visits; block = a.block; place = a.place })

-- The path if a test holds, else none.
abbrev pub provided_above : Bool → Option Above → Option Above
provided_above true a = a
provided_above false a = none

module _ (t : List ℕ) where
  -- The path from place o of block i of level l, with `below` levels under it.
  unfoldable pub above_from : ℕ → ℕ → ℕ → ℕ → Option Above
  above_from zero l i o = provided_above (ltb i (at.level_count t l)) (some (record { visits = []; block = i; place = o }))
  above_from (suc below) l i o =
      let j = resolved_block t l i o in
      let p = resolved_place t l i o in
      let child = at.full_length t (l + 1) in
      provided_above (resolves t l i o) (entered_above (resolved_visits t l i o) (above_from below (l + 1) (at.link t l j + p / child) (p % child)))

  -- The path of a place of the text.
  unfoldable pub above_of : ℕ → Option Above
  above_of p = above_from ((at.settings t).levels - 1) 0 (p / at.full_length t 0) (p % at.full_length t 0)

  -- The path with its last step.
  unfoldable pub through_last : Option Above → Option Path
  through_last none = none
  through_last (some a) = entered a.visits (path_from t 0 ((at.settings t).levels - 1) a.block a.place)
