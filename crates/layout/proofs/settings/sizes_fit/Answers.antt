use borrow.Author.Rules.{rules}
use Prim.Native.Nat.{ℕ}
use mathlib.Core.Path.{ap}
use lib.Dec.{leb}
use borrow.Author.Tests.{lt-leb, le-leb}
use Rattle.format.specs.Layout.{sizes_ok, max_text, min_leaf, max_leaf, min_arity, max_arity, min_levels, max_levels}
use Rattle.layout.proofs.settings.sizes_fit.Goals as goal

pub returns-then-leaf-lt-MIN_LEAF : goal.returns-then-leaf-lt-MIN_LEAF
unfolding sizes_ok
returns-then-leaf-lt-MIN_LEAF c = simp (lt-leb min_leaf _ c.if-leaf-lt-MIN_LEAF.true)

pub returns-then-leaf-gt-MAX_LEAF : goal.returns-then-leaf-gt-MAX_LEAF
unfolding sizes_ok
returns-then-leaf-gt-MAX_LEAF c = simp (le-leb min_leaf _ c.if-leaf-lt-MIN_LEAF.false, lt-leb _ max_leaf c.if-leaf-gt-MAX_LEAF.true)

pub returns-then-arity-lt-MIN_ARITY : goal.returns-then-arity-lt-MIN_ARITY
unfolding sizes_ok
returns-then-arity-lt-MIN_ARITY c = simp (le-leb min_leaf _ c.if-leaf-lt-MIN_LEAF.false, le-leb _ max_leaf c.if-leaf-gt-MAX_LEAF.false, lt-leb min_arity _ c.if-arity-lt-MIN_ARITY.true)

pub returns-then-arity-gt-MAX_ARITY : goal.returns-then-arity-gt-MAX_ARITY
unfolding sizes_ok
returns-then-arity-gt-MAX_ARITY c = simp (
  le-leb min_leaf _ c.if-leaf-lt-MIN_LEAF.false,
  le-leb _ max_leaf c.if-leaf-gt-MAX_LEAF.false,
  le-leb min_arity _ c.if-arity-lt-MIN_ARITY.false,
  lt-leb _ max_arity c.if-arity-gt-MAX_ARITY.true,
)

pub returns-then-levels-lt-MIN_LEVELS : goal.returns-then-levels-lt-MIN_LEVELS
unfolding sizes_ok
returns-then-levels-lt-MIN_LEVELS c = simp (
  le-leb min_leaf _ c.if-leaf-lt-MIN_LEAF.false,
  le-leb _ max_leaf c.if-leaf-gt-MAX_LEAF.false,
  le-leb min_arity _ c.if-arity-lt-MIN_ARITY.false,
  le-leb _ max_arity c.if-arity-gt-MAX_ARITY.false,
  lt-leb min_levels _ c.if-levels-lt-MIN_LEVELS.true,
)

pub returns-then-levels-gt-MAX_LEVELS : goal.returns-then-levels-gt-MAX_LEVELS
unfolding sizes_ok
returns-then-levels-gt-MAX_LEVELS c = simp (
  le-leb min_leaf _ c.if-leaf-lt-MIN_LEAF.false,
  le-leb _ max_leaf c.if-leaf-gt-MAX_LEAF.false,
  le-leb min_arity _ c.if-arity-lt-MIN_ARITY.false,
  le-leb _ max_arity c.if-arity-gt-MAX_ARITY.false,
  le-leb min_levels _ c.if-levels-lt-MIN_LEVELS.false,
  lt-leb _ max_levels c.if-levels-gt-MAX_LEVELS.true,
)

pub power-requires : goal.power-requires
unfolding sizes_ok
power-requires c = search rules

pub returns : goal.returns
unfolding sizes_ok
returns c = simp (
  le-leb min_leaf _ c.if-leaf-lt-MIN_LEAF.false,
  le-leb _ max_leaf c.if-leaf-gt-MAX_LEAF.false,
  le-leb min_arity _ c.if-arity-lt-MIN_ARITY.false,
  le-leb _ max_arity c.if-arity-gt-MAX_ARITY.false,
  le-leb min_levels _ c.if-levels-lt-MIN_LEVELS.false,
  le-leb _ max_levels c.if-levels-gt-MAX_LEVELS.false,
)
    (ap (λ (b : ℕ). leb b max_text) c.power.ensures)
