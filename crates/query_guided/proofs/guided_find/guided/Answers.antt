use native.Mathlib.Omega.{arith}
use Rattle.walk_steps.proofs.NextLaws.{on-top}
use mathlib.Core.Path.{ap}
use Prim.Native.Nat.{ℕ, ◌+◌}
use Rattle.query_select.proofs.FindByHeaderLaws.{sought-by}
use Rattle.query_guide.specs.Guides.{last_entry}
use Rattle.query_guided.proofs.GuidedFindLaws as laws
use Rattle.query_guided.proofs.guided_find.guided.Goals as goal

pub entries_before-requires : goal.entries_before-requires
entries_before-requires c = (c.requires.0, omega (arith, c.requires.1))

pub overflow_sub-place : goal.overflow_sub-place
overflow_sub-place c = omega (arith, c.requires.3)

pub overflow_add-place : goal.overflow_add-place
overflow_add-place c = omega (arith, c.entries_before.ensures.1)

pub returns-then-guide-place : goal.returns-then-guide-place
returns-then-guide-place c = (
  laws.entry-missing _ _ _ _ _
      c.requires.1 c.requires.3 c.requires.4 _ (ap (λ (k : ℕ). k + last_entry c.args.j) c.entries_before.ensures.0) c.if-guide-place.true,
  omega arith,
)

pub overflow_mul-place : goal.overflow_mul-place
overflow_mul-place c = omega (arith, c.if-guide-place.false)

pub read-entry-requires : goal.read-entry-requires
read-entry-requires c = omega (arith, c.if-guide-place.false)

pub returns-then-level_count-entry : goal.returns-then-level_count-entry
returns-then-level_count-entry c = (
  laws.entry-astray _ _ _ _ _
      c.requires.1 c.requires.3 c.requires.4 _ (ap (λ (k : ℕ). k + last_entry c.args.j) c.entries_before.ensures.0)
      (omega (arith, c.level_count.ensures, c.read-entry.ensures, c.if-level_count-entry.true)),
  omega arith,
)

pub block_from-along-requires : goal.block_from-along-requires
block_from-along-requires c = (c.requires.0, c.requires.1, omega (arith, c.level_count.ensures, c.if-level_count-entry.false))

pub word_in-word-requires : goal.word_in-word-requires
word_in-word-requires c = (
  on-top _ _ c.requires.0,
  c.requires.1,
  c.requires.3,
  c.requires.4,
  laws.stops c.args.t.now.now c.args.guide.now c.args.wanted.byte
      _ _ c.requires.1 c.requires.3 c.requires.4 _ (ap (λ (k : ℕ). k + last_entry c.args.j)
      c.entries_before.ensures.0)
      _ _ _ c.read-entry.ensures c.block_from-along.ensures.0 c.block_from-along.ensures.1,
)

pub returns : goal.returns
returns c = let z = sought-by _ _ _ _ _ _ _ _ c.requires.0.length_is c.requires.2 c.text_place.ensures.0 c.word_in-word.ensures in (
  rw c.with_steps.ensures (laws.sought-by c.args.t.now.now c.args.guide.now c.args.wanted.byte _ _ c.requires.1
      c.requires.3 c.requires.4 _ (ap (λ (k : ℕ). k + last_entry c.args.j) c.entries_before.ensures.0)
      _ _ _ c.read-entry.ensures
      c.block_from-along.ensures.0 c.block_from-along.ensures.1 c.text_place.result c.text_place.ensures.1 z),
  rw c.with_steps.ensures (laws.numbered-same c.text_place.result c.block_from-along.result.steps c.text_place.ensures.1),
)
