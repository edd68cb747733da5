use mathlib.Core.List.{List}
use Prim.Native.Nat.{ℕ}
use native.Mathlib.Omega.{arith}
use borrow.Author.Tests.{not-true, not-false}
use Rattle.walk_steps.proofs.NextLaws.{on-top}
use Rattle.walk_steps.proofs.StepLaws.{b-pos}
use Rattle.walk_group.proofs.GroupLaws as laws
use Rattle.walk_group.proofs.copy_places.Goals as goal

pub top_positions-requires : goal.top_positions-requires
top_positions-requires c = (
  b-pos _ _ _ _ (on-top _ _ c.requires.0),
  c.requires.1,
  c.requires.1,
  λ k less. omega (arith, c.requires.2 k less, c.requires.0.length_is, c.requires.0.facts.bounds.text_high),
)

pub walk_all-requires : goal.walk_all-requires
walk_all-requires c =
    let blocks : List ℕ = c.top_positions.new.blocks in
    let places : List ℕ = c.top_positions.new.places in (
      c.requires.0,
      omega (arith, c.requires.1, c.top_positions.auto.blocks),
      omega (arith, c.requires.1, c.top_positions.auto.places),
      laws.places-at _ _ c.requires.0 _ _ _ blocks places c.top_positions.ensures c.requires.2,
    )

pub returns-then-not-walk_all : goal.returns-then-not-walk_all
returns-then-not-walk_all c =
    let blocks : List ℕ = c.top_positions.new.blocks in
    let places : List ℕ = c.top_positions.new.places in
    let blocks_last : List ℕ = c.walk_all.new.blocks in
    let places-last : List ℕ = c.walk_all.new.places in
    laws.places-off _ _ c.requires.0 _ _ _ blocks places c.top_positions.ensures _ blocks_last places-last
    c.walk_all.result c.walk_all.ensures (not-true _ c.if-not-walk_all.true-raw) _ _

pub copy_bytes-requires : goal.copy_bytes-requires
copy_bytes-requires c =
    let blocks : List ℕ = c.top_positions.new.blocks in
    let places : List ℕ = c.top_positions.new.places in
    let blocks_last : List ℕ = c.walk_all.new.blocks in
    let places-last : List ℕ = c.walk_all.new.places in (
      c.requires.0,
      omega (arith, c.requires.1, c.top_positions.auto.blocks, c.walk_all.auto.blocks),
      omega (arith, c.requires.1, c.top_positions.auto.places, c.walk_all.auto.places),
      laws.places-reached _ _ c.requires.0 _ _ _ blocks places c.top_positions.ensures _ blocks_last places-last
          c.walk_all.result c.walk_all.ensures (not-false _ c.if-not-walk_all.false-raw),
      c.requires.3,
    )

pub returns : goal.returns
returns c =
    let blocks : List ℕ = c.top_positions.new.blocks in
    let places : List ℕ = c.top_positions.new.places in
    let blocks_last : List ℕ = c.walk_all.new.blocks in
    let places-last : List ℕ = c.walk_all.new.places in
    laws.places-copied _ _ c.requires.0 _ _ _ blocks places c.top_positions.ensures _ blocks_last places-last
    c.walk_all.result c.walk_all.ensures (not-false _ c.if-not-walk_all.false-raw)
    c.args.to c.args.buffer.now c.copy_bytes.new.buffer c.copy_bytes.result c.copy_bytes.ensures
