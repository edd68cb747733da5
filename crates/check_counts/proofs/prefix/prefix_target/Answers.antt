use native.Mathlib.Omega.{arith}
use Rattle.check_counts.proofs.CountsHeader as facts
use Rattle.check_counts.proofs.PrefixLaws as laws
use Rattle.check_counts.proofs.prefix.prefix_target.Goals as goal

pub kind-kind-requires : goal.kind-kind-requires
kind-kind-requires c = facts.plain-there _ _ _ _ _ c.requires.1.table 1 (omega arith)

pub returns-then-kind-eq0 : goal.returns-then-kind-eq0
returns-then-kind-eq0 c = (laws.holder-of-kept _ _ _ _ _ _ _ c.requires.0 c.requires.1 _ c.kind-kind.ensures c.if-kind-eq0.true, omega arith)

pub link-link-requires : goal.link-link-requires
link-link-requires c = facts.plain-there _ _ _ _ _ c.requires.1.table 2 (omega arith)

pub gap-gap-requires : goal.gap-gap-requires
gap-gap-requires c = facts.plain-there _ _ _ _ _ c.requires.1.table 3 (omega arith)

pub skip-skip-requires : goal.skip-skip-requires
skip-skip-requires c = facts.skip-there _ _ _ _ _ c.requires.1.table

pub overflow_add-at : goal.overflow_add-at
overflow_add-at c = omega (
  arith,
  laws.sum-small _ _ _ _ _ _ _ c.requires.0 c.requires.1 _ c.kind-kind.ensures c.if-kind-eq0.false _ c.gap-gap.ensures,
)

pub returns-then-at-on : goal.returns-then-at-on
returns-then-at-on c = (
  laws.holder-first _ _ _ _ _ _ _
      c.requires.0 c.requires.1 _ c.kind-kind.ensures c.if-kind-eq0.false
      _ _ _ c.link-link.ensures c.gap-gap.ensures c.skip-skip.ensures c.if-at-on.true,
  omega arith,
)

pub overflow_add-result : goal.overflow_add-result
overflow_add-result c = omega (
  arith,
  facts.count-lt c.args.t.now c.args.on.level (λ k. (c.shared_slice_known-1.given k).fits),
  laws.next-there
      _ _ _ _ _ _ _ c.requires.0 c.requires.1 _ c.kind-kind.ensures c.if-kind-eq0.false _ _ _ c.link-link.ensures
      c.gap-gap.ensures c.skip-skip.ensures c.if-at-on.false,
)

pub inside-requires : goal.inside-requires
inside-requires c = facts.inside-there
    _ _ _ _ _ (laws.target-there _ _ _ _ _ _ _ c.requires.0 c.requires.1
    _ c.kind-kind.ensures c.if-kind-eq0.false _ _ _ c.link-link.ensures c.gap-gap.ensures c.skip-skip.ensures)

pub returns : goal.returns
returns c = (
  laws.holder-second _ _ _ _ _ _ _ c.requires.0
      c.requires.1 _ c.kind-kind.ensures c.if-kind-eq0.false _ _ _ c.link-link.ensures
      c.gap-gap.ensures c.skip-skip.ensures _ c.inside.ensures c.if-at-on.false,
  omega (arith, c.inside.type_inv),
)
