use native.Mathlib.Omega.{arith}
use Rattle.layout.proofs.AnswerTests.{failed, held}
use Rattle.check_edges.proofs.TruthLaws as laws
use Rattle.check_edges.proofs.edges_match.child_right.Goals as goal

pub link-link-requires : goal.link-link-requires
link-link-requires c = laws.plain-there _ _ _ _ _ c.requires.0 2 (omega arith)

pub edges-at-requires : goal.edges-at-requires
edges-at-requires c = laws.edges-asked _ _ _ _ _ c.requires.0

pub edges-first-requires : goal.edges-first-requires
edges-first-requires c = laws.under-asked _ _ _ _ _ c.requires.0 c.requires.1

pub equal_at-requires : goal.equal_at-requires
equal_at-requires c = laws.first-room _ _ _ _ _ c.requires.0 c.requires.1 _ _ _ c.link-link.ensures c.edges-at.ensures.0 c.edges-first.ensures.0

pub returns-then-not-equal_at : goal.returns-then-not-equal_at
returns-then-not-equal_at c = laws.first-differs _ _ _ _ _ c.requires.0 c.requires.1 _ _ _ c.link-link.ensures c.edges-at.ensures.0
    c.edges-first.ensures.0 (failed c.equal_at.ensures c.if-not-equal_at.true-raw)

pub overflow_sub-last_child : goal.overflow_sub-last_child
overflow_sub-last_child c = laws.arity-some _ _ _ _ _ c.requires.0 c.requires.1

pub overflow_add-last_child : goal.overflow_add-last_child
overflow_add-last_child c = omega (
  arith,
  laws.last_fits _ _ _ _ _ c.requires.0 c.requires.1
      (λ k. (c.shared_slice_known-1.given k).fits) _ c.link-link.ensures,
)

pub edges-last-requires : goal.edges-last-requires
edges-last-requires c = laws.under-asked _ _ _ _ _ c.requires.0 c.requires.1

pub equal_at-requires-2 : goal.equal_at-requires-2
equal_at-requires-2 c = laws.last-room _ _ _ _ _ c.requires.0 c.requires.1 _ _ _ c.link-link.ensures c.edges-at.ensures.0 c.edges-first.ensures.0 _ c.edges-last.ensures.0

pub returns : goal.returns
returns c = laws.last-compared _ _ _ _ _ c.requires.0 c.requires.1 _ _ _ c.link-link.ensures c.edges-at.ensures.0 c.edges-first.ensures.0
    _ c.edges-last.ensures.0 (held c.equal_at.ensures c.if-not-equal_at.false-raw)
    _ c.equal_at-2.ensures
