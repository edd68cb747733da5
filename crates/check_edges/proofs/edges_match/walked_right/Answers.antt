use Rattle.layout.proofs.AnswerTests.{failed, held}
use Rattle.check_edges.proofs.TruthLaws as laws
use Rattle.check_edges.proofs.edges_match.walked_right.Goals as goal

pub block_length-length-requires : goal.block_length-length-requires
block_length-length-requires c = record { on = c.requires.on; block_in = c.requires.block_in }

pub edges-at-requires : goal.edges-at-requires
edges-at-requires c = laws.edges-asked _ _ _ _ _ c.requires

pub gather-first-requires : goal.gather-first-requires
gather-first-requires c = (
  laws.walk-asks _ _ _ _ _ c.requires _ _ _ c.block_length-length.ensures.0 c.min-own.ensures c.edges-at.ensures.0
      0 (laws.front-in _ _ _ _ _ c.requires _ _ _ c.block_length-length.ensures.0 c.min-own.ensures c.edges-at.ensures.0),
  c.requires.two,
)

pub edge_right-requires : goal.edge_right-requires
edge_right-requires c = laws.first-asks _ _ _ _ _ c.requires
    _ _ _ c.block_length-length.ensures.0 c.min-own.ensures c.edges-at.ensures.0 c.gather-first.result (laws.within _ _ _ _ _
    c.requires _ _ _ c.block_length-length.ensures.0 c.min-own.ensures c.edges-at.ensures.0 0 (laws.front-in _ _ _ _ _
    c.requires _ _ _ c.block_length-length.ensures.0 c.min-own.ensures c.edges-at.ensures.0) _ c.gather-first.ensures)

pub returns-then-not-edge_right : goal.returns-then-not-edge_right
returns-then-not-edge_right c = laws.first-fails-block
    _ _ _ _ _ c.requires _ _ _ c.block_length-length.ensures.0 c.min-own.ensures
    c.edges-at.ensures.0 _ c.gather-first.ensures (failed c.edge_right.ensures c.if-not-edge_right.true-raw)

pub gather-last-requires : goal.gather-last-requires
gather-last-requires c = (
  laws.walk-asks _ _ _ _ _ c.requires _ _ _ c.block_length-length.ensures.0 c.min-own.ensures c.edges-at.ensures.0
      _ (laws.back_in _ _ _ _ _ c.requires _ _ _ c.block_length-length.ensures.0 c.min-own.ensures c.edges-at.ensures.0),
  c.requires.two,
)

pub edge_right-requires-2 : goal.edge_right-requires-2
edge_right-requires-2 c = laws.last-asks _ _ _ _ _ c.requires
    _ _ _ c.block_length-length.ensures.0 c.min-own.ensures c.edges-at.ensures.0 c.gather-last.result (laws.within _ _ _ _ _
    c.requires _ _ _ c.block_length-length.ensures.0 c.min-own.ensures c.edges-at.ensures.0 _ (laws.back_in _ _ _ _ _
    c.requires _ _ _ c.block_length-length.ensures.0 c.min-own.ensures c.edges-at.ensures.0) _ c.gather-last.ensures)

pub returns : goal.returns
returns c = laws.last-decides _ _ _ _ _ c.requires
    _ _ _ c.block_length-length.ensures.0 c.min-own.ensures c.edges-at.ensures.0 _ c.gather-first.ensures (held
    c.edge_right.ensures c.if-not-edge_right.false-raw) _ c.gather-last.ensures _ c.edge_right-2.ensures
