use Rattle.layout.proofs.AnswerTests.{failed, held}
use Rattle.check_edges.proofs.TruthLaws as laws
use Rattle.check_edges.proofs.edges_match.leaf_right.Goals as goal

pub block_length-own-requires : goal.block_length-own-requires
block_length-own-requires c = record { on = c.requires.0.on; block_in = c.requires.0.block_in }

pub edges-at-requires : goal.edges-at-requires
edges-at-requires c = laws.edges-asked _ _ _ _ _ c.requires.0

pub leaf_bytes-found-requires : goal.leaf_bytes-found-requires
leaf_bytes-found-requires c = laws.leafy _ _ _ _ _ c.requires.0 c.requires.1 _ c.block_length-own.ensures.0

pub edge_right-requires : goal.edge_right-requires
edge_right-requires c = let own = laws.own-all _ _ _ _ _ c.requires.0 c.requires.1 _ c.block_length-own.ensures.0 in
    laws.first-asks _ _ _ _ _ c.requires.0 _ _ _ c.block_length-own.ensures.0 own c.edges-at.ensures.0
    c.leaf_bytes-found.result (laws.within _ _ _ _ _ c.requires.0 _ _ _ c.block_length-own.ensures.0 own c.edges-at.ensures.0
    0 (laws.front-in _ _ _ _ _ c.requires.0
    _ _ _ c.block_length-own.ensures.0 own c.edges-at.ensures.0) _ c.leaf_bytes-found.ensures)

pub returns-then-not-edge_right : goal.returns-then-not-edge_right
returns-then-not-edge_right c = let own = laws.own-all _ _ _ _ _ c.requires.0 c.requires.1 _ c.block_length-own.ensures.0 in
    laws.first-fails-block _ _ _ _ _ c.requires.0 _ _ _ c.block_length-own.ensures.0 own c.edges-at.ensures.0 _ c.leaf_bytes-found.ensures
    (failed c.edge_right.ensures c.if-not-edge_right.true-raw)

pub leaf_bytes-again-requires : goal.leaf_bytes-again-requires
leaf_bytes-again-requires c = laws.leafy _ _ _ _ _ c.requires.0 c.requires.1 _ c.block_length-own.ensures.0

pub edge_right-requires-2 : goal.edge_right-requires-2
edge_right-requires-2 c = let own = laws.own-all _ _ _ _ _ c.requires.0 c.requires.1 _ c.block_length-own.ensures.0 in
    laws.last-asks _ _ _ _ _ c.requires.0 _ _ _ c.block_length-own.ensures.0 own c.edges-at.ensures.0
    c.leaf_bytes-again.result (laws.within _ _ _ _ _ c.requires.0 _ _ _ c.block_length-own.ensures.0 own c.edges-at.ensures.0
    0 (laws.front-in _ _ _ _ _ c.requires.0
    _ _ _ c.block_length-own.ensures.0 own c.edges-at.ensures.0) _ c.leaf_bytes-again.ensures)

pub returns : goal.returns
returns c = let own = laws.own-all _ _ _ _ _ c.requires.0 c.requires.1 _ c.block_length-own.ensures.0 in
    laws.last-decides _ _ _ _ _ c.requires.0 _ _ _ c.block_length-own.ensures.0 own c.edges-at.ensures.0 _
    c.leaf_bytes-found.ensures (held c.edge_right.ensures c.if-not-edge_right.false-raw)
    _ (laws.found-again _ _ _ _ _ c.requires.0 c.requires.1 _ c.block_length-own.ensures.0 _ c.leaf_bytes-again.ensures) _ c.edge_right-2.ensures
