use Rattle.layout.proofs.AnswerTests.{failed, held}
use Rattle.tree.proofs.CheckLaws.{links-fail, counts-fail, edges-fail, edges-hold}
use Rattle.tree.proofs.check_tables.Goals as goal

pub returns-then-not-links_right : goal.returns-then-not-links_right
returns-then-not-links_right c = links-fail c.args.t.now _ c.requires (failed c.links_right.ensures c.if-not-links_right.true-raw)

pub counts_right-requires : goal.counts_right-requires
counts_right-requires c = record { header = c.requires; links = held c.links_right.ensures c.if-not-links_right.false-raw }

pub returns-then-not-counts_right : goal.returns-then-not-counts_right
returns-then-not-counts_right c = counts-fail c.args.t.now _ c.requires
    (held c.links_right.ensures c.if-not-links_right.false-raw) (failed c.counts_right.ensures c.if-not-counts_right.true-raw)

pub edges_right-requires : goal.edges_right-requires
edges_right-requires c = record { header = c.requires; linked = held c.links_right.ensures c.if-not-links_right.false-raw }

pub returns-then-not-edges_right : goal.returns-then-not-edges_right
returns-then-not-edges_right c = edges-fail c.args.t.now _ c.requires (held c.links_right.ensures c.if-not-links_right.false-raw)
    (held c.counts_right.ensures c.if-not-counts_right.false-raw) (failed c.edges_right.ensures c.if-not-edges_right.true-raw)

pub returns : goal.returns
returns c = edges-hold c.args.t.now _ c.requires (held c.links_right.ensures c.if-not-links_right.false-raw)
    (held c.counts_right.ensures c.if-not-counts_right.false-raw) (held c.edges_right.ensures c.if-not-edges_right.false-raw)
