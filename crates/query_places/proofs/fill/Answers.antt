use Rattle.layout.proofs.AnswerTests.{held}
use Rattle.query_places.proofs.fill.Goals as goal

pub fill_once-requires : goal.fill_once-requires
fill_once-requires c = let linked = held c.links_right.ensures c.if-not-links_right.false-raw in record { header_of = c.requires; t_value = (linked, c.most-most.ensures, c.if-table-most.false) }
