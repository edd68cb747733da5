use Rattle.check_edges.proofs.TruthLaws as laws
use Rattle.check_edges.proofs.edges_match.leaf_bytes.Goals as goal

pub link-link-requires : goal.link-link-requires
link-link-requires c = laws.leaf-there _ _ _ _ _ c.requires

pub returns : goal.returns
returns c = laws.leaf-found _ _ _ _ _ c.requires _ c.link-link.ensures
