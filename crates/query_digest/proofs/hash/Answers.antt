use Rattle.query_digest.proofs.hash.Goals as goal

pub returns : goal.returns
returns c = c.hash_parts.ensures
