use Rattle.sha256.proofs.CompressionLaws.{compressed-is}
use Rattle.sha256.proofs.compression.compress.Goals as goal

pub returns : goal.returns
returns c = compressed-is _ _ _ _ c.read_block.new.words _ c.read_block.ensures c.extend.ensures
    c.all_rounds.ensures c.add_states.ensures
