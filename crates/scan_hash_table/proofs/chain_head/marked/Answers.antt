use mathlib.Core.Path.{refl}
use Rattle.scan_hash_table.specs.ChainHeads.{mark_of}
use Rattle.scan_hash_table.proofs.chain_head.marked.Goals as goal

pub returns : goal.returns
unfolding mark_of
returns c = refl
