use Rattle.std.proofs.Common.{◌*◌}
use Rattle.search_byte.specs.FirstByte.{Without}
use Rattle.search_byte.proofs.find.Given as goal

abbrev pub invariant-loop-block : goal.invariant-loop-block
invariant-loop-block l = Without l.t l.from (16 * l.block) l.byte
