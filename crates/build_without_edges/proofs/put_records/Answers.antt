use mathlib.Core.Path.{refl}
use native.Mathlib.Omega.{arith}
use Rattle.build_without_edges.proofs.WithoutEdgesLaws as laws
use Rattle.build_without_edges.proofs.put_records.Goals as goal

pub loop-j-init : goal.loop-j-init
loop-j-init c = laws.records-none _ _

pub copy-requires : goal.copy-requires
copy-requires c = (
  omega (arith, laws.word_room _ _ _ _ _ c.requires c.loop-j.j (omega arith)),
  laws.word_held _ _ _ _ _ c.requires c.loop-j.j (omega arith),
)

pub loop-j-preserved : goal.loop-j-preserved
loop-j-preserved c = laws.record-more _ _ _ _ _ c.requires c.loop-j.j (omega arith) c.args.out.now c.loop-j.out _ refl c.loop-j.invariant c.copy.ensures
