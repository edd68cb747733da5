use mathlib.Core.Path.{◌∙◌}
use native.Mathlib.Omega.{arith}
use Rattle.build_without_edges.proofs.WithoutEdgesLaws as laws
use Rattle.build_without_edges.proofs.put_header.Goals as goal

pub copy-requires : goal.copy-requires
copy-requires c = (omega (arith, c.requires.room), c.requires.sizes.facts.long)

pub write-requires : goal.write-requires
write-requires c = omega (arith, c.requires.room, c.copy.auto.out)

pub put_offsets-requires : goal.put_offsets-requires
put_offsets-requires c = (c.requires.sizes, omega (arith, c.requires.room, c.copy.auto.out, c.write.auto.t))

pub write-requires-2 : goal.write-requires-2
write-requires-2 c = omega (arith, c.requires.room, c.copy.auto.out, c.write.auto.t, c.put_offsets.auto.out)

pub shape_of-out : goal.shape_of-out
shape_of-out c = c.write-2.auto.t ∙ c.put_offsets.auto.out ∙ c.write.auto.t ∙ c.copy.auto.out

pub returns : goal.returns
returns c = laws.header_is c.args.tree.now c.args.levels c.args.leaves c.args.out.now _ _ _ _ c.requires.sizes.facts.long c.requires.room
    c.requires.sizes.levels_is (laws.levels-few _ _ _ c.requires.sizes) c.requires.leaves_is
    c.copy.ensures c.write.ensures c.put_offsets.ensures c.write-2.ensures
