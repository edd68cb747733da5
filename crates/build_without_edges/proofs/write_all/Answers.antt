use mathlib.Core.Path.{◌∙◌}
use native.Mathlib.Omega.{arith}
use Rattle.build_without_edges.proofs.WithoutEdgesLaws as laws
use Rattle.build_without_edges.proofs.write_all.Goals as goal

pub overflow_mul-leaves : goal.overflow_mul-leaves
overflow_mul-leaves c = omega (arith, laws.leaves-fit _ _ _ _ _ c.requires)

pub overflow_add-leaves : goal.overflow_add-leaves
overflow_add-leaves c = omega (arith, laws.leaves-fit _ _ _ _ _ c.requires)

pub put_header-requires : goal.put_header-requires
put_header-requires c = laws.header-room _ _ _ _ _ c.requires

pub put_records-requires : goal.put_records-requires
put_records-requires c = laws.record-room _ _ _ _ _ c.requires _ c.put_header.auto.out

pub overflow_cast-leaves : goal.overflow_cast-leaves
overflow_cast-leaves c = omega (arith, laws.leaves-fit _ _ _ _ _ c.requires)

pub copy-requires : goal.copy-requires
copy-requires c = (
  laws.leaf_room _ _ _ _ _ c.requires c.put_records.new.out (c.put_records.auto.out ∙ c.put_header.auto.out),
  laws.leaf-held _ _ _ _ _ c.requires,
)

pub shape_of-out : goal.shape_of-out
shape_of-out c = c.copy.auto.out ∙ c.put_records.auto.out ∙ c.put_header.auto.out

pub returns : goal.returns
returns c = laws.all-written _ _ _ _ _ c.requires _ _ _ c.put_header.ensures c.put_records.ensures c.copy.ensures
