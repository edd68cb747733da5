use native.Mathlib.Omega.{arith}
use Rattle.layout.proofs.RecordLaws.{place-in, field_is}
use Rattle.layout.proofs.record.field.Goals as goal

pub overflow_mul-block : goal.overflow_mul-block
overflow_mul-block c = omega (arith, c.well_formed.0.0, place-in c.args.t.now _ _ _ _ _ c.requires c.read-table.ensures)

pub overflow_add-table : goal.overflow_add-table
overflow_add-table c = omega (arith, c.well_formed.0.0, place-in c.args.t.now _ _ _ _ _ c.requires c.read-table.ensures)

pub overflow_add-table-2 : goal.overflow_add-table-2
overflow_add-table-2 c = omega (arith, c.well_formed.0.0, place-in c.args.t.now _ _ _ _ _ c.requires c.read-table.ensures)

pub read-requires : goal.read-requires
read-requires c = place-in c.args.t.now _ _ _ _ _ c.requires c.read-table.ensures

pub returns : goal.returns
returns c = field_is c.args.t.now _ _ _ _ _ c.requires c.read-table.ensures _ c.read.ensures
