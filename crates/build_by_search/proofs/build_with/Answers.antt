use Rattle.build_by_search.proofs.BuildOutcomes as laws
use Rattle.build_records.specs.State.{record_settings_of}
use Rattle.build_by_search.proofs.build_with.Goals as goal

pub write_tree-size-requires : goal.write_tree-size-requires
write_tree-size-requires c = c.requires

pub returns-then-size-eq0 : goal.returns-then-size-eq0
returns-then-size-eq0 c = let t = laws.answered-full (record_settings_of c.args.s c.args.counted.now) c.args.text.now c.args.out.now c.requires _ c.write_tree-size.ensures.writes_only_tree
    _ c.write_tree-size.ensures.tree_complete c.if-size-eq0.true _ c.clear.ensures in record { result_value = t.number; result_value_2 = t.size; out_after = t.buffer }

pub returns : goal.returns
returns c = let t = laws.answered-size (record_settings_of c.args.s c.args.counted.now) c.args.text.now
    c.args.out.now c.requires _ c.write_tree-size.ensures.writes_only_tree _ c.write_tree-size.ensures.tree_complete c.if-size-eq0.false in record { result_value = t.number; result_value_2 = t.size; out_after = t.buffer }
