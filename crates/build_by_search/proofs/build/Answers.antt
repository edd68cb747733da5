use Rattle.build_by_search.proofs.BuildOutcomes as laws
use Rattle.format.specs.Layout.{given}
use Rattle.refusals.specs.RefusalsLaws.{passed-on}
use Rattle.build_by_search.proofs.build.Goals as goal

pub returns-then-text : goal.returns-then-text
returns-then-text c = let t = laws.refused-one (given c.args.leaf c.args.arity c.args.levels c.args.counted.now)
    c.args.text.now c.args.out.now (laws.many-bytes c.args.text.now c.if-text.true) in record { number = t.number; size = t.size; buffer = t.buffer }

pub build_with-requires : goal.build_with-requires
build_with-requires c = laws.settings-taken c.args.leaf c.args.arity c.args.levels c.args.counted.now c.args.text.now
    c.args.out.now (laws.few_bytes c.args.text.now c.if-text.false) _ c.new.ensures _ c.in_ok-s.was

pub returns : goal.returns
returns c = let t = laws.settings-answered c.args.leaf c.args.arity c.args.levels c.args.counted.now c.args.text.now c.args.out.now
    (laws.few_bytes c.args.text.now c.if-text.false) _ c.new.ensures _ c.in_ok-s.was c.build_with.result
    _ c.build_with.ensures.result_value c.build_with.ensures.result_value_2 c.build_with.ensures.out_after in record { number = t.number; size = t.size; buffer = t.buffer }

pub returns-in_err-s : goal.returns-in_err-s
returns-in_err-s c = let t = laws.settings-refused c.args.leaf c.args.arity c.args.levels c.args.counted.now c.args.text.now c.args.out.now
    (laws.few_bytes c.args.text.now c.if-text.false) _ c.new.ensures _ c.in_err-s.was in
    rw (passed-on _ _ c.from_residual.ensures.1) (record { number = t.number; size = t.size; buffer = t.buffer })
