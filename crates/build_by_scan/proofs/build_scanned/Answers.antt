use Rattle.build_by_search.proofs.BuildOutcomes as first
use Rattle.format.specs.Layout.{given}
use Rattle.refusals.specs.RefusalsLaws.{passed-on}
use Rattle.build_by_scan.proofs.ScannedOutcomes as laws
use Rattle.build_by_scan.proofs.build_scanned.Goals as goal

pub returns-then-text : goal.returns-then-text
returns-then-text c = let t = laws.refused-one (given c.args.leaf c.args.arity c.args.levels c.args.counted.now) c.args.text.now
    c.args.out.now c.args.words.now (first.many-bytes c.args.text.now c.if-text.true) in record { number = t.number; size = t.size; windows = t.windows; buffer = t.buffer; table = t.table }

pub scan_with-requires : goal.scan_with-requires
scan_with-requires c = first.settings-taken c.args.leaf c.args.arity c.args.levels c.args.counted.now c.args.text.now
    c.args.out.now (first.few_bytes c.args.text.now c.if-text.false) _ c.new.ensures _ c.in_ok-s.was

pub returns : goal.returns
returns c = let t = laws.settings-answer c.args.leaf c.args.arity c.args.levels c.args.counted.now c.args.text.now c.args.out.now c.args.words.now
    (first.few_bytes c.args.text.now c.if-text.false) _ c.new.ensures _ c.in_ok-s.was c.scan_with.result
    _ _ c.scan_with.ensures.result_value c.scan_with.ensures.result_value_2 c.scan_with.ensures.result_value_3 c.scan_with.ensures.out_after c.scan_with.ensures.table_left in record { number = t.number; size = t.size; windows = t.windows; buffer = t.buffer; table = t.table }

pub returns-in_err-s : goal.returns-in_err-s
returns-in_err-s c = let t = laws.settings-refused
    c.args.leaf c.args.arity c.args.levels c.args.counted.now c.args.text.now c.args.out.now c.args.words.now (first.few_bytes c.args.text.now
    c.if-text.false) _ c.new.ensures _ c.in_err-s.was in
    rw (passed-on _ _ c.from_residual.ensures.1) (record { number = t.number; size = t.size; windows = t.windows; buffer = t.buffer; table = t.table })
