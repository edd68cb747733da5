use borrow.Author.Rules.{rules}
use native.Mathlib.Omega.{arith}
use Rattle.theory_built.specs.BlockSizes.{bounds}
use Rattle.build_records.specs.State.{record_settings_of}
use Rattle.build_by_scan.specs.ScanAnswers.{table_words}
use Rattle.build_by_scan.proofs.ScannedOutcomes as laws
use Rattle.build_by_scan.proofs.scan_with.Goals as goal

pub overflow_cast-text : goal.overflow_cast-text
unfolding table_words
overflow_cast-text c = omega (arith, (bounds _ _ c.requires).text_high)

pub scan_words-requires : goal.scan_words-requires
unfolding table_words
scan_words-requires c = search rules

pub returns-then-words-scan_words : goal.returns-then-words-scan_words
unfolding table_words
returns-then-words-scan_words c = let t = laws.refused-table (record_settings_of c.args.s c.args.counted.now) c.args.text.now c.args.out.now c.args.words.now
    c.requires (omega (arith, c.scan_words.ensures, c.if-words-scan_words.true)) in record { result_value = t.number; result_value_2 = t.size; result_value_3 = t.windows; out_after = t.buffer; table_left = t.table }

pub write_tree-wrote-requires : goal.write_tree-wrote-requires
unfolding table_words
write_tree-wrote-requires c = (c.requires, omega (arith, c.scan_words.ensures, c.if-words-scan_words.false))

pub clear-requires : goal.clear-requires
unfolding table_words
clear-requires c = search rules

pub returns-then-wrote-eq0 : goal.returns-then-wrote-eq0
unfolding table_words
returns-then-wrote-eq0 c = let t = laws.answer-full (record_settings_of c.args.s c.args.counted.now) c.args.text.now c.args.out.now
    c.args.words.now c.requires (omega (arith, c.scan_words.ensures, c.if-words-scan_words.false))
    _ c.write_tree-wrote.auto.words _ c.write_tree-wrote.ensures.writes_only_tree _ c.write_tree-wrote.ensures.tree_complete c.if-wrote-eq0.true _ c.clear.ensures in record { result_value = t.number; result_value_2 = t.size; result_value_3 = t.windows; out_after = t.buffer; table_left = t.table }

pub returns : goal.returns
unfolding table_words
returns c = let t = laws.answer-size
    (record_settings_of c.args.s c.args.counted.now) c.args.text.now c.args.out.now c.args.words.now c.requires
    (omega (arith, c.scan_words.ensures, c.if-words-scan_words.false)) _ c.write_tree-wrote.auto.words
    _ c.write_tree-wrote.ensures.writes_only_tree _ c.write_tree-wrote.ensures.tree_complete c.if-wrote-eq0.false _ (c.write_tree-wrote.ensures.windows_value c.if-wrote-eq0.false) in record { result_value = t.number; result_value_2 = t.size; result_value_3 = t.windows; out_after = t.buffer; table_left = t.table }
