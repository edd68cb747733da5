use lib.Seq.{length-take-le}
use mathlib.Core.Path.{sym}
use native.Mathlib.Omega.{arith}
use Rattle.list_lines.proofs.ListAnswerLaws as laws
use Rattle.list_lines.proofs.list.Goals as goal

pub returns-in-Err : goal.returns-in-Err
returns-in-Err c =
    let both = laws.list-refused _ c.args.out.now _ _ c.check_input.ensures c.in-Err.is in
    record { list_answer = both.0; out_after = both.1 }

pub returns-then-out-size : goal.returns-then-out-size
returns-then-out-size c =
    let both = laws.list-tight c.args.tree.now c.args.out.now (sym c.in_default.ensures)
    _ _ _ c.level_lines-size.ensures c.if-out-size.true in
    record { list_answer = both.0; out_after = both.1 }

pub slice_bounds-bytes-end : goal.slice_bounds-bytes-end
slice_bounds-bytes-end c = sym (length-take-le c.level_lines-size.result
    c.level_lines-size.new.out (omega (arith, c.level_lines-size.ensures.short, c.level_lines-size.auto.out)))

pub bytes-requires : goal.bytes-requires
bytes-requires c = rw (length-take-le c.level_lines-size.result c.level_lines-size.new.out
    (omega (arith, c.level_lines-size.ensures.short, c.level_lines-size.auto.out))) (omega (arith, c.if-out-size.false))

pub returns : goal.returns
returns c = let both = laws.list-fits _ _ (sym c.in_default.ensures)
    _ _ _ c.level_lines-size.ensures c.if-out-size.false _ _ _ c.bytes.ensures in record { list_answer = both.0; out_after = both.1 }
