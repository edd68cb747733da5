use mathlib.Core.Path.{ap}
use Prim.Native.Nat.{◌≤◌}
use native.Mathlib.Omega.{arith}
use Rattle.refusals.specs.RefusalsLaws.{passed-on}
use Rattle.query_access.specs.ReadByRuns.{ReadsOn}
use Rattle.row_filter.specs.RowScans.{scan_of}
use Rattle.query_row_filter.proofs.RowsAfterLaws.{search-begins, search-broken, search-on, search-found, search-ends}
use Rattle.query_row_filter.proofs.RowsAfterLaws.{part-reads, part_none, part-few}
use Rattle.query_row_filter.proofs.rows_after.search.Goals as goal

pub loop-at-init : goal.loop-at-init
loop-at-init g c = rw c.start-so_far.ensures (search-begins _ (g.A.RowAutomaton.automaton c.args.automaton) _ _ (omega (arith, c.requires.0.length_is)))

pub returns-in_err-part : goal.returns-in_err-part
returns-in_err-part g c = rw (passed-on _ _ c.from_residual.ensures.1) (search-broken _ _ _ _ _ (part_none _ _ _ _ c.in_err-part.was c.next_part.ensures))

pub overflow_add-end : goal.overflow_add-end
overflow_add-end g c =
    let run : (ReadsOn c.args.t.now c.loop-at.at c.in_ok-part.part.from c.in_ok-part.part.length) × (1 ≤ c.in_ok-part.part.length) =
    part-reads _ _ _ _ c.in_ok-part.was c.next_part.ensures in
    omega (arith, run.0.in_tree)

pub slice_bounds-scan-count : goal.slice_bounds-scan-count
slice_bounds-scan-count g c = omega arith

pub slice_bounds-scan-start : goal.slice_bounds-scan-start
slice_bounds-scan-start g c = omega arith

pub slice_bounds-scan-end : goal.slice_bounds-scan-end
slice_bounds-scan-end g c =
    let run : (ReadsOn c.args.t.now c.loop-at.at c.in_ok-part.part.from c.in_ok-part.part.length) × (1 ≤ c.in_ok-part.part.length) =
    part-reads _ _ _ _ c.in_ok-part.was c.next_part.ensures in
    run.0.in_tree

pub scan-requires : goal.scan-requires
scan-requires g c =
    let run : (ReadsOn c.args.t.now c.loop-at.at c.in_ok-part.part.from c.in_ok-part.part.length) × (1 ≤ c.in_ok-part.part.length) =
    part-reads _ _ _ _ c.in_ok-part.was c.next_part.ensures in
    part-few _ _ _ _ _ _ _ c.loop-at.invariant _ _ run.0 c.requires.0.facts (omega (arith, c.requires.0.length_is))

pub returns-in-Found : goal.returns-in-Found
returns-in-Found g c =
    let run : (ReadsOn c.args.t.now c.loop-at.at c.in_ok-part.part.from c.in_ok-part.part.length) × (1 ≤ c.in_ok-part.part.length) =
    part-reads _ _ _ _ c.in_ok-part.was c.next_part.ensures in
    search-found _ _ _ _ _ _ _ c.loop-at.invariant _ _ run.0 _ c.scan.ensures
    _ (ap scan_of c.in-Found.is)

pub overflow_cast-at : goal.overflow_cast-at
overflow_cast-at g c =
    let run : (ReadsOn c.args.t.now c.loop-at.at c.in_ok-part.part.from c.in_ok-part.part.length) × (1 ≤ c.in_ok-part.part.length) =
    part-reads _ _ _ _ c.in_ok-part.was c.next_part.ensures in
    omega (arith, run.0.in_text, c.requires.0.facts.bounds.text_high)

pub overflow_add-at : goal.overflow_add-at
overflow_add-at g c =
    let run : (ReadsOn c.args.t.now c.loop-at.at c.in_ok-part.part.from c.in_ok-part.part.length) × (1 ≤ c.in_ok-part.part.length) =
    part-reads _ _ _ _ c.in_ok-part.was c.next_part.ensures in
    omega (arith, run.0.in_text, c.requires.0.facts.bounds.text_high)

pub loop-at-smaller : goal.loop-at-smaller
loop-at-smaller g c =
    let run : (ReadsOn c.args.t.now c.loop-at.at c.in_ok-part.part.from c.in_ok-part.part.length) × (1 ≤ c.in_ok-part.part.length) =
    part-reads _ _ _ _ c.in_ok-part.was c.next_part.ensures in
    omega (arith, run.0.in_text, run.1, c.requires.0.length_is)

pub loop-at-preserved : goal.loop-at-preserved
loop-at-preserved g c =
    let run : (ReadsOn c.args.t.now c.loop-at.at c.in_ok-part.part.from c.in_ok-part.part.length) × (1 ≤ c.in_ok-part.part.length) =
    part-reads _ _ _ _ c.in_ok-part.was c.next_part.ensures in
    search-on _ _ _ _ _ _ _ c.loop-at.invariant _ _ run.0 _ c.scan.ensures
    _ _ (ap scan_of c.in-On.is)

pub end_of_text-requires : goal.end_of_text-requires
end_of_text-requires g c = omega arith

pub returns : goal.returns
returns g c = search-ends _ _ _ _ _ _ _ c.loop-at.invariant (omega (arith, c.loop-at-test.false, c.requires.0.length_is)) (omega arith)
    _ _ c.at_end.ensures c.no_byte.ensures _ c.end_of_text.ensures
