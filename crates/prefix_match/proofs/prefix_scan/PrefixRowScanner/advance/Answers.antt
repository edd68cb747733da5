use Rattle.row_filter.proofs.ScanStepLaws.{step-passed}
use Rattle.row_filter.specs.RowScans.{IsStep}
use Rattle.row_filter.specs.declared.ScanStep.TheVariants.{On}
use Rattle.prefix_match.specs.PrefixStates.{prefix_automaton}
use Rattle.prefix_match.proofs.PrefixScanLaws.{scan-passed}
use Rattle.prefix_match.proofs.prefix_scan.PrefixRowScanner.advance.Goals as goal

pub returns-in-On : goal.returns-in-On
returns-in-On c =
    let step : IsStep (prefix_automaton c.args.self.bytes.now) c.args.part.now c.args.state c.args.row c.args.i (On c.in-On.after c.in-On.q c.in-On.place)
    = rw c.in-On.is at c.one_byte.ensures in
    let next = c.next_place.ensures in
    step-passed _ _ _ _ _ _ _ _ _ step next.0 next.1 (scan-passed _ _ _ _ _ _ next.0 next.1 next.2)
