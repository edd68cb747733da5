use Rattle.scan_pass.specs.Passes.{CutWindowsAt}
use Rattle.scan_pass.proofs.PassLaws as laws
use Rattle.scan_pass.proofs.pass.pass.Given as goal

abbrev pub invariant-loop-p : goal.invariant-loop-p
invariant-loop-p l =
    laws.Passing l.text l.out l.it l.initial.a.len l.initial.b.len l.initial.cut.last.len l.initial.cut.ending.len l.initial.words l.words l.p l.a l.b l.cut.last l.cut.ending
    × CutWindowsAt l.it.seed l.text l.initial.cut.last.len l.initial.cut.ending.len l.p l.cut
