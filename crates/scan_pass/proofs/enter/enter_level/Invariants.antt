use Rattle.scan_pass.proofs.EnterLaws as laws
use Rattle.scan_pass.proofs.enter.enter_level.Given as goal

abbrev pub invariant-loop-i : goal.invariant-loop-i
invariant-loop-i l = laws.Going l.text l.out l.it l.initial.words l.words l.l l.h l.i
