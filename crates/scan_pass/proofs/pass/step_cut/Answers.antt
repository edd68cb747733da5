use Rattle.scan_pass.proofs.PassLaws as laws
use Rattle.scan_pass.proofs.pass.step_cut.Goals as goal

pub returns-then-cut-here : goal.returns-then-cut-here
returns-then-cut-here c = let s = laws.cut-still _ _ _ _ _ _ c.requires.1 c.if-cut-here.true in record { cut_windows_at = s; stepped_twice = laws.twice-past _ _ _ _ _ _ _ _ c.requires.0 s c.if-cut-here.true }

pub step-ending-requires : goal.step-ending-requires
step-ending-requires c = (laws.asked-after _ _ _ _ _ c.step-last.ensures.stepped.searched c.requires.0, c.requires.1.ending_is, c.requires.2, c.requires.3)

pub returns : goal.returns
returns c = record { cut_windows_at = laws.cut_moved _ _ _ _ _ _ c.requires.1 _ _ c.step-last.ensures.window_at c.step-ending.ensures.window_at; stepped_twice = laws.stepped-twice _ _ _ _ _ _ _ _ _ c.step-last.ensures.stepped c.step-ending.ensures.stepped }
