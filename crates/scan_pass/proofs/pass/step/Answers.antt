use Rattle.scan_pass.proofs.PassLaws as laws
use Rattle.scan_pass.proofs.pass.step.Goals as goal

pub returns-then-w-p : goal.returns-then-w-p
returns-then-w-p c = let s = laws.window-stays _ _ _ _ _ c.requires.1 c.if-w-p.true in record { window_at = s; stepped = laws.stepped-past _ _ _ _ _ _ _ c.requires.0 s c.if-w-p.true }

pub next_window-next-requires : goal.next_window-next-requires
next_window-next-requires c = (c.requires.1, c.if-w-p.false, c.requires.3)

pub look_up-requires : goal.look_up-requires
look_up-requires c = laws.window-asks _ _ _ _ _ _ _ c.requires.0 c.next_window-next.ensures (laws.window-moves _ _ _ _ _ _ c.requires.1 c.next_window-next.ensures c.if-w-p.false)

pub shape_of-words : goal.shape_of-words
shape_of-words c = c.look_up.ensures.searched.same_length

pub returns : goal.returns
returns c = record { window_at = c.next_window-next.ensures; stepped = laws.stepped-look _ _ _ _ _ _ _ c.look_up.ensures }
