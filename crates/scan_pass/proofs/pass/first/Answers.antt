use native.Mathlib.Omega.{arith}
use Rattle.scan_pass.proofs.PassLaws as laws
use Rattle.scan_pass.proofs.pass.first.Goals as goal

pub first_window-w-requires : goal.first_window-w-requires
first_window-w-requires c = (c.requires.1, omega (arith, c.requires.0.laid.placed.few))

pub returns-then-w-eq0 : goal.returns-then-w-eq0
returns-then-w-eq0 c = record { window_at = c.first_window-w.ensures; stepped = laws.stepped-past _ _ _ _ _ _ _ c.requires.0 c.first_window-w.ensures (omega (arith, c.if-w-eq0.true)) }

pub look_up-requires : goal.look_up-requires
look_up-requires c = laws.window-asks _ _ _ _ _ _ _ c.requires.0
    c.first_window-w.ensures (omega (arith, c.if-w-eq0.false))

pub shape_of-words : goal.shape_of-words
shape_of-words c = c.look_up.ensures.searched.same_length

pub returns : goal.returns
returns c = record { window_at = c.first_window-w.ensures; stepped = laws.stepped-look _ _ _ _ _ _ _ c.look_up.ensures }
