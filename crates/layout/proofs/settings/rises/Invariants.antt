use Rattle.std.proofs.Common.{◌≡◌, ◌-◌, drop}
use Rattle.format.specs.Layout.{rising}
use Rattle.layout.proofs.settings.rises.Given as goal

abbrev pub invariant-loop-i : goal.invariant-loop-i
invariant-loop-i l = rising (drop (l.i - 1) l.s) ≡ rising l.s
