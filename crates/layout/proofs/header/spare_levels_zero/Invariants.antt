use Rattle.std.proofs.Common.{◌≡◌, ◌-◌, true}
use Rattle.layout.specs.Header.{zero_level}
use Rattle.text.specs.Text.{all_below}
use Rattle.layout.proofs.header.spare_levels_zero.Given as goal

abbrev pub invariant-loop-level : goal.invariant-loop-level
invariant-loop-level l = all_below (l.level - l.levels) (zero_level l.t l.levels) ≡ true
