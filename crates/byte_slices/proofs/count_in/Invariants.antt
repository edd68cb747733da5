use Rattle.std.proofs.Common.{◌≡◌, ◌≤◌}
use Rattle.text.specs.Text.{substring, count_in}
use Rattle.byte_slices.proofs.count_in.Given as goal

abbrev pub invariant-loop-b : goal.invariant-loop-b
invariant-loop-b l = (l.times ≡ count_in l.byte (substring l.t l.from l.b-index)) × (l.times ≤ l.b-index)
