use Rattle.std.proofs.Common.{◌≡◌, ◌+◌, ◌≤◌}
use Rattle.text.specs.Text.{substring, count_in}
use Rattle.byte_slices.proofs.find_nth.Given as goal

abbrev pub invariant-loop : goal.invariant-loop
invariant-loop l = (l.i ≤ l.n) × (count_in l.byte (substring l.t l.from l.i) + 1 ≡ l.counter)
