use Rattle.std.proofs.Common.{◌≡◌, ◌+◌, ◌*◌, ◌≤◌, ◌^◌, true}
use Rattle.format.specs.SizeLaws.{max_record}
use Rattle.format.specs.Layout.{header_length, level_count, record_size}
use Rattle.layout.specs.Header.{follows}
use Rattle.text.specs.Text.{all_below, sum_below}
use Rattle.layout.proofs.header.tables_meet.Given as goal

abbrev pub invariant-loop-l : goal.invariant-loop-l
invariant-loop-l l = (l.end ≡ header_length + sum_below l.l (level_count l.t) * record_size l.t)
    × (l.end ≤ header_length + l.l * (2 ^ 32 * max_record)) × (all_below l.l (follows l.t) ≡ true)
