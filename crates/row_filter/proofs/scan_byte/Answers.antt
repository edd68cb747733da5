use Rattle.std.proofs.Common.{sym, ◌∙◌}
use Rattle.row_filter.specs.RowAutomatonLaws.{byte-found, byte_next, byte_step}
use Rattle.row_filter.proofs.scan_byte.Goals as goal

pub returns-then-byte-ne10 : goal.returns-then-byte-ne10
returns-then-byte-ne10 g c = byte_step _ _ _ _ c.if-byte-ne10.true _ c.step.ensures

pub returns-then-at_newline : goal.returns-then-at_newline
returns-then-at_newline g c = byte-found _ _ _ _ c.if-byte-ne10.false (sym c.at_newline.ensures ∙ c.if-at_newline.true)

pub returns : goal.returns
returns g c =
    rw c.start.ensures (byte_next (g.A.RowAutomaton.automaton c.args.automaton) _ _ _ c.if-byte-ne10.false (sym c.at_newline.ensures ∙ c.if-at_newline.false))
