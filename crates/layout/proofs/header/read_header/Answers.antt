use borrow.Author.Tests.{not-true, not-false}
use mathlib.Core.Path.{sym, ap, ◌∙◌}
use Rattle.layout.specs.declared.header.Header.{Header}
use Rattle.layout.proofs.HeaderCheck.{settings_are}
use Rattle.layout.proofs.HeaderQuestions.{asked-5, asked-6, asked-7, asked-fields, asked-rest, asked-all}
use Rattle.refusals.specs.RefusalsLaws.{passed-on}
use Rattle.layout.proofs.AnswerTests.{failed, held}
use Rattle.layout.proofs.header.read_header.Goals as goal

pub returns-then-t-lt-HEADER_LENGTH : goal.returns-then-t-lt-HEADER_LENGTH
returns-then-t-lt-HEADER_LENGTH c = asked-5 c.args.t.now c.if-t-lt-HEADER_LENGTH.true

pub returns-then-not-known : goal.returns-then-not-known
returns-then-not-known c = asked-6
    c.args.t.now c.if-t-lt-HEADER_LENGTH.false _ c.read.ensures (failed c.known.ensures c.if-not-known.true-raw)

pub returns-in_err-settings : goal.returns-in_err-settings
returns-in_err-settings c = rw (passed-on _ _ c.from_residual.ensures.1) (asked-7 c.args.t.now c.if-t-lt-HEADER_LENGTH.false _
    c.read.ensures (held c.known.ensures c.if-not-known.false-raw) _ c.header_settings.ensures _ c.in_err-settings.was)

pub fields-h-requires : goal.fields-h-requires
fields-h-requires c = asked-fields c.args.t.now c.if-t-lt-HEADER_LENGTH.false _ c.read.ensures
    (held c.known.ensures c.if-not-known.false-raw) _ c.header_settings.ensures _ c.in_ok-settings.was

pub rest_right-requires : goal.rest_right-requires
rest_right-requires c = let k = asked-fields c.args.t.now
    c.if-t-lt-HEADER_LENGTH.false _ c.read.ensures (held c.known.ensures c.if-not-known.false-raw)
    _ c.header_settings.ensures _ c.in_ok-settings.was in
    (rw (ap (λ (x : Header). x.settings) c.fields-h.ensures ∙ sym (settings_are _ _ k)) k, c.fields-h.ensures)

pub returns-then-not-rest_right : goal.returns-then-not-rest_right
returns-then-not-rest_right c = asked-rest c.args.t.now
    c.if-t-lt-HEADER_LENGTH.false _ c.read.ensures (held c.known.ensures c.if-not-known.false-raw)
    _ c.header_settings.ensures _ c.in_ok-settings.was _ c.rest_right.ensures (not-true _ c.if-not-rest_right.true-raw)

pub returns : goal.returns
returns c = asked-all c.args.t.now
    c.if-t-lt-HEADER_LENGTH.false _ c.read.ensures (held c.known.ensures c.if-not-known.false-raw)
    _ c.header_settings.ensures _ c.in_ok-settings.was _ c.rest_right.ensures (not-false _ c.if-not-rest_right.false-raw)
    _ c.fields-h.ensures
