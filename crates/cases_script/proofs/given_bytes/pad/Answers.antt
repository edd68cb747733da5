use mathlib.Core.Path.{refl}
use borrow.Author.Tests.{not-true, not-false}
use lib.ListN.{length}
use Rattle.cases_script.specs.GivenBytes.{pad_to}
use Rattle.cases_script.proofs.GivenBytesLaws.{gives-inside, then-bytes, then-fault, fault-passed-on, pad-is, pad-bad, pad-keeps, as-given}
use Rattle.cases_script.proofs.given_bytes.pad.Goals as goal

pub returns-then-not-figures : goal.returns-then-not-figures
returns-then-not-figures c = pad-bad c.args.script.now c.args.line.now c.args.out.now _ c.figures.ensures (not-true _ c.if-not-figures.true-raw)

pub pad_to-requires : goal.pad_to-requires
pad_to-requires c = gives-inside _ _ _ _ c.plain.ensures c.in_ok-n.was

pub returns : goal.returns
returns c = as-given (pad-is c.args.script.now c.args.line.now _ _ _ (length c.args.out.now)
    c.token.ensures
    c.giving.ensures
    c.figure.ensures)
    (then-bytes pad_to pad-keeps _ _
    c.figures.ensures
    _ _ (length c.args.out.now) _ _ c.plain.ensures
    (not-false _ c.if-not-figures.false-raw)
    _ _ _ c.in_ok-n.was c.plain.auto.out c.pad_to.ensures)

pub returns-in_err-n : goal.returns-in_err-n
returns-in_err-n c = rw (fault-passed-on _ _ c.from_residual.ensures.1) (as-given (pad-is c.args.script.now
    c.args.line.now _ _ _ (length c.args.out.now) c.token.ensures
    c.giving.ensures refl)
    (then-fault pad_to pad-keeps _ _ c.figures.ensures
    _ _ (length c.args.out.now) _ _ c.plain.ensures
    (not-false _ c.if-not-figures.false-raw) _ c.in_err-n.was))
