use mathlib.Core.Path.{refl}
use borrow.Author.Tests.{not-true, not-false}
use lib.ListN.{length}
use Rattle.cases_script.specs.GivenBytes.{times_over}
use Rattle.cases_script.proofs.GivenBytesLaws.{hex-gives, gives-inside, then-bytes, then-fault, fault-passed-on, repeat-is, repeat-bad, over-keeps, as-given}
use Rattle.cases_script.proofs.given_bytes.repeat.Goals as goal

pub returns-then-not-figures : goal.returns-then-not-figures
returns-then-not-figures c = repeat-bad c.args.line.now c.args.out.now _ c.figures.ensures (not-true _ c.if-not-figures.true-raw)

pub times_over-requires : goal.times_over-requires
times_over-requires c = gives-inside _ _ _ _ (hex-gives _ c.args.out.now
    _ _ c.hex.ensures.value c.hex.ensures.out_after) c.in_ok-k.was

pub returns : goal.returns
returns c = as-given (repeat-is c.args.line.now
    _ _ (length c.args.out.now) c.token.ensures
    c.figure.ensures)
    (then-bytes times_over over-keeps
    _ _ c.figures.ensures
    _ _ (length c.args.out.now) _ _ (hex-gives _ c.args.out.now _ _ c.hex.ensures.value c.hex.ensures.out_after)
    (not-false _ c.if-not-figures.false-raw) _ _ _
    c.in_ok-k.was c.hex.auto.out c.times_over.ensures)

pub returns-in_err-k : goal.returns-in_err-k
returns-in_err-k c = rw (fault-passed-on _ _ c.from_residual.ensures.1) (as-given (repeat-is c.args.line.now _ _ (length c.args.out.now) c.token.ensures refl)
    (then-fault times_over over-keeps _ _ c.figures.ensures
    _ _ (length c.args.out.now) _ _ (hex-gives _ c.args.out.now _ _ c.hex.ensures.value c.hex.ensures.out_after)
    (not-false _ c.if-not-figures.false-raw) _ c.in_err-k.was))
