use lib.ListN.{length}
use Rattle.cases_script.proofs.GivenBytesLaws.{make-is, as-given}
use Rattle.cases_script.proofs.given_bytes.make.Goals as goal

pub returns-in-Text : goal.returns-in-Text
returns-in-Text c = as-given (make-is c.args.line.now _ _ (length c.args.out.now) c.input_kind-kind.ensures c.in-Text.is c.args.script.now)
    c.plain.ensures

pub returns-in-Repeat : goal.returns-in-Repeat
returns-in-Repeat c = as-given (make-is c.args.line.now _ _ (length c.args.out.now) c.input_kind-kind.ensures c.in-Repeat.is c.args.script.now)
    c.plain-in-Repeat.ensures

pub returns-in-Tree : goal.returns-in-Tree
returns-in-Tree c = as-given (make-is c.args.line.now _ _ (length c.args.out.now) c.input_kind-kind.ensures c.in-Tree.is c.args.script.now)
    c.plain-in-Tree.ensures

pub returns-in-Pad : goal.returns-in-Pad
returns-in-Pad c = as-given (make-is c.args.line.now _ _ (length c.args.out.now) c.input_kind-kind.ensures c.in-Pad.is c.args.script.now)
    c.pad.ensures

pub returns-in-Nothing : goal.returns-in-Nothing
returns-in-Nothing c = as-given (make-is c.args.line.now _ _ (length c.args.out.now) c.input_kind-kind.ensures c.in-Nothing.is c.args.script.now)
    c.plain-in-Nothing.ensures
