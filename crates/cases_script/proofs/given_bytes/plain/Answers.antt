use mathlib.Core.List.{List}
use mathlib.Core.Path.{ap, ◌∙◌}
use Prim.Native.Nat.{ℕ}
use lib.ListN.{length}
use Rattle.cases_script.specs.GivenBytes.{hex_given}
use Rattle.cases_script.proofs.GivenBytesLaws.{hex-gives, fault-gives, plain-is, as-given}
use Rattle.cases_script.proofs.given_bytes.plain.Goals as goal

pub returns-in-Text : goal.returns-in-Text
returns-in-Text c = let n = length c.args.out.now in
    as-given (ap (λ (w : List ℕ). hex_given w n) c.token.ensures
    ∙ plain-is c.args.line.now _ _ n c.input_kind-kind.ensures
    c.in-Text.is) (hex-gives _ c.args.out.now _ _ c.hex.ensures.value c.hex.ensures.out_after)

pub returns-in-Repeat : goal.returns-in-Repeat
returns-in-Repeat c = as-given (plain-is c.args.line.now
    _ _ (length c.args.out.now) c.input_kind-kind.ensures c.in-Repeat.is) c.repeat.ensures

pub returns-in-Tree : goal.returns-in-Tree
returns-in-Tree c = let n = length c.args.out.now in
    as-given (ap (λ (w : List ℕ). hex_given w n) c.token-in-Tree.ensures
    ∙ plain-is c.args.line.now _ _ n c.input_kind-kind.ensures
    c.in-Tree.is) (hex-gives _ c.args.out.now _ _ c.hex-in-Tree.ensures.value c.hex-in-Tree.ensures.out_after)

pub returns-in-Pad : goal.returns-in-Pad
returns-in-Pad c = fault-gives
    c.args.out.now _ _ (plain-is c.args.line.now _ _ (length c.args.out.now) c.input_kind-kind.ensures c.in-Pad.is)

pub returns-in-Nothing : goal.returns-in-Nothing
returns-in-Nothing c = fault-gives
    c.args.out.now _ _ (plain-is c.args.line.now _ _ (length c.args.out.now) c.input_kind-kind.ensures c.in-Nothing.is)
