use Rattle.std.proofs.Common.{rules, ◌≡◌, ◌+◌, ◌-◌, take, drop, eqb, ◌∙◌, arith, tests}
use Rattle.std.proofs.lemmas.Iterator.{YieldsList-from_slice}
use Rattle.std.proofs.lemmas.Iterator.Search.{all_from_yields_List}
use Rattle.std.specs.List.{list_all}
use Rattle.byte_slices.proofs.ByteSliceLaws.{zeros-all}
use Rattle.byte_slices.proofs.all_zero.Goals as goal

pub returns : goal.returns
returns c =
    let all : c.all.result ≡ list_all (λ x. eqb x 0) (take (c.args.a + c.args.n - c.args.a) (drop c.args.a c.args.t.now)) =
    all_from_yields_List (λ x. eqb x 0) _ _ c.all.result c.all.ensures.ran (YieldsList-from_slice _ c.iter.ensures.rest) (λ x b q k. search (rules, tests)) in
    all ∙ zeros-all c.args.t.now c.args.a c.args.n _ (omega arith) (omega arith)
