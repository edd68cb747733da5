use Rattle.std.proofs.Common.{◌≡◌, ◌∙◌, take, tests, rules}
use Rattle.std.proofs.lemmas.Iterator.{YieldsList-from_slice}
use Rattle.std.proofs.lemmas.Iterator.Search.{all_from_yields_List}
use Rattle.std.specs.List.{list_all}
use Rattle.text.specs.Text.{is_digit}
use Rattle.licence.proofs.DaysLaws.{all-taken}
use Rattle.licence.proofs.days.digits.Goals as goal

pub returns : goal.returns
unfolding is_digit
returns c =
    let all : c.all.result ≡ list_all is_digit (take 8 c.args.s.now) =
    all_from_yields_List is_digit _ _ c.all.result c.all.ensures.ran (YieldsList-from_slice _ c.iter.ensures.rest) (λ x b q k. search (rules, tests)) in
    all ∙ all-taken is_digit 8 c.args.s.now c.requires
