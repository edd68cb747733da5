use mathlib.Core.Path.{◌≡◌}
use borrow.Author.Rules.{rules}
use borrow.Author.Tests.{tests}
use Rattle.std.proofs.lemmas.Iterator.{IsFirst-from_position, YieldsList-from_slice}
use Rattle.query_counted.proofs.NamedLaws as laws
use Rattle.query_counted.proofs.number_of.Goals as goal

pub returns : goal.returns
returns c = laws.number-is c.args.t.now c.args.k c.args.byte c.requires _ _ c.unwrap_or.ensures
    (IsFirst-from_position _ _ _ (λ x. x ≡ c.args.byte) (λ x. x ≡ c.args.byte → ⊥) c.position-found.ensures.ran (YieldsList-from_slice _ c.iter.ensures.rest)
    (λ x q k. search (rules, tests)) (λ x q k. search (rules, tests)))
