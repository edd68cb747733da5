use Prim.Native.Nat.{◌+◌}
use borrow.Author.Rules.{rules}
use borrow.Author.Tests.{tests}
use Rattle.std.specs.List.{between}
use Rattle.std.proofs.lemmas.Iterator.{IsFirst-from_position, YieldsList-from_slice, YieldsList-from_zip}
use Rattle.query_compare.proofs.SideBySideLaws as laws
use Rattle.query_compare.proofs.side_by_side.first_difference.Goals as goal

pub returns : goal.returns
returns c = let a = c.args.from in let b = c.args.at in let n = c.args.n in
    laws.first-differs c.args.one.now a c.args.other.now b n c.requires.0 c.requires.1 _ _ c.unwrap_or.ensures
    (IsFirst-from_position c.position.new.self _ _ laws.Differ laws.Equal c.position.ensures.ran
    (YieldsList-from_zip (YieldsList-from_slice (between a (a + n) c.args.one.now) cc) (YieldsList-from_slice (between b (b + n) c.args.other.now) cc))
    (λ x q k. search (rules, tests)) (λ x q k. search (rules, tests)))
