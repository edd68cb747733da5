use mathlib.Core.Path.{sym, subst, ◌∙◌}
use lib.IntN.{ℤ, pos, ◌-ℤ◌}
use mir.Syntax.{w32}
use mir.Val.{SFits, to_z}
use mir.ValLaws.{to_z-of_z}
use Rattle.licence.proofs.Differences.{diff-fits, small}
use Rattle.licence.proofs.difference.Goals as goal

pub overflow_sub-result : goal.overflow_sub-result
overflow_sub-result c =
    subst (λ (v : ℤ). SFits w32 (v -ℤ to_z w32 c.args.b)) (sym (small c.args.a c.requires.0))
    (subst (λ (v : ℤ). SFits w32 (pos c.args.a -ℤ v)) (sym (small c.args.b c.requires.1)) (diff-fits c.args.a c.args.b c.requires.0 c.requires.1))

pub returns : goal.returns
returns c = to_z-of_z w32 _ (overflow_sub-result c) ∙ (λ i. small c.args.a c.requires.0 i -ℤ small c.args.b c.requires.1 i)
