use borrow.Author.Rules.{rules}
use native.Mathlib.Omega.{arith}
use mathlib.Core.Path.{ap, ◌∙◌}
use Prim.Native.Nat.{ℕ}
use Rattle.format.specs.Layout.{pieces}
use Rattle.query_guide.specs.Guides.{entries_of, listed_every}
use Rattle.query_guide.proofs.GuideList as laws
use Rattle.query_guide.proofs.entry_words.entries_of.Goals as goal

pub total-all-requires : goal.total-all-requires
unfolding entries_of
total-all-requires c = search rules

pub returns-then-all-eq0 : goal.returns-then-all-eq0
unfolding entries_of
returns-then-all-eq0 c = (laws.whole-entries c.total-all.result c.if-all-eq0.true ∙ ap (λ (x : ℕ). pieces x listed_every) c.total-all.ensures, omega arith)

pub overflow_add-result : goal.overflow_add-result
unfolding entries_of
overflow_add-result c = omega arith

pub returns : goal.returns
unfolding entries_of
returns c = (laws.begun-entries c.total-all.result c.if-all-eq0.false ∙ ap (λ (x : ℕ). pieces x listed_every) c.total-all.ensures, omega arith)
