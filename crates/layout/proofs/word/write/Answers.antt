use borrow.Author.Rules.{rules}
use lib.ListN.{length-set}
use native.Mathlib.Omega.{arith}
use Rattle.format.specs.Layout.{set_word}
use Rattle.layout.proofs.word.write.Goals as goal

pub bounds-t-at-2 : goal.bounds-t-at-2
unfolding set_word
bounds-t-at-2 c = simp length-set (omega arith)

pub bounds-t-at-3 : goal.bounds-t-at-3
unfolding set_word
bounds-t-at-3 c = simp length-set (omega arith)

pub bounds-t-at-4 : goal.bounds-t-at-4
unfolding set_word
bounds-t-at-4 c = simp length-set (omega arith)

pub returns : goal.returns
unfolding set_word
returns c = search rules
