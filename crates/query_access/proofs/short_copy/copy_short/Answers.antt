use mathlib.Core.Path.{◌∙◌}
use Prim.Native.Nat.{◌+◌}
use native.Mathlib.Omega.{arith}
use Rattle.query_access.proofs.ShortCopyLaws.{next-copied, last-copied}
use Rattle.query_access.proofs.short_copy.copy_short.Goals as goal
use Rattle.query_access.proofs.short_copy.copy_short.Goals.{else-loop-j-test, then-loop-j-test+else-j-end-j-gt8}

pub returns-then-n-lt8 : goal.returns-then-n-lt8
returns-then-n-lt8 c = last-copied c.args.out.now _ _ c.args.text.now c.args.to c.args.from 4 4 c.args.n c.requires.0 (omega arith) (omega arith) (omega arith)
    c.copy_word.ensures c.copy_word-then-n-lt8.ensures

pub returns : goal.returns
returns c =
    elim c.loop-j-test.branch [
      | else-loop-j-test w ↦ last-copied c.args.out.now c.loop-j-test.out _ c.args.text.now c.args.to c.args.from c.loop-j.j 8 c.args.n c.requires.0
          c.loop-j.invariant.within (omega arith) (omega (arith, w.loop-j-test.false)) (w.out-is ∙ c.loop-j.invariant.written) c.copy_pair-2.ensures
      | then-loop-j-test+else-j-end-j-gt8 w ↦ last-copied c.args.out.now c.loop-j-test.out _ c.args.text.now c.args.to c.args.from (c.loop-j.j + 8) 8 c.args.n
          c.requires.0 (omega arith) (omega arith) (omega arith)
          (w.out-is ∙ next-copied c.args.out.now c.loop-j.out _ c.args.text.now c.args.to c.args.from c.loop-j.j 8 c.loop-j.invariant.written w.copy_pair.ensures)
          c.copy_pair-2.ensures
    ]
