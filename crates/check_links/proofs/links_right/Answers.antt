use mathlib.Core.Path.{sym, ◌∙◌}
use Rattle.layout.proofs.TestLoops.{scan-none, scan-more, scan-done, scan-fails}
use Rattle.check_links.proofs.LevelReadLaws as reads
use Rattle.check_links.proofs.TreeLaws as tree
use Rattle.check_links.specs.LevelAsked.{level_right}
use Rattle.check_links.proofs.links_right.Goals as goal

pub returns-then-not-starts_right : goal.returns-then-not-starts_right
returns-then-not-starts_right c = tree.starts-off _ _ (tree.count-0 _ _ c.level_of.ensures.0 c.level_of.ensures.1)
    (sym c.starts_right.ensures ∙ c.if-not-starts_right.true)

pub loop-l-init : goal.loop-l-init
loop-l-init c = record { checked = scan-none _; full_is = λ _. c.requires.block_is }

pub returns-then-not-level_right : goal.returns-then-not-level_right
returns-then-not-level_right c = tree.levels-done _ _ (tree.count-0 _ _ c.level_of.ensures.0 c.level_of.ensures.1)
    (sym c.starts_right.ensures ∙ c.if-not-starts_right.false) _ c.requires _
    (scan-fails (level_right c.args.t.now) c.args.h.settings.levels c.loop-l.l c.loop-l-test.true
    (tree.same-level _ _ _ _ c.level_of-in-loop-l.ensures.1 (sym c.level_right.ensures ∙ c.if-not-level_right.true)))

pub loop-l-preserved : goal.loop-l-preserved
loop-l-preserved c = record {
  checked = scan-more (level_right c.args.t.now) c.loop-l.l c.loop-l.invariant.checked
      (tree.same-level _ _ _ _ c.level_of-in-loop-l.ensures.1 (sym c.level_right.ensures ∙ c.if-not-level_right.false));
  full_is = λ more. reads.full-below _ _ c.requires _ _ (c.loop-l.invariant.full_is c.loop-l-test.true) more;
}

pub returns : goal.returns
returns c = tree.levels-done _ _ (tree.count-0 _ _ c.level_of.ensures.0 c.level_of.ensures.1)
    (sym c.starts_right.ensures ∙ c.if-not-starts_right.false) _ c.requires _
    (scan-done (level_right c.args.t.now) c.args.h.settings.levels c.loop-l.l c.loop-l.auto.l-end c.loop-l-test.false c.loop-l.invariant.checked)
