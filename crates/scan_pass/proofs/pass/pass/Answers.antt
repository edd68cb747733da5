use mathlib.Core.Path.{refl}
use Rattle.scan_pass.specs.Passes.{CutWindowsAt}
use Rattle.scan_pass.proofs.PassLaws as laws
use Rattle.scan_pass.proofs.pass.pass.Goals as goal

pub first-a-requires : goal.first-a-requires
first-a-requires c =
    (laws.first-asked _ _ _ _ _ c.requires.0 c.requires.2 c.requires.1, c.requires.1.block_in)

pub first-b-requires : goal.first-b-requires
first-b-requires c =
    (laws.asked-after _ _ _ _ _ c.first-a.ensures.stepped.searched (laws.first-asked _ _ _ _ _ c.requires.0 c.requires.2 c.requires.1), c.requires.1.pair_in)

pub first-last-requires : goal.first-last-requires
first-last-requires c = (
  laws.asked-after _ _ _ _ _ c.first-b.ensures.stepped.searched
      (laws.asked-after _ _ _ _ _ c.first-a.ensures.stepped.searched (laws.first-asked _ _ _ _ _ c.requires.0 c.requires.2 c.requires.1)),
  c.requires.1.last_in,
)

pub first-ending-requires : goal.first-ending-requires
first-ending-requires c = (
  laws.asked-after _ _ _ _ _ c.first-last.ensures.stepped.searched
      (laws.asked-after _ _ _ _ _ c.first-b.ensures.stepped.searched
      (laws.asked-after _ _ _ _ _ c.first-a.ensures.stepped.searched (laws.first-asked _ _ _ _ _ c.requires.0 c.requires.2 c.requires.1))),
  c.requires.1.ending_in,
)

pub loop-p-init : goal.loop-p-init
loop-p-init c =
    let opened : CutWindowsAt c.args.it.seed c.args.text.now c.args.l.last c.args.l.ending 0 c.cut_windows-cut.result = laws.cut_opened _ _ _ _ _ _ _ _ c.cut_windows-cut.ensures.0 c.cut_windows-cut.ensures.1 c.cut_windows-cut.ensures.2 c.cut_windows-cut.ensures.3 c.first-last.ensures.window_at c.first-ending.ensures.window_at in
    let o = opened in (
      laws.passing-first _ _ _ _ _ c.requires.0 c.requires.2 c.requires.1 _ _ _ _
          c.first-a.ensures.stepped c.first-b.ensures.stepped c.first-last.ensures.stepped c.first-ending.ensures.stepped _ _ _ _
          c.first-a.ensures.window_at c.first-b.ensures.window_at o.last_is o.ending_is,
      laws.cut-of-len _ _ _ _ _ _ o,
    )

pub step-b-requires : goal.step-b-requires
step-b-requires c =
    (laws.asked-after _ _ _ _ _ c.step-a.ensures.stepped.searched c.loop-p.invariant.0.asked, laws.of-len _ _ _ _ _ c.loop-p.invariant.0.b_is, c.loop-p-test.true, refl)

pub step_cut-cut-requires : goal.step_cut-cut-requires
step_cut-cut-requires c = (
  laws.asked-after _ _ _ _ _ c.step-b.ensures.stepped.searched (laws.asked-after _ _ _ _ _ c.step-a.ensures.stepped.searched c.loop-p.invariant.0.asked),
  laws.cut-of-len _ _ _ _ _ _ c.loop-p.invariant.1,
  c.loop-p-test.true,
  refl,
)

pub loop-p-preserved : goal.loop-p-preserved
loop-p-preserved c =
    let opened : CutWindowsAt c.args.it.seed c.args.text.now c.args.l.last c.args.l.ending 0 c.cut_windows-cut.result = laws.cut_opened _ _ _ _ _ _ _ _ c.cut_windows-cut.ensures.0 c.cut_windows-cut.ensures.1 c.cut_windows-cut.ensures.2 c.cut_windows-cut.ensures.3 c.first-last.ensures.window_at c.first-ending.ensures.window_at in
    let o = opened in (
      laws.passing-next _ _ _ _ _ c.requires.0 c.requires.2 c.requires.1 _ _ _ _
          c.first-a.ensures.stepped c.first-b.ensures.stepped c.first-last.ensures.stepped c.first-ending.ensures.stepped _ _ _ _
          c.first-a.ensures.window_at.len_is c.first-b.ensures.window_at.len_is o.last_is.len_is o.ending_is.len_is
          _ _ _ _ _ _ c.loop-p.invariant.0 c.loop-p-test.true _ _ _ _ _ _ _ _
          c.step-a.ensures.stepped c.step-b.ensures.stepped c.step_cut-cut.ensures.stepped_twice.one c.step_cut-cut.ensures.stepped_twice.other
          c.step-a.ensures.window_at c.step-b.ensures.window_at c.step_cut-cut.ensures.cut_windows_at.last_is c.step_cut-cut.ensures.cut_windows_at.ending_is,
      laws.cut-of-same _ _ _ _ _ _ c.loop-p.invariant.1 _ c.step_cut-cut.ensures.cut_windows_at,
    )

pub returns : goal.returns
returns c =
    let opened : CutWindowsAt c.args.it.seed c.args.text.now c.args.l.last c.args.l.ending 0 c.cut_windows-cut.result = laws.cut_opened _ _ _ _ _ _ _ _ c.cut_windows-cut.ensures.0 c.cut_windows-cut.ensures.1 c.cut_windows-cut.ensures.2 c.cut_windows-cut.ensures.3 c.first-last.ensures.window_at c.first-ending.ensures.window_at in
    let o = opened in record {
      passed = laws.passing-over _ _ _ _ _ c.requires.0 c.requires.2 c.requires.1 _ _ _ _
          c.first-a.ensures.stepped c.first-b.ensures.stepped c.first-last.ensures.stepped c.first-ending.ensures.stepped _ _ _ _
          c.first-a.ensures.window_at.len_is c.first-b.ensures.window_at.len_is o.last_is.len_is o.ending_is.len_is
          _ _ _ _ _ _ c.loop-p.invariant.0 c.loop-p-test.false;
      value = laws.looked-sum c.args.it.seed c.args.text.now _ _ _ _ _ _ _ _ _ _ _ _ _
          c.first-a.ensures.window_at.len_is c.first-b.ensures.window_at.len_is o.last_is.len_is o.ending_is.len_is
          c.loop-p.invariant.0.a_is c.loop-p.invariant.0.b_is c.loop-p.invariant.0.c_is c.loop-p.invariant.0.d_is c.loop-p-test.false;
    }
