use Rattle.std.proofs.Common.{◌≡◌, ◌+◌, ◌-◌, arith}
use Rattle.layout.proofs.HeaderLaws.{level-used, level-zero}
use Rattle.layout.proofs.TestLoops.{scan-none, scan-more, scan-done, scan-fails}
use Rattle.layout.specs.Header.{spare_levels, zero_level}
use Rattle.format.specs.Layout.{max_levels}
use Rattle.layout.proofs.header.spare_levels_zero.Goals as goal

pub loop-level-init : goal.loop-level-init
loop-level-init c = let none : c.args.levels - c.args.levels ≡ 0 = omega arith in rw none (scan-none _)

pub returns-then-count-offset-ne0 : goal.returns-then-count-offset-ne0
unfolding spare_levels
returns-then-count-offset-ne0 c =
    let x = c.loop-level.level - c.args.levels in
    let at : c.args.levels + x ≡ c.loop-level.level = omega arith in
    scan-fails (zero_level c.args.t.now c.args.levels) (max_levels - c.args.levels) x (omega arith)
    (level-used c.args.t.now c.args.levels x _ _ (rw at c.read-count.ensures) (rw at c.read-offset.ensures) c.if-count-offset-ne0.true)

pub loop-level-preserved : goal.loop-level-preserved
loop-level-preserved c =
    let x = c.loop-level.level - c.args.levels in
    let at : c.args.levels + x ≡ c.loop-level.level = omega arith in
    let more : c.loop-level.level + 1 - c.args.levels ≡ x + 1 = omega arith in
    rw more (scan-more (zero_level c.args.t.now c.args.levels) x c.loop-level.invariant
    (level-zero c.args.t.now c.args.levels x _ _ (rw at c.read-count.ensures) (rw at c.read-offset.ensures) c.if-count-offset-ne0.false))

pub returns : goal.returns
unfolding spare_levels
returns c = scan-done (zero_level c.args.t.now c.args.levels) (max_levels - c.args.levels) _ (omega arith) (omega arith) c.loop-level.invariant
