use mathlib.Core.Path.{refl}
use native.Mathlib.Omega.{arith}
use Rattle.walk_steps.proofs.StepLaws.{pointing-in}
use Rattle.query_select.proofs.LandLaws as laws
use Rattle.query_select.proofs.SeekLaws as counts
use Rattle.query_select.proofs.seek.target_with.Goals as goal

pub link-link-requires : goal.link-link-requires
link-link-requires c = counts.select-field-there _ _ _ _ _ 2 c.requires.0.on.facts
    c.requires.0.on.size_is c.requires.0.on.level_in (pointing-in _ _ _ c.requires.0.points) c.requires.1 (omega arith)

pub level_count-count-requires : goal.level_count-count-requires
level_count-count-requires c = (omega (arith, c.requires.0.on.level_in, c.requires.0.on.facts.bounds.levels_high), c.requires.0.on.facts.long)

pub returns-then-count-link : goal.returns-then-count-link
returns-then-count-link c = laws.aim-past _ _ _ _ _ _ _ _
    c.requires.0 c.requires.1 c.requires.2 c.link-link.ensures (omega (arith, c.level_count-count.ensures, c.if-count-link.true))

pub skip-requires : goal.skip-requires
skip-requires c = counts.select-field-there
    _ _ _ _ _ _ c.requires.0.on.facts c.requires.0.on.size_is c.requires.0.on.level_in (pointing-in _ _ _ c.requires.0.points) c.requires.1 (omega arith)

pub inside-inside-requires : goal.inside-inside-requires
inside-inside-requires c = counts.select-field-there _ _ _ _ _ _ c.requires.0.on.facts
    c.requires.0.on.size_is c.requires.0.on.level_in
    (omega (arith, c.level_count-count.ensures, c.if-count-link.false)) c.requires.1 (omega arith)

pub kept_target-requires : goal.kept_target-requires
kept_target-requires c = counts.full-there _ _ _ _ _ c.requires.0.on (omega (arith, c.level_count-count.ensures, c.if-count-link.false))

pub returns-then-rank-inside : goal.returns-then-rank-inside
returns-then-rank-inside c = laws.aim-first _ _ _ _ _ _ _ _ c.requires.0 c.requires.1 c.requires.2 c.link-link.ensures _ _ _ c.skip.ensures
    (omega arith) c.inside-inside.ensures refl _ c.if-rank-inside.true c.kept_target.ensures

pub returns-then-count-link-eq1 : goal.returns-then-count-link-eq1
returns-then-count-link-eq1 c = laws.aim-no-second _ _ _ _ _ _ _ _ c.requires.0 c.requires.1 c.requires.2 c.link-link.ensures
    _ _ _ c.skip.ensures (omega arith) c.inside-inside.ensures refl c.if-rank-inside.false
    (omega (arith, c.level_count-count.ensures, c.if-count-link.false)) (omega (arith, c.level_count-count.ensures, c.if-count-link-eq1.true))

pub kept_target-requires-2 : goal.kept_target-requires-2
kept_target-requires-2 c = counts.full-there _ _ _ _ _ c.requires.0.on (omega (arith, c.level_count-count.ensures, c.if-count-link.false, c.if-count-link-eq1.false))

pub returns : goal.returns
returns c = laws.aim-second _ _ _ _ _ _ _ _ c.requires.0 c.requires.1 c.requires.2 c.link-link.ensures _ _ _
    c.skip.ensures (omega arith) c.inside-inside.ensures refl
    c.if-rank-inside.false _ c.kept_target-2.ensures
