use Rattle.scan_pass.proofs.LengthsOfLaws.{covers-all}
use Rattle.scan_pass.proofs.AfterPass.{answered}
use Rattle.scan_pass.proofs.scan.Goals as goal

pub enter_level-lengths-requires : goal.enter_level-lengths-requires
enter_level-lengths-requires c = c.requires

pub pass-requires : goal.pass-requires
pass-requires c = (c.enter_level-lengths.ensures.0, covers-all _ _ _ c.requires.1 c.requires.0.placed _ _ c.enter_level-lengths.ensures.0 c.enter_level-lengths.ensures.1, c.requires.1)

pub returns : goal.returns
returns c = record { answered = answered _ _ _ _ _ c.enter_level-lengths.ensures.0 c.requires.1 c.pass.ensures.passed; counted = record { lengths = c.enter_level-lengths.result; lengths_are = c.enter_level-lengths.ensures.1; sum = c.pass.ensures.value } }
