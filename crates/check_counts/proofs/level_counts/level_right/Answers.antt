use mathlib.Core.Path.{sym, ◌∙◌}
use native.Mathlib.Omega.{arith}
use Rattle.check_counts.proofs.LevelCountsLaws as laws
use Rattle.check_counts.proofs.level_counts.level_right.Goals as goal

pub returns-then-not-byte_right : goal.returns-then-not-byte_right
returns-then-not-byte_right c = laws.bytes-fail _ _ c.requires.1 _ c.loop-c.c c.loop-c-test.true (sym c.byte_right.ensures ∙ c.if-not-byte_right.true)

pub returns : goal.returns
returns c = laws.bytes-done _ _ c.requires.1 _ _ c.loop-c.invariant (omega arith)
