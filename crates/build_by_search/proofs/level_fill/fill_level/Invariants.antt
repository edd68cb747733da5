use Rattle.build_by_search.proofs.LevelFillLaws as laws
use Rattle.build_records.specs.State.{record_settings_of}
use Rattle.build_by_search.proofs.level_fill.fill_level.Given as goal

abbrev pub invariant-loop-i : goal.invariant-loop-i
invariant-loop-i l = laws.Going (record_settings_of l.level.settings l.counted) l.text l.level l.initial.out l.out l.left l.link l.i
