use Prim.Native.Nat.{◌+◌}
use mathlib.Core.Path.{◌≡◌}
use Rattle.build_by_search.proofs.AllLevelsLaws as laws
use Rattle.build_by_search.proofs.all_levels.put_levels.Given as goal

abbrev pub invariant-loop : goal.invariant-loop
invariant-loop l = record {
  reached : laws.LevelReached l.fn.first.settings l.counted l.text l.initial.out l.out l.level;
  number_is : l.level.number + 1 ≡ l.counter;
}
