use Rattle.std.proofs.Common.{◌≡◌, ◌<◌, ◌%◌, ◌^◌}
use Rattle.search.proofs.karp_rabin.power.Given as goal

abbrev pub invariant-loop : goal.invariant-loop
invariant-loop l = (l.w < l.q) × (l.w ≡ l.b ^ l.counter % l.q)
