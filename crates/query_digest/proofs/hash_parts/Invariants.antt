use mathlib.Core.Path.{◌≡◌}
use Prim.Native.Nat.{◌*◌}
use lib.ListN.{length}
use Rattle.query_digest.specs.TextHashed.{hash_answer, HashedUpTo}
use Rattle.query_digest.proofs.hash_parts.Given as goal

abbrev pub invariant-loop-k : goal.invariant-loop-k
invariant-loop-k l = (HashedUpTo l.t (1024 * l.k) l.s) × (hash_answer l.t (1024 * l.k) ≡ hash_answer l.t 0) × (length l.part ≡ 1024)
