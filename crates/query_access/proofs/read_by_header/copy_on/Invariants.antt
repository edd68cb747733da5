use Prim.Native.Nat.{◌≤◌, ◌-◌}
use mathlib.Core.List.{List}
use Prim.Native.Nat.{ℕ}
use mathlib.Core.Path.{◌≡◌}
use lib.ListN.{length}
use Rattle.query_access.proofs.CopyLaws as laws
use Rattle.query_access.proofs.read_by_header.copy_on.Given as goal

-- Whatever buffer the bytes up to i₀ were copied to.
abbrev pub invariant-loop-i : goal.invariant-loop-i
invariant-loop-i l =
    (l.i ≤ l.len) × (length l.buffer ≡ length l.initial.buffer)
    × ((d : List ℕ) → l.len ≤ length d → laws.Copying l.t l.at.0 l.len d l.initial.buffer l.initial.i → laws.Copying l.t l.at.0 l.len d l.buffer l.i)

abbrev pub decreases-loop-i : goal.decreases-loop-i
decreases-loop-i l = l.len - l.i
