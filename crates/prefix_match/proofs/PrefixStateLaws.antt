-- One step of the prefix automaton.
use mathlib.Core.List.{List}
use mathlib.Core.Bool.{false, not}
use mathlib.Core.Path.{◌≡◌}
use Prim.Native.Nat.{ℕ, ◌+◌, ◌-◌, ◌≤◌, ◌<◌}
use lib.ListN.{length, get_or}
use lib.Dec.{eqb}
use borrow.Author.Tests.{le-leb, lt-leb, eq-eqb, ne_eqb}
use Rattle.prefix_match.specs.declared.prefix_state.PrefixState.TheVariants.{Matched, Longer, Mismatch}
use Rattle.prefix_match.specs.PrefixStates.{after_matched, ends_without_cr}

module _ (prefix : List ℕ) (k : ℕ) where
  pub after-all : (x : ℕ) → length prefix ≤ k → Longer ≡ after_matched prefix k x
  unfolding after_matched
  after-all x h = rw (le-leb (length prefix) k h)

  pub after_same : (x : ℕ) → k < length prefix → get_or prefix k 0 ≡ x → Matched (k + 1) ≡ after_matched prefix k x
  unfolding after_matched
  after_same x h e = rw (lt-leb (length prefix) k h, eq-eqb (get_or prefix k 0) x e)

  pub after-other : (x : ℕ) → k < length prefix → (get_or prefix k 0 ≡ x → ⊥) → Mismatch ≡ after_matched prefix k x
  unfolding after_matched
  after-other x h e = rw (lt-leb (length prefix) k h, ne_eqb (get_or prefix k 0) x e)

  pub ends-short : k < length prefix → false ≡ ends_without_cr prefix k
  unfolding ends_without_cr
  ends-short h = rw (lt-leb (length prefix) k h)

  pub ends-full : length prefix ≤ k → not (eqb (get_or prefix (length prefix - 1) 0) 13) ≡ ends_without_cr prefix k
  unfolding ends_without_cr
  ends-full h = rw (le-leb (length prefix) k h)
