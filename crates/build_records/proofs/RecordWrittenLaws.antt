-- Writes of a record's words, joined.
use mathlib.Core.List.{List}
use mathlib.Core.Path.{◌≡◌}
use Prim.Native.Nat.{ℕ, ◌+◌}
use Rattle.format.specs.Layout.{word_at}
use Rattle.format.specs.WordLaws.{put_three}

pub count-written : (t u : List ℕ) (at a b c x y : ℕ) → b ≡ x → c ≡ y → u ≡ put_three t at a b c → u ≡ put_three t at a x y
count-written t u at a b c x y e f g = rw (g, e, f)

pub words-added : (t : List ℕ) (left a b : ℕ) → a ≡ word_at t left → b ≡ word_at t (left + 4) → a + b ≡ word_at t left + word_at t (left + 4)
words-added t left a b e f = rw (e, f)
