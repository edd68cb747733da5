use mathlib.Core.List.{List}
use mathlib.Core.Path.{◌≡◌}
use Prim.Native.Nat.{ℕ, ◌+◌}
use Rattle.format.specs.Layout.{set_word}
use Rattle.format.specs.WordLaws.{put_three}
use Rattle.layout.proofs.word.put_three.Goals as goal

three-written : (t t1 t2 t3 : List ℕ) (at a b c : ℕ) → t1 ≡ set_word t at a → t2 ≡ set_word t1 (at + 4) b → t3 ≡ set_word t2 (at + 8) c
    → t3 ≡ put_three t at a b c
three-written t t1 t2 t3 at a b c e f g = rw (g, f, e)

pub returns : goal.returns
returns c = three-written _ _ _ _ _ _ _ _ c.write.ensures c.write-2.ensures c.write-3.ensures
