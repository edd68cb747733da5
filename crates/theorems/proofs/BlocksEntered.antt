-- The blocks entered that a call reports: the length of a place's path, and what a short span's walk enters.
use mathlib.Core.List.{List}
use mathlib.Core.Option.{some}
use mathlib.Core.Bool.{true, false}
use mathlib.Core.Path.{◌≡◌, refl}
use mathlib.Core.Logic.{◌⊎◌, inl, inr}
use Prim.Native.Nat.{ℕ}
use lib.ListN.{length}
use Rattle.text.specs.ListLaws.{bool_cases}
use Rattle.format.specs.Layout as at
use Rattle.format.specs.TreeReading.{Path, path_of, header_result}
use Rattle.format.specs.Answers.{span_blocks, is_short, span_reached}
use Rattle.format.specs.ReadAnswerLaws.{ShortSpan, short-span, short-lets}
use Rattle.theory_paths.specs.Theorems as paths
use Rattle.theory_edges.specs.Theorems as edges
use Rattle.theorems.specs.Promises.{LengthOfPath, BlocksOfSpan}

-- In a tree that passes questions 5 to 7 every path that holds has such a length.
pub length-of-path : (t : List ℕ) → header_result t ≡ 0 → (p : ℕ) (q : Path) → path_of t p ≡ some q
    → LengthOfPath t (at.settings t).levels p (length q.visits)
length-of-path t r p q e = record {
  path = q;
  path_is = e;
  length_is = refl;
  each_level = paths.blocks-entered t r p q e;
  short = paths.path-short t r p q e;
}

-- In a tree that passes questions 5 to 7 every span that is reached enters this number of blocks.
pub blocks-of-span : (t : List ℕ) → header_result t ≡ 0 → (p len : ℕ) → span_reached t p len ≡ true
    → BlocksOfSpan t (at.settings t).levels p len (span_blocks t p len)
blocks-of-span t r p len reached = record {
  walked = λ s. let w = edges.span-walked t r p len (short-lets t len s) reached in (w.0, w.1, w.2, rw w.2 w.3);
  other = λ n. not_short n (bool_cases (is_short t len));
  most = edges.span-entered t r p len;
}
  where
    not_short : (ShortSpan t len → ⊥) → (is_short t len ≡ true) ⊎ (is_short t len ≡ false) → span_blocks t p len ≡ 0
    not_short n (inl is) = absurd (n (short-span t len is))
    not_short n (inr is) = edges.span-other t r p len is
