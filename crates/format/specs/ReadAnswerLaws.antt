-- Which spans are short.
use Rattle.std.specs.Prelude.{List, true, ◌&&◌, ◌≡◌, ℕ, ◌≤◌, eqb}
use Rattle.std.proofs.Math.Dec.{leb}
use borrow.Author.Tests.{eqb-true, eq-eqb, leb-true, le-leb}
use Rattle.text.specs.ListLaws.{and_left, and_right}
use Rattle.format.specs.Layout as at
use Rattle.format.specs.Answers.{is_short}

-- 1 to m bytes of a layout 2 tree
pub record ShortSpan (t : List ℕ) (len : ℕ) : Type 0 where
  pub two : at.layout t ≡ 2
  pub low : 1 ≤ len
  pub high : len ≤ (at.settings t).leaf

module _ (t : List ℕ) (len : ℕ) where
  pub short-span : is_short t len ≡ true → ShortSpan t len
  unfolding is_short at.has_edges
  short-span is =
      let a = and_left (eqb (at.layout t) 2 && leb 1 len) (leb len (at.settings t).leaf) is in record {
        two = eqb-true _ _ (and_left (eqb (at.layout t) 2) (leb 1 len) a);
        low = leb-true _ _ (and_right (eqb (at.layout t) 2) (leb 1 len) a);
        high = leb-true _ _ (and_right (eqb (at.layout t) 2 && leb 1 len) (leb len (at.settings t).leaf) is);
      }

  pub short-lets : ShortSpan t len → is_short t len ≡ true
  unfolding is_short at.has_edges
  short-lets s = rw (eq-eqb (at.layout t) 2 s.two, le-leb 1 len s.low, le-leb len (at.settings t).leaf s.high)
