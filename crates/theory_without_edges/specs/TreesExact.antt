-- If two trees agree (`TreesAgree`), both or neither pass question 8, and question 9 for counts.
use Rattle.std.specs.Prelude.{List, Bool, true, false, ◌&&◌, ◌≡◌, refl, ◌⊎◌, ℕ, ◌<◌}
use Rattle.std.proofs.Common.{sym, ◌∙◌, inl, inr}
use Rattle.text.specs.ListLaws.{bool_cases, bool_clash}
use Rattle.format.specs.LayoutLaws.{Readable, header-facts}
use Rattle.format.specs.Layout as at
use Rattle.format.specs.TreeReading.{links_ok, text_of, counts_true, edges_true, ask, header_result, check_result}
use Rattle.format.specs.CheckResultLaws as check-results
use Rattle.theory_paths.specs.Links.{linked-facts}
use Rattle.theory_without_edges.specs.LinksMade.{linked-make}
use Rattle.theory_without_edges.specs.TreesAgree as agree
use Rattle.theory_without_edges.specs.TreesAgree.{Agree}

-- agreement is symmetric
pub agree-back : (t u : List ℕ) → Readable t → Agree t u → Agree u t
agree-back t u k g = record {
  settings_are = sym g.settings_are;
  length_is = sym g.length_is;
  counted_are = sym g.counted_are;
  counts_are = λ l h. sym (g.counts_are l h);
  leaves_are = sym g.leaves_are;
  fields_are = λ l i f hl hi hf.
      let low : l < (at.settings t).levels = rw (agree.levels-are t u k g) at hl in
      sym (g.fields_are l i f low (rw (agree.count_is t u k g l low) at hi) (rw g.counted_are at hf));
  leaf-bytes = λ x. sym (g.leaf-bytes x);
}

module _ (t u : List ℕ) (k : Readable t) (k₁ : Readable u) (g : Agree t u) where
  pub links-same : links_ok u ≡ links_ok t
  links-same = go (bool_cases (links_ok t)) (bool_cases (links_ok u))
    where
      go : (links_ok t ≡ true) ⊎ (links_ok t ≡ false) → (links_ok u ≡ true) ⊎ (links_ok u ≡ false) → links_ok u ≡ links_ok t
      go (inl x) y = linked-make u (agree.agree-linked t u k g (linked-facts t x)) ∙ sym x
      go (inr x) (inl y) = bool_clash (links_ok t) (linked-make t (agree.agree-linked u t k₁ (agree-back t u k g) (linked-facts u y))) x
      go (inr x) (inr y) = y ∙ sym x

  module _ (l : links_ok t ≡ true) where
    pub text_same : text_of u ≡ text_of t
    text_same = agree.agree-text t u k g (linked-facts t l) k₁

    pub counts_same : counts_true (text_of u) u ≡ counts_true (text_of t) t
    counts_same = go (bool_cases (counts_true (text_of t) t)) (bool_cases (counts_true (text_of u) u))
      where
        go : (counts_true (text_of t) t ≡ true) ⊎ (counts_true (text_of t) t ≡ false) → (counts_true (text_of u) u ≡ true) ⊎ (counts_true (text_of u) u ≡ false)
            → counts_true (text_of u) u ≡ counts_true (text_of t) t
        go (inl x) y = agree.agree-counts t u k g (linked-facts t l) k₁ x ∙ sym x
        go (inr x) (inl y) =
            bool_clash (counts_true (text_of t) t)
            (agree.agree-counts u t k₁ (agree-back t u k g) (linked-facts u (links-same ∙ l)) k y) x
        go (inr x) (inr y) = y ∙ sym x

-- For a tree of layout 1 that passes questions 5 to 7 and agrees with t, the check returns what it returns for t if edges are ignored.
and-true : (x : Bool) → (x && true) ≡ x
and-true true = refl
and-true false = refl

pub checked-same : (t u : List ℕ) → header_result t ≡ 0 → header_result u ≡ 0 → at.layout u ≡ 1 → Agree t u
    → check_result u ≡ ask 8 (links_ok t) (ask 9 (counts_true (text_of t) t) 0)
checked-same t u r r₁ edgeless g = check-results.checked-header u r₁ ∙ go (bool_cases (links_ok t))
  where
    k : Readable t
    k = header-facts t r

    k₁ : Readable u
    k₁ = header-facts u r₁

    go : (links_ok t ≡ true) ⊎ (links_ok t ≡ false)
        → ask 8 (links_ok u) (ask 9 (counts_true (text_of u) u && edges_true (text_of u) u) 0) ≡ ask 8 (links_ok t) (ask 9 (counts_true (text_of t) t) 0)
    go (inl l) =
        rw (links-same t u k k₁ g, l, check-results.no_edges (text_of u) u edgeless, and-true (counts_true (text_of u) u), counts_same t u k k₁ g l)
    go (inr l) = rw (links-same t u k k₁ g, l)
