-- The trees that the check accepts, the text that each represents, and that the built tree is one of them.
use Rattle.std.specs.Prelude.{List, true, ◌≡◌, ◌↔◌, ℕ}
use Rattle.std.proofs.Common.{sym}
use Rattle.format.specs.Layout.{Settings}
use Rattle.format.specs.Blocks.{tree_of}
use Rattle.format.specs.TreeReading.{links_ok, text_of, counts_true, edges_true, header_result, check_result}
use Rattle.format.specs.FittingText.{fits}
use Rattle.format.specs.CheckResultLaws as check-results
use Rattle.theory_paths.specs.Theorems as paths
use Rattle.theory_built.specs.BlockSizes.{Taken}
use Rattle.theory_built.specs.Built.{built, built-accepted}

-- Questions 5 to 8 hold of t, T fits it, and its counts and, in layout 2, its edges are true of T.
pub record Represents (t T : List ℕ) : Type 0 where
  pub header-result : header_result t ≡ 0
  pub linked : links_ok t ≡ true
  pub fitting : fits T t ≡ true
  pub counted : counts_true T t ≡ true
  pub edged : edges_true T t ≡ true

module _ (t : List ℕ) where
  -- An accepted tree represents the text that its paths give.
  pub accepted-represents : check_result t ≡ 0 → Represents t (text_of t)
  accepted-represents v = record {
    header-result = check-results.accepted-header t v;
    linked = check-results.accepted-links t v;
    fitting = paths.text-fits t (check-results.accepted-header t v) (check-results.accepted-links t v);
    counted = check-results.accepted-counts t v;
    edged = check-results.accepted-edges t v;
  }

  -- The tree represents no other text: exactly one text fits a tree that passes questions 5 to 8.
  pub one-text : header_result t ≡ 0 → links_ok t ≡ true → (T : List ℕ) → fits T t ≡ true → T ≡ text_of t
  one-text = paths.only-text t

  -- A tree that represents some text is accepted.
  pub represents-accepted : (T : List ℕ) → Represents t T → check_result t ≡ 0
  represents-accepted T s =
      let e : T ≡ text_of t = one-text s.header-result s.linked T s.fitting in
      check-results.accepted t s.header-result s.linked (rw e at s.counted) (rw e at s.edged)

  -- The check accepts bytes exactly if questions 5 to 8 pass, some text fits, and the counts and edges are right for it.
  pub accepts : (check_result t ≡ 0) ↔ ((T : List ℕ) × Represents t T)
  accepts = (λ v. (text_of t, accepted-represents v), λ s. represents-accepted s.0 s.1)

-- For every text and all settings that pass questions 1 to 3:
module _ (S : Settings) (T : List ℕ) (h : Taken S T) where
  -- The one text that fits the built tree is the input,
  pub built-text : text_of (tree_of S T) ≡ T
  built-text = let b = built S T h in sym (one-text (tree_of S T) b.read b.linked T b.fitting)

  -- The check accepts the built tree.
  pub built-checked : check_result (tree_of S T) ≡ 0
  built-checked = built-accepted S T h built-text
