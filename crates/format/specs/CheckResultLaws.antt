-- A tree is accepted exactly if it passes questions 5 to 9.
use Rattle.std.specs.Prelude.{List, [], ◌∷◌, Bool, true, false, ◌&&◌, ◌≡◌, ℕ, suc}
use Rattle.std.proofs.Math.Path.{refl}
use Rattle.std.proofs.Common.{arith}
use Rattle.text.specs.ListLaws.{and_left, and_right}
use Rattle.format.specs.Layout.{layout, has_edges, holds_header, layout_ok, is_header_ok}
use Rattle.format.specs.TreeReading.{links_ok, text_of, counts_true, edges_true, ask, header_result, check_result}
use Rattle.format.specs.AnswerLaws.{AllPass, asks-pass}

refused-first : (a b c : Bool) (q rest : ℕ) → ask 5 a (ask 6 b (ask 7 c 0)) ≡ suc q → ask 5 a (ask 6 b (ask 7 c rest)) ≡ suc q
refused-first true true true q rest h = absurd (let z : ⊥ = omega arith in z)
refused-first true true false q rest h = h
refused-first true false c q rest h = h
refused-first false b c q rest h = h

-- A layout 1 tree has no edges, so the question on edges passes.
pub no_edges : (T t : List ℕ) → layout t ≡ 1 → edges_true T t ≡ true
unfolding edges_true has_edges
no_edges T t e = rw e

module _ (t : List ℕ) where
  -- Question 9.
  abbrev nine : Bool
  nine = counts_true (text_of t) t && edges_true (text_of t) t

  -- If questions 5 to 7 pass, the result of the check is that of questions 8 and 9.
  pub checked-header : header_result t ≡ 0 → check_result t ≡ ask 8 (links_ok t) (ask 9 (counts_true (text_of t) t && edges_true (text_of t) t) 0)
  unfolding header_result check_result
  checked-header h =
      let p = asks-pass ((5, holds_header t) ∷ (6, layout_ok t) ∷ (7, is_header_ok t) ∷ []) refl h in
      rw (p.0, p.1.0, p.1.1.0)

  -- If one of questions 5 to 7 fails, the result of the check is its number.
  pub checked_refused : (q : ℕ) → header_result t ≡ suc q → check_result t ≡ suc q
  unfolding header_result check_result
  checked_refused q h = refused-first (holds_header t) (layout_ok t) (is_header_ok t) q _ h

  pub accepted : header_result t ≡ 0 → links_ok t ≡ true → counts_true (text_of t) t ≡ true → edges_true (text_of t) t ≡ true → check_result t ≡ 0
  accepted h l c e = rw (checked-header h, l, c, e)

  module _ (v : check_result t ≡ 0) where
    passed : AllPass ((5, holds_header t) ∷ (6, layout_ok t) ∷ (7, is_header_ok t) ∷ (8, links_ok t) ∷ (9, nine) ∷ [])
    unfolding check_result
    passed = asks-pass ((5, holds_header t) ∷ (6, layout_ok t) ∷ (7, is_header_ok t) ∷ (8, links_ok t) ∷ (9, nine) ∷ []) refl v

    pub accepted-header : header_result t ≡ 0
    unfolding header_result
    accepted-header = rw (passed.0, passed.1.0, passed.1.1.0)

    pub accepted-links : links_ok t ≡ true
    accepted-links = passed.1.1.1.0

    accepted-true : nine ≡ true
    accepted-true = passed.1.1.1.1.0

    pub accepted-counts : counts_true (text_of t) t ≡ true
    accepted-counts = and_left (counts_true (text_of t) t) (edges_true (text_of t) t) accepted-true

    pub accepted-edges : edges_true (text_of t) t ≡ true
    accepted-edges = and_right (counts_true (text_of t) t) (edges_true (text_of t) t) accepted-true
