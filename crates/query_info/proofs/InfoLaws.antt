-- The figures, one by one.
use Rattle.std.specs.Prelude.{Result, Err}
use Rattle.refusals.specs.declared.Refusal.{Refusal}
use Rattle.refusals.specs.Refusals.{refusal_number}
use mathlib.Core.List.{List, [], ◌∷◌}
use mathlib.Core.Path.{◌≡◌, sym, ◌∙◌}
use Prim.Native.Nat.{ℕ, ◌≤◌, ◌<◌}
use native.Mathlib.Omega.{arith}
use borrow.Author.Tests.{lt-ltb, le-ltb, ne_eqb}
use lib.ListN.{get_or, replicate}
use Rattle.text.specs.Text.{tabulate}
use Rattle.format.specs.Layout.{max_levels, max_counted}
use Rattle.format.specs.Layout as at
use Rattle.format.specs.TreeReading.{header_result}
use Rattle.format.specs.Answers.{total}
use Rattle.layout.specs.declared.header.Header.{Header}
use Rattle.layout.specs.Header.{header_answer}
use Rattle.layout.specs.HeaderFields.{HeaderOf, header_refused}
use Rattle.query_info.specs.Info.{figure_count, counted_byte, total_of, figures_of, info_buffer}

-- Four of a kind, and eight.
pub four : (f : ℕ → ℕ) (a b c d : ℕ) → a ≡ f 0 → b ≡ f 1 → c ≡ f 2 → d ≡ f 3 → a ∷ b ∷ c ∷ d ∷ [] ≡ tabulate max_counted f
unfolding tabulate
four f a b c d e0 e1 e2 e3 = rw (e0, e1, e2, e3)

pub info-eight : (f : ℕ → ℕ) (a b c d u v w x : ℕ) → a ≡ f 0 → b ≡ f 1 → c ≡ f 2 → d ≡ f 3 → u ≡ f 4 → v ≡ f 5 → w ≡ f 6 → x ≡ f 7
    → a ∷ b ∷ c ∷ d ∷ u ∷ v ∷ w ∷ x ∷ [] ≡ tabulate max_levels f
unfolding tabulate
info-eight f a b c d u v w x e0 e1 e2 e3 e4 e5 e6 e7 = rw (e0, e1, e2, e3, e4, e5, e6, e7)

module _ (t : List ℕ) (h : Header) (k : HeaderOf t h) where
  -- A total.
  pub no-total : (c : ℕ) → h.settings.counted ≤ c → 0 ≡ total_of t c
  unfolding total_of
  no-total c l = rw (le-ltb c (at.counted_count t) (omega (arith, k.counted_is)))

  pub total-answered : (c r : ℕ) → c < h.settings.counted → r ≡ total t c → r ≡ total_of t c
  unfolding total_of
  total-answered c r l e = rw (lt-ltb c (at.counted_count t) (omega (arith, k.counted_is)), e)

  -- All of them.
  pub figures-are : (bytes totals blocks : List ℕ)
      → bytes ≡ tabulate max_counted (counted_byte t) → totals ≡ tabulate max_counted (total_of t) → blocks ≡ tabulate max_levels (at.level_count t)
      → h.layout ∷ h.text_length ∷ h.settings.leaf ∷ h.settings.arity ∷ h.settings.levels ∷ h.leaf_count ∷ h.settings.counted
      ∷ get_or bytes 0 0 ∷ get_or bytes 1 0 ∷ get_or bytes 2 0 ∷ get_or bytes 3 0 ∷ get_or totals 0 0 ∷ get_or totals 1 0 ∷ get_or totals 2 0 ∷ get_or totals 3 0
      ∷ get_or blocks 0 0 ∷ get_or blocks 1 0 ∷ get_or blocks 2 0 ∷ get_or blocks 3 0 ∷ get_or blocks 4 0 ∷ get_or blocks 5 0 ∷ get_or blocks 6 0 ∷ get_or blocks 7 0 ∷ []
      ≡ figures_of t
  unfolding figures_of tabulate
  figures-are bytes totals blocks b o l =
      rw (b, o, l, k.layout_is, k.length_is, k.leaf_is, k.arity_is, k.levels_is, k.count_is, k.counted_is)

  pub figures-answered : (figures : List ℕ) → figures ≡ figures_of t → (0 ≡ header_result t) × (figures ≡ info_buffer t)
  unfolding info_buffer
  figures-answered figures e = (sym k.passes, rw k.passes e)

-- A tree that does not pass questions 5 to 7.
pub info-unread : (t : List ℕ) (x : Result Header Refusal) → x ≡ header_answer t → (q : Refusal) → x ≡ Err q → (refusal_number q ≡ header_result t)
    × (replicate figure_count 0 ≡ info_buffer t)
unfolding info_buffer
info-unread t x x-is q e =
    let z = header_refused t x x-is q e in
    (z.2 ∙ sym z.1, rw (ne_eqb (header_result t) 0 (λ y. omega (arith, z.1))))
