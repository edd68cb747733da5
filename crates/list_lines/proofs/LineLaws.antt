-- What is counted of a level, and the lines as they are put one after another.
use mathlib.Core.List.{List, [], ◌∷◌}
use mathlib.Core.Bool.{Bool, true, false, cond}
use mathlib.Core.Path.{◌≡◌, refl, sym, ap, ◌∙◌}
use Prim.Native.Nat.{ℕ, zero, suc, ◌+◌, ◌*◌, ◌≤◌, ◌<◌}
use native.Mathlib.Omega.{arith}
use native.Mathlib.Numerals.{add-one}
use borrow.Author.Tests.{eq-eqb, ne_eqb, le-leb, lt-leb}
use lib.ListN.{length}
use lib.Dec.{leb}
use Rattle.text.specs.Text.{count_below}
use Rattle.format.specs.Layout.{max_levels, header_length}
use Rattle.format.specs.Layout as at
use Rattle.format.specs.TreeReading.{check_result}
use Rattle.format.specs.CheckResultLaws.{accepted-header}
use Rattle.layout.specs.Record.{FieldIn, field_in}
use Rattle.layout.specs.Header.{header_answer}
use Rattle.layout.specs.HeaderFields.{HeaderOf, header_refused}
use Rattle.layout.specs.declared.header.Header.{Header}
use Rattle.std.specs.Prelude.{Result, Err, ⊤}
use Rattle.refusals.specs.declared.Refusal.{Refusal}
use Rattle.refusals.specs.Refusals.{refusal_number, result_refusal}
use Rattle.refusals.specs.RefusalsLaws.{number-above}
use Rattle.list_lines.specs.ListedLines.{ListPut, figure, line, level_line, lines_below, refused_line, lines_of, max_input, input_refusal, printed, max_figure}
use Rattle.list_lines.specs.LevelTable.{has_kind, max_refused, Level}
use Rattle.list_lines.specs.ListedLines.{max_line, max_lines}
use Rattle.list_lines.proofs.WrittenLaws.{then-put, put-nothing, put-within}

-- Counting.

pub list-count-none : (p : ℕ → Bool) → 0 ≡ count_below 0 p
unfolding count_below
list-count-none p = refl

module _ (t : List ℕ) (l k i kind : ℕ) (is : kind ≡ at.kind t l i) where
  pub count-same : kind ≡ k → count_below (i + 1) (has_kind t l k) ≡ count_below i (has_kind t l k) + 1
  unfolding count_below
  count-same e = rw (add-one i, eq-eqb (at.kind t l i) k (sym is ∙ e))

  pub count-other : (kind ≡ k → ⊥) → count_below (i + 1) (has_kind t l k) ≡ count_below i (has_kind t l k)
  unfolding count_below
  count-other n = rw (add-one i, ne_eqb (at.kind t l i) k (λ e. n (is ∙ e)))

module _ (t : List ℕ) (size l : ℕ) (k : Level t size l) where
  pub table-there : (l < max_levels) × (header_length ≤ length t)
  table-there = (omega (arith, k.level_in, k.header_read.bounds.levels_high), k.header_read.long)

  pub kind-there : (i : ℕ) → i < at.level_count t l → FieldIn t size l i 1
  kind-there i h = field_in t k.header_read size l i 1 k.size_is k.level_in h (omega arith)

-- The lines.

pub line-put : {d e₁ e₂ e₃ e₄ : List ℕ} {from m₁ m₂ m₃ end : ℕ} (a b c f : ℕ)
    → from + max_line ≤ length d → ListPut d e₁ from m₁ (figure a 32) max_figure → ListPut e₁ e₂ m₁ m₂ (figure b 32) max_figure
    → ListPut e₂ e₃ m₂ m₃ (figure c 32) max_figure → ListPut e₃ e₄ m₃ end (figure f 10) max_figure → ListPut d e₄ from end (line a b c f) max_line
unfolding line
line-put a b c f h p q r s = then-put (omega arith) (then-put (omega arith) (then-put (omega arith) p q) r) s

pub refused-put : {d e f : List ℕ} {mid end : ℕ} (number : ℕ)
    → max_refused ≤ length d → ListPut d e 0 mid (114 ∷ 101 ∷ 102 ∷ 117 ∷ 115 ∷ 101 ∷ 100 ∷ 32 ∷ []) 8 → ListPut e f mid end (figure number 10) max_figure
    → ListPut d f 0 end (refused_line number) max_refused
unfolding refused_line
refused-put number h p q = then-put (omega arith) p q

module _ (t : List ℕ) where
  pub level-put : {d e : List ℕ} {from end : ℕ} (l blocks kept pointing : ℕ)
      → blocks ≡ at.level_count t l → kept ≡ count_below (at.level_count t l) (has_kind t l 0)
      → pointing ≡ count_below (at.level_count t l) (has_kind t l 1)
      → ListPut d e from end (line l blocks kept pointing) max_line → ListPut d e from end (level_line t l) max_line
  unfolding level_line at.is_kept at.is_pointing
  level-put l blocks kept pointing b k p w = rw (b, k, p) at w

  -- The levels' lines, one more with each turn.
  pub no_lines : (d : List ℕ) → ListPut d d 0 0 (lines_below t 0) (max_line * 0)
  unfolding lines_below
  no_lines d = put-nothing d

  pub lines_more : {d e f : List ℕ} {mid end : ℕ} (l : ℕ)
      → max_line * l + max_line ≤ length d → ListPut d e 0 mid (lines_below t l) (max_line * l) → ListPut e f mid end (level_line t l) max_line
      → ListPut d f 0 end (lines_below t (l + 1)) (max_line * (l + 1))
  unfolding lines_below
  lines_more l h p q = rw add-one (put-within (max_line * suc l) (omega arith) (then-put (omega arith) p q))

  module _ (h : Header) (k : HeaderOf t h) where
    abbrev count : ℕ
    count = h.settings.levels

    pub levels-few : count ≤ max_levels
    levels-few = omega (arith, k.levels_is, k.facts.bounds.levels_high)

    pub level-there : (l : ℕ) → l < count → Level t h.record_size l
    level-there l low = record { header_read = k.facts; size_is = k.size_is; level_in = omega (arith, k.levels_is) }

    pub lines-done : {d e : List ℕ} {end : ℕ} (l : ℕ)
        → l ≡ count → ListPut d e 0 end (lines_below t l) (max_line * l) → ListPut d e 0 end (lines_below t (at.settings t).levels) max_lines
    lines-done l a p = let q : l ≡ (at.settings t).levels = omega (arith, k.levels_is) in put-within max_lines (omega (arith, levels-few)) (rw q at p)

  -- Question 15 first, then the check's.
  pub input-long : max_input < length t → 15 ≡ input_refusal t
  unfolding input_refusal
  input-long h = rw (lt-leb (length t) max_input h)

  pub input-short : length t ≤ max_input → check_result t ≡ input_refusal t
  unfolding input_refusal
  input-short h = rw (le-leb (length t) max_input h)

  -- The number decides what is printed.
  pub print-refused : {d e : List ℕ} {end : ℕ} (x : Result ⊤ Refusal) (q : Refusal)
      → result_refusal x ≡ input_refusal t → x ≡ Err q
      → ListPut d e 0 end (refused_line (refusal_number q)) max_refused → ListPut d e 0 end (printed t) max_lines
  unfolding printed
  print-refused x q is same p =
      let n : refusal_number q ≡ input_refusal t = rw same at is in
      put-within max_lines (omega arith)
      (rw (lines-of (refusal_number q) (λ z. omega (arith, number-above q)) ∙ ap (λ (x : ℕ). lines_of x t) n) at p)
    where
      lines-of : (x : ℕ) → (x ≡ 0 → ⊥) → refused_line x ≡ lines_of x t
      lines-of zero m = absurd (m refl)
      lines-of (suc x) m = refl

  module _ (passed : input_refusal t ≡ 0) where
    pub print-lines : {d e : List ℕ} {end : ℕ} → ListPut d e 0 end (lines_below t (at.settings t).levels) max_lines → ListPut d e 0 end (printed t) max_lines
    unfolding printed
    print-lines p = rw (ap (λ (x : ℕ). lines_of x t) (sym passed)) at p

    passes : (b : Bool) (v : ℕ) → cond b v 15 ≡ 0 → v ≡ 0
    passes true v e = e
    passes false v e = absurd (let z : ⊥ = omega arith in z)

    accepted : check_result t ≡ 0
    unfolding input_refusal
    accepted = passes (leb (length t) max_input) (check_result t) passed

    -- The header of an accepted tree is not refused.
    pub never-refused : (x : Result Header Refusal) → x ≡ header_answer t → (q : Refusal) → x ≡ Err q → ⊥
    never-refused x is q e = let z = header_refused t x is q e in omega (arith, z.1, accepted-header t accepted)

pub count-done : (p : ℕ → Bool) (i count n found : ℕ) → i ≤ count → count ≤ i → count ≡ n → found ≡ count_below i p → found ≡ count_below n p
count-done p i count n found a b e f = let q : i ≡ n = omega arith in rw q at f
