-- What a caller learns of a tree, as theorems over what the calls promise.
-- docs/FORMAT.md: "Figures and sizes".
use Rattle.std.specs.Prelude.{Result, Ok}
use Rattle.refusals.specs.declared.Refusal.{Refusal}
use Rattle.refusals.specs.Refusals.{result_refusal}
use Rattle.refusals.specs.RefusalsLaws.{answered-with}
use mathlib.Core.List.{List}
use mathlib.Core.Path.{◌≡◌, refl, sym, ap, ◌∙◌}
use Prim.Native.Nat.{ℕ, zero, suc, ◌+◌, ◌<◌}
use native.Mathlib.Omega.{arith}
use contract.Lifetimes.{Lfts}
use denote.Ref.{Bor}
use denote.MutBor.{MutBor}
use borrow.Author.Tests.{ne_eqb, lt-ltb}
use lib.ListN.{length, get_or, replicate}
use lib.Seq.{get_or-take, get_or-drop}
use Rattle.text.specs.Text.{count_in, tabulate}
use Rattle.format.specs.Layout.{max_counted}
use Rattle.format.specs.Layout as at
use Rattle.format.specs.TreeReading.{text_of, header_result, check_result}
use Rattle.format.specs.CheckResultLaws.{accepted-header, accepted-links}
use Rattle.format.specs.LayoutLaws.{header-facts}
use Rattle.theory_paths.specs.Links.{linked-facts}
use Rattle.theory_paths.specs.OneText.{text-length}
use Rattle.theory_counts.specs.CountsLocal.{byte_of}
use Rattle.theory_counts.specs.Theorems as counts
use Rattle.theory_counts.specs.Finds as finds
use Rattle.query_info.specs.Info.{plain_figures, totals_from, figure_count, counted_byte, total_of, figures_of, info_buffer}
use Rattle.query_info.proofs.info.Reads as info-reads
use Rattle.query_info.proofs.version.Reads as version-reads

abbrev pub Info : (κs : Lfts 2) → (t : Bor (List ℕ)) (figures after : MutBor (List ℕ)) → Result (Unit {0}) Refusal → Type 0
Info κs t figures after r = info-reads.Post κs (t, (figures, tt)) r (t, (after, tt))

abbrev pub Version : ℕ → Type 0
Version r = version-reads.Post tt tt r tt

pub version-is : (r : ℕ) → Version r → r ≡ 20101
version-is r a = a

-- Each counted byte of a tree, by its index.
each-counted : (P : ℕ → Type 0) → P 0 → P 1 → P 2 → P 3 → (c : ℕ) → c < max_counted → P c
each-counted P a b d e zero h = a
each-counted P a b d e (suc zero) h = b
each-counted P a b d e (suc (suc zero)) h = d
each-counted P a b d e (suc (suc (suc zero))) h = e
each-counted P a b d e (suc (suc (suc (suc c)))) h = absurd (let z : ⊥ = omega arith in z)

-- Where a counted byte and its total are among the figures.
byte-figure : (t : List ℕ) (c : ℕ) → c < max_counted → get_or (figures_of t) (plain_figures + c) 0 ≡ counted_byte t c
unfolding figures_of tabulate
byte-figure t = each-counted (λ c. get_or (figures_of t) (plain_figures + c) 0 ≡ counted_byte t c) refl refl refl refl

total-figure : (t : List ℕ) (c : ℕ) → c < max_counted → get_or (figures_of t) (totals_from + c) 0 ≡ total_of t c
unfolding figures_of tabulate
total-figure t = each-counted (λ c. get_or (figures_of t) (totals_from + c) 0 ≡ total_of t c) refl refl refl refl

-- The counted bytes of the settings.
counted-at : (t : List ℕ) (c : ℕ) → c < at.counted_count t → c < max_counted → byte_of t c ≡ counted_byte t c
unfolding at.settings byte_of counted_byte
counted-at t c h low = rw (get_or-take, get_or-take, get_or-drop)

-- A total is how often its byte occurs in the text.
total_right : (t : List ℕ) → check_result t ≡ 0 → (c : ℕ) → c < at.counted_count t → c < max_counted → total_of t c ≡ count_in (counted_byte t c) (text_of t)
unfolding total_of
total_right t v c h low =
    let e = finds.total_is t (header-facts t (accepted-header t v)) (linked-facts t (accepted-links t v)) (counts.levels t v) c h in
    rw (lt-ltb c (at.counted_count t) h, ← counted-at t c h low) e

module _ (κs : Lfts 2) (t : Bor (List ℕ)) (figures after : MutBor (List ℕ)) (r : Result (Unit {0}) Refusal) (a : Info κs t figures after r) where
  -- Questions 5 to 7 pass: the figures are the definition's.
  pub info-answered : header_result t.now ≡ 0 → (r ≡ Ok tt) × (after.now ≡ figures_of t.now)
  unfolding info_buffer
  info-answered pass = (answered-with r tt (a.0 ∙ pass) (λ y is. refl), a.1 ∙ rw pass)

  -- Refused by one of them: its number, and every figure is 0.
  pub info-refused : (q : ℕ) → header_result t.now ≡ suc q → (result_refusal r ≡ suc q) × (after.now ≡ replicate figure_count 0)
  unfolding info_buffer
  info-refused q e = (a.0 ∙ e, a.1 ∙ rw (e, ne_eqb (suc q) 0 (λ z. omega arith)))

  -- For an accepted tree n is the length of the text, and the total of each counted byte is how often it occurs in the text.
  module _ (v : check_result t.now ≡ 0) where
    written : after.now ≡ figures_of t.now
    written = (info-answered (accepted-header t.now v)).1

    pub info-length : get_or after.now 1 0 ≡ length (text_of t.now)
    unfolding figures_of
    info-length = rw written (sym (text-length t.now))

    pub info-totals : (c : ℕ)
        → c < get_or after.now 6 0 → get_or after.now (totals_from + c) 0 ≡ count_in (get_or after.now (plain_figures + c) 0) (text_of t.now)
    unfolding figures_of
    info-totals c h =
        let few = (header-facts t.now (accepted-header t.now v)).bounds.counted_high in
        let k : c < at.counted_count t.now = rw written at h in
        let low : c < max_counted = omega arith in
        rw written (total-figure t.now c low ∙ total_right t.now v c k low ∙ ap (λ (b : ℕ). count_in b (text_of t.now)) (sym (byte-figure t.now c low)))
