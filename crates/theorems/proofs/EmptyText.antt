-- Request 110, the empty text: its tree is the header, which the check accepts, and what the calls return for it. All follows from the theorems on any
-- text.
use Rattle.std.specs.Prelude.{Ok, Err}
use Rattle.refusals.specs.declared.Refusal.TheVariants.{PastTheEnd, NoSuchOccurrence}
use mathlib.Core.List.{List, []}
use mathlib.Core.Bool.{true}
use mathlib.Core.Path.{◌≡◌, sym, ap, ◌∙◌}
use mathlib.Core.Logic.{◌⊎◌, inl, inr}
use Prim.Native.Nat.{ℕ, zero, suc, ◌+◌, ◌-◌, ◌≤◌, ◌<◌, ◌*◌}
use native.Mathlib.Omega.{arith}
use native.Mathlib.Nat.{zero-mul}
use native.Mathlib.Numerals.{add-one}
use contract.Lifetimes.{Lfts}
use lib.ListN.{length}
use Rattle.text.specs.Text.{count_in, substring, rows_of, tabulate, sum_below}
use Rattle.text.specs.ListLaws.{lt-or-ge, sum_below-none}
use Rattle.text.specs.declared.TextPlace.{TextPlace}
use Rattle.format.specs.Layout.{Settings, max_levels, header_length}
use Rattle.format.specs.Layout as at
use Rattle.format.specs.TreeReading.{text_of}
use Rattle.format.specs.FittingText.{fits}
use Rattle.format.specs.CheckResultLaws.{accepted-header, accepted-links}
use Rattle.format.specs.LayoutLaws.{Readable, header-facts}
use Rattle.format.specs.PieceLaws.{pieces_none}
use Rattle.theory_paths.specs.Links.{Linked, linked-facts}
use Rattle.theory_accepted.specs.AcceptedTrees.{one-text}
use Rattle.theorems.specs.CallContracts.{ByteAnswer, SpanAnswer, CountAnswer, FindAnswer, RowAnswer}
use Rattle.theorems.specs.Promises.{CountedIn, Answers, Refuses}
use Rattle.theorems.proofs.ByteCall.{Byte}
use Rattle.theorems.proofs.CheckCall.{Check, check-answers, check-one-text, check-refuses}
use Rattle.theorems.proofs.CountCall.{Count}
use Rattle.theorems.proofs.FindCall.{Find}
use Rattle.theorems.proofs.PublicCall.{Borrowed, BorrowedMut}
use Rattle.theorems.proofs.RowCall.{Row}
use Rattle.theorems.proofs.RunCall.{Run}
use Rattle.theorems.proofs.SpanCall.{Span}

-- The answers of a tree of the empty text, whichever road led to it.
module _ (t : Borrowed) (S : Settings) (answers : Answers t S []) (refuses : Refuses t S []) where
  -- Byte is refused with 10, and a run is empty.
  pub empty-byte : (κ : Lfts 1) (p : TextPlace) (r : ByteAnswer) → Byte κ t p r → r ≡ Err PastTheEnd
  empty-byte κ p r b = refuses.byte.byte_past κ p r b (omega arith)

  pub empty-run : (κ : Lfts 1) (p : TextPlace) (r : Borrowed) → Run κ t p r → r.now ≡ []
  empty-run κ p r b = refuses.run.run_past κ p r b (omega arith)

  -- A span of 0 bytes at place 0 is empty; any other span is refused with 10.
  pub empty-span : (κ : Lfts 2) (p : TextPlace) (buffer after : BorrowedMut) (r : SpanAnswer) → Span κ t p 0 buffer after r → p.0 ≡ 0
      → (r ≡ Ok (0, 0)) × (after.now ≡ buffer.now)
  unfolding substring
  empty-span κ p buffer after r s z =
      let w = answers.span.span_of κ p 0 buffer after r s (omega arith) (omega arith) in
      (w.2 ∙ ap (λ (e : ℕ). Ok (0, e)) (w.1.other (λ short. omega (arith, short.low))), w.3)

  pub empty-span-past : (κ : Lfts 2) (p : TextPlace) (len : ℕ) (buffer after : BorrowedMut) (r : SpanAnswer) → Span κ t p len buffer after r → 1 ≤ p.0 + len
      → (r ≡ Err PastTheEnd) × (after.now ≡ buffer.now)
  empty-span-past κ p len buffer after r s some = refuses.span.span_past κ p len buffer after r s (omega arith)

  -- A count in 0 bytes is 0, with no blocks entered; a count in more bytes is refused with 10.
  pub empty-count : (κ : Lfts 1) (byte : ℕ) (r : CountAnswer) → Count κ t byte 0 r → CountedIn byte S.counted → r ≡ Ok (0, 0)
  empty-count = answers.count.count_none

  pub empty-count-past : (κ : Lfts 1) (byte i : ℕ) (r : CountAnswer) → Count κ t byte i r → 1 ≤ i → r ≡ Err PastTheEnd
  empty-count-past κ byte i r c some = refuses.count.count_past κ byte i r c (omega arith)

  -- No byte occurs, so find is refused with 12.
  pub empty-find : (κ : Lfts 1) (byte j : ℕ) (r : FindAnswer) → Find κ t byte j r → CountedIn byte S.counted → r ≡ Err NoSuchOccurrence
  unfolding count_in
  empty-find κ byte j r f k = refuses.find.find_none κ byte j r f k (λ low high. omega arith)

  -- There is no row.
  pub empty-row : (κ : Lfts 2) (q : ℕ) (buffer after : BorrowedMut) (r : RowAnswer) → Row κ t q buffer after r → CountedIn 10 S.counted
      → (r ≡ Err NoSuchOccurrence) × (after.now ≡ buffer.now)
  unfolding rows_of
  empty-row κ q buffer after r w k = refuses.row.row_none κ q buffer after r w k (λ low high. omega arith)

-- A tree with n 0 that the check accepts, whoever made it and whatever its settings.
module _ (κs : Lfts 1) (t : Borrowed) (c : Check κs t (Ok tt)) (none : at.text_length t.now ≡ 0) where
  k : Readable t.now
  k = header-facts t.now (accepted-header t.now (sym c))

  d : Linked t.now
  d = linked-facts t.now (accepted-links t.now (sym c))

  -- Level 0 has no block, and a level below a level of no blocks has none.
  no_blocks : (l : ℕ) → l < (at.settings t.now).levels → at.level_count t.now l ≡ 0
  unfolding sum_below
  no_blocks zero h = k.level0 ∙ rw none (pieces_none (at.full_length t.now 0))
  no_blocks (suc l) h =
      let e = d.next_count l (omega arith) in
      sym (rw (no_blocks l (omega arith), add-one l) at e)

  no-sum : (l : ℕ) → l ≤ (at.settings t.now).levels → sum_below l (at.level_count t.now) ≡ 0
  no-sum l h = sum_below-none l (at.level_count t.now) (λ i il. no_blocks i (omega arith))

  -- Every count is 0: of the used levels, of the unused ones, and of the leaf bytes.
  pub empty-counts : ((l : ℕ) → l < max_levels → at.level_count t.now l ≡ 0) × (at.leaf_count t.now ≡ 0)
  unfolding sum_below
  empty-counts = ((λ l h. level l h (lt-or-ge l (at.settings t.now).levels)), leaves)
    where
      level : (l : ℕ) → l < max_levels → (l < (at.settings t.now).levels) ⊎ ((at.settings t.now).levels ≤ l) → at.level_count t.now l ≡ 0
      level l h (inl used) = no_blocks l used
      level l h (inr unused) = k.count_unused l unused h

      leaves : at.leaf_count t.now ≡ 0
      leaves =
          let H = (at.settings t.now).levels in
          sym (rw (no_blocks (H - 1) (omega (arith, k.bounds.levels_low))) at (d.leaf-count (omega (arith, k.bounds.levels_low))))

  -- The offsets of the used levels and of the leaf bytes are 100, those of the unused levels 0.
  pub empty-offsets : ((l : ℕ) → l < (at.settings t.now).levels → at.level_offset t.now l ≡ header_length)
      × ((l : ℕ) → (at.settings t.now).levels ≤ l → l < max_levels → at.level_offset t.now l ≡ 0) × (at.leaf_offset t.now ≡ header_length)
  empty-offsets = (
    (λ l h. k.level_at l h ∙ rw (no-sum l (omega arith)) (after_none (at.record_size t.now))),
    k.offset_unused,
    k.leaf-at ∙ rw (no-sum (at.settings t.now).levels (omega arith)) (after_none (at.record_size t.now)),
  )
    where
      after_none : (size : ℕ) → header_length + 0 * size ≡ header_length
      after_none size = rw (zero-mul size) (omega arith)

  -- The tree has no bytes after the header.
  pub empty-header : length t.now ≡ header_length
  empty-header = omega (arith, k.size, empty-offsets.2, empty-counts.1)

  -- The empty text fits the tree, and no other.
  text-none : text_of t.now ≡ []
  unfolding text_of tabulate
  text-none = rw none

  pub empty_text : (fits [] t.now ≡ true) × ((U : List ℕ) → fits U t.now ≡ true → U ≡ [])
  empty_text =
      let one = check-one-text κs t c in
      let e : one.0 ≡ [] = one-text t.now one.1.header-result one.1.linked one.0 one.1.fitting ∙ text-none in
      (rw e at one.1.fitting, λ U f. one.2 U f ∙ e)

  -- What the calls return is that of the empty text.
  pub empty-answers : Answers t (at.settings t.now) [] × Refuses t (at.settings t.now) []
  empty-answers = (check-answers κs t c [] empty_text.0, check-refuses κs t c [] empty_text.0)
