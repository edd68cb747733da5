-- The search for the next selected row, step by step.
use mathlib.Core.List.{List, [], ◌++◌}
use mathlib.Core.Bool.{Bool, true, false, cond}
use mathlib.Core.Path.{◌≡◌, refl, sym, ap, ◌∙◌}
use mathlib.Core.Logic.{inl, inr}
use Prim.Native.Nat.{ℕ, ◌+◌, ◌-◌, ◌≤◌, ◌<◌}
use native.Mathlib.Omega.{arith}
use lib.ListN.{length, take, drop, length-take, take-append-drop, drop_of_length-le}
use lib.Seq.{drop-drop}
use lib.Dec.{ltb}
use Rattle.text.specs.Text.{substring, place_of, rows_of}
use Rattle.text.specs.declared.TextPlace.{TextPlace}
use Rattle.text.proofs.RowTheorems.{rows-past}
use Rattle.format.specs.Layout as at
use Rattle.format.specs.LayoutLaws.{Readable}
use Rattle.format.specs.CheckResultLaws.{accepted-links}
use Rattle.format.specs.TreeReading.{text_of, check_result}
use Rattle.format.specs.Answers.{is_counted, number_of_byte, total}
use Rattle.format.specs.FindAnswerLaws.{Selected}
use Rattle.layout.specs.declared.header.Header.{Header}
use Rattle.layout.specs.HeaderFields.{HeaderOf}
use Rattle.theory_paths.specs.OneText.{text-length}
use Rattle.theory_paths.specs.PlaceBytes.{never-14}
use Rattle.theory_counts.specs.Theorems as counts
use Rattle.row_filter.specs.RowAutomaton.{Automaton, Scan, found, on, at_row, nothing, resume_scan, RowBetween, scan_bytes, at_end_of_text, finish_scan}
use Rattle.row_filter.specs.RowAutomatonLaws.{scan-append}
use Rattle.query_access.specs.declared.read_by_header.TreeRange.{TreeRange}
use Rattle.std.specs.Prelude.{Some, None, Result, Ok, Err}
use Rattle.refusals.specs.declared.Refusal.{Refusal}
use Rattle.refusals.specs.declared.Refusal.TheVariants.{PathBroken}
use Rattle.query_access.specs.ReadByRuns.{ReadsOn, IsRangeAnswer}
use Rattle.query_access.proofs.RunLaws.{reads-substring}
use Rattle.query_row_filter.specs.declared.NextRow.{NextRow}
use Rattle.query_row_filter.specs.declared.NextRow.TheVariants.{Row, Nothing}
use Rattle.query_row_filter.specs.RowsAfter.{FilterStartIs, PartFrom, FromRow, answer_of, end_result, SearchFrom, limited}

-- The rest of a text, cut after x bytes.
rest-parts : (T : List ℕ) (p x : ℕ) → drop p T ≡ substring T p x ++ drop (p + x) T
unfolding substring
rest-parts T p x = sym (take-append-drop x (drop p T)) ∙ ap (λ (r : List ℕ). take x (drop p T) ++ r) (drop-drop x p T)

-- A row number above total + 1 becomes 14.
module _ (newlines : ℕ) (x : Result NextRow Refusal) where
  pub limit-row : (y : NextRow) (q : ℕ) (b : Bool) → x ≡ Ok y → y ≡ Row q → ltb (newlines + 1) q ≡ b
      → cond b (Err PathBroken) (Ok (Row q)) ≡ limited newlines x
  unfolding limited
  limit-row y q b e f g = rw (e, f, g)

  pub limit-none : (y : NextRow) (m : ℕ) (b : Bool) → x ≡ Ok y → y ≡ Nothing m → ltb (newlines + 1) m ≡ b
      → cond b (Err PathBroken) (Ok (Nothing m)) ≡ limited newlines x
  unfolding limited
  limit-none y m b e f g = rw (e, f, g)

  pub limit-refused : (n : Refusal) → x ≡ Err n → Err n ≡ limited newlines x
  unfolding limited
  limit-refused n e = rw e

-- Where the rows after a mark begin.
start-at : (t : List ℕ) (ok mark p : ℕ)
    → p ≤ at.text_length t → (ok ≡ 0 → rows_of (drop p (text_of t)) ≡ drop mark (rows_of (text_of t))) → FilterStartIs t ok mark (Some (record { 0 = p }))
start-at t ok mark p low is = record {
  place-in = λ s e. (let z : record { 0 = p } ≡ s = cc in let y : p ≡ s.0 = ap (λ (w : TextPlace). w.0) z in rw (← y) low);
  place_is = λ s e v. (let z : record { 0 = p } ≡ s = cc in let y : p ≡ s.0 = ap (λ (w : TextPlace). w.0) z in rw (← y) (is v));
  broken = λ e v. absurd (let z : ◌≡◌ {A = ℕ} 0 1 = cc in omega arith);
}

pub start_first : (t : List ℕ) (ok mark : ℕ) → mark ≡ 0 → FilterStartIs t ok mark (Some (record { 0 = 0 }))
start_first t ok mark e = rw e (start-at t ok 0 0 (omega arith) (λ v. refl))

pub start-broken : (t : List ℕ) (ok mark : ℕ) → (ok ≡ 0 → ⊥) → FilterStartIs t ok mark None
start-broken t ok mark never = record {
  place-in = λ s e. absurd (let z : ◌≡◌ {A = ℕ} 0 1 = cc in omega arith);
  place_is = λ s e v. absurd (never v);
  broken = λ e v. never v;
}

-- After a byte 10.
pub start-past : (t : List ℕ) (ok mark p : ℕ) → (ok ≡ 0 → check_result t ≡ 0)
    → Selected t 10 mark → p < at.text_length t → (ok ≡ 0 → p ≡ place_of 10 mark (text_of t)) → FilterStartIs t ok mark (Some (record { 0 = p + 1 }))
start-past t ok mark p sound s low is =
    start-at t ok mark (p + 1) (omega arith) (λ v. rows-past (text_of t) mark p (rw (is v) (counts.is-nth t (sound v) 10 mark s)))

-- Questions 11 and 12 pass for the byte 10 that ends the mark's row.
pub start-asked : (t : List ℕ) (h : Header) (mark : ℕ)
    → HeaderOf t h → is_counted t 10 ≡ true → (mark ≡ 0 → ⊥) → mark ≤ total t (number_of_byte t 10) → Selected t 10 mark
start-asked t h mark k c some high = record { pass = k.passes; counted = c; low = omega (arith, some); high = high }

-- The bytes that are scanned next.
module _ (t : List ℕ) (p : ℕ) (x : Result TreeRange Refusal) where
  pub part-from : (h : Header) → HeaderOf t h → p < h.text_length → (most : ℕ) → IsRangeAnswer t p most x → PartFrom t p x
  part-from h k low most e = by x refl e
    where
      by : (y : Result TreeRange Refusal) → x ≡ y → IsRangeAnswer t p most y → PartFrom t p y
      by (Ok part) z a = (a.0, a.1)
      by (Err q) z a = (a.0, λ v. never-14 t k.passes p (omega (arith, k.length_is)) (accepted-links t v) a.1)

  pub part-reads : (part : TreeRange) → x ≡ Ok part → PartFrom t p x → (ReadsOn t p part.from part.length) × (1 ≤ part.length)
  part-reads part e a = rw e at a

  pub part_none : (q : Refusal) → x ≡ Err q → PartFrom t p x → (q ≡ PathBroken) × (check_result t ≡ 0 → ⊥)
  part_none q e a = rw e at a

-- The text is scanned part by part. Row q begins at place p₀; the scan has reached place p, in state f of row `row`.
module _ {S : Type 0} (t : List ℕ) (m : Automaton S) (p₀ q : ℕ) where
  abbrev T : List ℕ
  T = text_of t

  abbrev whole : Scan S
  whole = scan_bytes m (drop p₀ T) m.start q

  pub record Searching (p row : ℕ) (f : S) : Type 0 where
    pub low : p₀ ≤ p
    pub high : p ≤ at.text_length t
    pub above : q ≤ row
    pub few : row + p₀ ≤ q + p
    pub far : scan_bytes m (drop p T) f row ≡ whole

  pub search-begins : p₀ ≤ at.text_length t → Searching p₀ q m.start
  search-begins h = record { low = omega arith; high = h; above = omega arith; few = omega arith; far = refl }

  pub search-broken : (e : Refusal) → (e ≡ PathBroken) × (check_result t ≡ 0 → ⊥) → SearchFrom t m p₀ q (Err e)
  search-broken e b = record { settled = inr (ap Err b.0, b.1); rows = b.0 }

  module _ (p row : ℕ) (f : S) (k : Searching p row f) where
    -- One more part: the slice of the tree's bytes that the code takes.
    module _ (a x : ℕ) (run : ReadsOn t p a x) where
      abbrev part : List ℕ
      part = take (a + x - a) (drop a t)

      part-short : length part ≤ x
      part-short = rw (length-take (a + x - a) (drop a t)) (omega arith)

      part_is : part ≡ substring T p x
      unfolding substring
      part_is = (let e : a + x - a ≡ x = omega arith in rw e) ∙ reads-substring t p a x run

      pub part-few : Readable t → q ≤ at.text_length t → row + length part < 4294967296
      part-few facts h = omega (arith, part-short, k.few, run.in_text, facts.bounds.text_high)

      module _ (r : Scan S) (r-is : (r ≡ scan_bytes m part f row) × RowBetween row (length part) r) where
        scanned : resume_scan (scan_bytes m (drop (p + x) T)) r ≡ whole
        scanned =
            let e : r ≡ scan_bytes m (substring T p x) f row = r-is.0 ∙ ap (λ (s : List ℕ). scan_bytes m s f row) part_is in
            rw e (sym (ap (λ (s : List ℕ). scan_bytes m s f row) (rest-parts T p x) ∙ scan-append m (substring T p x) (drop (p + x) T) f row)) ∙ k.far

        pub search-on : (g : S) (n : ℕ) → r ≡ on g n → Searching (p + x) n g
        search-on g n e =
            let b : (row ≤ n) × (n ≤ row + length part) = rw e at r-is.1 in
            record {
              low = omega (arith, k.low);
              high = run.in_text;
              above = omega (arith, b.0, k.above);
              few = omega (arith, b.1, part-short, k.few);
              far = rw e at scanned;
            }

        pub search-found : (n : ℕ) → r ≡ found n → SearchFrom t m p₀ q (Ok (Row n))
        unfolding finish_scan
        search-found n e =
            let b : (row ≤ n) × (n ≤ row + length part) = rw e at r-is.1 in
            let w : found n ≡ whole = rw e at scanned in
            record { settled = inl (rw (← w)); rows = omega (arith, b.0, k.above) }

    -- The text's end.
    end_low : 1 ≤ row → FromRow q (Ok (answer_of (at_end_of_text m f row)))
    unfolding at_end_of_text
    end_low some = by (m.at_end f) (m.no_byte f)
      where
        by : (a b : Bool) → FromRow q (Ok (answer_of (cond a (at_row row) (cond b (nothing (row - 1)) (nothing row)))))
        by true b = k.above
        by false true = omega (arith, k.above)
        by false false = omega (arith, k.above)

    pub search-ends : at.text_length t ≤ p → 1 ≤ q → (a b : Bool) → a ≡ m.at_end f → b ≡ m.no_byte f
        → (s : NextRow) → s ≡ answer_of (end_result a b row) → SearchFrom t m p₀ q (Ok s)
    unfolding finish_scan scan_bytes at_end_of_text
    search-ends past some a b a_is b_is s s-is =
        let all : length T ≤ p = omega (arith, text-length t) in
        let e : drop p T ≡ [] = drop_of_length-le T all in
        let w : on f row ≡ whole = rw e at k.far in
        rw (s-is, a_is, b_is) (record { settled = inl (rw (← w)); rows = end_low (omega (arith, k.above)) })

-- The text's end, test by test.
module _ (selected empty : Bool) (q : ℕ) where
  pub end-selected : selected ≡ true → Row q ≡ answer_of (end_result selected empty q)
  end-selected e = rw e

  pub end_none : selected ≡ false → empty ≡ true → Nothing (q - 1) ≡ answer_of (end_result selected empty q)
  end_none e g = rw (e, g)

  pub end-some : selected ≡ false → empty ≡ false → Nothing q ≡ answer_of (end_result selected empty q)
  end-some e g = rw (e, g)
