-- A row's edges: from a find and the newline read on to, or from the last byte and a find.
use mathlib.Core.List.{List}
use mathlib.Core.Bool.{Bool, true, false, cond, ◌&&◌}
use mathlib.Core.Path.{◌≡◌, refl, sym, ap, ◌∙◌}
use mathlib.Core.Logic.{◌⊎◌, inl, inr}
use Prim.Native.Nat.{ℕ, ◌+◌, ◌-◌, ◌≤◌, ◌<◌}
use native.Mathlib.Omega.{arith}
use borrow.Author.Tests.{eqb-true, eq-eqb, ne_eqb, lt-ltb, le-ltb, lt-leb}
use lib.ListN.{length, get_or}
use lib.Dec.{eqb, ltb, leb}
use Rattle.text.specs.ListLaws.{bool_clash, and-false, lt-or-ge}
use Rattle.text.specs.Text.{substring, count_in, place_of, row_of}
use Rattle.text.specs.CountLaws.{Nth}
use Rattle.text.proofs.CountTheorems.{count_none, count-next-same, nth-earlier, nth-later, nth_past, place-nth, nth-place}
use Rattle.text.specs.RowLaws.{trimmed, row_from, between}
use Rattle.text.proofs.RowTheorems.{trimmed-none, trimmed-mark, trimmed-plain, row-between, row_last}
use Rattle.text.specs.declared.TextPlace.{TextPlace}
use Rattle.format.specs.Layout as at
use Rattle.format.specs.TreeReading.{text_of, check_result}
use Rattle.format.specs.Answers.{Answer, refused, NeverZero, replied, byte_answer, number_of_byte, total, find_refusal, FindBy}
use Rattle.format.specs.FindAnswerLaws.{Selected, select-passes, select-lets}
use Rattle.format.specs.Answers.{last_row_refusal, is_unterminated_row, row_refusal, row_most}
use Rattle.format.specs.RowRefusalLaws.{AsksLast, asks-last, row-number-last, row-number-plain}
use Rattle.theory_paths.specs.PlaceBytes.{only-14}
use Rattle.theory_paths.specs.OneText.{text-length}
use Rattle.layout.specs.declared.header.Header.{Header}
use Rattle.layout.specs.HeaderFields.{HeaderOf}
use Rattle.std.specs.Prelude.{Option, Some, None, Result, Ok, Err}
use Rattle.refusals.specs.declared.Refusal.{Refusal}
use Rattle.refusals.specs.declared.Refusal.TheVariants.{ByteNotCounted, NoSuchOccurrence, PathBroken}
use Rattle.refusals.specs.Refusals.{refusal_number}
use Rattle.refusals.specs.RefusalsLaws.{number-above}
use Rattle.query_access.specs.ReadAnswers.{byte_reply}
use Rattle.query_access.specs.declared.read_by_header.LeafRun.{LeafRun}
use Rattle.query_access.proofs.LeafRunLaws.{access-none-read}
use Rattle.query_counted.proofs.TotalLaws.{not-counted, is-counted}
use Rattle.theory_counts.specs.Theorems as counts
use Rattle.query_select.specs.Found.{find_reply, IsFindAnswer, FoundBy}
use Rattle.query_select.proofs.FoundLaws.{refused-not, refused-free, place_is, place-in-text}
use Rattle.query_guide.proofs.GuideList.{guide-checked}
use Rattle.query_guided.specs.Guided.{IsFindGuidedAnswer, find_guided_reply, steps_of}
use Rattle.query_guided.specs.GuidedWalk.{SoughtBy, found_of}
use Rattle.query_guided.proofs.GuidedFindLaws.{found-by, guided-sought}
use Rattle.query_select.specs.SoughtPlaces.{Sought}
use Rattle.query_select.proofs.FindByHeaderLaws as find
use Rattle.theory_counts.specs.CountsLocal.{byte_of}
use Rattle.query_rows.specs.RowSpans.{settled_by, Refuses, Spans, EdgesOf}
use Rattle.query_rows.specs.RowEnds.{EndsRow, NewlineIs, StartIs}

-- The number that settles a row is 0 for accepted trees alone.
pub settled-sound : (t guide : List ℕ) (used : Bool) → settled_by t guide used ≡ 0 → check_result t ≡ 0
unfolding settled_by
settled-sound t guide true e = guide-checked t guide e
settled-sound t guide false e = e

-- A find, by the guide and without it.
pub ten-guided : (t guide : List ℕ) (used : Bool) (j : ℕ) (g : Result (TextPlace × ℕ × ℕ) Refusal) (r : Result (TextPlace × ℕ) Refusal)
    → used ≡ true → IsFindGuidedAnswer t guide 10 j g → r ≡ found_of g → FoundBy t (settled_by t guide used) 10 j r
unfolding settled_by
ten-guided t guide used j g r e a is = rw (e, is) (found-by t guide 10 j g a)

pub ten-plain : (t guide : List ℕ) (used : Bool) (j : ℕ) (r : Result (TextPlace × ℕ) Refusal) → used ≡ false → IsFindAnswer t 10 j r
    → FoundBy t (settled_by t guide used) 10 j r
unfolding settled_by
ten-plain t guide used j r e a = rw e a

-- Both, after the questions before the walk.
module _ (t guide : List ℕ) (h : Header) (k : HeaderOf t h) (number j : ℕ) (is : number ≡ number_of_byte t 10)
    (counted : number < h.settings.counted) (low : 1 ≤ j) (high : j ≤ total t number) where
  pub ten-ready : (HeaderOf t h) × (number < at.counted_count t) × (10 ≡ byte_of t number) × (1 ≤ j) × (j ≤ total t number)
  ten-ready = find.seek-ready t h k 10 j number is counted (total t number) refl low high

  pub ten-by-guide : (used : Bool) (g : Result (TextPlace × ℕ × ℕ) Refusal) (r : Result (TextPlace × ℕ) Refusal) → used ≡ true
      → SoughtBy t guide 10 number j (replied (find_guided_reply g)) (steps_of g) → NeverZero (find_guided_reply g)
      → r ≡ found_of g → FoundBy t (settled_by t guide used) 10 j r
  ten-by-guide used g r e z nb r-is =
      ten-guided t guide used j g r e
      (guided-sought t guide 10 j number g is (find.asked-none t h k 10 j number is counted (total t number) refl low high) z nb) r-is

  pub ten-by-steps : (used : Bool) (r : Result (TextPlace × ℕ) Refusal) → used ≡ false → Sought t 10 j (replied (find_reply r)) → NeverZero (find_reply r)
      → FoundBy t (settled_by t guide used) 10 j r
  ten-by-steps used r e z nb = ten-plain t guide used j r e (record {
    answers = find.find-sought t h k 10 j number is counted (total t number) refl (replied (find_reply r)) low high z;
    numbered = nb;
  })

-- The edges.

module _ (t : List ℕ) (ok number : ℕ) (row : List ℕ) (most : ℕ) where
  not-spans : (n : Refusal) → Refuses t ok number row (refusal_number n) → EdgesOf t ok number row most (Err n)
  not-spans n r = record {
    refused = λ m e. (let z : n ≡ m = cc in rw (← z) r);
    spans = λ s len run e. absurd (let z : ◌≡◌ {A = ℕ} 0 1 = cc in omega arith);
  }

  spans-at : (s len : ℕ) (run : LeafRun) → Spans t ok number row most s len run → EdgesOf t ok number row most (Ok (record { 0 = s }, len, run))
  spans-at s len run r = record {
    refused = λ m e. absurd (let z : ◌≡◌ {A = ℕ} 0 1 = cc in omega arith);
    spans = λ p n u e. (let z : ◌≡◌ {A = TextPlace × ℕ × LeafRun} (record { 0 = s }, len, run) (p, n, u) = cc in
        let x : s ≡ p.0 = ap (λ (w : TextPlace × ℕ × LeafRun). w.0.0) z in
        let y : len ≡ n = ap (λ (w : TextPlace × ℕ × LeafRun). w.1) z in
        let v : run ≡ u = ap (λ (w : TextPlace × ℕ × LeafRun). w.2) z in
        rw (← x, ← y, ← v) r);
  }

  -- Refused by a question before the walk.
  before-walk : (n : Refusal) → refusal_number n ≡ number → EdgesOf t ok number row most (Err n)
  before-walk n is = not-spans n (record {
    low = number-above n;
    asked = λ l. is;
    accepted = λ z v. omega (arith, number-above n);
    free = λ z. absurd (let y : ⊥ = omega (arith, number-above n) in y);
  })

  -- Refused in the walk.
  in-walk : number ≡ 0 → (n : Refusal) → (ok ≡ 0 → ⊥) → n ≡ PathBroken → EdgesOf t ok number row most (Err n)
  in-walk passed n never is = not-spans n (record {
    low = number-above n;
    asked = λ l. absurd (let z : ⊥ = omega arith in z);
    accepted = λ z. never;
    free = λ z. ap refusal_number is;
  })

-- Where row q starts, if a newline ends it.
module _ (t : List ℕ) (ok : ℕ) (q : ℕ) where
  abbrev number : ℕ
  number = find_refusal t 10 q

  abbrev row : List ℕ
  row = trimmed (between (text_of t) q)

  no_start : (n : Refusal) → Refuses t ok number row (refusal_number n) → StartIs t ok q (Err n)
  no_start n r = record {
    refused = λ m e. (let z : n ≡ m = cc in rw (← z) r);
    asked = λ p e. absurd (let z : ◌≡◌ {A = ℕ} 0 1 = cc in omega arith);
    within = λ p e. absurd (let z : ◌≡◌ {A = ℕ} 0 1 = cc in omega arith);
    accepted = λ p e. absurd (let z : ◌≡◌ {A = ℕ} 0 1 = cc in omega arith);
  }

  starts-at : (s : ℕ) → number ≡ 0 → s ≤ at.text_length t → (ok ≡ 0 → s ≡ row_from (text_of t) q) → StartIs t ok q (Ok (record { 0 = s }))
  starts-at s asked within settled = record {
    refused = λ m e. absurd (let z : ◌≡◌ {A = ℕ} 0 1 = cc in omega arith);
    asked = λ p e. asked;
    within = λ p e. rw (same p e) within;
    accepted = λ p e v. rw (same p e) (settled v);
  }
    where
      same : (p : TextPlace) → ◌≡◌ {A = Result TextPlace Refusal} (Ok (record { 0 = s })) (Ok p) → p.0 ≡ s
      same p e = let z : record { 0 = s } ≡ p = cc in sym (ap (λ (w : TextPlace). w.0) z)

  -- A question before the walk refuses.
  start-asked : (n : Refusal) → number ≡ refusal_number n → StartIs t ok q (Err n)
  start-asked n is = no_start n (record {
    low = number-above n;
    asked = λ l. sym is;
    accepted = λ z. absurd (let y : ⊥ = omega (arith, number-above n) in y);
    free = λ z. absurd (let y : ⊥ = omega (arith, number-above n) in y);
  })

  module _ (h : Header) (k : HeaderOf t h) (c : ℕ) (is : c ≡ number_of_byte t 10) where
    pub start-uncounted : h.settings.counted ≤ c → StartIs t ok q (Err ByteNotCounted)
    unfolding find_refusal
    start-uncounted past = start-asked ByteNotCounted (rw (k.passes, not-counted t h k 10 c is past))

    module _ (low : c < h.settings.counted) where
      pub start-zero : q ≡ 0 → StartIs t ok q (Err NoSuchOccurrence)
      unfolding find_refusal
      start-zero z = start-asked NoSuchOccurrence (rw (k.passes, is-counted t h k 10 c is low, lt-leb 1 q (omega arith)))

      module _ (all : ℕ) (all-is : all ≡ total t c) where
        pub start-past : all < q → StartIs t ok q (Err NoSuchOccurrence)
        unfolding find_refusal
        start-past past =
            let e : total t (number_of_byte t 10) ≡ all = rw (all-is, is) in
            start-asked NoSuchOccurrence (rw (k.passes, is-counted t h k 10 c is low, e, lt-leb q all past, and-false (leb 1 q)))

        module _ (some : q ≡ 0 → ⊥) (high : q ≤ all) where
          selected : Selected t 10 q
          selected = record {
            pass = k.passes;
            counted = is-counted t h k 10 c is low;
            low = omega (arith, some);
            high = rw (← is) (omega (arith, all-is, high));
          }

          let_through : number ≡ 0
          let_through = select-lets t 10 q selected

          pub start_first : q ≡ 1 → StartIs t ok q (Ok (record { 0 = 0 }))
          unfolding row_from
          start_first one = starts-at 0 let_through (omega arith) (λ v. rw one)

          module _ (more : q ≡ 1 → ⊥) (sound : ok ≡ 0 → check_result t ≡ 0)
              (found : Result (TextPlace × ℕ) Refusal) (says : FindBy t ok 10 (q - 1) (replied (find_reply found)))
            where
              before-asked : Selected t 10 (q - 1)
              before-asked = record {
                pass = k.passes;
                counted = selected.counted;
                low = omega (arith, some, more);
                high = omega (arith, selected.high);
              }

              pub start-refused : (n : Refusal) → found ≡ Err n → StartIs t ok q (Err n)
              start-refused n e =
                  let z = select-lets t 10 (q - 1) before-asked in
                  no_start n (record {
                    low = number-above n;
                    asked = λ l. absurd (let y : ⊥ = omega (arith, let_through) in y);
                    accepted = λ y v. refused-not t ok 10 (q - 1) sound found says n e z v;
                    free = λ y. ap refusal_number (refused-free t ok 10 (q - 1) sound found says n e z);
                  })

              module _ (before : TextPlace) (figure : ℕ) (found_at : found ≡ Ok (before, figure)) where
                pub before-below : before.0 < h.text_length
                before-below = omega (arith, place-in-text t ok 10 (q - 1) sound found says before figure found_at, k.length_is)

                pub start-later : StartIs t ok q (Ok (record { 0 = before.0 + 1 }))
                unfolding row_from
                start-later = starts-at (before.0 + 1) let_through (omega (arith, before-below, k.length_is))
                    (λ v. rw (ne_eqb q 1 more, place_is t ok 10 (q - 1) sound found says before figure found_at v))

-- The newlines of a text up to where row q starts.
newlines-before : (T : List ℕ) (q : ℕ) → 1 ≤ q → q ≤ count_in 10 T → count_in 10 (substring T 0 (row_from T q)) + 1 ≡ q
unfolding row_from
newlines-before T q low high = go (lt-or-ge 1 q)
  where
    go : (1 < q) ⊎ (q ≤ 1) → count_in 10 (substring T 0 (row_from T q)) + 1 ≡ q
    go (inr first) = let e : q ≡ 1 = omega arith in rw e (omega (arith, count_none 10 T 0))
    go (inl later) =
        let h = place-nth 10 (q - 1) T (omega arith) (omega arith) in
        rw (ne_eqb q 1 (λ e. omega arith)) (omega (arith, h.rank, count-next-same 10 T 0 (place_of 10 (q - 1) T) h.within h.byte_is))

module _ (T : List ℕ) (q : ℕ) (low : 1 ≤ q) (high : q ≤ count_in 10 T) where
  -- The first newline from there on is the q-th of the text.
  row-end : (e : ℕ) → row_from T q ≤ e → Nth 10 1 T (row_from T q) (e - row_from T q) → place_of 10 q T ≡ e
  row-end e past first =
      let p = row_from T q in
      let z : 0 + p ≡ p = omega arith in
      let o : p + (e - p) ≡ e = omega arith in
      nth-place 10 q T e (rw (newlines-before T q low high, o) at (nth-earlier 10 1 T 0 p (e - p) (rw z first)))

  -- The newline exists.
  some_end : Nth 10 1 T (row_from T q) (place_of 10 q T - row_from T q)
  some_end =
      let p = row_from T q in
      let e = place_of 10 q T in
      let h = place-nth 10 q T low high in
      let past : p ≤ e = nth_past 10 q T 0 p e h (omega (arith, newlines-before T q low high)) in
      let z : 0 + p ≡ p = omega arith in
      let o : p + (e - p) ≡ e = omega arith in
      rw z at (nth-later 10 1 T 0 p (e - p) (rw (newlines-before T q low high, o) h))

-- A row's length without a carriage return before its end.
module _ (len before : ℕ) where
  pub cr-empty : len ≡ 0 → 0 ≡ cond (ltb 0 len && eqb 13 before) (len - 1) len
  cr-empty z = rw z

  module _ (some : len ≡ 0 → ⊥) where
    pub cr-cut : before ≡ 13 → len - 1 ≡ cond (ltb 0 len && eqb 13 before) (len - 1) len
    cr-cut e = rw (lt-ltb 0 len (omega (arith, some)), e)

    pub cr-kept : (before ≡ 13 → ⊥) → len ≡ cond (ltb 0 len && eqb 13 before) (len - 1) len
    cr-kept n = rw (lt-ltb 0 len (omega (arith, some)), ne_eqb 13 before (λ e. n (sym e)))

-- The bounds of a row that ends in a newline.
module _ (t : List ℕ) (ok : ℕ) (sound : ok ≡ 0 → check_result t ≡ 0) (q : ℕ) (x : Result TextPlace Refusal) (starts : StartIs t ok q x) where
  -- The newline that ends it is none of its bytes.
  abbrev end_most : ℕ
  end_most = at.text_length t - 1

  pub edges-no-start : (n : Refusal) → x ≡ Err n → EdgesOf t ok (number t ok q) (row t ok q) end_most (Err n)
  edges-no-start n e = not-spans t ok (number t ok q) (row t ok q) end_most n (starts.refused n e)

  module _ (p : TextPlace) (is : x ≡ Ok p) where
    pub start-within : p.0 ≤ at.text_length t
    start-within = starts.within p is

    asked : find_refusal t 10 q ≡ 0
    asked = starts.asked p is

    chosen : Selected t 10 q
    chosen = select-passes t 10 q asked

    in-book : ok ≡ 0 → q ≤ count_in 10 (text_of t)
    in-book v = rw (counts.total-of-text t (sound v) 10 chosen.counted) at chosen.high

    module _ (y : Option (TextPlace × ℕ × LeafRun)) (ends : NewlineIs t p.0 y) where
      pub edges-no-end : y ≡ None → EdgesOf t ok (number t ok q) (row t ok q) end_most (Err PathBroken)
      edges-no-end none =
          let o = place_of 10 q (text_of t) - row_from (text_of t) q in
          let there : ok ≡ 0 → Nth 10 1 (text_of t) p.0 o =
          λ v. rw (starts.accepted p is v) (some_end (text_of t) q chosen.low (in-book v)) in
          in-walk t ok (number t ok q) (row t ok q) end_most asked PathBroken (λ v. ends.missing none (sound v) o (there v)) refl

      module _ (e : TextPlace) (before : ℕ) (run : LeafRun) (at-e : y ≡ Some (e, before, run)) where
        end : EndsRow t p.0 e.0 before
        end = (ends.found e before run at-e).0

        pub end-past : p.0 ≤ e.0
        end-past = end.past

        -- The bytes up to it.
        abbrev len : ℕ
        len = e.0 - p.0

        in_text : p.0 + len < length (text_of t)
        in_text = omega (arith, end.first.within)

        whole : ok ≡ 0 → substring (text_of t) p.0 len ≡ between (text_of t) q
        unfolding between
        whole v =
            let s = starts.accepted p is v in
            let f = row-end (text_of t) q chosen.low (in-book v) e.0 (rw s at end-past) (rw s at end.first) in
            rw (s, f)

        pub edges-trimmed : (n : ℕ) → n ≡ cond (ltb 0 len && eqb 13 before) (len - 1) len
            → EdgesOf t ok (number t ok q) (row t ok q) end_most (Ok (p, n, run))
        edges-trimmed n n-is = spans-at t ok (number t ok q) (row t ok q) end_most p.0 n run (record {
          asked = asked;
          within = omega (arith, at_most, in_text, text-length t);
          short = omega (arith, at_most, in_text, text-length t);
          accepted = λ v. rw n-is (cut (lt-or-ge 0 len)) ∙ ap trimmed (whole v);
          reads = (ends.found e before run at-e).1;
        })
          where
            at_most : n ≤ len
            at_most = rw n-is (less (ltb 0 len && eqb 13 before))
              where
                less : (b : Bool) → cond b (len - 1) len ≤ len
                less true = omega arith
                less false = omega arith

            cut : (0 < len) ⊎ (len ≤ 0)
                → substring (text_of t) p.0 (cond (ltb 0 len && eqb 13 before) (len - 1) len) ≡ trimmed (substring (text_of t) p.0 len)
            cut (inr none) = let z : len ≡ 0 = omega arith in rw z (sym (trimmed-none (text_of t) p.0))
            cut (inl some) = rw (lt-ltb 0 len some) (go (eqb 13 before) refl)
              where
                byte : get_or (text_of t) (p.0 + (len - 1)) 0 ≡ before
                byte = let z : p.0 + (len - 1) ≡ e.0 - 1 = omega (arith, end-past) in rw z (sym (end.before-is (omega arith)))

                go : (b : Bool) → eqb 13 before ≡ b → substring (text_of t) p.0 (cond b (len - 1) len) ≡ trimmed (substring (text_of t) p.0 len)
                go true f = sym (trimmed-mark (text_of t) p.0 len some (omega (arith, in_text)) (byte ∙ sym (eqb-true 13 before f)))
                go false f = sym (trimmed-plain (text_of t) p.0 len some (omega (arith, in_text))
                    (λ z. bool_clash (eqb 13 before) (eq-eqb 13 before (sym (sym byte ∙ z))) f))

-- Whether q is the row after the last byte 10.
module _ (t : List ℕ) (h : Header) (k : HeaderOf t h) (q number : ℕ) (is : number ≡ number_of_byte t 10) where
  pub asks-uncounted : h.settings.counted ≤ number → false ≡ is_unterminated_row t q
  unfolding is_unterminated_row
  asks-uncounted past = rw (k.passes, not-counted t h k 10 number is past)

  module _ (low : number < h.settings.counted) where
    pub asks-empty : h.text_length ≡ 0 → false ≡ is_unterminated_row t q
    unfolding is_unterminated_row
    asks-empty z = rw (k.passes, is-counted t h k 10 number is low, le-ltb 0 (at.text_length t) (omega (arith, k.length_is)))

    module _ (some_byte : h.text_length ≡ 0 → ⊥) where
      here : (y : Bool) → eqb q (total t (number_of_byte t 10) + 1) ≡ y → y ≡ is_unterminated_row t q
      unfolding is_unterminated_row
      here y e = rw (k.passes, is-counted t h k 10 number is low, lt-ltb 0 (at.text_length t) (omega (arith, k.length_is, some_byte)), e)

      asks-other : (q ≡ total t (number_of_byte t 10) + 1 → ⊥) → false ≡ is_unterminated_row t q
      asks-other n = here false (ne_eqb q (total t (number_of_byte t 10) + 1) n)

      pub asks-is : (q ≡ 0 → ⊥) → (all : ℕ) → all ≡ total t number → eqb (q - 1) all ≡ is_unterminated_row t q
      asks-is n all e = go (eqb (q - 1) all) refl
        where
          sum : all + 1 ≡ total t (number_of_byte t 10) + 1
          sum = rw (e, is)

          go : (y : Bool) → eqb (q - 1) all ≡ y → eqb (q - 1) all ≡ is_unterminated_row t q
          go true f = f ∙ here true (rw (← sum) (eq-eqb q (all + 1) (omega (arith, n, eqb-true (q - 1) all f))))
          go false f = f ∙ here false (rw (← sum) (ne_eqb q (all + 1) (λ z. bool_clash (eqb (q - 1) all) (eq-eqb (q - 1) all (omega arith)) f)))

    -- Another row, in any text.
    asks-plain : (q ≡ total t (number_of_byte t 10) + 1 → ⊥) → false ≡ is_unterminated_row t q
    asks-plain n = go (lt-or-ge 0 h.text_length)
      where
        go : (0 < h.text_length) ⊎ (h.text_length ≤ 0) → false ≡ is_unterminated_row t q
        go (inl some) = asks-other (λ e. omega arith) n
        go (inr none) = asks-empty (omega arith)

    pub asks_none : q ≡ 0 → false ≡ is_unterminated_row t q
    asks_none z = asks-plain (λ e. omega arith)

    pub asks-ended : q ≤ total t number → false ≡ is_unterminated_row t q
    asks-ended high = let e : total t number ≡ total t (number_of_byte t 10) = rw is in asks-plain (λ z. omega arith)

-- After the last byte 10.
module _ (t : List ℕ) (h : Header) (k : HeaderOf t h) (q : ℕ) (asks : is_unterminated_row t q ≡ true) where
  a : AsksLast t q
  a = asks-last t q asks

  -- The text has a byte, and q is not 0.
  pub last_some : 1 ≤ h.text_length
  last_some = omega (arith, a.some_byte, k.length_is)

  pub last-low : 1 ≤ q
  last-low = omega (arith, a.number)

  -- The last byte 10 is the one before.
  pub last-find : (number : ℕ) → number ≡ number_of_byte t 10 → (q ≡ 1 → ⊥) → (1 ≤ q - 1) × (q - 1 ≤ total t number)
  last-find number is more =
      let e : total t number ≡ total t (number_of_byte t 10) = rw is in
      (omega (arith, a.number, more), omega (arith, a.number))

  abbrev last_number : ℕ
  last_number = last_row_refusal (byte_answer t (at.text_length t - 1))

  abbrev last_row : List ℕ
  last_row = row_of (text_of t) q

  abbrev last_most : ℕ
  last_most = row_most t q

  -- All of the text, if it is the first row, else less.
  most-first : q ≡ 1 → last_most ≡ at.text_length t
  unfolding row_most
  most-first one = rw (asks, eq-eqb q 1 one)

  most-later : (q ≡ 1 → ⊥) → last_most ≡ at.text_length t - 1
  unfolding row_most
  most-later more = rw (asks, ne_eqb q 1 more)

  -- On an accepted tree it has the bytes after the last byte 10.
  last_is : check_result t ≡ 0 → last_row ≡ substring (text_of t) (row_from (text_of t) q) (length (text_of t) - row_from (text_of t) q)
  last_is v =
      let e : q ≡ count_in 10 (text_of t) + 1 = a.number ∙ ap (λ (n : ℕ). n + 1) (counts.total-of-text t v 10 a.counted) in
      rw e (row_last (text_of t))

  module _ (ok : ℕ) (sound : ok ≡ 0 → check_result t ≡ 0) (x : Result (ℕ × ℕ) Refusal) (x-is : replied (byte_reply x) ≡ byte_answer t (h.text_length - 1)) where
    here-answer : byte_answer t (at.text_length t - 1) ≡ replied (byte_reply x)
    here-answer = rw (← k.length_is) (sym x-is)

    -- The last byte is refused.
    pub last-broken : (n : Refusal) → x ≡ Err n → EdgesOf t ok last_number last_row last_most (Err n)
    last-broken n e =
        let p = at.text_length t - 1 in
        let same : byte_answer t p ≡ refused (refusal_number n) = here-answer ∙ rw e in
        let z : (byte_answer t p).number ≡ 14 = only-14 t k.passes p (omega (arith, a.some_byte)) (refusal_number n) (sym same) in
        let y : refusal_number n ≡ 14 = ap (λ (s : Answer). s.number) (sym same) ∙ z in
        before-walk t ok last_number last_row last_most n (y ∙ rw z)

    module _ (value figure : ℕ) (is : x ≡ Ok (value, figure)) where
      -- The last byte is 10.
      pub last-ten : value ≡ 10 → EdgesOf t ok last_number last_row last_most (Err NoSuchOccurrence)
      last-ten ten = before-walk t ok last_number last_row last_most NoSuchOccurrence (sym (rw (here-answer, is, ten)))

      module _ (other : value ≡ 10 → ⊥) where
        passed : last_number ≡ 0
        passed = rw (here-answer, is, ne_eqb 10 value (λ e. other (sym e)))

        -- No byte 10 is before it.
        pub last-whole : q ≡ 1 → (run : LeafRun) → (run.length ≡ 0) × (run.from ≡ 0)
            → EdgesOf t ok last_number last_row last_most (Ok (record { 0 = 0 }, h.text_length, run))
        unfolding row_from
        last-whole one run none = spans-at t ok last_number last_row last_most 0 h.text_length run (record {
          asked = passed;
          within = omega (arith, k.length_is);
          short = omega (arith, k.length_is, most-first one);
          accepted = λ v.
              (let e : length (text_of t) - 0 ≡ h.text_length = omega (arith, text-length t, k.length_is) in
              sym (last_is (sound v) ∙ rw (one, e)));
          reads = access-none-read t 0 run none.0 none.1;
        })

        module _ (more : q ≡ 1 → ⊥) (found : Result (TextPlace × ℕ) Refusal) (said-found : FindBy t ok 10 (q - 1) (replied (find_reply found))) where
          last-asked : Selected t 10 (q - 1)
          last-asked = record { pass = a.pass; counted = a.counted; low = omega (arith, a.number, more); high = omega (arith, a.number) }

          -- The last byte 10 is refused.
          pub last-no-start : (n : Refusal) → found ≡ Err n → EdgesOf t ok last_number last_row last_most (Err n)
          last-no-start n e =
              let z = select-lets t 10 (q - 1) last-asked in
              in-walk t ok last_number last_row last_most passed n (λ v. refused-not t ok 10 (q - 1) sound found said-found n e z v)
              (refused-free t ok 10 (q - 1) sound found said-found n e z)

          module _ (before : TextPlace) (other-figure : ℕ) (found_at : found ≡ Ok (before, other-figure)) where
            pub last-past : before.0 < h.text_length
            last-past = omega (arith, place-in-text t ok 10 (q - 1) sound found said-found before other-figure found_at, k.length_is)

            pub last-from : (run : LeafRun) → (run.length ≡ 0) × (run.from ≡ 0)
                → EdgesOf t ok last_number last_row last_most (Ok (record { 0 = before.0 + 1 }, h.text_length - (before.0 + 1), run))
            unfolding row_from
            last-from run none = spans-at t ok last_number last_row last_most (before.0 + 1) (h.text_length - (before.0 + 1)) run (record {
              asked = passed;
              within = omega (arith, last-past, k.length_is);
              short = omega (arith, last-past, k.length_is, most-later more);
              accepted = λ v.
                  sym (last_is (sound v) ∙ rw
                  (ne_eqb q 1 more, place_is t ok 10 (q - 1) sound found said-found before other-figure found_at v, text-length t, k.length_is));
              reads = access-none-read t (before.0 + 1) run none.0 none.1;
            })

-- The edges of row q, by which of the two it is.
module _ (t : List ℕ) (ok : ℕ) (sound : ok ≡ 0 → check_result t ≡ 0) (q : ℕ) where
  pub edges-last : (r : Result (TextPlace × ℕ × LeafRun) Refusal) → true ≡ is_unterminated_row t q
      → EdgesOf t ok (last_row_refusal (byte_answer t (at.text_length t - 1))) (row_of (text_of t) q)
      (row_most t q) r
      → EdgesOf t ok (row_refusal t q) (row_of (text_of t) q) (row_most t q) r
  edges-last r asks e = rw (row-number-last t q (sym asks)) e

  -- ended by a newline
  pub edges-ended : (r : Result (TextPlace × ℕ × LeafRun) Refusal) → false ≡ is_unterminated_row t q
      → EdgesOf t ok (find_refusal t 10 q) (trimmed (between (text_of t) q)) (at.text_length t - 1) r
      → EdgesOf t ok (row_refusal t q) (row_of (text_of t) q) (row_most t q) r
  unfolding row_most
  edges-ended r asks e = rw (row-number-plain t q (sym asks)) (record {
    refused = λ n f. (let y = e.refused n f in record { low = y.low; asked = y.asked; accepted = y.accepted; free = y.free });
    spans = λ s m u f. (let y = e.spans s m u f in record {
      asked = y.asked;
      within = y.within;
      short = rw (← asks) y.short;
      reads = y.reads;
      accepted = λ v. (let c = select-passes t 10 q y.asked in
          y.accepted v ∙ sym (row-between (text_of t) q c.low (rw (counts.total-of-text t (sound v) 10 c.counted) at c.high)));
    });
  })

  -- Refused before the walk.
  pub edges-refused : (n : Refusal) → false ≡ is_unterminated_row t q → StartIs t ok q (Err n)
      → EdgesOf t ok (row_refusal t q) (row_of (text_of t) q) (row_most t q) (Err n)
  edges-refused n asks s = edges-ended (Err n) asks (edges-no-start t ok sound q (Err n) s n refl)
