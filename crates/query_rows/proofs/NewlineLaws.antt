-- The newline that ends a row, read on to from the row's start.
use mathlib.Core.List.{List}
use mathlib.Core.Bool.{Bool, true, false, cond}
use mathlib.Core.Path.{◌≡◌, refl, sym, ap, ◌∙◌}
use Prim.Native.Nat.{ℕ, zero, suc, ◌+◌, ◌-◌, ◌≤◌, ◌<◌}
use native.Mathlib.Omega.{arith}
use borrow.Author.Tests.{eq-eqb, ne_eqb, eqb-true, eqb-false}
use lib.ListN.{get_or}
use lib.Dec.{eqb}
use Rattle.text.specs.Text.{substring, count_in}
use Rattle.text.specs.TextLaws.{substring-ext}
use Rattle.text.specs.CountLaws.{Nth}
use Rattle.text.proofs.CountTheorems.{count_none, count_add, nth_past}
use Rattle.text.specs.declared.TextPlace.{TextPlace}
use Rattle.format.specs.Layout as at
use Rattle.format.specs.TreeReading.{text_of, check_result}
use Rattle.format.specs.CheckResultLaws.{accepted-links}
use Rattle.format.specs.Answers.{byte_answer}
use Rattle.theory_paths.specs.OneText.{text-length}
use Rattle.theory_paths.specs.PlaceBytes.{never-14}
use Rattle.layout.specs.declared.header.Header.{Header}
use Rattle.layout.specs.HeaderFields.{HeaderOf}
use Rattle.byte_slices.specs.ByteSlices.{HasBytes}
use Rattle.query_access.specs.declared.read_by_header.LeafRun.{LeafRun}
use Rattle.std.specs.Prelude.{Option, Some, None}
use Rattle.query_access.specs.ReadByRuns.{ReadsOn, LeafRangeAt, ReadsFrom, LeafRangeOf}
use Rattle.query_access.proofs.LeafRunLaws.{access-none-read, range-found, range-read, found-range}
use Rattle.query_rows.specs.RowEnds.{EndsRow, NewlineIs}

pub text-small : (t : List ℕ) (h : Header) → HeaderOf t h → at.text_length t < 4294967296
text-small t h k = omega (arith, k.facts.bounds.text_high)

-- No newline is between place p and the place that is read next, after the byte `earlier`.
pub record NoneYet (t : List ℕ) (p place earlier : ℕ) : Type 0 where
  pub past : p ≤ place
  pub within : place ≤ at.text_length t
  pub absent : count_in 10 (substring (text_of t) p (place - p)) ≡ 0
  pub earlier_is : p < place → earlier ≡ get_or (text_of t) (place - 1) 0

pub none-at-start : (t : List ℕ) (p : ℕ) → p ≤ at.text_length t → NoneYet t p p 0
none-at-start t p h =
    let z : p - p ≡ 0 = omega arith in record {
      past = omega arith;
      within = h;
      absent = rw z (count_none 10 (text_of t) p);
      earlier_is = λ l. absurd (let y : ⊥ = omega arith in y);
    }

module _ (t : List ℕ) (p : ℕ) where
  found-is : (e before : ℕ) (run : LeafRun) → (EndsRow t p e before) × (ReadsFrom t p run) → NewlineIs t p (Some (record { 0 = e }, before, run))
  found-is e before run r = record {
    found = λ q b u is. (let z : ◌≡◌ {A = TextPlace × ℕ × LeafRun} (record { 0 = e }, before, run) (q, b, u) = cc in
        let x : e ≡ q.0 = ap (λ (w : TextPlace × ℕ × LeafRun). w.0.0) z in
        let y : before ≡ b = ap (λ (w : TextPlace × ℕ × LeafRun). w.1) z in
        let v : run ≡ u = ap (λ (w : TextPlace × ℕ × LeafRun). w.2) z in
        rw (← x, ← y, ← v) r);
    missing = λ is. absurd (let z : ◌≡◌ {A = ℕ} 0 1 = cc in omega arith);
  }

  missing-is : (check_result t ≡ 0 → (o : ℕ) → Nth 10 1 (text_of t) p o → ⊥) → NewlineIs t p None
  missing-is never = record { found = λ q b u is. absurd (let z : ◌≡◌ {A = ℕ} 0 1 = cc in omega arith); missing = λ is. never }

  module _ (place earlier : ℕ) (i : NoneYet t p place earlier) where
    -- The text ends before a newline.
    pub text-ends : at.text_length t ≤ place → NewlineIs t p None
    text-ends end = missing-is (λ v o n.
        omega (arith, i.past, i.within, i.absent, n.within, text-length t, nth_past 10 1 (text_of t) p (place - p) o n (omega (arith, i.absent))))

    -- A path breaks: not in an accepted tree.
    pub run-breaks : (h : Header) → HeaderOf t h → place < h.text_length → (byte_answer t place).number ≡ 14 → NewlineIs t p None
    run-breaks h k low broken =
        missing-is (λ v. absurd (never-14 t k.passes place (omega (arith, k.length_is)) (accepted-links t v) broken))

    -- A run of `size` bytes, with its first newline at x, or none.
    module _ (from size : ℕ) (reads : ReadsOn t place from size) (x : ℕ) (s : HasBytes t from size 10 1 x) (before : ℕ)
        (before-is : before ≡ cond (eqb x 0) earlier (get_or t (from + (x - 1)) 0)) where
      same : substring t from x ≡ substring (text_of t) place x
      same = substring-ext t (text_of t) from place x (omega (arith, reads.in_tree, s.high)) (omega (arith, reads.in_text, s.high, text-length t))
          (λ y l. reads.bytes y (omega (arith, s.high)))

      joined : (y : ℕ) → count_in 10 (substring (text_of t) p (place - p + y)) ≡ count_in 10 (substring (text_of t) place y)
      joined y =
          let e : p + (place - p) ≡ place = omega (arith, i.past) in
          let z = rw e at (count_add 10 (text_of t) p (place - p) y) in
          omega (arith, z, i.absent)

      -- The byte before place x of the run.
      before-x : p < place + x → before ≡ get_or (text_of t) (place + x - 1) 0
      before-x l = before-is ∙ go x s.high l
        where
          go : (y : ℕ) → y ≤ size → p < place + y → cond (eqb y 0) earlier (get_or t (from + (y - 1)) 0) ≡ get_or (text_of t) (place + y - 1) 0
          go zero h l = let e : place + 0 - 1 ≡ place - 1 = omega arith in rw e (i.earlier_is (omega arith))
          go (suc y) h l =
              let e : place + suc y - 1 ≡ place + y = omega arith in
              let f : suc y - 1 ≡ y = omega arith in
              rw (ne_eqb (suc y) 0 (λ z. omega arith), e, f) (reads.bytes y (omega arith))

      pub newline-in-run : x < size → (run : LeafRun) → ReadsFrom t p run → NewlineIs t p (Some (record { 0 = place + x }, before, run))
      newline-in-run l run reads-run =
          found-is (place + x) before run (record { past = omega (arith, i.past); first = first; before-is = before-x }, reads-run)
        where
          o : place + x - p ≡ place - p + x
          o = omega (arith, i.past)

          at_x : p + (place - p + x) ≡ place + x
          at_x = omega (arith, i.past)

          first : Nth 10 1 (text_of t) p (place + x - p)
          first = rw o (record {
            within = omega (arith, i.past, reads.in_text, text-length t);
            byte_is = rw at_x (sym (reads.bytes x l) ∙ (s.here l).0);
            rank = rw (joined x, ← same) (s.here l).1;
          })

      pub run-passed : size ≤ x → NoneYet t p (place + size) before
      run-passed l =
          let e : x ≡ size = omega (arith, s.high) in
          let o : place + size - p ≡ place - p + size = omega (arith, i.past) in record {
            past = omega (arith, i.past);
            within = reads.in_text;
            absent = rw (o, joined size) (let z = rw (rw e at same) at (s.fewer l) in omega (arith, z));
            earlier_is = λ m. rw e at before-x (omega arith);
          }

-- The range that was read first, or none at the start.
pub record RowFirst (t : List ℕ) (p place : ℕ) (first : LeafRun) : Type 0 where
  pub reads : ReadsFrom t p first
  pub absent : first.length ≡ 0 → place ≡ p

pub first-none : (t : List ℕ) (p : ℕ) (first : LeafRun) → (first.length ≡ 0) × (first.from ≡ 0) → RowFirst t p p first
first-none t p first e = record { reads = access-none-read t p first e.0 e.1; absent = λ z. refl }

pub row-first-some : (t : List ℕ) (p place : ℕ) (first : LeafRun) → (ReadsFrom t p first) × (1 ≤ first.length) → RowFirst t p place first
row-first-some t p place first f = record { reads = f.0; absent = λ z. absurd (let y : ⊥ = omega (arith, f.1) in y) }

pub first-kept : (t : List ℕ) (p place most : ℕ) (first next r : LeafRun) → RowFirst t p place first → LeafRangeAt t place most next
    → r ≡ cond (eqb first.length 0) next first → (ReadsFrom t p r) × (1 ≤ r.length)
first-kept t p place most first next r f k r-is = go (eqb first.length 0) refl
  where
    go : (b : Bool) → eqb first.length 0 ≡ b → (ReadsFrom t p r) × (1 ≤ r.length)
    go true e =
        let z : r ≡ next = r-is ∙ rw e in
        let same : place ≡ p = f.absent (eqb-true first.length 0 e) in
        rw z (rw same at (range-read t place most next k), k.some_byte)
    go false e =
        let z : r ≡ first = r-is ∙ rw e in
        let some : first.length ≡ 0 → ⊥ = eqb-false first.length 0 e in
        rw z (f.reads, omega (arith, some))

-- The range at a place, as the text's bytes.
pub range-there : (t : List ℕ) (h : Header) (k : HeaderOf t h) (place most : ℕ) (x : Option LeafRun) → LeafRangeOf t place most x
    → (r : LeafRun) → x ≡ Some r → (ReadsOn t place r.from r.length) × (LeafRangeAt t place most r)
range-there t h k place most x x-is r e = ((found-range t place most x x-is k.passes r e).0, range-found t place most x x-is r e)

-- The byte before a place of a run.
module _ (i earlier byte : ℕ) where
  pub before-first : i ≡ 0 → earlier ≡ cond (eqb i 0) earlier byte
  before-first z = rw (eq-eqb i 0 z)

  pub before-later : (i ≡ 0 → ⊥) → byte ≡ cond (eqb i 0) earlier byte
  before-later n = rw (ne_eqb i 0 n)
