-- Two trees read side by side: what remains to be compared, place by place and run by run.
use Rattle.std.specs.Prelude.{Result, Ok, Err}
use Rattle.std.specs.declared.cmp.Ordering.{Ordering}
use Rattle.std.specs.declared.cmp.Ordering.TheVariants.{Less, Greater}
use Rattle.refusals.specs.declared.Refusal.{Refusal}
use Rattle.refusals.specs.declared.Refusal.TheVariants.{PathBroken}
use Rattle.refusals.specs.Refusals.{refusal_number}
use mathlib.Core.List.{List}
use mathlib.Core.Bool.{Bool, true, cond}
use mathlib.Core.Path.{◌≡◌, sym, ap, ◌∙◌}
use mathlib.Core.Logic.{◌⊎◌, inl, inr}
use Prim.Native.Nat.{ℕ, zero, suc, ◌+◌, ◌-◌, ◌≤◌, ◌<◌, min}
use native.Mathlib.Omega.{arith}
use borrow.Author.Count.{below_more}
use native.Mathlib.Nat.{sub-zero}
use borrow.Author.Tests.{lt-ltb, le-ltb}
use lib.ListN.{length, get_or}
use Rattle.std.specs.List.{between, zip, AllWithin, HoldsAt}
use Rattle.std.specs.Option.{MatchOption, unwrap_or}
use Rattle.std.proofs.Common.{Option, Some, None}
use Rattle.std.proofs.lemmas.List.Edits.{length-between, get_or-between}
use Rattle.std.proofs.lemmas.Slice.Zip.{length-zip, get_or-zip}
use lib.Dec.{eqb, ltb}
use Rattle.text.specs.ListLaws.{lt-or-ge}
use Rattle.format.specs.Answers.{Answer, refused, replied, unless, byte_answer}
use Rattle.format.specs.AnswerLaws.{unless-refused}
use Rattle.format.specs.Layout as at
use Rattle.format.specs.TreeReading.{header_result}
use Rattle.format.specs.LayoutLaws.{header-facts}
use Rattle.theory_paths.specs.PlaceBytes.{byte-text}
use Rattle.layout.specs.declared.header.Header.{Header}
use Rattle.layout.specs.Header.{header_answer}
use Rattle.layout.specs.HeaderFields.{HeaderOf, header_refused}
use Rattle.query_access.specs.declared.read_by_header.TreeRange.{TreeRange}
use Rattle.query_access.specs.ReadByRuns.{ReadsOn, IsRangeAnswer}
use Rattle.query_access.proofs.RunLaws.{reads_none, reads-rest}
use Rattle.query_compare.specs.declared.side_by_side.Progress.{Progress}
use Rattle.query_compare.specs.declared.side_by_side.Round.{Round}
use Rattle.query_compare.specs.declared.side_by_side.Round.TheVariants as round
use Rattle.query_compare.specs.OrderAnswers.{order_answer, by_lengths, compared_from, compare_answer, compare_reply, IsCompareAnswer}
use Rattle.query_compare.specs.Compared.{CompareReadsFrom, Agrees, by_byte, shortest, Comparing, RoundAnswer}

-- A byte of a part that is read is the one that byte answers.
reads-value : (t : List ℕ) (p from size x : ℕ) → header_result t ≡ 0 → ReadsOn t p from size → x < size
    → (byte_answer t (p + x)).value ≡ get_or t (from + x) 0
reads-value t p from size x r a h = byte-text t r (p + x) (omega (arith, a.in_text)) (a.holds x h) ∙ sym (a.bytes x h)

-- The path of a part's first place holds.
first_holds : (t : List ℕ) (p from size : ℕ) → ReadsOn t p from size → 1 ≤ size → (byte_answer t p).number ≡ 0
first_holds t p from size a h = let e : p + 0 ≡ p = omega arith in rw e at (a.holds 0 (omega arith))

-- Place by place.
module _ (t u : List ℕ) where
  -- The number and the byte of a place are the same in both.
  abbrev pub SameAt : ℕ → Type 0
  SameAt p = ((byte_answer t p).number ≡ 0) × ((byte_answer u p).number ≡ 0) × ((byte_answer t p).value ≡ (byte_answer u p).value)

  -- What is left to compare from place p on.
  abbrev pub From : ℕ → Answer
  From p = compared_from t u (shortest t u - p) p

  -- A place that is not the shorter end.
  module _ (p : ℕ) (low : p < shortest t u) where
    open-place : From p ≡ unless (byte_answer t p).number (unless (byte_answer u p).number
        (cond (ltb (byte_answer t p).value (byte_answer u p).value) (order_answer Less p)
        (cond (ltb (byte_answer u p).value (byte_answer t p).value) (order_answer Greater p) (From (p + 1)))))
    unfolding compared_from
    open-place =
        let s : shortest t u - p ≡ suc (shortest t u - (p + 1)) = omega arith in
        rw (s, compared_from)

    pub first-broken : (byte_answer t p).number ≡ 14 → From p ≡ refused 14
    first-broken e = open-place ∙ rw e

    module _ (a : (byte_answer t p).number ≡ 0) where
      pub second-broken : (byte_answer u p).number ≡ 14 → From p ≡ refused 14
      second-broken e = open-place ∙ rw (a, e)

      module _ (b : (byte_answer u p).number ≡ 0) where
        place_same : (byte_answer t p).value ≡ (byte_answer u p).value → From p ≡ From (p + 1)
        place_same e =
            let y = (byte_answer u p).value in
            open-place ∙ rw (a, b, e, le-ltb y y (omega arith))

        pub place-differs : ((byte_answer t p).value ≡ (byte_answer u p).value → ⊥) → From p ≡ by_byte (byte_answer t p).value (byte_answer u p).value p
        unfolding by_byte
        place-differs e = open-place ∙ go (lt-or-ge x y)
          where
            x : ℕ
            x = (byte_answer t p).value

            y : ℕ
            y = (byte_answer u p).value

            go : (x < y) ⊎ (y ≤ x)
                → unless (byte_answer t p).number (unless (byte_answer u p).number
                (cond (ltb x y) (order_answer Less p) (cond (ltb y x) (order_answer Greater p) (From (p + 1)))))
                ≡ cond (ltb x y) (order_answer Less p) (order_answer Greater p)
            go (inl h) = rw (a, b, lt-ltb x y h)
            go (inr h) = rw (a, b, le-ltb x y h, lt-ltb y x (omega arith))

  -- Some places at which both texts agree.
  pub places_same : (p k : ℕ) → p + k ≤ shortest t u → ((x : ℕ) → x < k → SameAt (p + x)) → From p ≡ From (p + k)
  places_same p zero h all = let e : p + 0 ≡ p = omega arith in rw e
  places_same p (suc k) h all =
      let z = all k (omega arith) in
      let e : p + suc k ≡ p + k + 1 = omega arith in
      rw e (places_same p k (omega arith) (λ x l. all x (omega arith)) ∙ place_same (p + k) (omega arith) z.0 z.1 z.2)

-- Run by run.

pub comparing-start : (t u : List ℕ) → header_result t ≡ 0 → header_result u ≡ 0
    → Comparing t u (record { place = record { 0 = 0 }; one = record { from = 0; length = 0 }; other = record { from = 0; length = 0 } })
unfolding compare_answer
comparing-start t u r s = record {
  passes = r;
  other_passes = s;
  low = omega arith;
  reads = reads_none t 0 0 (omega arith) (omega arith);
  other_reads = reads_none u 0 0 (omega arith) (omega arith);
  left = rw (sub-zero (shortest t u)) (sym asked);
}
  where
    asked : compare_answer t u ≡ compared_from t u (shortest t u) 0
    asked = rw (r, s)

-- A place below both lengths that the headers have.
module _ (t u : List ℕ) (h g : Header) (k : HeaderOf t h) (l : HeaderOf u g) (p : ℕ) (low : p < min h.text_length g.text_length) where
  pub below_both : (p < h.text_length) × (p < g.text_length)
  below_both = (omega arith, omega arith)

  pub below-shortest : p < shortest t u
  below-shortest = omega (arith, k.length_is, l.length_is)

module _ (t u : List ℕ) (m : Progress) (c : Comparing t u m) where
  -- At the shorter end.
  pub compare-end : shortest t u ≤ m.place.0 → (n k : ℕ) → n ≡ at.text_length t → k ≡ at.text_length u
      → (x : Ordering × ℕ) → replied (compare_reply (Ok x)) ≡ by_lengths n k m.place.0 → IsCompareAnswer t u (Ok x)
  unfolding compared_from
  compare-end past n k n-is k_is x x-is =
      let z : shortest t u - m.place.0 ≡ 0 = omega arith in
      let e : by_lengths (at.text_length t) (at.text_length u) m.place.0 ≡ compare_answer t u = rw z at c.left in
      record { answers = x-is ∙ rw (n-is, k_is) e }

  module _ (low : m.place.0 < shortest t u) (v : Result TreeRange Refusal) (first : CompareReadsFrom t m.place.0 v) where
    -- The first tree's path breaks.
    pub compare-broken : (q : Refusal) → v ≡ Err q → IsCompareAnswer t u (Err PathBroken)
    compare-broken q e =
        let z : CompareReadsFrom t m.place.0 (Err q) = rw e at first in
        record { answers = sym (first-broken t u m.place.0 low z) ∙ c.left }

    module _ (x : TreeRange) (x-is : v ≡ Ok x) (w : Result TreeRange Refusal) (second : CompareReadsFrom u m.place.0 w) where
      here : CompareReadsFrom t m.place.0 (Ok x)
      here = rw x-is at first

      -- The first tree's path holds and the second's breaks.
      pub compare-broken-2 : (q : Refusal) → w ≡ Err q → IsCompareAnswer t u (Err PathBroken)
      compare-broken-2 q e =
          let z : CompareReadsFrom u m.place.0 (Err q) = rw e at second in
          let holds = first_holds t m.place.0 x.from x.length here.0 here.1 in
          record { answers = sym (second-broken t u m.place.0 low holds z) ∙ c.left }

      -- Both hold: there is a byte of each.
      pub compare-runs : (y : TreeRange) → w ≡ Ok y
          → Comparing t u (record { place = m.place; one = x; other = y }) × (1 ≤ x.length) × (1 ≤ y.length)
      compare-runs y e =
          let z : CompareReadsFrom u m.place.0 (Ok y) = rw e at second in
          (record { passes = c.passes; other_passes = c.other_passes; low = c.low; reads = here.0; other_reads = z.0; left = c.left }, here.1, z.1)

-- Two runs; n bytes of each are compared.
module _ (t u : List ℕ) (x y : TreeRange) (p : ℕ) (c : Comparing t u (record { place = record { 0 = p }; one = x; other = y }))
    (n : ℕ) (n-is : n ≡ min x.length y.length) where
  in_both : p + n ≤ shortest t u
  in_both = omega (arith, c.reads.in_text, c.other_reads.in_text)

  -- The parts lie in their trees, and the places far from where words end.
  pub runs-inside : (x.from + n ≤ length t) × (y.from + n ≤ length u)
  runs-inside = (omega (arith, c.reads.in_tree), omega (arith, c.other_reads.in_tree))

  pub place-small : p + n < 4294967296
  place-small = omega (arith, in_both, (header-facts t c.passes).bounds.text_high)

  pub byte_inside : (k : ℕ) → k < n → (x.from + k < length t) × (y.from + k < length u) × (p + k < 4294967296)
  byte_inside k less = (omega (arith, c.reads.in_tree), omega (arith, c.other_reads.in_tree), omega (arith, place-small))

  pub rest-inside : length t < 18446744073709551616 → (n ≤ x.length) × (x.from + x.length < 18446744073709551616)
  rest-inside h = (omega arith, omega (arith, c.reads.in_tree))

  pub rest-inside-2 : length u < 18446744073709551616 → (n ≤ y.length) × (y.from + y.length < 18446744073709551616)
  rest-inside-2 h = (omega arith, omega (arith, c.other_reads.in_tree))

  module _ (k : ℕ) (g : Agrees t x.from u y.from n k) where
    -- The byte at each of these places, in the first tree and in the second.
    one_is : (z : ℕ) → z < n → (byte_answer t (p + z)).value ≡ get_or t (x.from + z) 0
    one_is z h = reads-value t p x.from x.length z c.passes c.reads (omega arith)

    other_is : (z : ℕ) → z < n → (byte_answer u (p + z)).value ≡ get_or u (y.from + z) 0
    other_is z h = reads-value u p y.from y.length z c.other_passes c.other_reads (omega arith)

    -- The places that agree.
    agreed : (z : ℕ) → z < k → SameAt t u (p + z)
    agreed z h =
        let l : z < n = omega (arith, g.most) in
        (c.reads.holds z (omega arith), c.other_reads.holds z (omega arith), one_is z l ∙ g.same z h ∙ sym (other_is z l))

    on : From t u (p + k) ≡ compare_answer t u
    on = sym (places_same t u p k (omega (arith, g.most, in_both)) agreed) ∙ c.left

    -- The next do not.
    pub compare-differs : k < n → (z : Ordering × ℕ)
        → replied (compare_reply (Ok z)) ≡ by_byte (get_or t (x.from + k) 0) (get_or u (y.from + k) 0) (p + k) → IsCompareAnswer t u (Ok z)
    compare-differs less z z-is =
        let a = one_is k less in
        let b = other_is k less in
        let there = c.reads.holds k (omega arith) in
        let there-2 = c.other_reads.holds k (omega arith) in
        let e = place-differs t u (p + k) (omega (arith, in_both)) there there-2 (λ same. g.differ less (sym a ∙ same ∙ b)) in
        record { answers = z-is ∙ sym (rw (a, b) at e) ∙ on }

    -- All do.
    pub compare-on : 1 ≤ x.length → 1 ≤ y.length → n ≤ k
        → (a b : TreeRange) → a ≡ record { from = x.from + n; length = x.length - n } → b ≡ record { from = y.from + n; length = y.length - n }
        → RoundAnswer t u p (round.On (record { place = record { 0 = p + n }; one = a; other = b }))
    compare-on some_byte other_byte all a b a_is b_is =
        let e : k ≡ n = omega (arith, g.most) in
        rw (a_is, b_is) (
          record {
            passes = c.passes;
            other_passes = c.other_passes;
            low = in_both;
            reads = reads-rest t p x.from x.length n c.reads (omega arith);
            other_reads = reads-rest u p y.from y.length n c.other_reads (omega arith);
            left = rw e at on;
          },
          omega arith,
        )

-- The result of a round, by its outcome.
module _ (t u : List ℕ) (p : ℕ) (r : Round) (a : RoundAnswer t u p r) where
  pub round-on : (m : Progress) → r ≡ round.On m → Comparing t u m × (p < m.place.0)
  round-on m e = let z : RoundAnswer t u p (round.On m) = rw e at a in z

  pub round-settled : (x : Result (Ordering × ℕ) Refusal) → r ≡ round.Settled x → IsCompareAnswer t u x
  round-settled x e = let z : RoundAnswer t u p (round.Settled x) = rw e at a in z

-- A range from a place.
pub read-anew : (t : List ℕ) (p most : ℕ) (r : Result TreeRange Refusal) → IsRangeAnswer t p most r → CompareReadsFrom t p r
read-anew t p most (Ok part) a = (a.0, a.1)
read-anew t p most (Err q) a = a.1

-- A tree that does not pass questions 5 to 7, the first or the second.
module _ (t u : List ℕ) (x : Result Header Refusal) (q : Refusal) (e : x ≡ Err q) where
  pub first-unread : x ≡ header_answer t → IsCompareAnswer t u (Err q)
  unfolding compare_answer
  first-unread x-is =
      let z = header_refused t x x-is q e in
      record { answers = unless-refused (header_result t) z.0 (refusal_number q) _ z.1 z.2 }

  pub second-unread : header_result t ≡ 0 → x ≡ header_answer u → IsCompareAnswer t u (Err q)
  unfolding compare_answer
  second-unread r x-is =
      let z = header_refused u x x-is q e in
      record { answers = rw r (unless-refused (header_result u) z.0 (refusal_number q) _ z.1 z.2) }

-- One place more agrees.
pub agree-more : (s : List ℕ) (a : ℕ) (t : List ℕ) (b i : ℕ)
    → ((x : ℕ) → x < i → get_or s (a + x) 0 ≡ get_or t (b + x) 0) → get_or s (a + i) 0 ≡ get_or t (b + i) 0
    → (x : ℕ) → x < i + 1 → get_or s (a + x) 0 ≡ get_or t (b + x) 0
agree-more s a t b i all here = below_more (λ x. get_or s (a + x) 0 ≡ get_or t (b + x) 0) i all here

-- A byte of one range beside that of the other.
abbrev pub Differ : ℕ × ℕ → Type 0
Differ p = p.0 ≡ p.1 → ⊥

abbrev pub Equal : ℕ × ℕ → Type 0
Equal p = p.0 ≡ p.1

-- Two ranges of n bytes, as slices.
module _ (s : List ℕ) (a : ℕ) (t : List ℕ) (b n : ℕ) (fits : a + n ≤ length s) (room : b + n ≤ length t) where
  abbrev xs : List ℕ
  xs = between a (a + n) s

  abbrev ys : List ℕ
  ys = between b (b + n) t

  pair-at : (x : ℕ) → x < n → get_or (zip xs ys) x (0, 0) ≡ (get_or s (a + x) 0, get_or t (b + x) 0)
  pair-at x h =
      let k : x < length xs = omega (arith, length-between s a (a + n) fits) in
      let l : x < length ys = omega (arith, length-between t b (b + n) room) in
      rw (get_or-zip xs ys x (0, 0) k l, get_or-between s a (a + n) x 0 (omega arith), get_or-between t b (b + n) x 0 (omega arith))

  pairs : length (zip xs ys) ≡ n
  pairs = omega (arith, length-zip xs ys, length-between s a (a + n) fits, length-between t b (b + n) room)

  -- The first pair of bytes that differ.
  pub first-differs : (r : Option ℕ) (m : ℕ) → m ≡ unwrap_or r n
      → MatchOption r (AllWithin Equal (zip xs ys) 0 (length (zip xs ys)))
      (λ i. (i < length (zip xs ys)) × HoldsAt Differ (zip xs ys) i × AllWithin Equal (zip xs ys) 0 i) → Agrees s a t b n m
  first-differs None m e all = rw e (record {
    most = omega arith;
    same = λ x h. rw (pair-at x h) at (all x (0, 0) (omega arith) (omega (arith, pairs)));
    differ = λ h. absurd (let z : ⊥ = omega arith in z);
  })
  first-differs (Some i) m e hit = rw e (record {
    most = omega (arith, hit.0, pairs);
    same = λ x h. rw (pair-at x (omega (arith, hit.0, pairs))) at (hit.2 x (0, 0) (omega arith) h);
    differ = λ h. rw (pair-at i h) at (hit.1 (0, 0));
  })
