-- The demands on comparing two trees, as theorems over what the calls promise.
-- docs/FORMAT.md: "The order of books".
use Rattle.std.specs.Prelude.{Result, Ok, Err}
use Rattle.std.specs.declared.cmp.Ordering.{Ordering}
use Rattle.std.specs.declared.cmp.Ordering.TheVariants.{Less, Equal, Greater}
use Rattle.refusals.specs.declared.Refusal.{Refusal}
use Rattle.refusals.specs.declared.Refusal.TheVariants.{PathBroken}
use Rattle.refusals.specs.Refusals.{refusal_number, result_refusal}
use Rattle.refusals.specs.RefusalsLaws.{number-above, refused-as}
use mathlib.Core.List.{List, [], ◌∷◌}
use mathlib.Core.Bool.{true, cond}
use mathlib.Core.Path.{◌≡◌, refl, ap, ◌∙◌}
use Prim.Native.Nat.{ℕ, zero, suc, ◌+◌, ◌-◌, ◌≤◌, ◌<◌}
use native.Mathlib.Omega.{arith}
use native.Mathlib.Numerals.{add-one}
use native.Mathlib.Nat.{add-zero}
use contract.Lifetimes.{Lfts}
use denote.Ref.{Bor, MutBor}
use borrow.Author.Tests.{lt-ltb, le-ltb}
use lib.ListN.{length, get_or, drop, drop_of_length-le}
use lib.Seq.{drop-cons}
use lib.Dec.{ltb}
use Rattle.format.specs.Layout as at
use Rattle.format.specs.TreeReading.{links_ok, text_of, header_result}
use Rattle.format.specs.Answers.{Answer, refused, replied, unless, byte_answer}
use Rattle.theory_paths.specs.Theorems as paths
use Rattle.query_compare.specs.OrderAnswers.{code, order_answer, by_lengths, compared_from, compare_answer, compare_reply}
use Rattle.query_compare.specs.OrderAnswers.{IsFirstAnswer}
use Rattle.query_compare.specs.TextOrder.{text_ordering, shared, outcome, first_of}
use Rattle.query_compare.specs.OrderLaws.{Which, below, equal, above, which, ordering-below, ordering-equal, ordering-above, shared-equal, shared-other}
use Rattle.query_compare.specs.Compared.{shortest, by_byte}
use Rattle.query_compare.proofs.SideBySideLaws.{SameAt, From, first-broken, second-broken, place-differs, places_same}
use Rattle.query_compare.proofs.compare.Reads as compare-reads
use Rattle.query_compare.proofs.first.Reads as first_reads

-- r is an answer that the contract of `compare` allows to a call with these arguments
abbrev pub Compare : (κs : Lfts 2) → Bor (List ℕ) → Bor (List ℕ) → Result (Ordering × ℕ) Refusal → Type 0
Compare κs t u r = compare-reads.Post κs (t, (u, tt)) r (t, (u, tt))

-- One byte of each, at place p: these bytes decide the order, or what follows them does.
by_first : (x y : ℕ) (A B : List ℕ) (p : ℕ) (rest : Answer) → rest ≡ order_answer (text_ordering A B) (suc p + shared A B)
    → cond (ltb x y) (order_answer Less p) (cond (ltb y x) (order_answer Greater p) rest)
    ≡ order_answer (text_ordering (x ∷ A) (y ∷ B)) (p + shared (x ∷ A) (y ∷ B))
by_first x y A B p rest r = go (which x y)
  where
    go : Which x y
        → cond (ltb x y) (order_answer Less p) (cond (ltb y x) (order_answer Greater p) rest)
        ≡ order_answer (text_ordering (x ∷ A) (y ∷ B)) (p + shared (x ∷ A) (y ∷ B))
    go (below h) = rw (lt-ltb x y h, ordering-below x y A B h, shared-other x y A B (λ e. omega arith), add-zero p)
    go (above h) =
        rw (le-ltb x y (omega arith), lt-ltb y x h, ordering-above x y A B h, shared-other x y A B (λ e. omega arith), add-zero p)
    go (equal h) =
        let z : p + (shared A B + 1) ≡ suc p + shared A B = omega arith in
        rw (le-ltb x y (omega arith), le-ltb y x (omega arith), ordering-equal x y A B h, shared-equal x y A B h, z) r

-- Both trees pass questions 5 to 8.
module _ (t u : List ℕ) (rt : header_result t ≡ 0) (ru : header_result u ≡ 0) (lt : links_ok t ≡ true) (lu : links_ok u ≡ true) where
  abbrev T : List ℕ
  T = text_of t

  abbrev U : List ℕ
  U = text_of u

  n-is : length T ≡ at.text_length t
  n-is = paths.text-size t rt lt

  m-is : length U ≡ at.text_length u
  m-is = paths.text-size u ru lu

  -- What is left of both from place p on.
  abbrev Left : ℕ → Answer
  Left p = order_answer (text_ordering (drop p T) (drop p U)) (p + shared (drop p T) (drop p U))

  -- At the shorter end.
  module _ (p : ℕ) (end : p ≡ shortest t u) where
    none_left : at.text_length t ≤ at.text_length u → drop p T ≡ []
    none_left h = drop_of_length-le T {i = p} (omega (arith, n-is))

    none-left-2 : at.text_length u ≤ at.text_length t → drop p U ≡ []
    none-left-2 h = drop_of_length-le U {i = p} (omega (arith, m-is))

    at_end : by_lengths (at.text_length t) (at.text_length u) p ≡ Left p
    unfolding by_lengths text_ordering shared
    at_end = go (which (at.text_length t) (at.text_length u))
      where
        go : Which (at.text_length t) (at.text_length u) → by_lengths (at.text_length t) (at.text_length u) p ≡ Left p
        go (below h) =
            rw (lt-ltb (at.text_length t) (at.text_length u) h, none_left (omega arith), drop-cons U p 0 (omega (arith, m-is)), add-zero p)
        go (equal h) =
            let same = le-ltb (at.text_length t) (at.text_length u) (omega arith) in
            rw (same, le-ltb (at.text_length u) (at.text_length t) (omega arith), none_left (omega arith), none-left-2 (omega arith), add-zero p)
        go (above h) =
            let more = le-ltb (at.text_length t) (at.text_length u) (omega arith) in
            rw (more, lt-ltb (at.text_length u) (at.text_length t) h, drop-cons T p 0 (omega (arith, n-is)), none-left-2 (omega arith), add-zero p)

  -- At a place of both.
  module _ (p : ℕ) (low : p < at.text_length t) (low' : p < at.text_length u) where
    one : ((byte_answer t p).number ≡ 0) × ((byte_answer t p).value ≡ get_or T p 0)
    one = let e = (paths.byte-of-text t rt lt p low).2 in (ap (λ (s : Answer). s.number) e, ap (λ (s : Answer). s.value) e)

    other : ((byte_answer u p).number ≡ 0) × ((byte_answer u p).value ≡ get_or U p 0)
    other = let e = (paths.byte-of-text u ru lu p low').2 in (ap (λ (s : Answer). s.number) e, ap (λ (s : Answer). s.value) e)

    at_place : (rest : Answer) → rest ≡ Left (p + 1)
        → unless (byte_answer t p).number (unless (byte_answer u p).number
        (cond (ltb (byte_answer t p).value (byte_answer u p).value) (order_answer Less p)
        (cond (ltb (byte_answer u p).value (byte_answer t p).value) (order_answer Greater p) rest)))
        ≡ Left p
    at_place rest r =
        let a = drop-cons T p 0 (omega (arith, n-is)) in
        let b = drop-cons U p 0 (omega (arith, m-is)) in
        rw (one.0, other.0, one.1, other.1, a, b)
        (by_first (get_or T p 0) (get_or U p 0) (drop (suc p) T) (drop (suc p) U) p rest (rw (add-one p) at r))

  from_place : (more p : ℕ) → p + more ≡ shortest t u → compared_from t u more p ≡ Left p
  unfolding compared_from
  from_place zero p e = at_end p (omega arith)
  from_place (suc more) p e = at_place p (omega arith) (omega arith) (compared_from t u more (p + 1)) (from_place more (p + 1) (omega arith))

  -- The comparison is not refused, and returns the order of the first text and the length of the longest common prefix.
  pub order-of-texts : compare_answer t u ≡ order_answer (text_ordering (text_of t) (text_of u)) (shared (text_of t) (text_of u))
  unfolding compare_answer
  order-of-texts = rw (rt, ru) (from_place (shortest t u) 0 (omega arith) ∙ start)
    where
      start : order_answer (text_ordering T U) (0 + shared T U) ≡ order_answer (text_ordering T U) (shared T U)
      start = let z : 0 + shared T U ≡ shared T U = omega arith in rw z

-- The answer in each case.
one-code : (s r : Ordering) → code s ≡ code r → s ≡ r
one-code Less Less e = refl
one-code Less Equal e = absurd (let z : ⊥ = omega arith in z)
one-code Less Greater e = absurd (let z : ⊥ = omega arith in z)
one-code Equal Less e = absurd (let z : ⊥ = omega arith in z)
one-code Equal Equal e = refl
one-code Equal Greater e = absurd (let z : ⊥ = omega arith in z)
one-code Greater Less e = absurd (let z : ⊥ = omega arith in z)
one-code Greater Equal e = absurd (let z : ⊥ = omega arith in z)
one-code Greater Greater e = refl

outcome-is : (r : Result (Ordering × ℕ) Refusal) (s : Ordering) (n : ℕ) → replied (compare_reply r) ≡ order_answer s n → r ≡ outcome s n
outcome-is (Ok x) s n e =
    let z : x.0 ≡ s = one-code x.0 s (ap (λ (y : Answer). y.value) e) in
    let y : x.1 ≡ n = ap (λ (y : Answer). y.entered) e in
    ap Ok (λ i. (z i, y i))
outcome-is (Err q) s n e = absurd (let low = number-above q in let z : refusal_number q ≡ 0 = ap (λ (y : Answer). y.number) e in let w : ⊥ = omega arith in w)

compare-refusal : (r : Result (Ordering × ℕ) Refusal) → result_refusal r ≡ (replied (compare_reply r)).number
compare-refusal (Ok x) = refl
compare-refusal (Err q) = refl

refusal_is : (r : Result (Ordering × ℕ) Refusal) (q : Refusal) → replied (compare_reply r) ≡ refused (refusal_number q) → r ≡ Err q
refusal_is r q e = refused-as r q (compare-refusal r ∙ ap (λ (x : Answer). x.number) e)

-- For any bytes.
module _ (κs : Lfts 2) (t u : Bor (List ℕ)) (r : Result (Ordering × ℕ) Refusal) (a : Compare κs t u r) where
  -- Questions 5 to 7 of the first tree come first.
  pub order-unread : (q : ℕ) → header_result t.now ≡ suc q → result_refusal r ≡ suc q
  unfolding compare_answer
  order-unread q e = let said : replied (compare_reply r) ≡ refused (suc q) = a.answers ∙ rw e in compare-refusal r ∙ ap (λ (x : Answer). x.number) said

  module _ (rt : header_result t.now ≡ 0) where
    -- Those of the second tree are next.
    pub order-unread-2 : (q : ℕ) → header_result u.now ≡ suc q → result_refusal r ≡ suc q
    unfolding compare_answer
    order-unread-2 q e =
        let said : replied (compare_reply r) ≡ refused (suc q) = a.answers ∙ rw (rt, e) in compare-refusal r ∙ ap (λ (x : Answer). x.number) said

    -- The reading comes to place p if p is a place of both texts and the bytes at all places before p are equal.
    module _ (ru : header_result u.now ≡ 0) (p : ℕ) (low : p < shortest t.now u.now) (all : (x : ℕ) → x < p → SameAt t.now u.now x) where
      from-there : compare_answer t.now u.now ≡ From t.now u.now p
      unfolding compare_answer
      from-there =
          let z : shortest t.now u.now - 0 ≡ shortest t.now u.now = omega arith in
          let e = places_same t.now u.now 0 p (omega arith) (λ x h. let y : 0 + x ≡ x = omega arith in rw y (all x h)) in
          let y : 0 + p ≡ p = omega arith in
          rw (rt, ru) (rw (z, y) at e)

      -- Refused with 14: the path of p breaks in the first tree.
      pub order-broken : (byte_answer t.now p).number ≡ 14 → r ≡ Err PathBroken
      order-broken e = refusal_is r PathBroken (a.answers ∙ from-there ∙ first-broken t.now u.now p low e)

      module _ (there : (byte_answer t.now p).number ≡ 0) where
        -- Refused with 14: the path of p holds in the first tree and breaks in the second.
        pub order-broken-2 : (byte_answer u.now p).number ≡ 14 → r ≡ Err PathBroken
        order-broken-2 e = refusal_is r PathBroken (a.answers ∙ from-there ∙ second-broken t.now u.now p low there e)

        -- A difference is the answer, whatever comes after it.
        module _ (there-2 : (byte_answer u.now p).number ≡ 0) where
          pub order_below : (byte_answer t.now p).value < (byte_answer u.now p).value → r ≡ Ok (Less, p)
          unfolding by_byte
          order_below h =
              let e = place-differs t.now u.now p low there there-2 (λ z. omega arith) in
              outcome-is r Less p (a.answers ∙ from-there ∙ e ∙ rw (lt-ltb _ _ h))

          pub order-above : (byte_answer u.now p).value < (byte_answer t.now p).value → r ≡ Ok (Greater, p)
          unfolding by_byte
          order-above h =
              let e = place-differs t.now u.now p low there there-2 (λ z. omega arith) in
              outcome-is r Greater p (a.answers ∙ from-there ∙ e ∙ rw (le-ltb (byte_answer t.now p).value (byte_answer u.now p).value (omega arith)))

-- r is a slice that the contract of `first` allows to be returned, with these figures.
abbrev pub CompareFirst : (κs : Lfts 4) → (t u : Bor (List ℕ)) → (number order length number' order' length' : MutBor ℕ) → Bor (List ℕ) → Type 0
CompareFirst κs t u number order length number' order' length' r =
    first_reads.Post κs (t, (u, (number, (order, (length, tt))))) r (t, (u, (number', (order', (length', tt)))))

-- Two trees that pass questions 5 to 8, and the texts that fit them.
module _ (t u : Bor (List ℕ)) (rt : header_result t.now ≡ 0) (ru : header_result u.now ≡ 0) (lt : links_ok t.now ≡ true) (lu : links_ok u.now ≡ true) where
  -- The order of the first text, and the length of the longest common prefix.
  abbrev s : Ordering
  s = text_ordering (text_of t.now) (text_of u.now)

  abbrev n : ℕ
  n = shared (text_of t.now) (text_of u.now)

  -- The result is the lexicographic order of the texts and the length of their longest common prefix.
  pub compare-texts : (κs : Lfts 2) (r : Result (Ordering × ℕ) Refusal) → Compare κs t u r → r ≡ outcome s n
  compare-texts κs r a = outcome-is r s n (a.answers ∙ order-of-texts t.now u.now rt ru lt lu)

  -- `first` returns the tree whose text comes first, the first argument if the texts are equal, with the figures of the comparison.
  pub first-texts : (κs : Lfts 4) (number order length number' order' length' : MutBor ℕ) (r : Bor (List ℕ))
      → CompareFirst κs t u number order length number' order' length' r
      → (r ≡ first_of s t u) × (record { number = number'.now; value = order'.now; entered = length'.now } ≡ order_answer s n)
  first-texts κs number order length number' order' length' r a =
      let e = order-of-texts t.now u.now rt ru lt lu in
      (whole s n (rw e at a.1), a.0 ∙ e)
    where
      whole : (s : Ordering) (n : ℕ) → IsFirstAnswer (order_answer s n) t u r → r ≡ first_of s t u
      whole Less n h = h.given refl
      whole Equal n h = h.given refl
      whole Greater n h = h.given refl
