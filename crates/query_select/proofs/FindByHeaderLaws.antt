-- Find, from level 0 on.
use mathlib.Core.List.{List}
use mathlib.Core.Bool.{Bool, true, false, ◌&&◌}
use mathlib.Core.Path.{◌≡◌, refl, sym, ap, ◌∙◌}
use mathlib.Core.Logic.{◌⊎◌, inl, inr}
use Prim.Native.Nat.{ℕ, suc, ◌+◌, ◌-◌, ◌*◌, ◌/◌, ◌%◌, ◌≤◌, ◌<◌}
use native.Mathlib.Omega.{arith}
use native.Mathlib.Nat.{zero-mul, mul-le-mul}
use borrow.Author.Tests.{lt-ltb, le-ltb, lt-leb, ne_eqb}
use lib.Dec.{leb}
use Rattle.text.specs.ListLaws.{lt-or-ge}
use Rattle.text.specs.Text.{place_of}
use Rattle.format.specs.Layout.{max_text}
use Rattle.format.specs.Layout as at
use Rattle.format.specs.TreeReading.{path_of, text_of, ask, header_result, check_result}
use Rattle.format.specs.Answers.{Answer, refused, number_of_byte, total, find_refusal, path_length, found}
use Rattle.format.specs.FindAnswerLaws.{FindAnswers, select-lets}
use Rattle.theory_paths.specs.BlockStarts.{len-inside}
use Rattle.layout.specs.declared.header.Header.{Header}
use Rattle.std.specs.Prelude.{Result, Err}
use Rattle.refusals.specs.declared.Refusal.{Refusal}
use Rattle.refusals.specs.Refusals.{refusal_number}
use Rattle.layout.specs.Header.{header_answer}
use Rattle.layout.specs.HeaderFields.{HeaderOf, header_refused}
use Rattle.walk_steps.specs.Steps.{OnLevel, InTable}
use Rattle.walk_steps.proofs.StepLaws.{b-small}
use Rattle.walk_steps.proofs.NextLaws.{on-top}
use Rattle.theory_counts.specs.CountsLocal.{byte_of}
use Rattle.theory_counts.specs.CountedSubstrings.{tally-none}
use Rattle.theory_counts.specs.Ranks as ranks
use Rattle.theory_counts.specs.Finds as finds
use Rattle.query_select.specs.declared.seek.CountField.{CountField}
use Rattle.query_select.specs.Seeks.{Siblings, LastBefore, Seeking, FoundIn}
use Rattle.query_select.proofs.SeekLaws.{last-here}
use Rattle.query_select.specs.SoughtPlaces.{placed_in, Sought, Stopped, SoughtIn}
use Rattle.query_counted.proofs.TotalLaws.{some_block, not-counted, is-counted}
use Rattle.query_select.proofs.LandLaws.{k, d, a}

pub top-siblings : (t : List ℕ) (field : CountField) (b n : ℕ) → OnLevel t field.size 0 b → field.number < at.counted_count t → 1 ≤ total t field.number
    → n ≡ at.level_count t 0 → Siblings t field 0 0 n
top-siblings t field b n on hc some e = record {
  facts = on.facts;
  size_is = on.size_is;
  level_in = on.level_in;
  number_in = hc;
  present = omega (arith, some_block t field.number some);
  end_in = omega arith;
}

pub full-level : (t : List ℕ) (h : Header) → HeaderOf t h → OnLevel t h.record_size 0 (at.full_length t 0)
full-level t h r = rw r.block_is at (on-top t h r)

-- A place of the text.

product : (n s : ℕ) → n < 4294967296 → s ≤ max_text → n * s ≤ 36028797018963968
product n s a b = let c : n ≤ 4294967296 = omega arith in let m : s ≤ 8388608 = omega arith in mul-le-mul c m

module _ (n w : ℕ) where
  pub place-in : w % 281474976710656 < n
      → record { number = 0; value = w % 281474976710656; entered = w / 281474976710656 } ≡ placed_in n w
  unfolding placed_in
  place-in h = rw (lt-ltb (w % 281474976710656) n h)

  pub place-past : n ≤ w % 281474976710656 → refused 14 ≡ placed_in n w
  unfolding placed_in
  place-past h = rw (le-ltb (w % 281474976710656) n h)

  placed-free : (placed_in n w ≡ refused 14) ⊎ (((placed_in n w).number ≡ 0) × ((placed_in n w).value < n))
  placed-free = go (lt-or-ge (w % 281474976710656) n)
    where
      go : (w % 281474976710656 < n) ⊎ (n ≤ w % 281474976710656) → (placed_in n w ≡ refused 14) ⊎ (((placed_in n w).number ≡ 0) × ((placed_in n w).value < n))
      go (inl h) = let e = sym (place-in h) in inr (ap (λ (y : Answer). y.number) e, rw (ap (λ (y : Answer). y.value) e) h)
      go (inr h) = inl (sym (place-past h))

-- The place and the blocks of a word.
word-place : (n w p e : ℕ) → w ≡ p + e * 281474976710656 → p < n → n ≤ max_text → placed_in n w ≡ record { number = 0; value = p; entered = e }
word-place n w p e w-is small short =
    let a : w % 281474976710656 ≡ p = omega arith in
    let b : w / 281474976710656 ≡ e = omega arith in
    sym (place-in n w (omega arith)) ∙ rw (a, b)

-- From level 0 on.
module _ (t : List ℕ) (field : CountField) (j b block : ℕ) (on : OnLevel t field.size 0 b) (hc : field.number < at.counted_count t) (low : 1 ≤ j)
    (high : j ≤ total t field.number) (last : Stopped t field.number j block) where
  abbrev c : ℕ
  c = field.number

  pub block-there : InTable t field.size 0 b block
  block-there = record { on = on; block_in = last.block_in }

  pub way-small : (way : ℕ) → block < 4294967296 → way ≡ block * b → way ≤ 36028797018963968
  way-small way small e = omega (arith, product block b small (b-small t field.size 0 b on))

  pub alone : Siblings t field 0 block (block + 1)
  alone = record {
    facts = on.facts;
    size_is = on.size_is;
    level_in = on.level_in;
    number_in = hc;
    present = omega arith;
    end_in = omega (arith, last.block_in);
  }

  module _ (rest : ℕ) (rest_is : rest ≡ j - at.before t 0 block c) where
    pub no_block : (r : ℕ) → rest ≡ 0 → SoughtIn t (byte_of t c) c j block (placed_in (at.text_length t) r)
    no_block r none = record { accepted = λ v under. absurd (let z : ⊥ = omega arith in z); free = placed-free (at.text_length t) r }

    module _ (some : rest ≡ 0 → ⊥) (way : ℕ) where
      pub seeking : j < 4294967296 → way ≤ 36028797018963968 → Seeking t field 0 b rest way 0
      seeking small near =
          record { on = on; number_in = hc; low = omega (arith, some); few = omega arith; near = omega arith }

      at_end : (v : check_result t ≡ 0) (r : ℕ) → way ≡ block * b → (o e : ℕ) → r ≡ way + e * 281474976710656 + o
          → finds.Lands t (k t v) (d t v) (a t v) c hc 0 block (j - at.before t 0 block c) o e → placed_in (at.text_length t) r ≡ found t (byte_of t c) j
      unfolding found
      at_end v r way-is o e is lands =
          let y = finds.lands-top t (k t v) (d t v) (a t v) c hc block j o e last.block_in (omega (arith, some)) lands in
          let start : at.start t 0 block ≡ block * b = (d t v).start0 block last.block_in ∙ rw on.b_is in
          let place : place_of (byte_of t c) j (text_of t) ≡ block * b + o = rw (← start) y.0 in
          let path : path_length t (path_of t (block * b + o)) ≡ e = rw start at y.1 in
          let within : block * b + o < at.text_length t = omega (arith, len-inside t 0 block o lands.inside) in
          rw (place, path) (word-place (at.text_length t) r (block * b + o) e (omega arith) within on.facts.bounds.text_high)

      moved_on : (v : check_result t ≡ 0) (n m o e : ℕ)
          → n ≡ m → finds.Lands t (k t v) (d t v) (a t v) c hc 0 block n o e → finds.Lands t (k t v) (d t v) (a t v) c hc 0 block m o e
      moved_on v n m o e p z = rw (← p) z

      right : (r : ℕ) → way ≡ block * b → FoundIn t c 0 block rest way r → check_result t ≡ 0 → placed_in (at.text_length t) r ≡ found t (byte_of t c) j
      right r way-is f v =
          let holds = finds.top-holds t (k t v) (d t v) (a t v) c hc block j last.block_in high last.next in
          let z = f.right v hc (omega arith) in
          at_end v r way-is z.place z.entered z.is (moved_on v rest (j - at.before t 0 block c) z.place z.entered rest_is z.lands)

      pub sought : (r : ℕ) → way ≡ block * b → FoundIn t c 0 block rest way r → SoughtIn t (byte_of t c) c j block (placed_in (at.text_length t) r)
      sought r way-is f = record { accepted = λ v under. right r way-is f v; free = placed-free (at.text_length t) r }

-- What holds of the place in the word holds of the answer made from it.
pub sought-by : (t : List ℕ) (n byte c j block w : ℕ) (s : Answer) → n ≡ at.text_length t → byte ≡ byte_of t c → s ≡ placed_in n w
    → SoughtIn t (byte_of t c) c j block (placed_in (at.text_length t) w) → SoughtIn t byte c j block s
sought-by t n byte c j block w s n-is byte_is s-is z =
    let e : s ≡ placed_in (at.text_length t) w = rw n-is at s-is in
    rw (e, byte_is) z

-- The first block's before is 0, so the steps from there stop at a block with fewer than j before it.
module _ (t : List ℕ) (c j block : ℕ) (hc : c < at.counted_count t) (low : 1 ≤ j) (last : LastBefore t c 0 0 (at.level_count t 0) j block) where
  pub stopped : Stopped t c j block
  stopped = record { block_in = last.high; next = last.next }

  pub from_first : (byte : ℕ) (s : Answer) → SoughtIn t byte c j block s → Sought t byte j s
  from_first byte s z = record { accepted = λ v. z.accepted v (under v); free = z.free }
    where
      under : check_result t ≡ 0 → at.before t 0 block c < j
      under v =
          let f = finds.top-before t (k t v) (d t v) (a t v) c hc 0 (omega (arith, last.high)) in
          let e : at.before t 0 0 c ≡ 0 = f ∙ rw (zero-mul (at.full_length t 0)) (tally-none t c 0) in
          last-here t c 0 0 (at.level_count t 0) j block last (omega arith)

-- The questions before the walk.

find-refused : (t : List ℕ) (byte j q : ℕ) → find_refusal t byte j ≡ suc q → FindAnswers t byte j (refused (suc q))
find-refused t byte j q e = record {
  asked = λ l. rw e;
  accepted = λ z v. absurd (let y : ⊥ = omega arith in y);
  free = λ z v. absurd (let y : ⊥ = omega arith in y);
}

module _ (t : List ℕ) (h : Header) (r : HeaderOf t h) (byte j number : ℕ) (is : number ≡ number_of_byte t byte) where
  pub number-none : h.settings.counted ≤ number → find_refusal t byte j ≡ 11
  unfolding find_refusal
  number-none past = rw (r.passes, not-counted t h r byte number is past)

  pub find_none : h.settings.counted ≤ number → FindAnswers t byte j (refused 11)
  find_none past = find-refused t byte j 10 (number-none past)

  module _ (counted : number < h.settings.counted) where
    range_none : (low high : Bool) → low ≡ false → ask 12 (low && high) 0 ≡ 12
    range_none low high e = rw e

    range-past : (low high : Bool) → high ≡ false → ask 12 (low && high) 0 ≡ 12
    range-past true high e = rw e
    range-past false high e = refl

    pub number-zero : j ≡ 0 → find_refusal t byte j ≡ 12
    unfolding find_refusal
    number-zero z =
        rw (r.passes, is-counted t h r byte number is counted) (range_none (leb 1 j) (leb j (total t (number_of_byte t byte))) (lt-leb 1 j (omega arith)))

    pub find-zero : j ≡ 0 → FindAnswers t byte j (refused 12)
    find-zero z = find-refused t byte j 11 (number-zero z)

    module _ (all : ℕ) (all-is : all ≡ total t number) where
      all_of : all ≡ total t (number_of_byte t byte)
      all_of = rw is at all-is

      pub number_past : all < j → find_refusal t byte j ≡ 12
      unfolding find_refusal
      number_past past =
          rw (r.passes, is-counted t h r byte number is counted)
          (range-past (leb 1 j) (leb j (total t (number_of_byte t byte))) (lt-leb j (total t (number_of_byte t byte)) (omega (arith, all_of))))

      pub find_past : all < j → FindAnswers t byte j (refused 12)
      find_past past = find-refused t byte j 11 (number_past past)

      pub asked-none : 1 ≤ j → j ≤ all → find_refusal t byte j ≡ 0
      asked-none low high = select-lets
          t byte j (record { pass = r.passes; counted = is-counted t h r byte number is counted; low = low; high = omega (arith, all_of) })

      pub find-sought : (s : Answer) → 1 ≤ j → j ≤ all → Sought t byte j s → FindAnswers t byte j s
      find-sought s low high z = record {
        asked = λ l. absurd (let y : ⊥ = omega (arith, asked-none low high) in y);
        accepted = λ e v. z.accepted v;
        free = λ e v. z.free;
      }

      pub seek-ready : 1 ≤ j → j ≤ all → (HeaderOf t h) × (number < at.counted_count t) × (byte ≡ byte_of t number) × (1 ≤ j) × (j ≤ total t number)
      seek-ready low high =
          (r, omega (arith, r.counted_is), rw is (sym (ranks.counted t r.facts byte (is-counted t h r byte number is counted)).byte_is), low, omega arith)

pub number-unread : (t : List ℕ) (byte j k : ℕ) → header_result t ≡ suc k → find_refusal t byte j ≡ suc k
unfolding find_refusal
number-unread t byte j k e = rw (e, ne_eqb (suc k) 0 (λ y. omega arith))

pub find-unread : (t : List ℕ) (byte j : ℕ) (x : Result Header Refusal) → x ≡ header_answer t
    → (q : Refusal) → x ≡ Err q → FindAnswers t byte j (refused (refusal_number q))
find-unread t byte j x x-is q e =
    let z = header_refused t x x-is q e in
    rw z.2 (find-refused t byte j z.0 (number-unread t byte j z.0 z.1))
