-- The entries of a guide, one after the other: written, and compared.
use mathlib.Core.List.{List, ◌++◌}
use mathlib.Core.Bool.{Bool, true, false}
use mathlib.Core.Path.{◌≡◌, refl, sym, ap, ◌∙◌}
use mathlib.Core.Logic.{◌⊎◌, inl, inr}
use Prim.Native.Nat.{ℕ, zero, suc, ◌+◌, ◌*◌, ◌≤◌, ◌<◌}
use native.Mathlib.Omega.{arith}
use lib.ListN.{length, get_or, drop}
use lib.Seq.{take_all}
use lib.Dec.{leb}
use borrow.Author.Tests.{eq-eqb, ne_eqb, le-leb, lt-leb}
use Rattle.text.specs.Text.{same_list, concat}
use Rattle.text.specs.ListLaws.{bool_clash, lt-or-ge, eq-same_list, ne-same_list}
use Rattle.format.specs.Layout.{word_at, words_bytes, set_word, max_text}
use Rattle.format.specs.WordLaws.{length-set_word}
use Rattle.format.specs.Layout as at
use Rattle.std.specs.Prelude.{Result, Ok, Err, ⊤}
use Rattle.refusals.specs.declared.Refusal.{Refusal}
use Rattle.refusals.specs.Refusals.{refusal_number, result_refusal}
use Rattle.refusals.specs.RefusalsLaws.{number-above}
use Rattle.format.specs.TreeReading.{ask, header_result, check_result}
use Rattle.format.specs.CheckResultLaws.{accepted-header}
use Rattle.format.specs.Answers.{refused, total}
use Rattle.format.specs.AnswerLaws.{unless-refused}
use Rattle.query_select.specs.Seeks.{LastBefore}
use Rattle.query_select.proofs.SeekLaws.{last-here}
use Rattle.query_guide.specs.Guides.{entries_of, entries_before, guide_words, guide_of, guide_bytes}
use Rattle.query_guide.specs.Guides.{guide_refusal, make_guide_refusal, make_guide_answer, make_guide_buffer, listed_every}
use Rattle.build_guide.specs.EntriesWritten.{guide_written, Puts, GuideCompared}
use Rattle.build_guide.proofs.WordLists.{words_are, put_word}
use Rattle.query_guide.proofs.Holders.{total-few, block_in, first-low, block_is}
use Rattle.query_guide.proofs.GuideList.{guide-length, guide-size, guide-entry, entry-below, entry-in-total, entry-word}

pub false-not {ℓ} : {A : Type ℓ} → false ≡ true → A
false-not e = bool_clash false e refl

-- The block of entry e of counted byte number c, looked for from a block with fewer before it.
module _ (t : List ℕ) (c e : ℕ) (v : check_result t ≡ 0) (hc : c < at.counted_count t) (he : e < entries_of t c) where
  rank : listed_every * e + 1 ≤ total t c
  rank = entry-in-total t c e hc he

  pub rank-few : listed_every * e + 1 ≤ max_text
  rank-few = omega (arith, rank, total-few t v c hc)

  pub from_first : (0 < at.level_count t 0) × (at.before t 0 0 c < listed_every * e + 1)
  from_first = (omega (arith, block_in t v c hc (listed_every * e + 1) (omega arith) rank), first-low t v c hc (listed_every * e + 1) (omega arith) rank)

  module _ (from block : ℕ)
      (low : at.before t 0 from c < listed_every * e + 1) (last : LastBefore t c 0 from (at.level_count t 0) (listed_every * e + 1) block) where
    here : at.before t 0 block c < listed_every * e + 1
    here = last-here t c 0 from (at.level_count t 0) (listed_every * e + 1) block last low

    pub entry_found : (place : ℕ) → place ≡ entries_before t c → block ≡ get_or (guide_of t) (place + e) 0
    entry_found place p =
        block_is t v c hc (listed_every * e + 1) (omega arith) rank block last.high here last.next
        ∙ sym (guide-entry t c e hc he) ∙ ap (λ (k : ℕ). get_or (guide_of t) (k + e) 0) (sym p)

    -- The next is looked for from there.
    pub entry_next : (block < at.level_count t 0) × (at.before t 0 block c < listed_every * (e + 1) + 1)
    entry_next = (last.high, omega (arith, here))

  pub entry-there : (place : ℕ) → place ≡ entries_before t c → place + e < length (guide_of t)
  entry-there place p = omega (arith, entry-below t c e hc he)

-- Written.
module _ (t : List ℕ) where
  pub puts_none : (table : List ℕ) (from : ℕ) → Puts t table table from (from + 0)
  puts_none table from = let z : from ≡ from + 0 = omega arith in record { same_length = refl; puts = λ old l e. rw (← z) e }

  module _ (before table new : List ℕ)
      (from i w : ℕ) (p : Puts t before table from i) (is : w ≡ get_or (guide_of t) i 0) (l : i < length (guide_of t)) (room : 4 * i + 4 ≤ length table)
      (New-is : new ≡ set_word table (4 * i) w) where
    puts_one : Puts t before new from (i + 1)
    unfolding guide_written
    puts_one = record {
      same_length = rw New-is (length-set_word table (4 * i) w) ∙ p.same_length;
      puts = λ old n b. New-is ∙ rw (is, p.puts old n b) (put_word (guide_of t) old i l (omega (arith, p.same_length)));
    }

  pub puts-more : (before table new : List ℕ) (from e w : ℕ)
      → Puts t before table from (from + e) → w ≡ get_or (guide_of t) (from + e) 0 → from + e < length (guide_of t)
      → 4 * (from + e) + 4 ≤ length table → new ≡ set_word table (4 * (from + e)) w → Puts t before new from (from + (e + 1))
  puts-more before table new from e w p is l room New-is =
      let z : from + e + 1 ≡ from + (e + 1) = omega arith in
      rw z at (puts_one before table new from (from + e) w p is l room New-is)

  pub puts-start : (table : List ℕ) → Puts t table table 0 0
  puts-start table = record { same_length = refl; puts = λ old l e. e }

  pub puts-all : (a b : List ℕ) (n : ℕ) → n ≡ guide_words t → Puts t a b 0 n → Puts t a b 0 (guide_words t)
  puts-all a b n e p = rw e at p

  pub puts-on : (a b c : List ℕ) (x y z : ℕ) → Puts t a b x y → Puts t b c y z → Puts t a c x z
  puts-on a b c x y z p q = record {
    same_length = q.same_length ∙ p.same_length;
    puts = λ old n e. q.puts old (p.same_length ∙ n) (p.puts old n e);
  }

  -- All of them.
  written_none : (old : List ℕ) → old ≡ guide_written t 0 old
  unfolding guide_written words_bytes concat
  written_none old = refl

  written_all : (old : List ℕ) → guide_written t (guide_words t) old ≡ guide_bytes t ++ drop (4 * guide_words t) old
  unfolding guide_written guide_bytes
  written_all old = rw (take_all (guide_words t) (guide_of t) (omega (arith, guide-length t)))

-- The ways out of making.
module _ (t old : List ℕ) where
  module _ (v : check_result t ≡ 0) where
    number-by-room : (y : Bool) → leb (length (guide_bytes t)) (length old) ≡ y → make_guide_refusal t old ≡ ask 25 y 0
    unfolding make_guide_refusal
    number-by-room y e = rw (eq-eqb (check_result t) 0 v, e)

    pub made-short : length old < 4 * guide_words t → (refused 25 ≡ make_guide_answer t old) × (old ≡ make_guide_buffer t old)
    unfolding make_guide_answer make_guide_buffer
    made-short l =
        let e : make_guide_refusal t old ≡ 25 = number-by-room false (lt-leb (length (guide_bytes t)) (length old) (omega (arith, guide-size t))) in
        (rw e, rw e)

    makes : 4 * guide_words t ≤ length old → make_guide_refusal t old ≡ 0
    makes l = number-by-room true (le-leb (length (guide_bytes t)) (length old) (omega (arith, guide-size t)))

    pub made-leaves : 4 * guide_words t ≤ length old → make_guide_buffer t old ≡ guide_bytes t ++ drop (4 * guide_words t) old
    unfolding make_guide_buffer
    made-leaves l = rw (makes l, guide-size t)

    pub made_all : 4 * guide_words t ≤ length old → (record { number = 0; value = guide_words t; entered = 0 } ≡ make_guide_answer t old)
        × ((new : List ℕ) → Puts t old new 0 (guide_words t) → new ≡ make_guide_buffer t old)
    unfolding make_guide_answer
    made_all l = (rw (makes l), λ new p. p.puts old refl (written_none t old) ∙ written_all t old ∙ sym (made-leaves l))

  unmade-number : (n : ℕ) → n ≡ check_result t → (n ≡ 0 → ⊥) → make_guide_refusal t old ≡ n
  unfolding make_guide_refusal
  unmade-number n e low = rw (← e, ne_eqb n 0 low)

  pub unmade : (n : ℕ) → n ≡ check_result t → (n ≡ 0 → ⊥) → (refused n ≡ make_guide_answer t old) × (old ≡ make_guide_buffer t old)
  unfolding make_guide_answer make_guide_buffer
  unmade n e low =
      let f = unmade-number n e low in
      let s = pos-suc n low in
      (unless-refused (make_guide_refusal t old) s.0 n (record { number = 0; value = guide_words t; entered = 0 }) (f ∙ s.1) s.1, rw (f, ne_eqb n 0 low))
    where
      pos-suc : (n : ℕ) → (n ≡ 0 → ⊥) → (k : ℕ) × (n ≡ suc k)
      pos-suc zero l = absurd (l refl)
      pos-suc (suc k) l = (k, refl)

-- Compared.
module _ (t guide : List ℕ) where
  pub wrong-length : (length guide ≡ 4 * guide_words t → ⊥) → false ≡ same_list guide (guide_bytes t)
  wrong-length n = sym (ne-same_list guide (guide_bytes t) (λ e. n (ap (λ (l : List ℕ). length l) e ∙ guide-size t)))

  pub wrong-entry : (from to : ℕ) (r : Bool) → GuideCompared t guide from to r → r ≡ false → false ≡ same_list guide (guide_bytes t)
  wrong-entry from to r c e = sym (ne-same_list guide (guide_bytes t) (c.no e))

  -- An entry other than the guide's.
  pub entry-wrong : check_result t ≡ 0 → (i w : ℕ) → i < length (guide_of t) → w ≡ get_or (guide_of t) i 0 → (word_at guide (4 * i) ≡ w → ⊥) → guide
      ≡ guide_bytes t → ⊥
  entry-wrong v i w l is n e = n (ap (λ (g : List ℕ). word_at g (4 * i)) e ∙ entry-word t v i l ∙ sym is)

  pub right-all : length guide ≡ 4 * guide_words t → ((k : ℕ) → get_or guide k 0 < 256)
      → (n : ℕ) → n ≡ guide_words t → ((i : ℕ) → i < n → word_at guide (4 * i) ≡ get_or (guide_of t) i 0) → true ≡ same_list guide (guide_bytes t)
  unfolding guide_bytes
  right-all size byte n n-is is =
      sym (eq-same_list guide (words_bytes (guide_of t))
      (words_are (guide_of t) guide (size ∙ ap (λ (k : ℕ). 4 * k) (sym (guide-length t))) byte (λ i l. is i (omega (arith, guide-length t)))))

  -- What is compared from one number on joins what was before it.
  pub right-more : (from to : ℕ) (r : Bool) → ((i : ℕ) → i < from → word_at guide (4 * i) ≡ get_or (guide_of t) i 0) → GuideCompared t guide from to r → r ≡ true
      → (i : ℕ) → i < to → word_at guide (4 * i) ≡ get_or (guide_of t) i 0
  right-more from to r before c e i l = go (lt-or-ge i from)
    where
      go : (i < from) ⊎ (from ≤ i) → word_at guide (4 * i) ≡ get_or (guide_of t) i 0
      go (inl m) = before i m
      go (inr m) = c.yes e i m l

  -- A guide compared.
  pub compared : check_result t ≡ 0 → (r : Bool) → r ≡ same_list guide (guide_bytes t) → ask 24 r 0 ≡ guide_refusal t guide
  unfolding guide_refusal
  compared v r e = rw (eq-eqb (check_result t) 0 v, e)

  pub unchecked : (n : ℕ) → n ≡ check_result t → (n ≡ 0 → ⊥) → n ≡ guide_refusal t guide
  unfolding guide_refusal
  unchecked n e low = rw (← e, ne_eqb n 0 low)

-- The next entry compared.
pub next-right : (t guide : List ℕ) (from e w : ℕ) → ((i : ℕ) → from ≤ i → i < from + e → word_at guide (4 * i) ≡ get_or (guide_of t) i 0)
    → word_at guide (4 * (from + e)) ≡ w
    → w ≡ get_or (guide_of t) (from + e) 0 → (i : ℕ) → from ≤ i → i < from + (e + 1) → word_at guide (4 * i) ≡ get_or (guide_of t) i 0
next-right t guide from e w before read is i low high = go (lt-or-ge i (from + e))
  where
    go : (i < from + e) ⊎ (from + e ≤ i) → word_at guide (4 * i) ≡ get_or (guide_of t) i 0
    go (inl m) = before i low m
    go (inr m) = let q : from + e ≡ i = omega arith in rw q at (read ∙ is)

-- What the check of the tree says, accepted or refused.
pub check-passes : (t : List ℕ) (x : Result ⊤ Refusal) → result_refusal x ≡ check_result t → (u : ⊤) → x ≡ Ok u → check_result t ≡ 0
check-passes t x says u e = sym says ∙ ap result_refusal e

pub check-refuses : (t : List ℕ) (x : Result ⊤ Refusal) → result_refusal x ≡ check_result t → (q : Refusal) → x ≡ Err q
    → (refusal_number q ≡ check_result t) × (refusal_number q ≡ 0 → ⊥)
check-refuses t x says q e = (sym (ap result_refusal e) ∙ says, λ z. omega (arith, number-above q))

-- An accepted tree's header is not refused.
pub guide-not-refused : (t : List ℕ) (k : ℕ) → check_result t ≡ 0 → header_result t ≡ suc k → ⊥
guide-not-refused t k v e = let q : header_result t ≡ 0 = accepted-header t v in omega (arith, e, q)
