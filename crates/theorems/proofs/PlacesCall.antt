-- places(tree, pattern, table): all places of a pattern, written to the caller's table of words.
use Rattle.std.specs.Prelude.{Ok, Err}
use Rattle.refusals.specs.Refusals.{refusal_number}
use mathlib.Core.List.{List, [], ◌∷◌, ◌++◌}
use mathlib.Core.Option.{some}
use mathlib.Core.Bool.{true, ◌&&◌, Bool}
use mathlib.Core.Path.{◌≡◌, sym, ap, ◌∙◌, refl}
use Prim.Native.Nat.{ℕ, ◌+◌, ◌≤◌, ◌<◌}
use native.Mathlib.Omega.{arith}
use contract.Lifetimes.{Lfts}
use lib.ListN.{length, get_or, drop}
use lib.Dec.{leb}
use borrow.Author.Tests.{ne_eqb, leb-true}
use Rattle.text.specs.ListLaws.{and_left, and_right}
use Rattle.format.specs.Layout as at
use Rattle.format.specs.TreeReading.{Path, path_of, links_ok, text_of, header_result, check_result, asks}
use Rattle.format.specs.CheckResultLaws.{accepted-header, accepted-links}
use Rattle.format.specs.Answers.{Answer, paths_hold}
use Rattle.format.specs.LayoutLaws.{header-facts}
use Rattle.format.specs.AnswerLaws.{unless-passes, unless-number, next-passes, asks-pass}
use Rattle.theory_paths.specs.Theorems as paths
use Rattle.theory_paths.specs.PlaceBytes.{hold_at, path-there}
use Rattle.theory_paths.specs.Reads.{text-of-path}
use Rattle.query_places.specs.PlacesLaws.{places-all, AllPlaces}
use Rattle.query_places.proofs.Theorems as patterns
use Rattle.query_places.specs.Places.{max_pattern, places_in, pattern_ok, places_of, places_refusal, places_answer, places_buffer}
use Rattle.theorems.specs.CallContracts.{Refusal}
use Rattle.theorems.specs.Promises.{PlacesAnswers, PlacesRefuses}
use Rattle.theorems.specs.PublicFunctions.{places_function}
use Rattle.theorems.proofs.PublicCall.{Call, Borrowed, BorrowedMut, call}
use Rattle.theorems.proofs.RefusalNumbers.{OneOf, asks-one, not-zero, header-one, then_one}
use Rattle.query_places.proofs.places.Met as places-met
-- What the contract allows, where the table is left as `after`: `Places κs tree pattern table after r`.
pub use Rattle.theorems.specs.CallContracts.{Places}

abbrev pub places_call : Call
places_call = call places_function places-met.met (λ 𝓤 𝓛 mem run κs a. (tt, refl))

-- For any bytes.

-- What is known where no question refuses.
record CallPassed (t P : List ℕ) (room : ℕ) : Type 0 where
  pass : header_result t ≡ 0
  low : 1 ≤ length P
  high : length P ≤ max_pattern
  hold : paths_hold t 0 (at.text_length t) ≡ true
  fits : length (places_of t P) ≤ room

passed : (t P : List ℕ) (room : ℕ) → places_refusal t P room ≡ 0 → CallPassed t P room
unfolding places_refusal pattern_ok
passed t P room h =
    let long = leb 1 (length P) && leb (length P) max_pattern in
    let questions : List (ℕ × Bool) = (16, long) ∷ (14, paths_hold t 0 (at.text_length t)) ∷ (17, leb (length (places_of t P)) room) ∷ [] in
    let a = next-passes (header_result t) (asks questions) h in
    let b = asks-pass questions refl a.1 in
    record {
      pass = a.0;
      low = leb-true 1 (length P) (and_left (leb 1 (length P)) (leb (length P) max_pattern) b.0);
      high = leb-true (length P) max_pattern (and_right (leb 1 (length P)) (leb (length P) max_pattern) b.0);
      hold = b.1.0;
      fits = leb-true (length (places_of t P)) room b.1.1.0;
    }

-- The numbers that the questions can give.
places-one : (t P : List ℕ) (room : ℕ) → OneOf (5 ∷ 6 ∷ 7 ∷ 16 ∷ 14 ∷ 17 ∷ 0 ∷ []) (places_refusal t P room)
unfolding places_refusal
places-one t P room =
    then_one (5 ∷ 6 ∷ 7 ∷ []) (16 ∷ 14 ∷ 17 ∷ 0 ∷ []) (header_result t) _ (header-one t)
    (asks-one ((16, pattern_ok P) ∷ (14, paths_hold t 0 (at.text_length t)) ∷ (17, leb (length (places_of t P)) room) ∷ []))

module _ (κs : Lfts 3) (t P : Borrowed) (table after : BorrowedMut) where
  -- The result is the number of all places in the bytes that the tree's paths give, none of which breaks. The places fit the table and are at its start, and
  -- the words after them are unchanged.
  pub places-answer : (n : ℕ) → Places κs t P table after (Ok n)
      → (ps : List ℕ) × AllPlaces P.now (text_of t.now) ps × (n ≡ length ps) × (n ≤ length table.now) × (after.now ≡ ps ++ drop n table.now)
      × ((p : ℕ) → p < at.text_length t.now → (q : Path) × (path_of t.now p ≡ some q) × (get_or (text_of t.now) p 0 ≡ at.leaf_byte t.now q.leaf))
  unfolding places_answer places_buffer places_of
  places-answer n a =
      let ps = places_in P.now (text_of t.now) in
      let number = places_refusal t.now P.now (length table.now) in
      let z : number ≡ 0 = (unless-passes number _ (sym (ap (λ (s : Answer). s.number) a.0.answers))).0 in
      let e : n ≡ length ps = ap (λ (s : Answer). s.value) a.0.answers ∙ rw z in
      let k = passed t.now P.now (length table.now) z in (
        ps,
        places-all P.now (text_of t.now) k.low,
        e,
        rw e k.fits,
        rw e (a.1 ∙ rw z),
        λ p low.
            let z : 0 + p ≡ p = omega arith in
            let w = path-there t.now k.pass p low (rw z at (hold_at t.now (at.text_length t.now) 0 p k.hold low)) in
            (w.0, w.1, text-of-path t.now (header-facts t.now k.pass) k.pass p low w.0 w.1),
      )

  module _ (q : Refusal) (a : Places κs t P table after (Err q)) where
    -- The number is the definition's.
    places-answers : refusal_number q ≡ places_refusal t.now P.now (length table.now)
    unfolding places_answer
    places-answers = ap (λ (s : Answer). s.number) a.0.answers ∙ unless-number (places_refusal t.now P.now (length table.now)) _ refl

    -- A refusal is 5, 6, 7, 16, 14 or 17.
    pub places-numbers : OneOf (5 ∷ 6 ∷ 7 ∷ 16 ∷ 14 ∷ 17 ∷ []) (refusal_number q)
    places-numbers =
        not-zero (5 ∷ 6 ∷ 7 ∷ 16 ∷ 14 ∷ 17 ∷ []) (refusal_number q) a.0.numbered (rw places-answers (places-one t.now P.now (length table.now)))

    -- A refusal leaves the table unchanged.
    pub places-unchanged : after.now ≡ table.now
    unfolding places_buffer
    places-unchanged = a.1 ∙ rw (← places-answers, ne_eqb (refusal_number q) 0 (λ e. omega (arith, a.0.numbered)))

-- Any tree that the check accepts, and the one text that fits it.
module _ (t : Borrowed) (v : check_result t.now ≡ 0) where
  pass : header_result t.now ≡ 0
  pass = accepted-header t.now v

  links : links_ok t.now ≡ true
  links = accepted-links t.now v

  pub accepted-answers : PlacesAnswers t (at.settings t.now) (text_of t.now)
  accepted-answers = record {
    places-of = λ κs P table after r a low high ps e room.
        let w = patterns.places-written κs t P table after r a pass low high (paths.no-path-breaks t.now pass links) (rw e at room) in
        rw e (places-all P.now (text_of t.now) low, w.0, w.1);
  }

  pub accepted-refuses : PlacesRefuses t (at.settings t.now) (text_of t.now)
  accepted-refuses = record {
    places_length = λ κs P table after r a wrong. patterns.places_length κs t P table after r a pass wrong;
    places_short = λ κs P table after r a low high short.
        patterns.places_short κs t P table after r a pass low high (paths.no-path-breaks t.now pass links) short;
  }
