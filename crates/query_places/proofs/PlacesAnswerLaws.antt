-- The places of a pattern: each refusal, and the table afterwards.
use Rattle.std.specs.Prelude.{Option, Some, None, Result, Ok, Err}
use Rattle.std.specs.Option.{ok_or}
use Rattle.refusals.specs.declared.Refusal.{Refusal}
use Rattle.refusals.specs.declared.Refusal.TheVariants.{PathBroken}
use Rattle.refusals.specs.Refusals.{refusal_number}
use mathlib.Core.List.{List, ◌++◌}
use mathlib.Core.Bool.{Bool, true, false, cond}
use mathlib.Core.Path.{◌≡◌, refl, sym, ap, ◌∙◌}
use Prim.Native.Nat.{ℕ, suc, ◌+◌, ◌-◌, ◌≤◌, ◌<◌}
use native.Mathlib.Omega.{arith}
use borrow.Author.Tests.{le-leb, lt-leb, ne_eqb}
use lib.ListN.{length, take, drop}
use lib.Dec.{leb}
use Rattle.text.specs.ListLaws.{bool_clash}
use Rattle.format.specs.Layout as at
use Rattle.format.specs.TreeReading.{links_ok, ask, header_result}
use Rattle.format.specs.Answers.{Answer, refused, NeverZero, replied, paths_hold}
use Rattle.theory_paths.specs.Theorems.{paths-all}
use Rattle.layout.specs.declared.header.Header.{Header}
use Rattle.layout.specs.Header.{header_answer}
use Rattle.layout.specs.HeaderFields.{header_refused}
use Rattle.query_places.specs.Places.{max_pattern, pattern_ok, places_of, places_refusal, places_answer, places_buffer, places_reply, IsPlacesAnswer}
use Rattle.query_places.specs.TableFilled.{SeekAnswer}
use Rattle.query_places.proofs.FillLaws.{filled-all, filled-take}
use Rattle.query_places.proofs.RoomLaws.{places-few}

-- s and after are the answer and the table afterwards.
pub record Listed (t P table : List ℕ) (s : Answer) (after : List ℕ) : Type 0 where
  pub answers : s ≡ places_answer t P (length table)
  pub leaves : after ≡ places_buffer t P table

pub places-answered : (t P table after : List ℕ) (r : Result ℕ Refusal) → NeverZero (places_reply r) → Listed t P table (replied (places_reply r)) after
    → IsPlacesAnswer t P (length table) r × (after ≡ places_buffer t P table)
places-answered t P table after r numbered k = (record { answers = k.answers; numbered = numbered }, k.leaves)

-- The result of a pass.
all-cases : (b : Bool) (x n : ℕ) → Some n ≡ cond b (Some x) None → (b ≡ true) × (n ≡ x)
all-cases true x n e = (refl, cc)
all-cases false x n e = absurd (let z : ◌≡◌ {A = ℕ} 0 1 = cc in omega arith)

broken-cases : (b : Bool) (x : ℕ) → None ≡ cond b (Some x) None → b ≡ false
broken-cases true x e = absurd (let z : ◌≡◌ {A = ℕ} 0 1 = cc in omega arith)
broken-cases false x e = refl

module _ (t P table : List ℕ) where
  -- Refused: the table stays.
  number-leaves : (q : ℕ) → places_refusal t P (length table) ≡ suc q → Listed t P table (refused (suc q)) table
  unfolding places_answer places_buffer
  number-leaves q e = record { answers = rw e; leaves = rw (e, ne_eqb (suc q) 0 (λ z. omega arith)) }

  -- A tree that does not pass questions 5 to 7.
  pub unread : (x : Result Header Refusal) → x ≡ header_answer t → (q : Refusal) → x ≡ Err q → Listed t P table (refused (refusal_number q)) table
  unfolding places_refusal
  unread x x-is q e =
      let z = header_refused t x x-is q e in
      let n : places_refusal t P (length table) ≡ suc z.0 = rw (ne_eqb (header_result t) 0 (λ y. omega arith)) z.1 in
      rw z.2 (number-leaves z.0 n)

  -- One that does.
  module _ (passes : header_result t ≡ 0) where
    -- A pattern of no length.
    wrong-length : pattern_ok P ≡ false → Listed t P table (refused 16) table
    unfolding places_refusal
    wrong-length e = number-leaves 15 (rw (passes, e))

    pub no_byte : length P < 1 → Listed t P table (refused 16) table
    unfolding pattern_ok
    no_byte h = wrong-length (rw (lt-leb 1 (length P) h))

    pub too_long : 1 ≤ length P → max_pattern < length P → Listed t P table (refused 16) table
    unfolding pattern_ok
    too_long low h = wrong-length (rw (le-leb 1 (length P) low, lt-leb (length P) max_pattern h))

    -- Question 16.
    module _ (low : 1 ≤ length P) (high : length P ≤ max_pattern) where
      number-asked : places_refusal t P (length table) ≡ ask 14 (paths_hold t 0 (at.text_length t)) (ask 17 (leb (length (places_of t P)) (length table)) 0)
      unfolding places_refusal pattern_ok
      number-asked = rw (passes, le-leb 1 (length P) low, le-leb (length P) max_pattern high)

      -- The first pass, which leaves the table alone.
      module _ (room : ℕ) (zeros few : List ℕ) (x : Option ℕ) (k : SeekAnswer t P room zeros x few) where
        pub path-breaks : x ≡ None → Listed t P table (refused 14) table
        path-breaks e =
            let b = broken-cases (paths_hold t 0 (at.text_length t)) (length (places_of t P)) (sym e ∙ k.answers) in
            number-leaves 13 (number-asked ∙ rw b)

        module _ (n : ℕ) (e : x ≡ Some n) where
          all : (paths_hold t 0 (at.text_length t) ≡ true) × (n ≡ length (places_of t P))
          all = all-cases (paths_hold t 0 (at.text_length t)) (length (places_of t P)) n (sym e ∙ k.answers)

          pub no_room : length table < n → Listed t P table (refused 17) table
          no_room short = number-leaves 16 (number-asked ∙ rw (all.0, lt-leb (length (places_of t P)) (length table) (omega (arith, all.1))))

          module _ (fits : n ≤ length table) where
            written : (last : List ℕ) → last ≡ places_of t P ++ drop n table → Listed t P table (record { number = 0; value = n; entered = 0 }) last
            unfolding places_answer places_buffer
            written last is =
                let z : places_refusal t P (length table) ≡ 0 =
                number-asked ∙ rw (all.0, le-leb (length (places_of t P)) (length table) (omega (arith, all.1))) in
                record { answers = rw (z, all.1); leaves = rw z (rw all.1 at is) }

            -- few places, kept in the first pass
            pub written-few : n ≤ room
                → (last : List ℕ) → last ≡ take n few ++ drop n table → Listed t P table (record { number = 0; value = n; entered = 0 }) last
            written-few small last is =
                let kept : take n few ≡ places_of t P = rw (k.table_is all.0, all.1) (filled-take (places_of t P) room zeros (omega (arith, all.1))) in
                written last (rw kept at is)

            -- many, written in the second
            pub written_all : (y : Option ℕ) (last : List ℕ) → SeekAnswer t P n table y last
                → Listed t P table (record { number = 0; value = n; entered = 0 }) last
            written_all y last w =
                written last (w.table_is all.0
                ∙ filled-all (places_of t P) n table (omega (arith, all.1)) ∙ ap (λ (m : ℕ). places_of t P ++ drop m table) (sym all.1))

      -- One pass, with room for all places that there can be.
      pub no-break : (room : ℕ) (before last : List ℕ) (x : Option ℕ) → SeekAnswer t P room before x last → links_ok t ≡ true → x ≡ None → ⊥
      no-break room before last x k linked e =
          bool_clash _ (paths-all t passes linked 0 (at.text_length t) (omega arith))
          (broken-cases (paths_hold t 0 (at.text_length t)) (length (places_of t P)) (sym e ∙ k.answers))

      pub written_once : (room : ℕ) (last : List ℕ) (x : Option ℕ) → SeekAnswer t P room table x last → (n : ℕ) → x ≡ Some n
          → room ≡ at.text_length t + 1 - length P → room ≤ length table → Listed t P table (record { number = 0; value = n; entered = 0 }) last
      written_once room last x k n e is fits =
          let few : length (places_of t P) ≤ room = omega (arith, places-few t P low) in
          let a = all room table last x k n e in
          written room table last x k n e (omega (arith, a.1)) last (k.table_is a.0
          ∙ filled-all (places_of t P) room table few ∙ ap (λ (m : ℕ). places_of t P ++ drop m table) (sym a.1))

      pub once-answered : (room : ℕ) (last : List ℕ) (x : Option ℕ) → SeekAnswer t P room table x last → links_ok t ≡ true
          → room ≡ at.text_length t + 1 - length P → room ≤ length table
          → IsPlacesAnswer t P (length table) (ok_or x PathBroken) × (last ≡ places_buffer t P table)
      once-answered room last None k linked is fits = absurd (no-break room table last None k linked refl)
      once-answered room last (Some n) k linked is fits =
          places-answered t P table last (Ok n) tt (written_once room last (Some n) k n refl is fits)
