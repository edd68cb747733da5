-- The answers of build_scanned, case by case.
use mathlib.Core.List.{List, ◌++◌, append-nil}
use mathlib.Core.Bool.{Bool, true, false}
use mathlib.Core.Path.{◌≡◌, refl, sym, ap, ◌∙◌, subst}
use mathlib.Core.Logic.{◌⊎◌, inl, inr}
use Prim.Native.Nat.{ℕ, ◌≤◌, ◌<◌}
use lib.ListN.{length, drop, replicate}
use lib.Seq.{drop-length}
use lib.Dec.{leb, eqb}
use borrow.Author.Tests.{le-leb, lt-leb}
use Rattle.format.specs.Answers.{replied, build_refusal, build_size, build_buffer}
use Rattle.format.specs.Layout.{Settings, length_ok, sizes_ok, counted_ok, given}
use Rattle.format.specs.Blocks.{tree_of}
use Rattle.format.specs.TreeReading.{ask}
use Rattle.layout.specs.declared.settings.Settings as code
use Rattle.std.specs.Prelude.{Result, Ok, Err}
use Rattle.refusals.specs.declared.Refusal.{Refusal}
use Rattle.refusals.specs.declared.Refusal.TheVariants.{TextTooLong, SettingsOutOfBounds, CountedBytesWrong, TreeDoesNotFit, ScanTableTooShort}
use Rattle.refusals.specs.Refusals.{refusal_number}
use Rattle.layout.specs.CheckedSettings.{checked}
use Rattle.theory_built.specs.BlockSizes.{Taken}
use Rattle.build_by_search.proofs.BuildOutcomes as first
use Rattle.build_records.specs.WritesOnlyTree.{WritesOnlyTree}
use Rattle.build_records.specs.State.{record_settings_of}
use Rattle.build_levels.specs.Trees.{TreeComplete}
use Rattle.build_levels.proofs.WrittenTree.{finished-full, finished-whole}
use Rattle.build_by_scan.specs.ScanAnswers.{build_scanned_reply, build_scanned_refusal, scan_size, scan_windows}
use Rattle.build_by_scan.specs.ScanAnswers.{build_scanned_buffer, windows_of, table_words, TableLeft}

-- An answer, with what the buffer and the table hold afterwards.
pub record ScanOutcome (S : Settings) (T out W : List ℕ) (r : Result (ℕ × ℕ) Refusal) (new Z : List ℕ) : Type 0 where
  pub number : (replied (build_scanned_reply r)).number ≡ build_scanned_refusal S T out (length W)
  pub size : (replied (build_scanned_reply r)).value ≡ scan_size S T out (length W)
  pub windows : (replied (build_scanned_reply r)).entered ≡ scan_windows S T out (length W)
  pub buffer : new ≡ build_scanned_buffer S T out (length W)
  pub table : TableLeft (replied (build_scanned_reply r)).number W Z

module _ (S : Settings) (T out W : List ℕ) where
  -- Refused before anything is written.
  refused-by : (q : Refusal) → build_scanned_refusal S T out (length W) ≡ refusal_number q
      → eqb (refusal_number q) 0 ≡ false → eqb (refusal_number q) 4 ≡ false → ScanOutcome S T out W (Err q) out W
  unfolding scan_size scan_windows build_scanned_buffer
  refused-by q e a b = record {
    number = sym e;
    size = rw (e, a);
    windows = rw (e, a);
    buffer = rw (e, a, b);
    table = record { same_length = refl; untouched = λ _ _. refl };
  }

  pub refused-one : length_ok (length T) ≡ false → ScanOutcome S T out W (Err TextTooLong) out W
  unfolding build_scanned_refusal
  refused-one f = refused-by TextTooLong (rw f) refl refl

  pub refused-two : length_ok (length T) ≡ true → sizes_ok S ≡ false → ScanOutcome S T out W (Err SettingsOutOfBounds) out W
  unfolding build_scanned_refusal
  refused-two t f = refused-by SettingsOutOfBounds (rw (t, f)) refl refl

  pub refused-three : length_ok (length T) ≡ true → sizes_ok S ≡ true → counted_ok S.counted ≡ false → ScanOutcome S T out W (Err CountedBytesWrong) out W
  unfolding build_scanned_refusal
  refused-three t u f = refused-by CountedBytesWrong (rw (t, u, f)) refl refl

  module _ (h : Taken S T) where
    abbrev D : List ℕ
    D = tree_of S T

    pub refused-table : length W < table_words (length T) S.leaf → ScanOutcome S T out W (Err ScanTableTooShort) out W
    unfolding build_scanned_refusal
    refused-table l = refused-by ScanTableTooShort (rw (h.length-ok, h.sizes-ok, h.counted-ok, lt-leb (table_words (length T) S.leaf) (length W) l)) refl refl

    -- The table is long enough.
    module _ (room : table_words (length T) S.leaf ≤ length W) (Z : List ℕ) (same : length Z ≡ length W) where
      full : length out < length D → (new : List ℕ) → new ≡ replicate (length out) 0 → ScanOutcome S T out W (Err TreeDoesNotFit) new Z
      unfolding build_scanned_refusal scan_size scan_windows build_scanned_buffer
      full l new e =
          let n : build_scanned_refusal S T out (length W) ≡ 4 =
          rw (h.length-ok, h.sizes-ok, h.counted-ok, le-leb (table_words (length T) S.leaf) (length W) room, lt-leb (length D) (length out) l) in
          record { number = sym n; size = rw n; windows = rw n; buffer = rw n e; table = record { same_length = same; untouched = λ _ f. absurd (f refl) } }

      fits : length D ≤ length out → (w : ℕ) → w ≡ windows_of S T → (new : List ℕ) → new ≡ D ++ drop (length D) out
          → ScanOutcome S T out W (Ok (length D, w)) new Z
      unfolding build_scanned_refusal scan_size scan_windows build_scanned_buffer
      fits l w ew new e =
          let n : build_scanned_refusal S T out (length W) ≡ 0 =
          rw (h.length-ok, h.sizes-ok, h.counted-ok, le-leb (table_words (length T) S.leaf) (length W) room, le-leb (length D) (length out) l) in
          record { number = sym n; size = rw n; windows = rw n ew; buffer = rw n e; table = record { same_length = same; untouched = λ f _. absurd (f refl) } }

      -- What the writing of the tree came to.
      module _ (new : List ℕ) (g : WritesOnlyTree D out new) (r : ℕ) (f : TreeComplete D new r) where
        pub answer-full : r ≡ 0 → (last : List ℕ) → last ≡ replicate (length new) 0 ++ drop (length new) new → ScanOutcome S T out W (Err TreeDoesNotFit) last Z
        answer-full z last e = full (finished-full S T h out new g r f z)
            last (e ∙ rw (drop-length new) (append-nil (replicate (length new) 0)) ∙ ap (λ (k : ℕ). replicate k 0) g.same_length)

        pub answer-size : (r ≡ 0 → ⊥) → (w : ℕ) → w ≡ windows_of S T → ScanOutcome S T out W (Ok (r, w)) new Z
        answer-size n w ew =
            let p = finished-whole S T h out new g r f n in
            subst (λ (k : ℕ). ScanOutcome S T out W (Ok (k, w)) new Z) (sym p.0) (fits p.1 w ew new p.2)

module _ (m r H : ℕ) (cs T out W : List ℕ) (ok : length_ok (length T) ≡ true) (x : Result code.Settings Refusal) (is : x ≡ checked m r H cs) where
  abbrev S : Settings
  S = given m r H cs

  pub settings-refused : (q : Refusal) → x ≡ Err q → ScanOutcome S T out W (Err q) out W
  settings-refused q e = go (first.refused-is m r H cs T out ok x is q e)
    where
      go : ((q ≡ SettingsOutOfBounds) × (sizes_ok S ≡ false)) ⊎ ((q ≡ CountedBytesWrong) × (sizes_ok S ≡ true) × (counted_ok cs ≡ false))
          → ScanOutcome S T out W (Err q) out W
      go (inl (z, f)) = subst (λ (k : Refusal). ScanOutcome S T out W (Err k) out W) (sym z) (refused-two S T out W ok f)
      go (inr (z, f, g)) = subst (λ (k : Refusal). ScanOutcome S T out W (Err k) out W) (sym z) (refused-three S T out W ok f g)

  -- The settings that the code holds are those given.
  module _ (s : code.Settings) (e : x ≡ Ok s) where
    same : record_settings_of s cs ≡ S
    same = (first.fine-is m r H cs T out ok x is s e).2

    pub settings-answer : (b : Result (ℕ × ℕ) Refusal) (new Z : List ℕ)
        → (replied (build_scanned_reply b)).number ≡ build_scanned_refusal (record_settings_of s cs) T out (length W)
        → (replied (build_scanned_reply b)).value ≡ scan_size (record_settings_of s cs) T out (length W)
        → (replied (build_scanned_reply b)).entered ≡ scan_windows (record_settings_of s cs) T out (length W)
        → new ≡ build_scanned_buffer (record_settings_of s cs) T out (length W) → TableLeft (replied (build_scanned_reply b)).number W Z
        → ScanOutcome S T out W b new Z
    settings-answer b new Z n z w l t = record {
      number = n ∙ ap (λ (S : Settings). build_scanned_refusal S T out (length W)) same;
      size = z ∙ ap (λ (S : Settings). scan_size S T out (length W)) same;
      windows = w ∙ ap (λ (S : Settings). scan_windows S T out (length W)) same;
      buffer = l ∙ ap (λ (S : Settings). build_scanned_buffer S T out (length W)) same;
      table = t;
    }

-- Where the table is long enough, this builder's number, size and buffer are the first one's.

same_number : (a b c d e : Bool) → (ask 1 a (ask 2 b (ask 3 c (ask 18 d (ask 4 e 0)))) ≡ 18 → ⊥)
    → ask 1 a (ask 2 b (ask 3 c (ask 18 d (ask 4 e 0)))) ≡ ask 1 a (ask 2 b (ask 3 c (ask 4 e 0)))
same_number false b c d e n = refl
same_number true false c d e n = refl
same_number true true false d e n = refl
same_number true true true true e n = refl
same_number true true true false e n = absurd (n refl)

module _ (S : Settings) (T out : List ℕ) (words : ℕ) (long : build_scanned_refusal S T out words ≡ 18 → ⊥) where
  pub number_same : build_scanned_refusal S T out words ≡ build_refusal S T out
  unfolding build_scanned_refusal build_refusal
  number_same = same_number (length_ok (length T))
      (sizes_ok S) (counted_ok S.counted) (leb (table_words (length T) S.leaf) words) (leb (length (tree_of S T)) (length out)) long

  pub size_same : scan_size S T out words ≡ build_size S T out
  unfolding scan_size build_size
  size_same = rw number_same

  pub leaves-same : build_scanned_buffer S T out words ≡ build_buffer S T out
  unfolding build_scanned_buffer build_buffer
  leaves-same = rw number_same
