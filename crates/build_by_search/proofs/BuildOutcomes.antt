-- The answers of build, case by case.
use mathlib.Core.List.{List, ◌++◌, append-nil}
use mathlib.Core.Bool.{Bool, true, false, cond}
use mathlib.Core.Path.{◌≡◌, refl, sym, ap, ◌∙◌, subst}
use mathlib.Core.Logic.{◌⊎◌, inl, inr}
use Prim.Native.Nat.{ℕ, ◌≤◌, ◌<◌}
use lib.ListN.{length, drop, replicate}
use lib.Seq.{drop-length}
use lib.Dec.{eqb}
use borrow.Author.Tests.{le-leb, lt-leb}
use Rattle.format.specs.Answers.{replied, build_refusal, build_size, build_buffer}
use Rattle.format.specs.Layout.{Settings, length_ok, sizes_ok, counted_ok, max_text, given}
use Rattle.layout.specs.CheckedSettings.{sizes, checked}
use Rattle.format.specs.Blocks.{tree_of}
use Rattle.layout.specs.declared.settings.Settings as code
use Rattle.std.specs.Prelude.{Result, Ok, Err}
use Rattle.refusals.specs.declared.Refusal.{Refusal}
use Rattle.refusals.specs.declared.Refusal.TheVariants.{TextTooLong, SettingsOutOfBounds, CountedBytesWrong, TreeDoesNotFit}
use Rattle.refusals.specs.Refusals.{refusal_number}
use Rattle.theory_built.specs.BlockSizes.{Taken}
use Rattle.build_by_search.specs.BuildAnswer.{build_reply}
use Rattle.build_records.specs.WritesOnlyTree.{WritesOnlyTree}
use Rattle.build_records.specs.State.{record_settings_of}
use Rattle.build_levels.specs.Trees.{TreeComplete}
use Rattle.build_levels.proofs.WrittenTree.{finished-full, finished-whole}

-- An answer, with what the buffer holds afterwards.
pub record BuildOutcome (S : Settings) (T out : List ℕ) (r : Result ℕ Refusal) (new : List ℕ) : Type 0 where
  pub number : (replied (build_reply r)).number ≡ build_refusal S T out
  pub size : (replied (build_reply r)).value ≡ build_size S T out
  pub buffer : new ≡ build_buffer S T out

module _ (S : Settings) (T out : List ℕ) where
  -- Refused before anything is written.
  refused-by : (q : Refusal) → build_refusal S T out ≡ refusal_number q → eqb (refusal_number q) 0 ≡ false → eqb (refusal_number q) 4 ≡ false
      → BuildOutcome S T out (Err q) out
  unfolding build_size build_buffer
  refused-by q e a b = record { number = sym e; size = rw (e, a); buffer = rw (e, a, b) }

  pub refused-one : length_ok (length T) ≡ false → BuildOutcome S T out (Err TextTooLong) out
  unfolding build_refusal
  refused-one f = refused-by TextTooLong (rw f) refl refl

  pub refused-two : length_ok (length T) ≡ true → sizes_ok S ≡ false → BuildOutcome S T out (Err SettingsOutOfBounds) out
  unfolding build_refusal
  refused-two t f = refused-by SettingsOutOfBounds (rw (t, f)) refl refl

  pub refused-three : length_ok (length T) ≡ true → sizes_ok S ≡ true → counted_ok S.counted ≡ false → BuildOutcome S T out (Err CountedBytesWrong) out
  unfolding build_refusal
  refused-three t u f = refused-by CountedBytesWrong (rw (t, u, f)) refl refl

  module _ (h : Taken S T) where
    abbrev D : List ℕ
    D = tree_of S T

    pub full : length out < length D → (new : List ℕ) → new ≡ replicate (length out) 0 → BuildOutcome S T out (Err TreeDoesNotFit) new
    unfolding build_refusal build_size build_buffer
    full l new e =
        let n : build_refusal S T out ≡ 4 = rw (h.length-ok, h.sizes-ok, h.counted-ok, lt-leb (length D) (length out) l) in
        record { number = sym n; size = rw n; buffer = rw n e }

    pub built-fits : length D ≤ length out → (new : List ℕ) → new ≡ D ++ drop (length D) out → BuildOutcome S T out (Ok (length D)) new
    unfolding build_refusal build_size build_buffer
    built-fits l new e =
        let n : build_refusal S T out ≡ 0 = rw (h.length-ok, h.sizes-ok, h.counted-ok, le-leb (length D) (length out) l) in
        record { number = sym n; size = rw n; buffer = rw n e }

    -- What the writing of the tree came to.
    module _ (new : List ℕ) (g : WritesOnlyTree D out new) (r : ℕ) (f : TreeComplete D new r) where
      pub answered-full : r ≡ 0 → (last : List ℕ) → last ≡ replicate (length new) 0 ++ drop (length new) new → BuildOutcome S T out (Err TreeDoesNotFit) last
      answered-full z last e = full (finished-full S T h out new g r f z)
          last (e ∙ rw (drop-length new) (append-nil (replicate (length new) 0)) ∙ ap (λ (k : ℕ). replicate k 0) g.same_length)

      pub answered-size : (r ≡ 0 → ⊥) → BuildOutcome S T out (Ok r) new
      answered-size n =
          let w = finished-whole S T h out new g r f n in
          subst (λ (k : ℕ). BuildOutcome S T out (Ok k) new) (sym w.0) (built-fits w.1 new w.2)

-- Questions 1 to 3.

pub many-bytes : (T : List ℕ) → max_text < length T → length_ok (length T) ≡ false
unfolding length_ok
many-bytes T m = lt-leb (length T) max_text m

pub few_bytes : (T : List ℕ) → length T ≤ max_text → length_ok (length T) ≡ true
unfolding length_ok
few_bytes T m = le-leb (length T) max_text m

module _ (m r H : ℕ) (cs T out : List ℕ) (ok : length_ok (length T) ≡ true) (x : Result code.Settings Refusal) (is : x ≡ checked m r H cs) where
  abbrev S : Settings
  S = given m r H cs

  sizes-same : sizes_ok S ≡ sizes_ok (sizes m r H)
  unfolding sizes_ok
  sizes-same = refl

  module _ (a b : Bool) (a_is : sizes_ok (sizes m r H) ≡ a) (b_is : counted_ok cs ≡ b) where
    by_cases : x ≡ cond a (cond b (Ok (record { leaf = m; arity = r; levels = H; counted = length cs })) (Err CountedBytesWrong)) (Err SettingsOutOfBounds)
    unfolding checked
    by_cases = is ∙ rw (a_is, b_is)

  -- Which question refuses the settings.
  pub refused-is : (q : Refusal) → x ≡ Err q
      → ((q ≡ SettingsOutOfBounds) × (sizes_ok S ≡ false)) ⊎ ((q ≡ CountedBytesWrong) × (sizes_ok S ≡ true) × (counted_ok cs ≡ false))
  refused-is q e = go (sizes_ok (sizes m r H)) (counted_ok cs) refl refl
    where
      go : (a b : Bool) → sizes_ok (sizes m r H) ≡ a → counted_ok cs ≡ b
          → ((q ≡ SettingsOutOfBounds) × (sizes_ok S ≡ false)) ⊎ ((q ≡ CountedBytesWrong) × (sizes_ok S ≡ true) × (counted_ok cs ≡ false))
      go false b f g = let z = sym e ∙ by_cases false b f g in inl (cc, sizes-same ∙ f)
      go true false f g = let z = sym e ∙ by_cases true false f g in inr (cc, sizes-same ∙ f, g)
      go true true f g = let z = sym e ∙ by_cases true true f g in cc

  pub settings-refused : (q : Refusal) → x ≡ Err q → BuildOutcome S T out (Err q) out
  settings-refused q e = go (refused-is q e)
    where
      go : ((q ≡ SettingsOutOfBounds) × (sizes_ok S ≡ false)) ⊎ ((q ≡ CountedBytesWrong) × (sizes_ok S ≡ true) × (counted_ok cs ≡ false))
          → BuildOutcome S T out (Err q) out
      go (inl (z, f)) = subst (λ (k : Refusal). BuildOutcome S T out (Err k) out) (sym z) (refused-two S T out ok f)
      go (inr (z, f, g)) = subst (λ (k : Refusal). BuildOutcome S T out (Err k) out) (sym z) (refused-three S T out ok f g)

  module _ (s : code.Settings) (e : x ≡ Ok s) where
    pub fine-is : (sizes_ok S ≡ true) × (counted_ok cs ≡ true) × (record_settings_of s cs ≡ S)
    fine-is = go (sizes_ok (sizes m r H)) (counted_ok cs) refl refl
      where
        same : (u : code.Settings) → ◌≡◌ {A = Result code.Settings Refusal} (Ok s) (Ok u) → s ≡ u
        same u e = cc

        go : (a b : Bool) → sizes_ok (sizes m r H) ≡ a → counted_ok cs ≡ b → (sizes_ok S ≡ true) × (counted_ok cs ≡ true) × (record_settings_of s cs ≡ S)
        go false b f g = let z = sym e ∙ by_cases false b f g in cc
        go true false f g = let z = sym e ∙ by_cases true false f g in cc
        go true true f g = (
          sizes-same ∙ f,
          g,
          ap (λ (u : code.Settings). record_settings_of u cs)
              (same (record { leaf = m; arity = r; levels = H; counted = length cs }) (sym e ∙ by_cases true true f g)),
        )

    pub settings-taken : Taken (record_settings_of s cs) T
    settings-taken = rw fine-is.2 (record { length-ok = ok; sizes-ok = fine-is.0; counted-ok = fine-is.1 })

    pub settings-answered : (b : Result ℕ Refusal) (new : List ℕ) → (replied (build_reply b)).number ≡ build_refusal (record_settings_of s cs) T out
        → (replied (build_reply b)).value ≡ build_size (record_settings_of s cs) T out
        → new ≡ build_buffer (record_settings_of s cs) T out → BuildOutcome S T out b new
    settings-answered b new n z l = record {
      number = n ∙ ap (λ (S : Settings). build_refusal S T out) fine-is.2;
      size = z ∙ ap (λ (S : Settings). build_size S T out) fine-is.2;
      buffer = l ∙ ap (λ (S : Settings). build_buffer S T out) fine-is.2;
    }
