-- Level 0: the first level of the tree, and the words written before its records.
use mathlib.Core.List.{List}
use mathlib.Core.Path.{◌≡◌, refl, sym, ap, ◌∙◌, subst}
use Prim.Native.Nat.{ℕ, ◌+◌, ◌-◌, ◌*◌, ◌/◌, ◌^◌, ◌≤◌, ◌<◌}
use native.Mathlib.Omega.{arith}
use native.Mathlib.Nat.{mul-div_right, one-le-pow, mul-le-mul}
use lib.ListN.{length}
use Rattle.text.specs.Text.{sum_below}
use Rattle.format.specs.Layout.{Settings, block_length, pieces, max_text, pairs_at, count_at, header_length}
use Rattle.format.specs.SizeLaws.{sizes-alone}
use Rattle.format.specs.Blocks.{tree_of, record_bytes}
use Rattle.layout.specs.declared.settings.Settings as code
use Rattle.layout.specs.SettingsLevel.{Sized}
use Rattle.theory_built.specs.BuiltBytes.{BytesAt}
use Rattle.theory_built.specs.BlockSizes.{Taken, BuiltBounds, bounds, size-falls}
use Rattle.theory_built.specs.Structure.{count, start, count-top, start-top}
use Rattle.theory_built.specs.Pairs.{offset}
use Rattle.build_records.specs.declared.level_written.Level.{Level}
use Rattle.build_records.specs.WritesOnlyTree.{WritesOnlyTree, AgreesOn}
use Rattle.build_records.specs.RecordPlaces.{record_place}
use Rattle.build_records.specs.WrittenStarts.{starts_written, StartsAsk}
use Rattle.build_records.specs.State.{record_settings_of, LevelIs, RecordsUpTo, place_at}
use Rattle.std.proofs.Common.{Some, None}
use Rattle.build_levels.specs.Trees.{level_first_of, LevelReady, StepIs}
use Rattle.build_records.proofs.WritesOnlyTreeLaws.{only-tree-trans, agrees-only-tree, within_none}
use Rattle.build_records.proofs.BelowLaws.{pieces-most}
use Rattle.build_records.proofs.WrittenStartsLaws.{starts-only-tree, starts-within}
use Rattle.build_records.proofs.StateLaws.{record-size, place_is, place_end, record-inside-table, table-inside}
use Rattle.build_records.proofs.StateLaws.{offset-low, size-high, start-bytes, RecordFew, record-few}

-- A step that came to a level, and one that found no room for it.
module _ (S : Settings) (T out : List ℕ) (s : code.Settings) (number : ℕ) where
  pub step-ready : (n : Level) → (n.settings ≡ s) × (n.number ≡ number) × LevelReady S T out n → StepIs S T out s number (Some n)
  step-ready n p = record {
    to = λ next e. subst (λ (m : Level). (m.settings ≡ s) × (m.number ≡ number) × LevelReady S T out m) (same next e) p;
    full = λ e. absurd (differ e);
  }
    where
      same : (next : Level) → Some n ≡ Some next → n ≡ next
      same next e = cc

      differ : Some n ≡ None → ⊥
      differ e = let z : ◌≡◌ {A = ℕ} 0 1 = cc in omega arith

  pub step-none : length out < length (tree_of S T) → StepIs S T out s number None
  step-none k = record { to = λ next e. absurd (differ next e); full = λ e. k }
    where
      differ : (next : Level) → None ≡ Some next → ⊥
      differ next e = let z : ◌≡◌ {A = ℕ} 0 1 = cc in omega arith

pub divided : (r a b : ℕ) → 0 < r → a ≡ r * b → a / r ≡ b
divided r a b pos e = rw e (mul-div_right b pos)

table-zero : (S : Settings) (T : List ℕ) → header_length ≡ offset S T 0
unfolding offset sum_below
table-zero S T = omega arith

module _ (s : code.Settings) (cs T : List ℕ) (h : Taken (record_settings_of s cs) T) where
  abbrev S₀ : Settings
  S₀ = record_settings_of s cs

  limits₀ : BuiltBounds S₀ T
  limits₀ = bounds S₀ T h

  pub first-sized : Sized s 0
  first-sized = record {
    bounds = sizes-alone limits₀;
    level_in = limits₀.levels_low;
  }

  size-zero : (level_first_of s (length T)).size ≡ block_length S₀ 0
  unfolding block_length
  size-zero = refl

  first-is : LevelIs S₀ T (level_first_of s (length T))
  first-is = record {
    taken = h;
    number_in = limits₀.levels_low;
    leaf_is = refl;
    above_low = omega arith;
    above_is = λ k e. absurd (let z : ⊥ = omega arith in z);
    size_is = size-zero;
    below_is = λ up. divided s.arity
        (level_first_of s (length T)).size (block_length S₀ 1) (omega (arith, limits₀.arity_low)) (size-zero ∙ size-falls S₀ T h 0 up);
    count_is = ap (λ (b : ℕ). pieces (length T) b) size-zero ∙ sym (count-top S₀ T h);
    table_is = table-zero S₀ T;
  }

-- The preconditions of the first level.
pub sized-pos : (s : code.Settings) → Sized s 0 → 1 ≤ s.leaf → 0 < s.leaf * s.arity ^ (s.levels - 1 - 0)
sized-pos s z one = mul-le-mul {n₁ = 1} {m₁ = 1} one (one-le-pow (s.levels - 1 - 0) s.arity (omega (arith, z.bounds.arity_low)))

pub sized-high : (s : code.Settings) → Sized s 0 → s.leaf * s.arity ^ (s.levels - 1 - 0) ≤ max_text
sized-high s z = let e : s.levels - 1 - 0 ≡ s.levels - 1 = omega arith in rw e z.bounds.top_high

pub first_made : (s : code.Settings) (n b p : ℕ) → b ≡ s.leaf * s.arity ^ (s.levels - 1 - 0) → p ≡ pieces n b
    → record { settings = s; number = 0; above = 1; size = b; below = b / s.arity; count = p; table = header_length } ≡ level_first_of s n
first_made s n b p e f = rw (f, e)

-- The level that the code makes, and what is written.
module _ (s : code.Settings) (cs T : List ℕ) (h : Taken (record_settings_of s cs) T) (first : Level) (first-eq : first ≡ level_first_of s (length T)) where
  abbrev S : Settings
  S = record_settings_of s cs

  abbrev D : List ℕ
  D = tree_of S T

  limits : BuiltBounds S T
  limits = bounds S T h

  level-first : LevelIs S T first
  level-first = rw first-eq (first-is s cs T h)

  number-first : first.number ≡ 0
  number-first = rw first-eq

  settings-first : first.settings ≡ s
  settings-first = rw first-eq

  pub few-first : RecordFew S T first
  few-first = record-few S T first level-first

  count-first : first.count ≡ count S T 0
  count-first = level-first.count_is ∙ ap (count S T) number-first

  size-first : first.size ≡ block_length S 0
  size-first = level-first.size_is ∙ ap (block_length S) number-first

  end-first : record_place first.table first.count (record_settings_of first.settings cs) ≡ offset S T 1
  end-first =
      place_is S T first level-first first.count ∙ rw (number-first, count-first) (place_end S T 0)

  module _ (out : List ℕ) (p : ℕ) (p-is : p ≡ record_place first.table first.count (record_settings_of first.settings cs)) where
    pub no-first : length out < p → StepIs S T out s 0 None
    no-first k = step-none S T out s 0 (omega (arith, p-is, end-first, table-inside S T h 0 limits.levels_low))

    module _ (room : p ≤ length out) where
      room-first : offset S T 1 ≤ length out
      room-first = omega (arith, end-first)

      pub long-first : header_length ≤ length out
      long-first = omega (arith, room-first, offset-low S T 1)

      module _ (one : List ℕ) (g : WritesOnlyTree D out one) (header : AgreesOn D one 0 pairs_at) (step : ℕ) (step_is : step ≡ record_bytes S) where
        room-one : offset S T 1 ≤ length one
        room-one = omega (arith, room-first, g.same_length)

        pub starts_first : StartsAsk one header_length step 0 first.size first.count
        starts_first = record {
          room = rw (step_is, count-first) (omega (arith, table-zero S T, place_end S T 0, room-one));
          step_low = omega (arith, step_is, record-size S T);
          step_few = omega (arith, step_is, record-size S T, limits.counted_high, limits.leaf_high);
          at_few = omega arith;
          count_few = few-first.count_few;
          ends = rw (count-first, size-first, count-top S T h) (omega (arith, pieces-most (length T) (block_length S 0), limits.text_high, size-high S T h 0));
        }

        module _ (two : List ℕ) (two_is : two ≡ starts_written one header_length step 0 first.size first.count) where
          two-right : two ≡ starts_written one header_length (record_bytes S) 0 (block_length S 0) (count S T 0)
          two-right = two_is ∙ rw (step_is, size-first, count-first)

          at_place : (j : ℕ) → header_length + j * record_bytes S ≡ place_at S T 0 j
          at_place j = omega (arith, table-zero S T)

          start-bytes-at : (j : ℕ) → j < count S T 0 → BytesAt D (header_length + j * record_bytes S) (0 + j * block_length S 0)
          start-bytes-at j k =
              let e : start S T 0 j ≡ 0 + j * block_length S 0 = start-top S T h j k ∙ omega arith in
              rw (at_place j, ← e) (start-bytes S T h 0 j limits.levels_low k)

          in_table : (j : ℕ) → j < count S T 0 → header_length + j * record_bytes S + 4 ≤ offset S T 1
          in_table j k = omega (arith, at_place j, record-inside-table S T 0 j k, record-size S T)

          fits : (j : ℕ) → j < count S T 0 → header_length + j * record_bytes S + 4 ≤ length one
          fits j k = omega (arith, in_table j k, room-one)

          inside : (j : ℕ) → j < count S T 0 → header_length + j * record_bytes S + 4 ≤ length D
          inside j k = omega (arith, in_table j k, table-inside S T h 0 limits.levels_low)

          two-only-tree : WritesOnlyTree D one two
          two-only-tree = rw two-right (starts-only-tree D
              one header_length (record_bytes S) 0 (block_length S 0) (count S T 0) start-bytes-at fits inside (count S T 0) (omega arith))

          pub first-only-tree : WritesOnlyTree D out two
          first-only-tree = only-tree-trans D out one two g two-only-tree

          started : (x : ℕ) → x < count S T 0 → AgreesOn D two (place_at S T 0 x) (place_at S T 0 x + 4)
          started x k = rw (← at_place x, two-right)
              (starts-within D one header_length (record_bytes S) 0 (block_length S 0) (count S T 0) start-bytes-at fits inside (count S T 0) (omega arith) x k)

          filled : RecordsUpTo S T two 0 0
          filled = record {
            room = omega (arith, room-one, two-only-tree.same_length);
            body = within_none D two header_length (place_at S T 0 0) (omega (arith, table-zero S T));
            starts = started;
          }

          pub first_step : StepIs S T two s 0 (Some first)
          first_step = step-ready S T two s 0 first (
            settings-first,
            number-first,
            record {
              level_is = level-first;
              filled = subst (λ (l : ℕ). RecordsUpTo S T two l 0) (sym number-first) filled;
              header = subst (λ (l : ℕ). AgreesOn D two 0 (count_at l)) (sym number-first) (agrees-only-tree D one two 0 pairs_at two-only-tree header);
            },
          )
