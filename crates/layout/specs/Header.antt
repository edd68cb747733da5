-- The result of reading a header, and the parts of question 7 as the code tests them.
use Rattle.std.specs.Prelude.{List, Bool, cond, ◌&&◌, ◌≡◌, ℕ, ◌+◌, ◌-◌, ◌*◌, ◌≤◌, length, get_or, eqb, leb, Result, Ok, Err}
use Rattle.refusals.specs.declared.Refusal.{Refusal}
use Rattle.refusals.specs.declared.Refusal.TheVariants.{TreeTooShort, UnknownLayout, HeaderWrong}
use Rattle.text.specs.Text.{all_below, sum_below}
use Rattle.format.specs.Layout.{word_at, pieces, max_levels, max_counted}
use Rattle.format.specs.Layout.{layout_at, text_length_at, leaf_at, arity_at, levels_at, counted_count_at, counted_at, leaf_offset_at, leaf_count_at, header_length}
use Rattle.format.specs.SizeLaws.{Bounds}
use Rattle.format.specs.Layout as at
use Rattle.layout.specs.declared.settings.Settings.{Settings}
use Rattle.layout.specs.declared.header.Header.{Header}

-- The settings in the words of the header.
abbrev pub settings_of : List ℕ → Settings
settings_of t = record { leaf = word_at t leaf_at; arity = word_at t arity_at; levels = word_at t levels_at; counted = word_at t counted_count_at }

-- The first conditions of question 7: the length of the text and the settings are within their bounds.
unfoldable pub is_start_right : List ℕ → Bool
is_start_right t =
    at.length_ok (at.text_length t) && at.sizes_ok (at.settings t)
    && (leb (at.counted_count t) max_counted && at.counted_ok (at.settings t).counted)

-- The settings, if these conditions hold.
unfoldable pub settings_answer : List ℕ → Result Settings Refusal
settings_answer t = cond (is_start_right t) (Ok (settings_of t)) (Err HeaderWrong)

-- The words of the header, and the lengths of a level 0 block and of a record.
abbrev pub fields_of : List ℕ → Header
fields_of t = record {
  layout = word_at t layout_at;
  text_length = word_at t text_length_at;
  settings = settings_of t;
  leaf_offset = word_at t leaf_offset_at;
  leaf_count = word_at t leaf_count_at;
  top_length = at.full_length t 0;
  record_size = at.record_size t;
}

-- The header, or the refusal of the first of the questions 5 to 7 that fails.
unfoldable pub header_answer : List ℕ → Result Header Refusal
header_answer t =
    cond (at.holds_header t)
    (cond (at.layout_ok t) (cond (at.is_header_ok t) (Ok (fields_of t)) (Err HeaderWrong)) (Err UnknownLayout))
    (Err TreeTooShort)

module _ (t : List ℕ) where
  -- The unused places for counted bytes are zero.
  abbrev pub zero_byte : ℕ → ℕ → Bool
  zero_byte k x = eqb (get_or t (counted_at + k + x) 0) 0

  unfoldable pub spare_counted : ℕ → Bool
  spare_counted k = all_below (max_counted - k) (zero_byte k)

  -- The counts and offsets of unused levels are zero.
  abbrev pub zero_level : ℕ → ℕ → Bool
  zero_level H x = eqb (at.level_count t (H + x)) 0 && eqb (at.level_offset t (H + x)) 0

  unfoldable pub spare_levels : ℕ → Bool
  spare_levels H = all_below (max_levels - H) (zero_level H)

  -- The records of each level start where those of the level above end, and the leaf bytes follow the last.
  abbrev pub follows : ℕ → Bool
  follows l = eqb (at.level_offset t l) (header_length + sum_below l (at.level_count t) * at.record_size t)

  unfoldable pub tables_meet : ℕ → Bool
  tables_meet H = all_below H follows && eqb (at.leaf_offset t) (header_length + sum_below H (at.level_count t) * at.record_size t)

  unfoldable pub rest_right : Bool
  rest_right =
      spare_counted (at.counted_count t) && spare_levels (at.settings t).levels
      && eqb (at.level_count t 0) (pieces (at.text_length t) (at.full_length t 0))
      && tables_meet (at.settings t).levels
      && eqb (length t) (at.leaf_offset t + at.leaf_count t)

  -- The settings are those of the header; they and the length of the text are within their bounds.
  pub record HasSettings (s : Settings) : Type 0 where
    pub long : header_length ≤ length t
    pub leaf_is : s.leaf ≡ word_at t leaf_at
    pub arity_is : s.arity ≡ word_at t arity_at
    pub levels_is : s.levels ≡ word_at t levels_at
    pub counted_is : s.counted ≡ word_at t counted_count_at
    pub bounds : Bounds (word_at t text_length_at) s.leaf s.arity s.levels s.counted
