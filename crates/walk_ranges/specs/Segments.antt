-- A long span by one descent: the leaf bytes of consecutive blocks of a level, and what copies them.
use Rattle.std.specs.Prelude.{List, Some, None, Bool, true, false, cond, ◌≡◌, ℕ, zero, suc, ◌+◌, ◌-◌, ◌*◌, ◌/◌, ◌%◌, ◌≤◌, ◌<◌, ltb, eqb, set, drop}
use Rattle.std.specs.Prelude as prelude
use Rattle.std.proofs.Math.Option.{Option, none, some}
use Rattle.format.specs.Layout as at
use Rattle.format.specs.Layout.{max_text}
use Rattle.format.specs.LayoutLaws.{Readable}
use Rattle.format.specs.TreeReading.{Path, provided, is_kept_block, path_from}
use Rattle.walk_ranges.specs.declared.segments.Segment.{Segment}
use Rattle.walk_ranges.specs.declared.segments.Piece.{Piece}

-- The number of the leaf byte at the end of a path.
abbrev pub leaf_number : Option Path → Option ℕ
leaf_number none = none
leaf_number (some q) = some q.leaf

-- Whether there is a leaf byte.
abbrev pub has_leaf : Option ℕ → Bool
has_leaf none = false
has_leaf (some x) = true

module _ (t : List ℕ) where
  -- The leaf byte of place o, counted from the start of block `first` of level l, where `left` levels are left; if none is left, from leaf byte `first`.
  unfoldable pub leaf_from : ℕ → ℕ → ℕ → ℕ → Option ℕ
  leaf_from zero l first o = provided (ltb (first + o) (at.leaf_count t)) (some (first + o))
  leaf_from (suc below) l first o = leaf_number (path_from t below l (first + o / at.full_length t l) (o % at.full_length t l))

  -- The same; if no pointer may be followed, the block of the place must be kept.
  unfoldable pub leaf_in : ℕ → ℕ → ℕ → ℕ → Option ℕ
  leaf_in zero l first o = provided (is_kept_block t l (first + o / at.full_length t l)) (leaf_from ((at.settings t).levels - l) l first o)
  leaf_in (suc pointers) l first o = leaf_from ((at.settings t).levels - l) l first o

  -- The byte of a leaf, 0 for none.
  abbrev pub leaf_value : Option ℕ → ℕ
  leaf_value none = 0
  leaf_value (some x) = at.leaf_byte t x

  -- The buffer d with the bytes of n leaves written from `to` on.
  abbrev pub leaves_written : List ℕ → ℕ → (ℕ → Option ℕ) → ℕ → List ℕ
  leaves_written d to f zero = d
  leaves_written d to f (suc n) = set (leaves_written d to f n) (to + n) (leaf_value (f n))

  -- Buffer d became e: n bytes were written, and none is missing; or the refusal is 14, one is missing, and nothing was written after the n bytes.
  abbrev pub Copied : (ℕ → Option ℕ) → ℕ → ℕ → List ℕ → List ℕ → ℕ → Type 0
  Copied f n to d e zero = (e ≡ leaves_written d to f n) × ((x : ℕ) → x < n → has_leaf (f x) ≡ true)
  Copied f n to d e (suc q) = (q ≡ 13) × ((x : ℕ) × (x < n) × (f x ≡ none)) × ((k : ℕ) → to + n ≤ k → drop k e ≡ drop k d)

  -- The answer of `copy_segment`.
  unfoldable pub SegmentCopied : (pointers l first place n to : ℕ) → List ℕ → List ℕ → ℕ → Type 0
  SegmentCopied pointers l first place n to d e r = Copied (λ x. leaf_in pointers l first (place + x)) n to d e r

  -- The number of children of a full kept block, or of its leaf bytes on the last level.
  unfoldable pub full_width : ℕ → ℕ
  full_width l = cond (eqb (l + 1) (at.settings t).levels) (at.full_length t l) (at.settings t).arity

  -- The n bytes from a place of a block on are in kept blocks with consecutive links.
  pub record KeptOn (l i o n : ℕ) : Type 0 where
    pub some_byte : 1 ≤ n
    pub kept : (x : ℕ) → x < n → is_kept_block t l (i + (o + x) / at.full_length t l) ≡ true
    pub links : (x : ℕ) → x < n
        → at.link t l (i + (o + x) / at.full_length t l) ≡ at.link t l i + (o + x) / at.full_length t l * full_width l

  -- The first n bytes from a place on, in blocks of a level or in leaf bytes.
  pub record SegmentAt (pointers size l b o n : ℕ) : Type 0 where
    pub facts : Readable t
    pub size_is : size ≡ at.record_size t
    pub level_in : l ≤ (at.settings t).levels
    pub b_is : l < (at.settings t).levels → b ≡ at.full_length t l
    pub near : o + n ≤ 2 * max_text
    pub some_leaf : (at.settings t).levels ≤ l → (1 ≤ n) × (1 ≤ pointers)

  -- The first n bytes of a segment are those of the segment s, with which the descent goes on.
  pub record NextAt (pointers l first o most : ℕ) (s : Segment) (n : ℕ) : Type 0 where
    pub some_byte : 1 ≤ n
    pub at_most : n ≤ most
    pub segment : SegmentAt s.rules.pointers s.rules.record_size s.on.level s.on.b s.from.place.0 n
    pub falls : 2 * ((at.settings t).levels - s.on.level) + s.rules.pointers < 2 * ((at.settings t).levels - l) + pointers
    pub same : (x : ℕ) → x < n → leaf_in pointers l first (o + x) ≡ leaf_in s.rules.pointers s.on.level s.from.block.0 (s.from.place.0 + x)

  -- The answer of `next_segment`.
  abbrev pub IsNext : (pointers l first o most : ℕ) → prelude.Option Piece → Type 0
  IsNext pointers l first o most (Some p) = NextAt pointers l first o most p.segment p.size
  IsNext pointers l first o most None = leaf_in pointers l first o ≡ none
