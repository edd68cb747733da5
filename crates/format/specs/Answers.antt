-- What build, byte, run, span, count, find and row return, for any bytes as a tree.
-- docs/FORMAT.md: "Queries".
use Rattle.std.specs.Prelude.{◌≡◌, ℕ, zero, suc, ◌≤◌, ◌+◌, ◌-◌, min, ◌<◌, List, [], ◌∷◌, ◌++◌, cond, Bool, true, false, ◌&&◌, not, length, drop, replicate, leb, eqb, ltb, ◌⊎◌}
use Rattle.format.specs.Layout.{Settings, length_ok, sizes_ok, counted_ok}
use Rattle.format.specs.Blocks.{tree_of}
use Rattle.format.specs.TreeReading.{asks, or_next, header_result, Path, Visit, path_of, Short, short_of, short_bytes, text_of}
use Rattle.std.proofs.Math.Option.{Option, none, some}
use Rattle.text.specs.Text.{tabulate, substring, count_in, place_of, row_of}
use Rattle.format.specs.Layout as at

-- The answer of a call as a refusal and two figures (docs/FORMAT.md, "Questions and refusals").

-- A refusal, 0 for none, and two figures.
pub record Answer : Type 0 where
  pub number : ℕ
  pub value : ℕ
  pub entered : ℕ

-- A refusal, with figures 0.
abbrev pub refused : ℕ → Answer
refused q = record { number = q; value = 0; entered = 0 }

-- The refusal if there is one, else the answer that follows.
abbrev pub unless : ℕ → Answer → Answer
unless zero answer = answer
unless (suc q) answer = refused (suc q)

-- What one case of a call's enum carries: two figures, or the number of the question that refuses.
pub data Reply : Type 0 where
  figures : ℕ → ℕ → Reply
  refusal : ℕ → Reply

abbrev pub replied : Reply → Answer
replied (figures value entered) = record { number = 0; value = value; entered = entered }
replied (refusal number) = refused number

-- No refusal has the number 0.
abbrev pub NeverZero : Reply → Type 0
NeverZero (figures value entered) = Unit {0}
NeverZero (refusal number) = 1 ≤ number

-- The value r of an enum, read by `reply`, is an allowed answer, and no refusal in it has the number 0.
pub record Allowed {A : Type 0} (reply : A → Reply) (allowed : Answer → Type 0) (r : A) : Type 0 where
  pub answers : allowed (replied (reply r))
  pub numbered : NeverZero (reply r)

-- The one answer s.
abbrev pub Is : {A : Type 0} → (A → Reply) → Answer → A → Type 0
Is reply s r = Allowed reply (λ said. said ≡ s) r

-- A refusal and two figures.
abbrev pub answer_with : ℕ → ℕ → ℕ → Answer
answer_with number value entered = record { number = number; value = value; entered = entered }

-- What build returns, and what the caller's buffer `out` contains afterwards.
-- docs/FORMAT.md: "Two builders", "Buffers after a call".

module _ (S : Settings) (T out : List ℕ) where
  -- The refusal: questions 1 to 4 in order; 0 if all pass.
  unfoldable pub build_refusal : ℕ
  build_refusal = asks ((1, length_ok (length T)) ∷ (2, sizes_ok S) ∷ (3, counted_ok S.counted) ∷ (4, leb (length (tree_of S T)) (length out)) ∷ [])

  -- The size of the tree; 0 if build refuses.
  unfoldable pub build_size : ℕ
  build_size = cond (eqb build_refusal 0) (length (tree_of S T)) 0

  -- The buffer afterwards: the tree, then its old bytes; all zeros if the tree does not fit (4); unchanged for any other refusal.
  unfoldable pub build_buffer : List ℕ
  build_buffer =
      cond (eqb build_refusal 0) (tree_of S T ++ drop (length (tree_of S T)) out)
      (cond (eqb build_refusal 4) (replicate (length out) 0) out)

-- What byte, run and span return for any bytes given as a tree, and what the caller's buffer contains afterwards.
-- docs/FORMAT.md: "Byte", "Run", "Span", "Buffers after a call".

module _ (t : List ℕ) where
  -- Byte (access, in the literature): the leaf byte at the end of the path and the number of blocks on it; refused with 14 if there is no path.
  abbrev pub byte_of : Option Path → Answer
  byte_of none = refused 14
  byte_of (some p) = record { number = 0; value = at.leaf_byte t p.leaf; entered = length p.visits }

  -- Byte: questions 5 to 7, then 10, then 14.
  unfoldable pub byte_answer : ℕ → Answer
  byte_answer p = unless (header_result t) (unless (asks ((10, ltb p (at.text_length t)) ∷ [])) (byte_of (path_of t p)))

  -- The number of bytes to the end of the nearest block on a path, at most `most`.
  unfoldable pub left_over : List Visit → ℕ → ℕ
  left_over [] most = most
  left_over (v ∷ vs) most = left_over vs (min most (at.full_length t v.level - v.place))

  -- Run (the longest contiguous leaf range): its offset in the tree and its length, by the path of place p.
  abbrev pub run_of : ℕ → Option Path → ℕ × ℕ
  run_of p none = (0, 0)
  run_of p (some q) =
      (at.leaf_offset t + q.leaf, left_over q.visits (min (at.text_length t - p) (at.leaf_count t - q.leaf)))

  -- Run; offset 0 and length 0 if byte refuses place p.
  unfoldable pub run_answer : ℕ → ℕ × ℕ
  run_answer p = cond (eqb (byte_answer p).number 0) (run_of p (path_of t p)) (0, 0)

  -- The refusal of a span: questions 5 to 7, then 10, 13 and 14. `reached` is whether its bytes can be read.
  unfoldable pub span_questions : ℕ → ℕ → ℕ → Bool → ℕ
  span_questions p len room reached =
      or_next (header_result t) (asks ((10, leb (p + len) (at.text_length t)) ∷ (13, leb len room) ∷ (14, reached) ∷ []))

  -- The buffer afterwards: the bytes at its start; len zeros if refused with 14; unchanged for any other refusal.
  unfoldable pub buffer_after : ℕ → ℕ → List ℕ → List ℕ → List ℕ
  buffer_after number len bytes buffer =
      cond (eqb number 0) (bytes ++ drop len buffer) (cond (eqb number 14) (replicate len 0 ++ drop len buffer) buffer)

  -- Whether each of the len places from p has a path.
  unfoldable pub paths_hold : ℕ → ℕ → Bool
  paths_hold p zero = true
  paths_hold p (suc len) =
      let rest = paths_hold (p + 1) len in
      eqb (byte_answer p).number 0 && rest

  -- The refusal of copying the len places from p, each by its path, as row does.
  unfoldable pub copy_refusal : ℕ → ℕ → ℕ → ℕ
  copy_refusal p len room = span_questions p len room (paths_hold p len)

  -- The refusal of the copy, or the length.
  unfoldable pub copy_answer : ℕ → ℕ → ℕ → Answer
  copy_answer p len room = unless (copy_refusal p len room) (record { number = 0; value = len; entered = 0 })

  -- The buffer after copying.
  unfoldable pub copy_buffer : ℕ → ℕ → List ℕ → List ℕ
  copy_buffer p len buffer = buffer_after (copy_refusal p len (length buffer)) len (tabulate len (λ k. (byte_answer (p + k)).value)) buffer

  -- A span is short if it has 1 to m bytes in a layout 2 tree. Any other span is read byte by byte along the paths and returns 0 as the number of blocks
  -- entered.
  unfoldable pub is_short : ℕ → Bool
  is_short len = at.has_edges t && leb 1 len && leb len (at.settings t).leaf

  -- Whether there is a walk.
  abbrev pub holds : Option Short → Bool
  holds none = false
  holds (some s) = true

  -- The number of blocks that a walk enters.
  abbrev pub blocks_of : Option Short → ℕ
  blocks_of none = 0
  blocks_of (some s) = length s.visits

  -- Whether the bytes of a span can be read.
  unfoldable pub span_reached : ℕ → ℕ → Bool
  span_reached p len = cond (is_short len) (holds (short_of t p len)) (paths_hold p len)

  -- The bytes of a span.
  unfoldable pub span_bytes : ℕ → ℕ → List ℕ
  span_bytes p len = cond (is_short len) (short_bytes t len (short_of t p len)) (tabulate len (λ k. (byte_answer (p + k)).value))

  -- The refusal of a span.
  unfoldable pub span_refusal : ℕ → ℕ → ℕ → ℕ
  span_refusal p len room = span_questions p len room (span_reached p len)

  -- The number of blocks that a span enters; 0 if it is not short.
  unfoldable pub span_blocks : ℕ → ℕ → ℕ
  span_blocks p len = cond (is_short len) (blocks_of (short_of t p len)) 0

  -- Span: its refusal, or its length with the number of blocks entered.
  unfoldable pub span_answer : ℕ → ℕ → ℕ → Answer
  span_answer p len room = unless (span_refusal p len room) (record { number = 0; value = len; entered = span_blocks p len })

  -- The buffer after a span.
  unfoldable pub span_buffer : ℕ → ℕ → List ℕ → List ℕ
  span_buffer p len buffer = buffer_after (span_refusal p len (length buffer)) len (span_bytes p len) buffer

-- What count (rank) returns for any bytes given as a tree.
-- docs/FORMAT.md: "Count".

-- The place of c in the list; the length of the list if it has no c.
unfoldable pub index_of : ℕ → List ℕ → ℕ
index_of c [] = 0
index_of c (x ∷ xs) =
    let later = index_of c xs in
    cond (eqb c x) 0 (later + 1)

module _ (t : List ℕ) where
  -- What the visits after u add to the count of counted byte number c. A visit on the next level adds its count before. A second visit on the same level is a
  -- target: it adds the count inside of the linked block if it is the block after that.
  unfoldable pub added_after : ℕ → Visit → List Visit → ℕ
  added_after c u [] = 0
  added_after c u (v ∷ vs) =
      let first = at.link t u.level u.block in
      let target = cond (eqb v.block first) 0 (at.inside t u.level first c) in
      cond (eqb u.level v.level) target (at.before t v.level v.block c) + added_after c v vs

  -- What all visits add: the count before of the first, and what follows.
  unfoldable pub added : ℕ → List Visit → ℕ
  added c [] = 0
  added c (v ∷ vs) = at.before t v.level v.block c + added_after c v vs

  -- What the visits after u subtract: the skip of each pointing block.
  unfoldable pub taken_after : ℕ → Visit → List Visit → ℕ
  taken_after c u [] = 0
  taken_after c u (v ∷ vs) = cond (eqb u.level v.level) (at.skip t u.level u.block c) 0 + taken_after c v vs

  -- What all visits subtract.
  unfoldable pub taken : ℕ → List Visit → ℕ
  taken c [] = 0
  taken c (v ∷ vs) = taken_after c v vs

  -- The place in the last block of a path.
  unfoldable pub last_place : List Visit → ℕ
  last_place [] = 0
  last_place (v ∷ vs) = last_place_after v vs
    where
      last_place_after : Visit → List Visit → ℕ
      last_place_after v [] = v.place
      last_place_after v (w ∷ ws) = last_place_after w ws

  -- The leaf bytes of the last block up to the place reached, included.
  unfoldable pub leaves_reached : Path → List ℕ
  leaves_reached p = let o = last_place p.visits in substring t (at.leaf_offset t + (p.leaf - o)) (o + 1)

  -- The count by a path, with the number of blocks on it. Refused with 14 if there is no path or the count is negative.
  abbrev pub count_of : ℕ → ℕ → Option Path → Answer
  count_of byte c none = refused 14
  count_of byte c (some p) =
      let plus = added c p.visits + count_in byte (leaves_reached p) in
      let minus = taken c p.visits in
      cond (leb minus plus) (record { number = 0; value = plus - minus; entered = length p.visits }) (refused 14)

  -- Whether the tree counts the byte.
  unfoldable pub is_counted : ℕ → Bool
  is_counted byte = ltb (index_of byte (at.settings t).counted) (length (at.settings t).counted)

  -- The number of the byte among the counted bytes.
  unfoldable pub number_of_byte : ℕ → ℕ
  number_of_byte byte = index_of byte (at.settings t).counted

  -- Count: questions 5 to 7, then 10 and 11, then 14. The count of the first 0 bytes is 0 and enters no block.
  unfoldable pub count_answer : ℕ → ℕ → Answer
  count_answer byte i =
      let asked = asks ((10, leb i (at.text_length t)) ∷ (11, is_counted byte) ∷ []) in
      let walked = count_of byte (number_of_byte byte) (path_of t (i - 1)) in
      unless (header_result t) (unless asked (cond (eqb i 0) (refused 0) walked))

-- What find (select) may return for any bytes given as a tree: one answer if a question refuses or the tree is valid, else any of those that the format
-- leaves unspecified.
-- docs/FORMAT.md: "Find", "Unspecified results".

module _ (t : List ℕ) where
  -- The total of counted byte number c: how often it occurs in the text, by the last block of level 0.
  unfoldable pub total : ℕ → ℕ
  total c =
      let last = at.level_count t 0 - 1 in
      cond (eqb (at.level_count t 0) 0) 0 (at.before t 0 last c + at.inside t 0 last c)

  -- The refusal before the walk: questions 5 to 7, then 11 and 12.
  unfoldable pub find_refusal : ℕ → ℕ → ℕ
  find_refusal byte j =
      or_next (header_result t) (asks ((11, is_counted t byte) ∷ (12, leb 1 j && leb j (total (number_of_byte t byte))) ∷ []))

  -- The number of blocks on a path.
  abbrev pub path_length : Option Path → ℕ
  path_length none = 0
  path_length (some p) = length p.visits

  -- The answer on a valid tree: the place of the j-th occurrence, and the number of blocks on its path.
  unfoldable pub found : ℕ → ℕ → Answer
  found byte j =
      let p = place_of byte j (text_of t) in
      record { number = 0; value = p; entered = path_length (path_of t p) }

  -- The answers s that find may return, where `ok` is 0 for a valid tree. On other trees: refused with 14, or some place of the text.
  pub record FindBy (ok byte j : ℕ) (s : Answer) : Type 0 where
    pub asked : (0 < find_refusal byte j) → s ≡ refused (find_refusal byte j)
    pub accepted : find_refusal byte j ≡ 0 → ok ≡ 0 → s ≡ found byte j
    pub free : find_refusal byte j ≡ 0 → (ok ≡ 0 → ⊥) → (s ≡ refused 14) ⊎ ((s.number ≡ 0) × (s.value < at.text_length t))

-- What row may return for any bytes given as a tree, and what the caller's buffer contains afterwards: one answer if a question refuses or the tree is valid;
-- else the copy of some substring of the text, or 14.
-- docs/FORMAT.md: "Row", "Buffers after a call", "Unspecified results".

-- The refusal for the last byte of the text, or 12 if that byte is 10.
abbrev pub last_row_refusal : Answer → ℕ
last_row_refusal last = or_next last.number (asks ((12, not (eqb 10 last.value)) ∷ []))

module _ (t : List ℕ) where
  -- Whether q is the total of byte 10 plus one: the row after the last byte 10.
  unfoldable pub is_unterminated_row : ℕ → Bool
  is_unterminated_row q = eqb (header_result t) 0 && is_counted t 10 && ltb 0 (at.text_length t) && eqb q (total t (number_of_byte t 10) + 1)

  -- The refusal before the walk: that of find for the q-th byte 10; for the total plus one, that of the last byte.
  unfoldable pub row_refusal : ℕ → ℕ
  row_refusal q =
      let last = last_row_refusal (byte_answer t (at.text_length t - 1)) in
      cond (is_unterminated_row q) last (find_refusal t 10 q)

  -- The largest number of bytes of row q: the whole text if the row has no byte 10 before or after it, else one less.
  unfoldable pub row_most : ℕ → ℕ
  row_most q = cond (is_unterminated_row q && eqb q 1) (at.text_length t) (at.text_length t - 1)

  -- Some substring of the text, copied along the paths of its places. With 0 the buffer starts with its bytes, 13 means that the buffer is shorter, 14 that a
  -- path breaks.
  pub record RowSubstring (q : ℕ) (buffer : List ℕ) (number size : ℕ) (after : List ℕ) : Type 0 where
    pub start : ℕ
    pub len : ℕ
    pub within : start + len ≤ at.text_length t
    pub short : len ≤ row_most q
    pub number_is : number ≡ (copy_answer t start len (length buffer)).number
    pub size_is : size ≡ (copy_answer t start len (length buffer)).value
    pub after_is : after ≡ copy_buffer t start len buffer

  -- The answers that row may return, where `ok` is 0 for a valid tree. On other trees: refused with 14 before anything is copied, or the copy of some
  -- substring.
  pub record RowBy (ok q : ℕ) (buffer : List ℕ) (number size : ℕ) (after : List ℕ) : Type 0 where
    pub asked : (0 < row_refusal q) → (number ≡ row_refusal q) × (size ≡ 0) × (after ≡ buffer)
    pub short : row_refusal q ≡ 0 → ok ≡ 0 → length buffer < length (row_of (text_of t) q) → (number ≡ 13) × (size ≡ 0) × (after ≡ buffer)
    pub accepted : row_refusal q ≡ 0 → ok ≡ 0 → length (row_of (text_of t) q) ≤ length buffer
        → (number ≡ 0) × (size ≡ length (row_of (text_of t) q)) × (after ≡ row_of (text_of t) q ++ drop size buffer)
    pub free : row_refusal q ≡ 0 → (ok ≡ 0 → ⊥) → ((number ≡ 14) × (size ≡ 0) × (after ≡ buffer)) ⊎ RowSubstring q buffer number size after
