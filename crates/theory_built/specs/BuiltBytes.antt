-- The bytes of the built tree, one by one: which word each belongs to.
use mathlib.Core.List.{List, [], ◌∷◌, ◌++◌}
use Rattle.std.specs.Prelude.{◌≡◌, get_or, take, drop}
use Rattle.std.proofs.Math.Path.{refl}
use Rattle.std.proofs.Common.{ap, ◌∙◌, add_assoc, length-append, get_or-append-add, length-take-le}
use Prim.Native.Nat.{ℕ, zero, suc, ◌+◌, ◌*◌, ◌≤◌, ◌<◌}
use native.Mathlib.Omega.{arith}
use Rattle.std.proofs.Math.ListN.{length, get_or-append}
use Rattle.text.specs.Text.{sum_below}
use Rattle.text.specs.ListLaws.{sum_below-part}
use Rattle.format.specs.Layout.{word_at, word_bytes, words_bytes, set_word, Settings, max_levels, max_counted, counted_at, pairs_at, header_length}
use Rattle.format.specs.Blocks.{tree_of, record_bytes}
use Rattle.format.specs.WordLaws.{words-cons, length-words, digits, set_word-eq}
use Rattle.theory_built.specs.BlockSizes.{Taken, BuiltBounds, bounds}
use Rattle.theory_built.specs.Structure.{count}
use Rattle.theory_built.specs.Pairs.{offset, level_words_of, length-level_words_of}
use Rattle.theory_built.specs.Gather.{in-part}
use Rattle.theory_built.specs.BuiltRecords.{record_at, bytes_at, edges_in, bytes-are, records, record_words, length-record, record-bytes, record-byte}
use Rattle.theory_built.specs.BuiltRecords.{length-records}
use Rattle.theory_built.specs.Shape.{six_words, counted_places, tree_is, tree-levels, head, length-head, length-places, counted-place, record-byte-at}

-- The four bytes of the word v are at i.
abbrev pub BytesAt : List ℕ → ℕ → ℕ → Type 0
BytesAt t i v = (r : ℕ) → r < 4 → get_or t (i + r) 0 ≡ get_or (word_bytes v) r 0

-- The word at i is read there.
pub bytes_word : (t : List ℕ) (i v : ℕ) → BytesAt t i v → v < 4294967296 → word_at t i ≡ v
unfolding word_at word_bytes
bytes_word t i v s small = rw (first, s 1 (omega arith), s 2 (omega arith), s 3 (omega arith)) (digits v small)
  where
    first : get_or t i 0 ≡ get_or (word_bytes v) 0 0
    first = ap (λ (k : ℕ). get_or t k 0) (let e : i ≡ i + 0 = omega arith in e) ∙ s 0 (omega arith)

length-word_bytes : (v : ℕ) → length (word_bytes v) ≡ 4
unfolding word_bytes
length-word_bytes v = refl

-- The bytes of a word that was written.
pub written-word : (t : List ℕ) (i v : ℕ) → i + 4 ≤ length t → BytesAt (set_word t i v) i v
written-word t i v fits r l =
    let head : length (take i t) ≡ i = length-take-le i t (omega arith) in
    let e : i + r ≡ length (take i t) + r = omega arith in
    let m : length (take i t) + r < length (take i t ++ word_bytes v) = rw (length-append (take i t) (word_bytes v), length-word_bytes v) (omega arith) in
    rw (set_word-eq t i v fits, e)
    (get_or-append (take i t ++ word_bytes v) (drop (i + 4) t) 0 (length (take i t) + r) m
    ∙ get_or-append-add (take i t) (word_bytes v) r 0)

first_byte : (w : ℕ) (rest : List ℕ) (r : ℕ) → r < 4 → get_or (word_bytes w ++ rest) r 0 ≡ get_or (word_bytes w) r 0
unfolding word_bytes
first_byte w rest r l = get_or-append (word_bytes w) rest 0 r l

next-byte : (w : ℕ) (rest : List ℕ) (x : ℕ) → get_or (word_bytes w ++ rest) (4 + x) 0 ≡ get_or rest x 0
unfolding word_bytes
next-byte w rest x = get_or-append-add (word_bytes w) rest x 0

byte-in : (ws B : List ℕ) (j r : ℕ) → j < length ws → r < 4 → get_or (words_bytes ws ++ B) (4 * j + r) 0 ≡ get_or (word_bytes (get_or ws j 0)) r 0
byte-in [] B j r l k = absurd (let z : ⊥ = omega arith in z)
byte-in (w ∷ ws) B zero r l k =
    let e : 4 * 0 + r ≡ r = omega arith in
    rw (words-cons w ws B, e) (first_byte w (words_bytes ws ++ B) r k)
byte-in (w ∷ ws) B (suc j) r l k =
    let e : 4 * suc j + r ≡ 4 + (4 * j + r) = omega arith in
    rw (words-cons w ws B, e) (next-byte w (words_bytes ws ++ B) (4 * j + r) ∙ byte-in ws B j r (omega arith) k)

-- Word j of the words ws after A.
tree-bytes-at : (A ws B : List ℕ) (a j : ℕ) → length A ≡ a → j < length ws → BytesAt (A ++ (words_bytes ws ++ B)) (a + 4 * j) (get_or ws j 0)
tree-bytes-at A ws B a j e l r k =
    rw (← e, add_assoc (length A) (4 * j) r) (get_or-append-add A (words_bytes ws ++ B) (4 * j + r) 0 ∙ byte-in ws B j r l k)

module _ (S : Settings) (T : List ℕ) (h : Taken S T) where
  limits : BuiltBounds S T
  limits = bounds S T h

  pub six-bytes : (j : ℕ) → j < 6 → BytesAt (tree_of S T) (4 * j) (get_or (six_words S T) j 0)
  unfolding six_words
  six-bytes j l r k =
      let e : 4 * j ≡ 0 + 4 * j = omega arith in
      rw (tree_is S T, e) (tree-bytes-at [] (six_words S T) _ 0 j refl l r k)

  pub counted-byte-is : (x : ℕ) → x < max_counted → get_or (tree_of S T) (counted_at + x) 0 ≡ get_or (counted_places S T) x 0
  counted-byte-is x l = counted-place S T h x ∙ get_or-append (counted_places S T) _ 0 x (omega (arith, length-places S T h))

  pub level-bytes : (j : ℕ) → j < 2 * max_levels + 2 → BytesAt (tree_of S T) (pairs_at + 4 * j) (get_or (level_words_of S T) j 0)
  level-bytes j l r k =
      rw (tree-levels S T h) (tree-bytes-at (head S T h)
      (level_words_of S T) _ pairs_at j (length-head S T h) (rw (length-level_words_of S T limits.levels_high) l) r k)

  -- Byte x of the record of block i of level l.
  record-at : (l i x : ℕ) → l < S.levels → i < count S T l → x < record_bytes S
      → get_or (tree_of S T) (offset S T l + i * record_bytes S + x) 0 ≡ get_or (bytes_at S T l i) x 0
  unfolding offset
  record-at l i x e il xl =
      let R : ℕ = record_bytes S in
      let j : ℕ = sum_below l (count S T) * R + (i * R + x) in
      let place : header_length + sum_below l (count S T) * R + i * R + x ≡ header_length + j = omega arith in
      let below : j < length (records S T) =
      rw (length-records S T) (in-part (sum_below l (count S T)) i (count S T l) x R _ il (sum_below-part S.levels (count S T) l e) xl) in
      rw place (record-byte-at S T h j below ∙ record-byte S T l i x e il xl)

  -- Word f of it.
  pub record-field-bytes : (l i f : ℕ) → l < S.levels → i < count S T l → f < record_words S T
      → BytesAt (tree_of S T) (offset S T l + i * record_bytes S + 4 * f) (get_or (record_at S T l i) f 0)
  record-field-bytes l i f e il fl r k =
      rw (add_assoc (offset S T l + i * record_bytes S) (4 * f) r)
      (record-at l i (4 * f + r) e il (omega (arith, record-bytes S T))
      ∙ rw (bytes-are S T l i) (byte-in (record_at S T l i) (edges_in S T l i) f r (rw (length-record S T l i) fl) k))

  -- Byte x of its edges.
  pub edge-byte-is : (l i x : ℕ) → l < S.levels → i < count S T l → x < S.leaf + S.leaf
      → get_or (tree_of S T) (offset S T l + i * record_bytes S + 4 * record_words S T + x) 0 ≡ get_or (edges_in S T l i) x 0
  edge-byte-is l i x e il xl =
      rw (add_assoc (offset S T l + i * record_bytes S) (4 * record_words S T) x)
      (record-at l i (4 * record_words S T + x) e il (omega (arith, record-bytes S T))
      ∙ rw (bytes-are S T l i) (after (words_bytes (record_at S T l i))
      (edges_in S T l i) (length-words (record_at S T l i) ∙ ap (λ (n : ℕ). 4 * n) (length-record S T l i))))
    where
      after : (a b : List ℕ) → length a ≡ 4 * record_words S T → get_or (a ++ b) (4 * record_words S T + x) 0 ≡ get_or b x 0
      after a b e = rw (← e) (get_or-append-add a b x 0)
