-- A built tree without its edges is the block tree of its text in layout 1, byte for byte.
use mathlib.Core.List.{List, [], ◌∷◌, ◌++◌, append-nil, append_assoc}
use Rattle.std.specs.Prelude.{◌≡◌, ◌⊎◌, get_or}
use Rattle.std.proofs.Math.Path.{refl, sym, ap}
use Rattle.std.proofs.Common.{subst, ◌∙◌, inl, inr, arith, add-mul, length-append, get_or-append-add, ext_get_or}
use Prim.Native.Nat.{ℕ, zero, suc, ◌+◌, ◌-◌, ◌*◌, ◌/◌, ◌%◌, ◌≤◌, ◌<◌}
use Rattle.std.proofs.Math.ListN.{length, get_or-append}
use Rattle.text.specs.Text.{tabulate, concat, sum_below, substring}
use Rattle.text.specs.ListLaws.{lt-or-ge, sum_below-ext, sum_below-part, tabulate-ext}
use Rattle.text.specs.TextLaws.{length-substring, get_or-substring}
use Rattle.format.specs.Layout.{word_bytes, words_bytes, Settings, max_levels, max_counted, counted_at, pairs_at, offset_at, header_length}
use Rattle.format.specs.WordLaws.{length-words}
use Rattle.format.specs.SizeLaws.{record-plain}
use Rattle.format.specs.Blocks.{tree_of, leaf_bytes, record_bytes}
use Rattle.format.specs.LayoutLaws.{Readable, header-facts}
use Rattle.format.specs.Layout as at
use Rattle.theory_built.specs.BlockSizes.{Taken, BuiltBounds, bounds}
use Rattle.theory_built.specs.Structure.{count}
use Rattle.theory_built.specs.Pairs as pairs
use Rattle.theory_built.specs.Gather.{concat-suc, in-part}
use Rattle.theory_built.specs.BuiltRecords.{record_at, bytes_at, edges_in, bytes-are, records, record_words, length-record}
use Rattle.theory_built.specs.BuiltRecords.{record-bytes, record-byte, length-records}
use Rattle.theory_built.specs.Shape.{six_words, counted_places, length-places, record-byte-at, leaf-place, tree-length}
use Rattle.theory_built.specs.BuiltBytes.{BytesAt, six-bytes, counted-byte-is, level-bytes}
use Rattle.theory_built.specs.ReadBack as back
use Rattle.theory_built.specs.BuiltHeader.{built-header}
use Rattle.theory_without_edges.specs.WithoutEdges.{edgeless_layout, layout1_record_size, layout1_offset, layout1_header, record_count}
use Rattle.theory_without_edges.specs.WithoutEdges.{layout1_record, layout1_records, layout1_leaf_bytes, without_edges}
use Rattle.theory_without_edges.proofs.Layout1Sizes as sizes
use Rattle.theory_without_edges.proofs.Layout1Bytes as bytes
use Rattle.theory_without_edges.specs.TreeInLayout.{size_in_layout, bytes_of, level_in_layout, header_in, tree_in}
use Rattle.theory_without_edges.specs.PairsInLayout as words
use Rattle.theory_without_edges.specs.PairsInLayout.{offset_in, words_in}

-- Concatenations over a sum of two ranges, and over the ranges of several parts.

concat-none : (f : ℕ → List ℕ) → concat (tabulate 0 f) ≡ []
unfolding tabulate concat
concat-none f = refl

concat-add : (a b : ℕ) (f : ℕ → List ℕ) → concat (tabulate (a + b) f) ≡ concat (tabulate a f) ++ concat (tabulate b (λ i. f (a + i)))
concat-add a zero f =
    let e : a + 0 ≡ a = omega arith in
    rw (e, concat-none (λ i. f (a + i))) (sym (append-nil (concat (tabulate a f))))
concat-add a (suc b) f =
    let e : a + suc b ≡ suc (a + b) = omega arith in
    rw (e, concat-suc (a + b) f, concat-add a b f, concat-suc b (λ i. f (a + i)))
    (append_assoc (concat (tabulate a f)) (concat (tabulate b (λ i. f (a + i)))) (f (a + b)))

concat-parts : (n : ℕ) (N : ℕ → ℕ) (f : ℕ → List ℕ)
    → concat (tabulate (sum_below n N) f) ≡ concat (tabulate n (λ l. concat (tabulate (N l) (λ i. f (sum_below l N + i)))))
unfolding sum_below
concat-parts zero N f = concat-none f ∙ sym (concat-none (λ l. concat (tabulate (N l) (λ i. f (sum_below l N + i)))))
concat-parts (suc n) N f =
    concat-add (sum_below n N) (N n) f
    ∙ ap (λ (x : List ℕ). x ++ concat (tabulate (N n) (λ i. f (sum_below n N + i)))) (concat-parts n N f)
    ∙ sym (concat-suc n (λ l. concat (tabulate (N l) (λ i. f (sum_below l N + i)))))

-- A byte of consecutive words.
layout1-first-byte : (w : ℕ) (rest : List ℕ) (r : ℕ) → r < 4 → get_or (word_bytes w ++ rest) r 0 ≡ get_or (word_bytes w) r 0
unfolding word_bytes
layout1-first-byte w rest r l = get_or-append (word_bytes w) rest 0 r l

layout1-next-byte : (w : ℕ) (rest : List ℕ) (x : ℕ) → get_or (word_bytes w ++ rest) (4 + x) 0 ≡ get_or rest x 0
unfolding word_bytes
layout1-next-byte w rest x = get_or-append-add (word_bytes w) rest x 0

layout1-words-cons : (w : ℕ) (ws : List ℕ) → words_bytes (w ∷ ws) ≡ word_bytes w ++ words_bytes ws
unfolding words_bytes concat
layout1-words-cons w ws = refl

words-byte : (ws : List ℕ) (j r : ℕ) → j < length ws → r < 4 → get_or (words_bytes ws) (4 * j + r) 0 ≡ get_or (word_bytes (get_or ws j 0)) r 0
words-byte [] j r l k = absurd (let z : ⊥ = omega arith in z)
words-byte (w ∷ ws) zero r l k =
    let e : 4 * 0 + r ≡ r = omega arith in
    rw (layout1-words-cons w ws, e) (layout1-first-byte w (words_bytes ws) r k)
words-byte (w ∷ ws) (suc j) r l k =
    let e : 4 * suc j + r ≡ 4 + (4 * j + r) = omega arith in
    rw (layout1-words-cons w ws, e) (layout1-next-byte w (words_bytes ws) (4 * j + r) ∙ words-byte ws j r (omega arith) k)

module _ (S : Settings) (T : List ℕ) (h : Taken S T) where
  abbrev t : List ℕ
  t = tree_of S T

  limits : BuiltBounds S T
  limits = bounds S T h

  k : Readable t
  k = header-facts t (built-header S T h)

  levels-are : (at.settings t).levels ≡ S.levels
  levels-are = ap (λ (s : Settings). s.levels) (back.read-settings S T h)

  counts_are : (l : ℕ) → l ≤ S.levels → sum_below l (at.level_count t) ≡ sum_below l (count S T)
  counts_are l e = sum_below-ext l _ _ (λ i il. back.read-level_count S T h i (omega arith))

  size-layout1 : layout1_record_size t ≡ 4 * record_words S T
  unfolding layout1_record_size record_words
  size-layout1 = rw (back.read-counted_count S T h) (omega arith)

  size_in : size_in_layout edgeless_layout S T ≡ layout1_record_size t
  unfolding size_in_layout layout1_record_size
  size_in = rw (back.read-counted_count S T h) (record-plain edgeless_layout S.leaf (length S.counted) (λ z. omega arith))

  offset-layout1 : (l : ℕ) → l ≤ S.levels → layout1_offset t l ≡ offset_in edgeless_layout S T l
  unfolding offset_in
  offset-layout1 l e = sizes.offset_is t l ∙ rw (counts_are l e, size_in)

  -- The leaf bytes.
  leaves-same : layout1_leaf_bytes t ≡ leaf_bytes S T
  unfolding layout1_leaf_bytes
  leaves-same =
      rw (back.read-leaf_offset S T h, back.read-leaf_count S T h)
      (ext_get_or 0 (substring t (pairs.offset S T S.levels) (length (leaf_bytes S T))) (leaf_bytes S T) size
      (λ x l. (let m : x < length (leaf_bytes S T) = rw size at l in
      get_or-substring t (pairs.offset S T S.levels) (length (leaf_bytes S T)) x m ∙ leaf-place S T h x)))
    where
      size : length (substring t (pairs.offset S T S.levels) (length (leaf_bytes S T))) ≡ length (leaf_bytes S T)
      size = length-substring t _ _ (omega (arith, tree-length S T h))

  -- The records.
  record-at : (l i x : ℕ) → l < S.levels → i < count S T l → x < record_bytes S
      → get_or t (header_length + (sum_below l (count S T) + i) * record_bytes S + x) 0 ≡ get_or (bytes_at S T l i) x 0
  record-at l i x e il xl =
      let R : ℕ = record_bytes S in
      let A : ℕ = sum_below l (count S T) in
      let j : ℕ = A * R + (i * R + x) in
      let place : header_length + (A + i) * R + x ≡ header_length + j = omega (arith, add-mul A i R) in
      let below : j < length (records S T) =
      rw (length-records S T) (in-part A i (count S T l) x R _ il (sum_below-part S.levels (count S T) l e) xl) in
      rw place (record-byte-at S T h j below ∙ record-byte S T l i x e il xl)

  record_same : (l i : ℕ) → l < S.levels → i < count S T l → layout1_record t (sum_below l (count S T) + i) ≡ words_bytes (record_at S T l i)
  unfolding layout1_record
  record_same l i e il =
      rw (back.read-record_size S T h, size-layout1)
      (ext_get_or 0 (substring t p n) (words_bytes (record_at S T l i)) (size ∙ sym size-words)
      (λ x m. (let y : x < n = rw size at m in
      get_or-substring t p n x y ∙ record-at l i x e il (omega (arith, record-bytes S T))
      ∙ rw (bytes-are S T l i) (get_or-append (words_bytes (record_at S T l i)) (edges_in S T l i) 0 x (rw size-words y)))))
    where
      j : ℕ
      j = sum_below l (count S T) + i

      p : ℕ
      p = header_length + j * record_bytes S

      n : ℕ
      n = 4 * record_words S T

      size-words : length (words_bytes (record_at S T l i)) ≡ n
      size-words = length-words (record_at S T l i) ∙ ap (λ (x : ℕ). 4 * x) (length-record S T l i)

      below : j < record_count t
      below = rw (sizes.count_is t, levels-are, counts_are S.levels (omega arith)) (omega (arith, sum_below-part S.levels (count S T) l e))

      size : length (substring t p n) ≡ n
      size = length-substring t p n (rw (back.read-record_size S T h, size-layout1) at
          (let z : header_length + j * at.record_size t + layout1_record_size t ≤ length t = omega (arith, sizes.record-inside t k j below, k.size) in z))

  record-in : (l i : ℕ) → bytes_of edgeless_layout S T l i ≡ words_bytes (record_at S T l i)
  unfolding bytes_of
  record-in l i = append-nil (words_bytes (record_at S T l i))

  records-same : layout1_records t ≡ concat (tabulate S.levels (level_in_layout edgeless_layout S T))
  unfolding layout1_records level_in_layout
  records-same =
      rw (sizes.count_is t, levels-are, counts_are S.levels (omega arith))
      (concat-parts S.levels (count S T) (layout1_record t)
      ∙ ap concat (tabulate-ext S.levels _ _ (λ l e. ap concat (tabulate-ext (count S T l) _ _ (λ i il. record_same l i e il ∙ sym (record-in l i))))))

  -- The header's words about the levels.
  abbrev new : List ℕ
  new = words_in edgeless_layout S T

  abbrev old : List ℕ
  old = pairs.level_words_of S T

  -- A word that is the same in both layouts.
  kept_word : (j : ℕ) → j < 2 * max_levels + 2 → ((r : ℕ) → r < 4 → bytes.Kept t k (pairs_at + 4 * j + r)) → get_or old j 0 ≡ get_or new j 0
      → BytesAt (without_edges t) (pairs_at + 4 * j) (get_or new j 0)
  kept_word j jl stays same r m = bytes.kept_byte t k (pairs_at + 4 * j + r) (stays r m) ∙ level-bytes S T h j jl r m ∙ rw same

  few : S.levels ≤ max_levels
  few = limits.levels_high

  count_word : (l : ℕ) → l < max_levels → BytesAt (without_edges t) (pairs_at + 4 * (2 * l)) (get_or new (2 * l) 0)
  count_word l hl = kept_word (2 * l) (omega arith) stays (go (lt-or-ge l S.levels))
    where
      stays : (r : ℕ) → r < 4 → bytes.Kept t k (pairs_at + 4 * (2 * l) + r)
      stays r m = record {
        inside = omega arith;
        not_layout = omega arith;
        not_leaves = λ a b. omega arith;
        not_offset = λ x z a b. omega arith;
      }

      go : (l < S.levels) ⊎ (S.levels ≤ l) → get_or old (2 * l) 0 ≡ get_or new (2 * l) 0
      go (inl y) = pairs.word_count S T few l y ∙ sym (words.word_count edgeless_layout S T few l y)
      go (inr y) =
          pairs.word_none S T few (2 * l) (omega arith) (omega arith)
          ∙ sym (words.word_none edgeless_layout S T few (2 * l) (omega arith) (omega arith))

  offset_word : (l : ℕ) → l < max_levels → BytesAt (without_edges t) (pairs_at + 4 * suc (2 * l)) (get_or new (suc (2 * l)) 0)
  offset_word l hl = go (lt-or-ge l S.levels)
    where
      place : offset_at l ≡ pairs_at + 4 * suc (2 * l)
      place = omega arith

      stays : S.levels ≤ l → (r : ℕ) → r < 4 → bytes.Kept t k (pairs_at + 4 * suc (2 * l) + r)
      stays y r m = record {
        inside = omega arith;
        not_layout = omega arith;
        not_leaves = λ a b. omega arith;
        not_offset = λ x z a b. omega (arith, levels-are);
      }

      go : (l < S.levels) ⊎ (S.levels ≤ l) → BytesAt (without_edges t) (pairs_at + 4 * suc (2 * l)) (get_or new (suc (2 * l)) 0)
      go (inl y) =
          rw (words.word-offset edgeless_layout S T few l y, ← place, ← offset-layout1 l (omega arith)) (bytes.offset-bytes t k l (rw levels-are y))
      go (inr y) =
          kept_word (suc (2 * l)) (omega arith) (stays y)
          (pairs.word_none S T few (suc (2 * l)) (omega arith) (omega arith)
          ∙ sym (words.word_none edgeless_layout S T few (suc (2 * l)) (omega arith) (omega arith)))

  leaf-offset-word : BytesAt (without_edges t) (pairs_at + 4 * (2 * max_levels)) (get_or new (2 * max_levels) 0)
  leaf-offset-word =
      rw (words.word-leaf-offset edgeless_layout S T few, ← offset-layout1 S.levels (omega arith))
      (rw levels-are at (bytes.leaf-offset-bytes t k))

  leaf-count-word : BytesAt (without_edges t) (pairs_at + 4 * (2 * max_levels + 1)) (get_or new (2 * max_levels + 1) 0)
  leaf-count-word =
      kept_word (2 * max_levels + 1) (omega arith) stays (pairs.word-leaf-count S T few ∙ sym (words.word-leaf-count edgeless_layout S T few))
    where
      stays : (r : ℕ) → r < 4 → bytes.Kept t k (pairs_at + 4 * (2 * max_levels + 1) + r)
      stays r m = record {
        inside = omega arith;
        not_layout = omega arith;
        not_leaves = λ a b. omega arith;
        not_offset = λ x z a b. omega (arith, levels-are, few);
      }

  -- Each word of the header.
  level-word : (j : ℕ) → j < 2 * max_levels + 2 → BytesAt (without_edges t) (pairs_at + 4 * j) (get_or new j 0)
  level-word j jl = go (lt-or-ge j (2 * max_levels)) (lt-or-ge (j % 2) 1) (lt-or-ge j (2 * max_levels + 1))
    where
      Here : ℕ → Type 0
      Here x = BytesAt (without_edges t) (pairs_at + 4 * x) (get_or new x 0)

      go : (j < 2 * max_levels) ⊎ (2 * max_levels ≤ j) → (j % 2 < 1) ⊎ (1 ≤ j % 2) → (j < 2 * max_levels + 1) ⊎ (2 * max_levels + 1 ≤ j) → Here j
      go (inl y) (inl even) z = let e : j ≡ 2 * (j / 2) = omega arith in subst Here (sym e) (count_word (j / 2) (omega arith))
      go (inl y) (inr odd) z = let e : j ≡ suc (2 * (j / 2)) = omega arith in subst Here (sym e) (offset_word (j / 2) (omega arith))
      go (inr y) p (inl z) = let e : j ≡ 2 * max_levels = omega arith in subst Here (sym e) leaf-offset-word
      go (inr y) p (inr z) = let e : j ≡ 2 * max_levels + 1 = omega arith in subst Here (sym e) leaf-count-word

  -- The six first words and the counted bytes.
  abbrev six : List ℕ
  six = edgeless_layout ∷ length T ∷ S.leaf ∷ S.arity ∷ S.levels ∷ length S.counted ∷ []

  abbrev five : List ℕ
  five = length T ∷ S.leaf ∷ S.arity ∷ S.levels ∷ length S.counted ∷ []

  six-word : (j : ℕ) → j < 6 → BytesAt (without_edges t) (4 * j) (get_or six j 0)
  unfolding six_words
  six-word zero jl = bytes.layout-bytes t k
  six-word (suc j) jl = λ r m. bytes.kept_byte t k (4 * suc j + r) record {
    inside = omega arith;
    not_layout = omega arith;
    not_leaves = λ a b. omega arith;
    not_offset = λ x z a b. omega arith;
  } ∙ six-bytes S T h (suc j) jl r m

  counted-byte : (x : ℕ) → x < max_counted → get_or (without_edges t) (counted_at + x) 0 ≡ get_or (counted_places S T) x 0
  counted-byte x xl = bytes.kept_byte t k (counted_at + x) record {
    inside = omega arith;
    not_layout = omega arith;
    not_leaves = λ a b. omega arith;
    not_offset = λ l z a b. omega arith;
  } ∙ counted-byte-is S T h x xl

  header_is : header_in edgeless_layout S T ≡ words_bytes six ++ counted_places S T ++ words_bytes new
  unfolding header_in counted_places words_in offset_in
  header_is = refl

  length-six : length (words_bytes six) ≡ counted_at
  length-six = length-words six

  length-head : length (words_bytes six ++ counted_places S T) ≡ pairs_at
  length-head = rw (length-append (words_bytes six), length-six, length-places S T h)

  length-new : length (words_bytes new) ≡ header_length - pairs_at
  length-new = length-words new ∙ ap (λ (x : ℕ). 4 * x) (words.length-words-in edgeless_layout S T few)

  header-byte : (x : ℕ) → x < header_length → get_or (layout1_header t) x 0 ≡ get_or (header_in edgeless_layout S T) x 0
  header-byte x l = sym (bytes.front t k x l) ∙ rw header_is (go (lt-or-ge x counted_at) (lt-or-ge x pairs_at))
    where
      go : (x < counted_at) ⊎ (counted_at ≤ x) → (x < pairs_at) ⊎ (pairs_at ≤ x)
          → get_or (without_edges t) x 0 ≡ get_or (words_bytes six ++ counted_places S T ++ words_bytes new) x 0
      go (inl y) z =
          let e : x ≡ 4 * (x / 4) + x % 4 = omega arith in
          let r : x % 4 < 4 = omega arith in
          let j : x / 4 < 6 = omega arith in
          (rw (← e) at (six-word (x / 4) j (x % 4) r))
          ∙ sym (get_or-append (words_bytes six ++ counted_places S T) (words_bytes new) 0 x (rw length-head (omega arith))
          ∙ get_or-append (words_bytes six) (counted_places S T) 0 x (rw length-six y)
          ∙ rw (← e) at (words-byte six (x / 4) (x % 4) j r))
      go (inr y) (inl z) =
          let e : counted_at + (x - counted_at) ≡ x = omega arith in
          (rw e at (counted-byte (x - counted_at) (omega arith)))
          ∙ sym (get_or-append (words_bytes six ++ counted_places S T) (words_bytes new) 0 x (rw length-head (omega arith))
          ∙ rw (length-six, e) at (get_or-append-add (words_bytes six) (counted_places S T) (x - counted_at) 0))
      go (inr y) (inr z) =
          let n : ℕ = x - pairs_at in
          let e : pairs_at + 4 * (n / 4) + n % 4 ≡ x = omega arith in
          let f : 4 * (n / 4) + n % 4 ≡ n = omega arith in
          let g : pairs_at + n ≡ x = omega arith in
          let r : n % 4 < 4 = omega arith in
          (rw e at (level-word (n / 4) (omega arith) (n % 4) r))
          ∙ sym ((rw (length-head, g) at (get_or-append-add (words_bytes six ++ counted_places S T) (words_bytes new) n 0))
          ∙ rw f at (words-byte new (n / 4) (n % 4) (rw (words.length-words-in edgeless_layout S T few) (omega arith)) r))

  header-same : layout1_header t ≡ header_in edgeless_layout S T
  header-same = ext_get_or 0 (layout1_header t) (header_in edgeless_layout S T) (size ∙ sym size-in-layout) (λ x l. header-byte x (rw size at l))
    where
      size : length (layout1_header t) ≡ header_length
      size = sizes.length-layout1-header t k.long

      size-in-layout : length (header_in edgeless_layout S T) ≡ header_length
      size-in-layout = rw (header_is, length-append (words_bytes six ++ counted_places S T), length-head, length-new)

  -- The whole tree.
  pub built-layout1 : without_edges (tree_of S T) ≡ tree_in edgeless_layout S T
  unfolding without_edges tree_in
  built-layout1 = rw (header-same, records-same, leaves-same)
