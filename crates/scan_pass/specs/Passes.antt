-- One pass over the text for a level: the contents of the table before, during and after it.
use Rattle.std.specs.Prelude.{List, cond, ◌≡◌, ◌⊎◌, ℕ, ◌+◌, ◌-◌, ◌*◌, ◌/◌, ◌%◌, ◌≤◌, ◌<◌, length, eqb, ltb}
use Rattle.text.specs.Text.{leftmost}
use Rattle.scan_rolling_hash.specs.Windows.{places_of, WindowAt}
use Rattle.scan_hash_table.specs.declared.Items.{Items}
use Rattle.scan_hash_table.specs.Entries.{Laid, Chained, Listed, Found, Searched, start_at, length_at, bytes_at, item_place_in}
use Rattle.scan_pass.specs.declared.Lengths.{Lengths}
use Rattle.scan_pass.specs.declared.pass.CutWindows.{CutWindows}

-- The lengths with n added: n replaces the one of its kind, by comparison with the length of a full block; 0 adds nothing.
abbrev pub with_length : Lengths → ℕ → ℕ → Lengths
with_length l size n =
    cond (eqb n 0) l
    (cond (ltb n size) (record { block = l.block; pair = l.pair; last = n; ending = l.ending })
    (cond (eqb n size) (record { block = n; pair = l.pair; last = l.last; ending = l.ending })
    (cond (eqb n (size + size)) (record { block = l.block; pair = n; last = l.last; ending = l.ending })
    (record { block = l.block; pair = l.pair; last = l.last; ending = n }))))

-- A length is one of the four that are noted.
pub record Among (size : ℕ) (l : Lengths) (n : ℕ) : Type 0 where
  pub short : n < size → l.last ≡ n
  pub full : n ≡ size → l.block ≡ n
  pub both : n ≡ size + size → l.pair ≡ n
  pub cut : size < n → n < size + size → l.ending ≡ n

-- Both windows of cut lengths at place p, and an upper bound of their numbers of places.
pub record CutWindowsAt (seed : ℕ) (T : List ℕ) (n k p : ℕ) (cut : CutWindows) : Type 0 where
  pub last_is : WindowAt seed T n p cut.last
  pub ending_is : WindowAt seed T k p cut.ending
  pub last_few : cut.last.places ≤ cut.places
  pub ending_few : cut.ending.places ≤ cut.places

-- The first occurrence of item x, by the table of a text of n bytes: its own, or that of an equal item.
unfoldable pub place_put : ℕ → List ℕ → ℕ → ℕ
place_put n W x = cond (ltb (item_place_in W x) n) (item_place_in W x) (item_place_in W (item_place_in W x - n))

module _ (T out : List ℕ) (it : Items) where
  -- Item x exists: a block, or two blocks that are adjacent in the text.
  abbrev pub Present : ℕ → Type 0
  Present x = (x % 2 ≡ 0) ⊎ (start_at T out it (x + 1) ≡ start_at T out it x + it.size)

  -- The blocks of the level ascend, and there is a last one.
  pub record Ordered : Type 0 where
    pub size_low : 1 ≤ it.size
    pub last : ℕ
    pub items_are : it.items ≡ 2 * last + 1
    pub rising : (x y : ℕ) → x / 2 < y / 2 → y < it.items → start_at T out it x + it.size ≤ start_at T out it y

  -- Item x was processed: entered, or left out if it does not exist.
  pub record ItemProcessed (W Z : List ℕ) (x : ℕ) : Type 0 where
    pub same_length : length Z ≡ length W
    pub chained : Chained T out it Z (x + 1)
    pub before : (y : ℕ) → y < x → item_place_in Z y ≡ item_place_in W y
    pub there : Listed T out it Z x → Present x
    pub own : Listed T out it Z x → item_place_in Z x ≡ start_at T out it x
    pub equal_item : Present x → (y : ℕ) → item_place_in Z x ≡ length T + y
        → (y < x) × Listed T out it Z y × (length_at T out it y ≡ length_at T out it x) × (bytes_at T out it y ≡ bytes_at T out it x)

  -- The items below k were processed.
  pub record EnteredItems (W : List ℕ) (k : ℕ) : Type 0 where
    pub laid : Laid T out it (length W)
    pub chained : Chained T out it W k
    pub there : (x : ℕ) → x < k → Listed T out it W x → Present x
    pub own : (x : ℕ) → x < k → Listed T out it W x → item_place_in W x ≡ start_at T out it x
    pub equal_item : (x : ℕ) → x < k → Present x → (y : ℕ) → item_place_in W x ≡ length T + y
        → (y < x) × Listed T out it W y × (length_at T out it y ≡ length_at T out it x) × (bytes_at T out it y ≡ bytes_at T out it x)

  -- The length of pair x, 0 if it does not exist.
  pub record PairAnswer (x n : ℕ) : Type 0 where
    pub present : Present x → n ≡ length_at T out it x
    pub absent : (Present x → ⊥) → n ≡ 0

  -- Some existing item below k has n bytes.
  abbrev pub Has : ℕ → ℕ → Type 0
  Has k n = (x : ℕ) × (x < k) × Present x × (length_at T out it x ≡ n)

  -- The lengths of the existing items below k, and no others.
  pub record LengthsOf (k : ℕ) (l : Lengths) : Type 0 where
    pub covers : (x : ℕ) → x < k → Present x → Among it.size l (length_at T out it x)
    pub block_is : (l.block ≡ 0) ⊎ ((l.block ≡ it.size) × Has k l.block)
    pub pair_is : (l.pair ≡ 0) ⊎ ((l.pair ≡ it.size + it.size) × Has k l.pair)
    pub last_is : (l.last ≡ 0) ⊎ ((l.last < it.size) × Has k l.last)
    pub ending_is : (l.ending ≡ 0) ⊎ ((it.size < l.ending) × (l.ending < it.size + it.size) × Has k l.ending)

  -- Every item in a chain has one of the lengths, and none is longer than the text.
  pub record Covers (W : List ℕ) (l : Lengths) : Type 0 where
    pub one : (x : ℕ) → x < it.items → Listed T out it W x
        → (length_at T out it x ≡ l.block) ⊎ ((length_at T out it x ≡ l.pair) ⊎ ((length_at T out it x ≡ l.last) ⊎ (length_at T out it x ≡ l.ending)))
    pub block_in : l.block ≤ length T
    pub pair_in : l.pair ≤ length T
    pub last_in : l.last ≤ length T
    pub ending_in : l.ending ≤ length T

  -- All items have been entered.
  pub record Asked (W : List ℕ) : Type 0 where
    pub laid : Laid T out it (length W)
    pub chained : Chained T out it W it.items
    pub low : (x : ℕ) → x < it.items → 1 ≤ length_at T out it x

  -- The window of n bytes was looked up at p, if it fits there.
  pub record Stepped (W Z : List ℕ) (n p : ℕ) : Type 0 where
    pub searched : Searched T out it W Z
    pub here : (x : ℕ) → x < it.items → Listed T out it W x → length_at T out it x ≡ n → Found T out it W x p → Found T out it Z x (p + 1)

  -- Two windows, of n and of k bytes, were looked up at p, one after the other.
  pub record SteppedTwice (W Z : List ℕ) (n k p : ℕ) : Type 0 where
    pub between : List ℕ
    pub one : Stepped W between n p
    pub other : Stepped between Z k p

  -- After the pass every item in a chain has the place of its first occurrence.
  pub record Passed (W Z : List ℕ) : Type 0 where
    pub searched : Searched T out it W Z
    pub found : (x : ℕ) → x < it.items → Listed T out it W x → item_place_in Z x ≡ leftmost T (start_at T out it x) (length_at T out it x)

  -- The results in the table for the items that exist.
  pub record Answered (W : List ℕ) : Type 0 where
    pub laid : Laid T out it (length W)
    pub place : (x : ℕ) → x < it.items → Present x → place_put (length T) W x ≡ leftmost T (start_at T out it x) (length_at T out it x)
    pub equal_before : (x : ℕ) → x < it.items → Present x → length T ≤ item_place_in W x → item_place_in W x < length T + x
    pub first : (x : ℕ) → x < it.items
        → Present x → item_place_in W x ≡ start_at T out it x → leftmost T (start_at T out it x) (length_at T out it x) ≡ start_at T out it x
    pub again : (x : ℕ) → x < it.items
        → Present x → (item_place_in W x ≡ start_at T out it x → ⊥) → leftmost T (start_at T out it x) (length_at T out it x) ≡ start_at T out it x → ⊥

  -- The number of windows looked up: for each length, one at every place.
  pub record Counted (r : ℕ) : Type 0 where
    pub lengths : Lengths
    pub lengths_are : LengthsOf it.items lengths
    pub sum : r ≡ places_of (length T)
        lengths.block + places_of (length T) lengths.pair + places_of (length T) lengths.last + places_of (length T) lengths.ending
