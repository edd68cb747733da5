-- The items of a level, its blocks and pairs, in a table of words.
use Rattle.std.specs.Prelude.{List, ◌≡◌, ℕ, suc, ◌+◌, ◌-◌, ◌*◌, ◌/◌, ◌%◌, ◌≤◌, ◌<◌, min, length, get_or}
use Rattle.text.specs.Text.{substring}
use Rattle.format.specs.Layout.{word_at, max_text}
use Rattle.scan_rolling_hash.specs.Fingerprints.{fingerprint}
use Rattle.scan_hash_table.specs.declared.Items.{Items}
use Rattle.scan_hash_table.specs.declared.ItemBytes.{ItemBytes}
use Rattle.scan_hash_table.specs.ChainHeads.{max_items, link_of, mark_of, bucket_of}

-- The three words of item x: the link to the next item of its chain, its fingerprint, and the place where its bytes were found. The heads of the chains
-- follow the words of all items.
unfoldable pub next_in : List ℕ → ℕ → ℕ
next_in W x = get_or W (3 * x) 0

unfoldable pub fingerprint_in : List ℕ → ℕ → ℕ
fingerprint_in W x = get_or W (3 * x + 1) 0

unfoldable pub item_place_in : List ℕ → ℕ → ℕ
item_place_in W x = get_or W (3 * x + 2) 0

unfoldable pub head_in : ℕ → List ℕ → ℕ → ℕ
head_in items W g = get_or W (3 * items + g) 0

-- Item 2 i is block i, item 2 i + 1 the pair of blocks i and i + 1. The starts are in the records of the buffer `out`.
module _ (T out : List ℕ) (it : Items) where
  unfoldable pub start_at : ℕ → ℕ
  start_at x = word_at out (it.records + x / 2 * it.step)

  unfoldable pub length_at : ℕ → ℕ
  length_at x = min (it.size * (x % 2 + 1)) (length T - start_at x)

  unfoldable pub bytes_at : ℕ → List ℕ
  bytes_at x = substring T (start_at x) (length_at x)

  unfoldable pub chain_at : ℕ → ℕ
  chain_at x = bucket_of it.heads (fingerprint it.seed (bytes_at x))

  -- The records are in the buffer, and each block starts in the text.
  pub record Placed : Type 0 where
    pub few : length T ≤ max_text
    pub items_few : it.items ≤ max_items
    pub size_few : it.size ≤ max_text
    pub starts : (x : ℕ) → x < it.items → it.records + x / 2 * it.step + 4 ≤ length out
    pub within : (x : ℕ) → x < it.items → start_at x < length T

  -- A table of n words has room for three words of each item and for the heads of the chains.
  pub record Laid (n : ℕ) : Type 0 where
    pub placed : Placed
    pub heads_low : 1 ≤ it.heads
    pub room : 3 * it.items + it.heads ≤ n

  -- The bytes of an item, as the code reads them.
  pub record RunIs (x : ℕ) (r : ItemBytes) : Type 0 where
    pub start_is : r.start.0 ≡ start_at x
    pub length_is : r.length ≡ length_at x
    pub fits : r.start.0 + r.length ≤ length T

  module _ (W : List ℕ) where
    -- An item in a chain has a place of the text as its third word; any other item has the length of the text or more.
    abbrev pub Listed : ℕ → Type 0
    Listed x = item_place_in W x < length T

    -- The chain from link e has only items of chain g below k.
    pub record Link (g k e : ℕ) : Type 0 where
      pub low : e ≤ k
      pub listed : (y : ℕ) → e ≡ suc y → Listed y
      pub chain : (y : ℕ) → e ≡ suc y → chain_at y ≡ g
      -- The chain has all items of its number.
      pub all : (y : ℕ) → y < k → Listed y → chain_at y ≡ g → y < e

    -- The items below k have been entered.
    pub record Chained (k : ℕ) : Type 0 where
      pub within : k ≤ it.items
      pub next : (x : ℕ) → x < k → Listed x → Link (chain_at x) x (next_in W x)
      pub fingerprints : (x : ℕ) → x < k → Listed x → fingerprint_in W x ≡ fingerprint it.seed (bytes_at x)
      pub heads : (g : ℕ) → g < it.heads → Link g k (link_of (head_in it.items W g))
      pub marks : (x : ℕ) → x < k → Listed x → mark_of (head_in it.items W (chain_at x)) (fingerprint it.seed (bytes_at x) % 8) ≡ 1

    -- Among the places below q, none before the one found has the bytes of item x.
    pub record Found (x q : ℕ) : Type 0 where
      pub near : item_place_in W x ≤ start_at x
      pub same : substring T (item_place_in W x) (length_at x) ≡ bytes_at x
      pub absent : (r : ℕ) → r < q → r < item_place_in W x → substring T r (length_at x) ≡ bytes_at x → ⊥

  -- One or several windows were looked up: the chains are unchanged, and what was found is still found.
  pub record Searched (W Z : List ℕ) : Type 0 where
    pub same_length : length Z ≡ length W
    pub nexts : (x : ℕ) → x < it.items → next_in Z x ≡ next_in W x
    pub fingerprints : (x : ℕ) → x < it.items → fingerprint_in Z x ≡ fingerprint_in W x
    pub heads : (g : ℕ) → g < it.heads → head_in it.items Z g ≡ head_in it.items W g
    pub listed : (x : ℕ) → x < it.items → Listed W x → Listed Z x
    pub others : (x : ℕ) → x < it.items → length T ≤ item_place_in W x → item_place_in Z x ≡ item_place_in W x
    pub found : (x q : ℕ) → x < it.items → Listed W x → Found W x q → Found Z x q

  -- The window of n bytes at p was looked up.
  pub record WindowLookedUp (W Z : List ℕ) (p n : ℕ) : Type 0 where
    pub searched : Searched W Z
    pub here : (x : ℕ) → x < it.items → Listed W x → length_at x ≡ n → Found W x p → Found Z x (p + 1)
