-- Items entered in the table, in the order of their numbers.
use Rattle.std.specs.Prelude.{List, ◌≡◌, ℕ, suc, ◌+◌, ◌≤◌, ◌<◌, length, get_or}
use Rattle.text.specs.Text.{substring}
use Rattle.scan_rolling_hash.specs.Fingerprints.{fingerprint}
use Rattle.scan_hash_table.specs.declared.Items.{Items}
use Rattle.scan_hash_table.specs.ChainHeads.{link_of, Pushed}
use Rattle.scan_hash_table.specs.Entries.{Laid, Chained, Listed, start_at, length_at, bytes_at, next_in, fingerprint_in, item_place_in, head_in}

-- The n words from a place on are zero.
pub record Cleared (W Z : List ℕ) (from n : ℕ) : Type 0 where
  pub same_length : length Z ≡ length W
  pub empty : (i : ℕ) → i < n → get_or Z (from + i) 0 ≡ 0

-- Item x was prepended to chain g, and nothing else is changed.
pub record Put (items : ℕ) (W Z : List ℕ) (x h s g : ℕ) : Type 0 where
  pub same_length : length Z ≡ length W
  pub next : next_in Z x ≡ link_of (head_in items W g)
  pub fingerprint : fingerprint_in Z x ≡ h
  pub place : item_place_in Z x ≡ s
  pub head : Pushed (head_in items W g) h x (head_in items Z g)
  pub nexts : (y : ℕ) → y < x → next_in Z y ≡ next_in W y
  pub fingerprints : (y : ℕ) → y < x → fingerprint_in Z y ≡ fingerprint_in W y
  pub places : (y : ℕ) → y < x → item_place_in Z y ≡ item_place_in W y
  pub heads : (f : ℕ) → (f ≡ g → ⊥) → head_in items Z f ≡ head_in items W f

module _ (T out : List ℕ) (it : Items) where
  -- Item x is entered next; those before it have been entered.
  pub record Turn (W : List ℕ) (x : ℕ) : Type 0 where
    pub laid : Laid T out it (length W)
    pub item_in : x < it.items
    pub chained : Chained T out it W x

  -- Link e leads to an item that has been entered, or nowhere.
  pub record Leads (W : List ℕ) (x e : ℕ) : Type 0 where
    pub low : e ≤ x
    pub listed : (y : ℕ) → e ≡ suc y → Listed T out it W y

  -- r is one more than an item below x that has the n bytes at p, or 0.
  pub record EqualItem (W : List ℕ) (x p n r : ℕ) : Type 0 where
    pub low : r ≤ x
    pub listed : (y : ℕ) → r ≡ suc y → Listed T out it W y
    pub same_length : (y : ℕ) → r ≡ suc y → length_at T out it y ≡ n
    pub same : (y : ℕ) → r ≡ suc y → bytes_at T out it y ≡ substring T p n

  -- Item x has been entered: in its chain, or as equal to an item of that chain.
  pub record Entered (W Z : List ℕ) (x : ℕ) : Type 0 where
    pub same_length : length Z ≡ length W
    pub chained : Chained T out it Z (x + 1)
    pub before : (y : ℕ) → y < x → item_place_in Z y ≡ item_place_in W y
    pub own : Listed T out it Z x → item_place_in Z x ≡ start_at T out it x
    pub equal_item : (y : ℕ) → item_place_in Z x ≡ length T + y
        → (y < x) × Listed T out it Z y × (length_at T out it y ≡ length_at T out it x) × (bytes_at T out it y ≡ bytes_at T out it x)

  -- Item x has been left out.
  pub record Skipped (W Z : List ℕ) (x : ℕ) : Type 0 where
    pub same_length : length Z ≡ length W
    pub chained : Chained T out it Z (x + 1)
    pub before : (y : ℕ) → y < x → item_place_in Z y ≡ item_place_in W y
    pub left_out : length T ≤ item_place_in Z x
