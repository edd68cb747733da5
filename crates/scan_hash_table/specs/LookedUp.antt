-- Windows looked up in the table.
use Rattle.std.specs.Prelude.{List, ◌≡◌, ℕ, ◌+◌, ◌≤◌, ◌<◌, length}
use Rattle.text.specs.Text.{substring}
use Rattle.scan_rolling_hash.specs.Fingerprints.{fingerprint}
use Rattle.scan_hash_table.specs.declared.Items.{Items}
use Rattle.scan_hash_table.specs.Entries.{Laid, Chained, Listed, Found, Searched, chain_at, length_at}

module _ (T out : List ℕ) (it : Items) where
  -- All items have been entered, and h is the fingerprint of the n bytes at p.
  pub record Asks (W : List ℕ) (h p n : ℕ) : Type 0 where
    pub laid : Laid T out it (length W)
    pub chained : Chained T out it W it.items
    pub fits : p + n ≤ length T
    pub fingerprint_is : h ≡ fingerprint it.seed (substring T p n)

  -- The window of n bytes at p was compared with item x.
  pub record ItemCompared (W Z : List ℕ) (x p n : ℕ) : Type 0 where
    pub searched : Searched T out it W Z
    pub here : length_at T out it x ≡ n → Found T out it W x p → Found T out it Z x (p + 1)

  -- The window was compared with every item of chain g.
  pub record ChainTraversed (W Z : List ℕ) (g p n : ℕ) : Type 0 where
    pub searched : Searched T out it W Z
    pub here : (x : ℕ) → x < it.items
        → Listed T out it W x → chain_at T out it x ≡ g → length_at T out it x ≡ n → Found T out it W x p → Found T out it Z x (p + 1)
