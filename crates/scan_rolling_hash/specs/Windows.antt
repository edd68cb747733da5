-- A window that rolls over a text.
use Rattle.std.specs.Prelude.{List, ◌≡◌, cond, ℕ, ◌+◌, ◌-◌, ◌%◌, ◌^◌, ◌≤◌, ◌<◌, min, length, eqb}
use Rattle.text.specs.Text.{substring}
use Rattle.scan_rolling_hash.specs.declared.Window.{Window}
use Rattle.scan_rolling_hash.specs.Fingerprints.{base_of, fingerprint}

-- The number of places where a window of n bytes fits in a text of some length; a window of 0 bytes fits nowhere.
abbrev pub places_of : ℕ → ℕ → ℕ
places_of size n = cond (eqb n 0) 0 (size - n + 1)

-- The window of n bytes at place p: if it fits there, it has the fingerprint of its bytes; it was looked up there and at every place before.
pub record WindowAt (seed : ℕ) (T : List ℕ) (n p : ℕ) (w : Window) : Type 0 where
  pub len_is : w.len ≡ n
  pub fits : n ≤ length T
  pub few : length T < 4294967295
  pub places_is : w.places ≡ places_of (length T) n
  pub leaving_is : 0 < w.places → w.leaving ≡ 2147483647 - base_of seed ^ (n + 1) % 2147483647
  pub fingerprint_is : p < w.places → w.fingerprint ≡ fingerprint seed (substring T p n)
  pub looked_is : w.looked ≡ min (p + 1) w.places
