-- Writing the words of an item, and the head of a chain.
use mathlib.Core.List.{List}
use mathlib.Core.Path.{◌≡◌, ◌∙◌}
use mathlib.Core.Logic.{◌≢◌, ◌⊎◌, inl, inr}
use Prim.Native.Nat.{ℕ, ◌+◌, ◌*◌, ◌≤◌, ◌<◌}
use native.Mathlib.Omega.{arith}
use lib.ListN.{length, get_or, set, length-set}
use lib.Seq.{get_or-set_same, get_or-set_other}
use Rattle.text.specs.ListLaws.{lt-or-ge}
use Rattle.scan_hash_table.specs.ChainHeads.{link_of, Pushed}
use Rattle.scan_hash_table.specs.Entries.{next_in, fingerprint_in, item_place_in, head_in}
use Rattle.scan_hash_table.specs.ItemsEntered.{Put}

-- Four words, one after the other.
module _ (W : List ℕ) (items heads x g e h s w : ℕ) (room : 3 * items + heads ≤ length W) (xl : x < items) (gl : g < heads) where
  abbrev Z : List ℕ
  Z = set (set (set (set W (3 * x) e) (3 * x + 1) h) (3 * x + 2) s) (3 * items + g) w

  length_is : length Z ≡ length W
  length_is = simp length-set

  -- At another place.
  other : (i : ℕ) → (i ≡ 3 * x → ⊥) → (i ≡ 3 * x + 1 → ⊥) → (i ≡ 3 * x + 2 → ⊥) → (i ≡ 3 * items + g → ⊥) → get_or Z i 0 ≡ get_or W i 0
  other i a b c d = simp get_or-set_other

  at_next : get_or Z (3 * x) 0 ≡ e
  at_next =
      let l : 3 * x < length W = omega arith in
      let a : 3 * x ≢ 3 * x + 1 = λ q. omega arith in
      let b : 3 * x ≢ 3 * x + 2 = λ q. omega arith in
      let c : 3 * x ≢ 3 * items + g = λ q. omega arith in
      simp (get_or-set_other, get_or-set_same)

  at-fingerprint : get_or Z (3 * x + 1) 0 ≡ h
  at-fingerprint =
      let l : 3 * x + 1 < length (set W (3 * x) e) = simp length-set (omega arith) in
      let b : 3 * x + 1 ≢ 3 * x + 2 = λ q. omega arith in
      let c : 3 * x + 1 ≢ 3 * items + g = λ q. omega arith in
      simp (get_or-set_other, get_or-set_same)

  at_place : get_or Z (3 * x + 2) 0 ≡ s
  at_place =
      let l : 3 * x + 2 < length (set (set W (3 * x) e) (3 * x + 1) h) = simp length-set (omega arith) in
      let c : 3 * x + 2 ≢ 3 * items + g = λ q. omega arith in
      simp (get_or-set_other, get_or-set_same)

  at_head : get_or Z (3 * items + g) 0 ≡ w
  at_head =
      let l : 3 * items + g < length (set (set (set W (3 * x) e) (3 * x + 1) h) (3 * x + 2) s) = simp length-set (omega arith) in
      simp get_or-set_same

  pub is-put : e ≡ link_of (head_in items W g) → Pushed (head_in items W g) h x w → Put items W Z x h s g
  unfolding next_in fingerprint_in item_place_in head_in
  is-put ee p = record {
    same_length = length_is;
    next = at_next ∙ ee;
    fingerprint = at-fingerprint;
    place = at_place;
    head = rw at_head p;
    nexts = λ y l. other (3 * y) (λ q. omega arith) (λ q. omega arith) (λ q. omega arith) (λ q. omega arith);
    fingerprints = λ y l. other (3 * y + 1) (λ q. omega arith) (λ q. omega arith) (λ q. omega arith) (λ q. omega arith);
    places = λ y l. other (3 * y + 2) (λ q. omega arith) (λ q. omega arith) (λ q. omega arith) (λ q. omega arith);
    heads = λ f n. other (3 * items + f) (λ q. omega arith) (λ q. omega arith) (λ q. omega arith) (λ q. n (omega arith));
  }
