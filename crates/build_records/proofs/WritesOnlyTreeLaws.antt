-- Laws of buffers that are filled with the bytes of a tree, and of the words in them.
use mathlib.Core.List.{List}
use mathlib.Core.Path.{◌≡◌, refl, sym, ap, ◌∙◌}
use mathlib.Core.Logic.{◌⊎◌, inl, inr}
use Prim.Native.Nat.{ℕ, zero, suc, ◌+◌, ◌-◌, ◌≤◌, ◌<◌}
use native.Mathlib.Omega.{arith}
use lib.ListN.{length, get_or, set, length-set}
use lib.Seq.{get_or-set_same, get_or-set_other}
use native.Mathlib.Decide.{ℕ_discrete}
use Rattle.text.specs.ListLaws.{lt-or-ge, below_suc}
use Rattle.format.specs.Layout.{word_at, set_word}
use Rattle.format.specs.WordLaws.{put_three, length-set_word, get_or-set_word-other}
use Rattle.theory_built.specs.BuiltBytes.{BytesAt, bytes_word, written-word}
use Rattle.byte_slices.specs.ByteSlices.{bytes_written}
use Rattle.build_records.specs.WritesOnlyTree.{WritesOnlyTree, AgreesOn}

within_word : (D t : List ℕ) (i v : ℕ) → AgreesOn D t i (i + 4) → BytesAt D i v → BytesAt t i v
within_word D t i v w s r l = w.right (i + r) (omega arith) (omega arith) ∙ s r l

-- A word of the tree, read from a buffer that has it.
pub read_right : (D t : List ℕ) (i v : ℕ) → AgreesOn D t i (i + 4) → BytesAt D i v → v < 4294967296 → word_at t i ≡ v
read_right D t i v w s small = bytes_word t i v (within_word D t i v w s) small

module _ (D : List ℕ) where
  pub only-tree-refl : (t : List ℕ) → WritesOnlyTree D t t
  only-tree-refl t = record { same_length = refl; keeps = λ k e. e; past = λ k l. refl }

  pub only-tree-trans : (a b c : List ℕ) → WritesOnlyTree D a b → WritesOnlyTree D b c → WritesOnlyTree D a c
  only-tree-trans a b c g h = record {
    same_length = h.same_length ∙ g.same_length;
    keeps = λ k e. h.keeps k (g.keeps k e);
    past = λ k l. h.past k l ∙ g.past k l;
  }

  pub agrees-only-tree : (t u : List ℕ) (a w : ℕ) → WritesOnlyTree D t u → AgreesOn D t a w → AgreesOn D u a w
  agrees-only-tree t u a w g h = record { right = λ k l m. g.keeps k (h.right k l m) }

  pub within-join : (t : List ℕ) (a m w : ℕ) → AgreesOn D t a m → AgreesOn D t m w → AgreesOn D t a w
  within-join t a m w g h = record { right = λ k l n. go k l n (lt-or-ge k m) }
    where
      go : (k : ℕ) → a ≤ k → k < w → (k < m) ⊎ (m ≤ k) → get_or t k 0 ≡ get_or D k 0
      go k l n (inl z) = g.right k l z
      go k l n (inr z) = h.right k z n

  pub within-part : (t : List ℕ) (a w b x : ℕ) → AgreesOn D t a w → a ≤ b → x ≤ w → AgreesOn D t b x
  within-part t a w b x h lo hi = record { right = λ k l m. h.right k (omega arith) (omega arith) }

  pub within_none : (t : List ℕ) (a w : ℕ) → w ≤ a → AgreesOn D t a w
  within_none t a w e = record { right = λ k l m. absurd (let z : ⊥ = omega arith in z) }

  module _ (t : List ℕ) (i v : ℕ) (fits : i + 4 ≤ length t) (s : BytesAt D i v) where
    word-right : (k : ℕ) → i ≤ k → k < i + 4 → get_or (set_word t i v) k 0 ≡ get_or D k 0
    word-right k l m =
        let e : k ≡ i + (k - i) = omega arith in
        let r : k - i < 4 = omega arith in
        ap (λ (x : ℕ). get_or (set_word t i v) x 0) e ∙ written-word t i v fits (k - i) r ∙ sym (s (k - i) r) ∙ sym (ap (λ (x : ℕ). get_or D x 0) e)

    pub word-within : AgreesOn D (set_word t i v) i (i + 4)
    word-within = record { right = word-right }

    word_keeps : (k : ℕ) → get_or t k 0 ≡ get_or D k 0 → get_or (set_word t i v) k 0 ≡ get_or D k 0
    word_keeps k e = go (lt-or-ge k i) (lt-or-ge k (i + 4))
      where
        go : (k < i) ⊎ (i ≤ k) → (k < i + 4) ⊎ (i + 4 ≤ k) → get_or (set_word t i v) k 0 ≡ get_or D k 0
        go (inl z) _ = get_or-set_word-other t i v k (λ a b. omega arith) ∙ e
        go (inr z) (inl y) = word-right k z y
        go (inr z) (inr y) = get_or-set_word-other t i v k (λ a b. omega arith) ∙ e

    pub word-only-tree : i + 4 ≤ length D → WritesOnlyTree D t (set_word t i v)
    word-only-tree inside = record {
      same_length = length-set_word t i v;
      keeps = word_keeps;
      past = λ k l. get_or-set_word-other t i v k (λ a b. omega arith);
    }

  module _ (t : List ℕ) (i a b c : ℕ) (fits : i + 12 ≤ length t) (inside : i + 12 ≤ length D)
      (s : BytesAt D i a) (s' : BytesAt D (i + 4) b) (s'' : BytesAt D (i + 8) c) where
    t1 : List ℕ
    t1 = set_word t i a

    t2 : List ℕ
    t2 = set_word t1 (i + 4) b

    g1 : WritesOnlyTree D t t1
    unfolding t1
    g1 = word-only-tree t i a (omega arith) s (omega arith)

    fits1 : i + 12 ≤ length t1
    fits1 = omega (arith, g1.same_length)

    g2 : WritesOnlyTree D t1 t2
    unfolding t2
    g2 = word-only-tree t1 (i + 4) b (omega (arith, fits1)) s' (omega arith)

    fits2 : i + 12 ≤ length t2
    fits2 = omega (arith, fits1, g2.same_length)

    g3 : WritesOnlyTree D t2 (put_three t i a b c)
    unfolding t1 t2
    g3 = word-only-tree t2 (i + 8) c (omega (arith, fits2)) s'' (omega arith)

    pub three-only-tree : WritesOnlyTree D t (put_three t i a b c)
    three-only-tree = only-tree-trans t t1 (put_three t i a b c) g1 (only-tree-trans t1 t2 (put_three t i a b c) g2 g3)

    first_word : AgreesOn D t1 i (i + 4)
    unfolding t1
    first_word = word-within t i a (omega arith) s

    second_word : AgreesOn D t2 (i + 4) (i + 8)
    unfolding t2
    second_word = within-part t2 (i + 4) (i + 4 + 4) (i + 4) (i + 8) (word-within t1 (i + 4) b (omega (arith, fits1)) s') (omega arith) (omega arith)

    third-word : AgreesOn D (put_three t i a b c) (i + 8) (i + 12)
    unfolding t1 t2
    third-word = within-part (put_three t i a b c)
        (i + 8) (i + 8 + 4) (i + 8) (i + 12) (word-within t2 (i + 8) c (omega (arith, fits2)) s'') (omega arith) (omega arith)

    pub three-within : AgreesOn D (put_three t i a b c) i (i + 12)
    three-within =
        within-join (put_three t i a b c) i (i + 4) (i + 12)
        (agrees-only-tree t1 (put_three t i a b c) i (i + 4) (only-tree-trans t1 t2 (put_three t i a b c) g2 g3) first_word)
        (within-join (put_three t i a b c) (i + 4) (i + 8) (i + 12) (agrees-only-tree t2 (put_three t i a b c) (i + 4) (i + 8) g3 second_word) third-word)

-- Bytes written one after the other.

module _ (D t : List ℕ) (i v : ℕ) (fits : i < length t) (inside : i < length D) (is : get_or D i 0 ≡ v) where
  byte-right : get_or (set t i v) i 0 ≡ get_or D i 0
  byte-right = get_or-set_same t i v 0 fits ∙ sym is

  byte-only-tree : WritesOnlyTree D t (set t i v)
  byte-only-tree = record {
    same_length = length-set t i v;
    keeps = λ k e. keep k e (ℕ_discrete k i);
    past = λ k l. get_or-set_other t i k v 0 (λ e. omega arith);
  }
    where
      keep : (k : ℕ) → get_or t k 0 ≡ get_or D k 0 → Dec (k ≡ i) → get_or (set t i v) k 0 ≡ get_or D k 0
      keep k e (yes y) = rw y byte-right
      keep k e (no n) = get_or-set_other t i k v 0 n ∙ e

module _ (D t T : List ℕ)
    (to from n : ℕ) (fits : to + n ≤ length t) (inside : to + n ≤ length D) (is : (j : ℕ) → j < n → get_or D (to + j) 0 ≡ get_or T (from + j) 0) where
  pub bytes-only-tree : (j : ℕ) → j ≤ n → WritesOnlyTree D t (bytes_written t to T from j)
  bytes-only-tree zero l = only-tree-refl D t
  bytes-only-tree (suc j) l =
      let g = bytes-only-tree j (omega arith) in
      only-tree-trans D t (bytes_written t to T from j) (bytes_written t to T from (suc j)) g
      (byte-only-tree D (bytes_written t to T from j) (to + j) (get_or T (from + j) 0) (omega (arith, g.same_length)) (omega arith) (is j (omega arith)))

  bytes-right : (j : ℕ) → j ≤ n → (x : ℕ) → x < j → get_or (bytes_written t to T from j) (to + x) 0 ≡ get_or D (to + x) 0
  bytes-right zero l x k = absurd (let z : ⊥ = omega arith in z)
  bytes-right (suc j) l x k = go (below_suc x j k) (bytes-right j (omega arith) x)
    where
      go : (x < j) ⊎ (x ≡ j) → (x < j → get_or (bytes_written t to T from j) (to + x) 0 ≡ get_or D (to + x) 0)
          → get_or (bytes_written t to T from (suc j)) (to + x) 0 ≡ get_or D (to + x) 0
      go (inl y) r = get_or-set_other (bytes_written t to T from j) (to + j) (to + x) (get_or T (from + j) 0) 0 (λ e. omega arith) ∙ r y
      go (inr y) r =
          let g = bytes-only-tree j (omega arith) in
          rw y (byte-right D (bytes_written t to T from j) (to + j) (get_or T (from + j) 0) (omega (arith, g.same_length)) (omega arith) (is j (omega arith)))

  pub bytes-within : AgreesOn D (bytes_written t to T from n) to (to + n)
  bytes-within = record {
    right = λ k l m.
        let e : to + (k - to) ≡ k = omega arith in
        rw e at (bytes-right n (omega arith) (k - to) (omega arith));
  }
