-- A byte looked for, bytes copied, and zeros, one place after another.
use mathlib.Core.List.{List, [], ◌∷◌}
use mathlib.Core.Bool.{false}
use mathlib.Core.Logic.{◌⊎◌, inl, inr}
use mathlib.Core.Path.{◌≡◌, refl, sym, ap, ◌∙◌}
use Prim.Native.Nat.{ℕ, zero, suc, ◌+◌, ◌-◌, ◌≤◌, ◌<◌}
use native.Mathlib.Omega.{arith}
use native.Mathlib.Nat.{add_assoc}
use native.Mathlib.Numerals.{add-one}
use lib.ListN.{length, get_or, set, take, drop, replicate, length-set}
use lib.Seq.{get_or-set_other, get_or-set_same, set-get_or, paste, paste-suc}
use lib.Dec.{eqb}
use Rattle.std.proofs.lemmas.List.Edits.{paste_none}
use Rattle.std.proofs.lemmas.Slice.{put_mid-paste}
use Rattle.std.specs.List.{list_all}
use borrow.Rule.Slice.PartMut.{put_mid}
use Rattle.text.specs.Text.{same_list, substring, count_in}
use Rattle.text.specs.ListLaws.{lt-or-ge, ne-same_list}
use Rattle.text.specs.TextLaws.{length-substring}
use Rattle.text.proofs.CountTheorems.{count-next-same, count-next-other}
use Rattle.search_byte.specs.FirstByte.{Without, FirstByte}
use Rattle.byte_slices.specs.ByteSlices.{HasBytes, bytes_written}

module _ (t : List ℕ) (from n byte : ℕ) (fits : from + n ≤ length t) where
  -- Bytes without the one that is counted do not change its count.
  count-still : (i k : ℕ) → i + k ≤ n → Without t (from + i) k byte → count_in byte (substring t from (i + k)) ≡ count_in byte (substring t from i)
  count-still i zero h w = let e : i + 0 ≡ i = omega arith in rw e
  count-still i (suc k) h w =
      let e : i + suc k ≡ i + k + 1 = omega arith in
      let p : from + (i + k) ≡ from + i + k = omega arith in
      let other : get_or t (from + (i + k)) 0 ≡ byte → ⊥ = rw p (w.other k (omega arith)) in
      rw e (count-next-other byte t from (i + k) (omega arith) other
      ∙ count-still i k (omega arith) (record { other = λ x l. w.other x (omega arith) }))

  module _ (i k : ℕ) (low : i ≤ n) (f : FirstByte t (from + i) (n - i) byte k) where
    count-first : count_in byte (substring t from (i + k)) ≡ count_in byte (substring t from i)
    count-first = count-still i k (omega (arith, f.high)) f.absent

    byte-first : k < n - i → get_or t (from + (i + k)) 0 ≡ byte
    byte-first h = let p : from + (i + k) ≡ from + i + k = omega arith in rw p (f.there h)

    -- One occurrence more.
    pub count_past : k < n - i → count_in byte (substring t from (i + (k + 1))) ≡ count_in byte (substring t from i) + 1
    count_past h =
        let e : i + (k + 1) ≡ i + k + 1 = omega arith in
        rw e (count-next-same byte t from (i + k) (omega arith) (byte-first h) ∙ ap (λ (x : ℕ). x + 1) count-first)

    -- The last occurrence that is looked for.
    pub nth-first : (j : ℕ) → count_in byte (substring t from i) + 1 ≡ j → HasBytes t from n byte j (i + k)
    nth-first j c = record {
      high = omega (arith, f.high);
      here = λ h. (byte-first (omega arith), omega (arith, count-first));
      fewer = λ h. let e : n ≡ i + k = omega (arith, f.high) in rw e (omega (arith, count-first));
    }

    -- Too few occurrences.
    pub nth-none : (j : ℕ) → n - i ≤ k → count_in byte (substring t from i) < j → HasBytes t from n byte j n
    nth-none j past few =
        let e : n ≡ i + k = omega (arith, f.high) in
        record {
          high = omega arith;
          here = λ h. absurd (let z : ⊥ = omega arith in z);
          fewer = λ h. rw e (omega (arith, count-first));
        }

-- One byte more.
pub bytes-more : (t u v T : List ℕ) (to from j : ℕ) → u ≡ bytes_written t to T from j → v ≡ set u (to + j) (get_or T (from + j) 0)
    → v ≡ bytes_written t to T from (j + 1)
bytes-more t u v T to from j e f = f ∙ rw (e, add-one j)

-- Bytes written, and more after them.
pub bytes-then : (d T : List ℕ) (to from a b : ℕ) → bytes_written (bytes_written d to T from a) (to + a) T (from + a) b ≡ bytes_written d to T from (a + b)
bytes-then d T to from a zero = let z : a + 0 ≡ a = omega arith in rw z
bytes-then d T to from a (suc b) =
    let s : a + suc b ≡ suc (a + b) = omega arith in
    rw (s, bytes-then d T to from a b, add_assoc to a b, add_assoc from a b)

length-bytes : (d T : List ℕ) (to from n : ℕ) → length (bytes_written d to T from n) ≡ length d
length-bytes d T to from zero = refl
length-bytes d T to from (suc n) = simp length-set (length-bytes d T to from n)

byte-written-at : (d T : List ℕ) (to from n : ℕ) → to + n ≤ length d → (x : ℕ) → x < n → get_or (bytes_written d to T from n) (to + x) 0 ≡ get_or T (from + x) 0
byte-written-at d T to from zero h x l = absurd (let z : ⊥ = omega arith in z)
byte-written-at d T to from (suc n) h x l =
    go (bytes_written d to T from n) (length-bytes d T to from n) (lt-or-ge x n) (λ m. byte-written-at d T to from n (omega arith) x m)
  where
    go : (u : List ℕ) → length u ≡ length d → (x < n) ⊎ (n ≤ x) → (x < n → get_or u (to + x) 0 ≡ get_or T (from + x) 0)
        → get_or (set u (to + n) (get_or T (from + n) 0)) (to + x) 0 ≡ get_or T (from + x) 0
    go u e (inl m) r = get_or-set_other u (to + n) (to + x) (get_or T (from + n) 0) 0 (λ i. omega arith) ∙ r m
    go u e (inr m) r = let i : x ≡ n = omega arith in rw i (get_or-set_same u (to + n) (get_or T (from + n) 0) 0 (omega arith))

-- Writing bytes that are there already changes nothing.
bytes-there : (d T : List ℕ) (to from n : ℕ) → ((x : ℕ) → x < n → get_or d (to + x) 0 ≡ get_or T (from + x) 0) → bytes_written d to T from n ≡ d
bytes-there d T to from zero same = refl
bytes-there d T to from (suc n) same =
    rw (bytes-there d T to from n (λ x l. same x (omega arith)), ← same n (omega arith)) (set-get_or d (to + n) 0)

-- The first k of n bytes written, then the last m of them: those that are in both are written again.
pub bytes-overlap : (d T : List ℕ) (to from k e m n : ℕ) → to + k ≤ length d → e ≤ k → k ≤ n → e + m ≡ n
    → bytes_written (bytes_written d to T from k) (to + e) T (from + e) m ≡ bytes_written d to T from n
bytes-overlap d T to from k e m n fits low high whole =
    let first : List ℕ = bytes_written d to T from k in
    let parts : m ≡ (k - e) + (n - k) = omega arith in
    let to_end : to + e + (k - e) ≡ to + k = omega arith in
    let from_end : from + e + (k - e) ≡ from + k = omega arith in
    let all : k + (n - k) ≡ n = omega arith in
    let again : bytes_written first (to + e) T (from + e) (k - e) ≡ first = bytes-there first T (to + e) (from + e) (k - e)
    (λ x l. rw (add_assoc to e x, add_assoc from e x) (byte-written-at d T to from k fits (e + x) (omega arith))) in
    let more : bytes_written first (to + k) T (from + k) (n - k) ≡ bytes_written d to T from n = rw all at (bytes-then d T to from k (n - k)) in
    rw parts (sym (bytes-then first T (to + e) (from + e) (k - e) (n - k)) ∙ rw (again, to_end, from_end) more)

-- Bytes written into a part of a list.
bytes-paste : (d T ys : List ℕ) (to from n : ℕ) → to + n ≤ length d → n ≤ length ys → ((x : ℕ) → x < n → get_or ys x 0 ≡ get_or T (from + x) 0)
    → bytes_written d to T from n ≡ paste d to ys n
bytes-paste d T ys to from zero fits all same = paste_none d to ys
bytes-paste d T ys to from (suc n) fits all same =
    rw (bytes-paste d T ys to from n (omega arith) (omega arith) (λ x l. same x (omega arith)), ← same n (omega arith))
    (paste-suc d to ys n 0 (omega arith) (omega arith))

pub bytes-put : (d T ys : List ℕ) (to from n k : ℕ) → to + n ≤ length d → n ≡ k → n ≡ length ys
    → ((x : ℕ) → x < n → get_or ys x 0 ≡ get_or T (from + x) 0) → put_mid to k d ys ≡ bytes_written d to T from n
bytes-put d T ys to from n k fits same_n all same =
    put_mid-paste to k d ys ys n refl same_n all ∙ sym (bytes-paste d T ys to from n fits (omega arith) same)

-- Bytes that are all zero.
zeros-list : (xs : List ℕ) → list_all (λ x. eqb x 0) xs ≡ same_list xs (replicate (length xs) 0)
unfolding same_list
zeros-list [] = refl
zeros-list (x ∷ xs) = rw (zeros-list xs)

pub zeros-all : (t : List ℕ) (a n k : ℕ) → a + n ≤ length t → n ≡ k → list_all (λ x. eqb x 0) (take k (drop a t)) ≡ same_list (substring t a n) (replicate n 0)
unfolding substring
zeros-all t a n k fits same = let all : length (take n (drop a t)) ≡ n = length-substring t a n fits in
    rw (← same) (zeros-list (take n (drop a t)) ∙ ap (λ (m : ℕ). same_list (take n (drop a t)) (replicate m 0)) all)

-- Lists of different lengths differ.
pub lengths_differ : (a b : List ℕ) → (length a ≡ length b → ⊥) → false ≡ same_list a b
lengths_differ a b n = sym (ne-same_list a b (λ e. n (ap length e)))
