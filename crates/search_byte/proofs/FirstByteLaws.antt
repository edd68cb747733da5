-- The digits of a mask, and the zeros below its lowest one.
use mathlib.Core.List.{List}
use mathlib.Core.Bool.{true, false}
use mathlib.Core.Path.{◌≡◌, refl, sym}
use mathlib.Core.Logic.{◌⊎◌, inl, inr}
use Prim.Native.Nat.{ℕ, zero, suc, ◌+◌, ◌-◌, ◌*◌, ◌^◌, ◌/◌, ◌%◌, ◌≤◌, ◌<◌}
use native.Mathlib.Omega.{arith}
use native.Mathlib.Nat.{pow-suc, mul_comm, mul_assoc, one-mul}
use lib.ListN.{get_or}
use lib.Dec.{eqb}
use lib.Count.{count_trailing_zeros}
use borrow.Author.Tests.{eqb-true, eq-eqb, ne_eqb}
use Rattle.text.specs.ListLaws.{bool_cases, bool_clash, lt-or-ge, below_suc}
use Rattle.search_byte.specs.FirstByte.{Without, FirstByte, bit_of, mask_of}

pub bit-same : (a b : ℕ) → a ≡ b → (1 ≡ bit_of a b) × (1 < 2)
unfolding bit_of
bit-same a b e = (rw (eq-eqb a b e), omega arith)

pub bit-other : (a b : ℕ) → (a ≡ b → ⊥) → (0 ≡ bit_of a b) × (0 < 2)
unfolding bit_of
bit-other a b e = (rw (ne_eqb a b e), omega arith)

digit-one : (d m n : ℕ) → n ≡ 1 + 2 * m → count_trailing_zeros (suc d) n ≡ 0
unfolding count_trailing_zeros
digit-one d m n e =
    let a : n % 2 ≡ 1 = omega arith in
    rw a

digit-zero : (d m n : ℕ) → n ≡ 2 * m → count_trailing_zeros (suc d) n ≡ suc (count_trailing_zeros d m)
unfolding count_trailing_zeros
digit-zero d m n e =
    let a : n % 2 ≡ 0 = omega arith in
    let b : n / 2 ≡ m = omega arith in
    rw (a, b)

module _ (t : List ℕ) (byte : ℕ) where
  pub mask-two : (at x y : ℕ) → x ≡ bit_of (get_or t at 0) byte → y ≡ bit_of (get_or t (at + 1) 0) byte → x + 2 * y ≡ mask_of 2 t at byte
  unfolding mask_of
  mask-two at x y e f = rw (e, f) (omega arith)

  -- Two parts.
  mask-join : (a b at : ℕ) → mask_of (a + b) t at byte ≡ mask_of a t at byte + 2 ^ a * mask_of b t (at + a) byte
  unfolding mask_of
  mask-join zero b at =
      let e : at + 0 ≡ at = omega arith in
      let z : 0 + b ≡ b = omega arith in
      rw (e, z) (omega (arith, one-mul (mask_of b t at byte)))
  mask-join (suc a) b at =
      let e : at + suc a ≡ at + 1 + a = omega arith in
      let s : suc a + b ≡ suc (a + b) = omega arith in
      let x = mask_of b t (at + 1 + a) byte in
      let p : 2 ^ suc a * x ≡ 2 * (2 ^ a * x) = rw (pow-suc 2 a, mul_comm (2 ^ a) 2) (mul_assoc 2 (2 ^ a) x) in
      rw (e, s, p, mask_of, mask-join a b (at + 1)) (omega arith)

  -- Two halves, with the second one's weight as written.
  pub mask-halves : (k w at x y : ℕ) → w ≡ 2 ^ k → x ≡ mask_of k t at byte → y ≡ mask_of k t (at + k) byte → x + w * y ≡ mask_of (k + k) t at byte
  mask-halves k w at x y e f g = rw (e, f, g) (sym (mask-join k k at))

  pub without-none : (from : ℕ) → Without t from 0 byte
  without-none from = record { other = λ x h. absurd (let z : ⊥ = omega arith in z) }

  -- One byte more.
  pub without_more : (from i : ℕ) → Without t from i byte → (get_or t (from + i) 0 ≡ byte → ⊥) → Without t from (i + 1) byte
  without_more from i w differs = record { other = λ x h. go x (below_suc x i (omega arith)) }
    where
      go : (x : ℕ) → (x < i) ⊎ (x ≡ i) → get_or t (from + x) 0 ≡ byte → ⊥
      go x (inl l) = w.other x l
      go x (inr e) = rw e differs

  -- Two adjacent ranges.
  pub without-join : (from i k : ℕ) → Without t from i byte → Without t (from + i) k byte → Without t from (i + k) byte
  without-join from i k v w = record { other = λ x h. go x h (lt-or-ge x i) }
    where
      go : (x : ℕ) → x < i + k → (x < i) ⊎ (i ≤ x) → get_or t (from + x) 0 ≡ byte → ⊥
      go x h (inl l) = v.other x l
      go x h (inr g) = let e : from + x ≡ from + i + (x - i) = omega arith in rw e (w.other (x - i) (omega arith))

  without_fewer : (from i k : ℕ) → i ≤ k → Without t from k byte → Without t from i byte
  without_fewer from i k h w = record { other = λ x l. w.other x (omega arith) }

  -- A range without the byte.
  pub first-none : (from k r : ℕ) → FirstByte t from k byte r → k ≤ r → Without t from k byte
  first-none from k r f past = without_fewer from k r past f.absent

  -- i bytes without one, then the first of k
  pub first-after : (from n i k r : ℕ) → Without t from i byte → FirstByte t (from + i) k byte r → i + k ≤ n → i + r < n → r < k
      → FirstByte t from n byte (i + r)
  first-after from n i k r w f fits low here = record {
    high = omega arith;
    absent = without-join from i r w f.absent;
    there = λ h. let e : from + (i + r) ≡ from + i + r = omega arith in rw e (f.there here);
  }

  -- The first occurrence among all bytes that are left.
  pub first_rest : (from n i r : ℕ) → Without t from i byte → i ≤ n → FirstByte t (from + i) (n - i) byte r → FirstByte t from n byte (i + r)
  first_rest from n i r w low f = record {
    high = omega (arith, f.high);
    absent = without-join from i r w f.absent;
    there = λ h. let e : from + (i + r) ≡ from + i + r = omega arith in rw e (f.there (omega arith));
  }

  -- More bytes than those that are looked at were compared.
  pub first-within : (from n k r : ℕ) → FirstByte t from k byte r → n < k → r ≤ n → FirstByte t from n byte r
  first-within from n k r f less low = record { high = low; absent = f.absent; there = λ h. f.there (omega arith) }

  pub first_past : (from n k r : ℕ) → FirstByte t from k byte r → n < r → FirstByte t from n byte n
  first_past from n k r f past = record {
    high = omega arith;
    absent = without_fewer from n r (omega arith) f.absent;
    there = λ h. absurd (let z : ⊥ = omega arith in z);
  }

  mask-zero : (at : ℕ) → 2 ^ 0 + mask_of 0 t at byte ≡ 1 + 2 * 0
  unfolding mask_of
  mask-zero at = refl

  mask-more : (k at : ℕ) → 2 ^ suc k + mask_of (suc k) t at byte ≡ bit_of (get_or t at 0) byte + 2 * (2 ^ k + mask_of k t (at + 1) byte)
  unfolding mask_of
  mask-more k at = rw (pow-suc 2 k) (omega arith)

  first-here : (at k : ℕ) → get_or t at 0 ≡ byte → FirstByte t at (suc k) byte 0
  first-here at k e = record {
    high = omega arith;
    absent = without-none at;
    there = λ h. let z : at + 0 ≡ at = omega arith in rw z e;
  }

  first-later : (at k r : ℕ) → (get_or t at 0 ≡ byte → ⊥) → FirstByte t (at + 1) k byte r → FirstByte t at (suc k) byte (suc r)
  first-later at k r differs f =
      let z : at + 0 ≡ at = omega arith in
      let e : suc r ≡ 1 + r = omega arith in record {
        high = omega (arith, f.high);
        absent = rw e (without-join at 1 r (without_more at 0 (without-none at) (rw z differs)) f.absent);
        there = λ h. let y : at + suc r ≡ at + 1 + r = omega arith in rw y (f.there (omega arith));
      }

  -- The zeros below the lowest digit; a digit above all of them ends the count.
  first-digit : (k d at : ℕ) → k < d → FirstByte t at k byte (count_trailing_zeros d (2 ^ k + mask_of k t at byte))
  first-digit k zero at h = absurd (let z : ⊥ = omega arith in z)
  first-digit zero (suc d) at h =
      rw (digit-one d 0 (2 ^ 0 + mask_of 0 t at byte) (mask-zero at))
      (record { high = omega arith; absent = without-none at; there = λ l. absurd (let y : ⊥ = omega arith in y) })
  first-digit (suc k) (suc d) at h = go (bool_cases (eqb (get_or t at 0) byte)) (first-digit k d (at + 1) (omega arith))
    where
      m : ℕ
      m = 2 ^ k + mask_of k t (at + 1) byte

      n : ℕ
      n = 2 ^ suc k + mask_of (suc k) t at byte

      go : (eqb (get_or t at 0) byte ≡ true) ⊎ (eqb (get_or t at 0) byte ≡ false)
          → FirstByte t (at + 1) k byte (count_trailing_zeros d m) → FirstByte t at (suc k) byte (count_trailing_zeros (suc d) n)
      go (inl e) f =
          let is = eqb-true (get_or t at 0) byte e in
          let z : n ≡ 1 + 2 * m = omega (arith, mask-more k at, (bit-same (get_or t at 0) byte is).0) in
          rw (digit-one d m n z) (first-here at k is)
      go (inr e) f =
          let differs : get_or t at 0 ≡ byte → ⊥ = λ is. bool_clash _ (eq-eqb (get_or t at 0) byte is) e in
          let z : n ≡ 2 * m = omega (arith, mask-more k at, (bit-other (get_or t at 0) byte differs).0) in
          rw (digit-zero d m n z) (first-later at k (count_trailing_zeros d m) differs f)

  pub first-of-sixteen : (at m : ℕ) → m ≡ mask_of 16 t at byte → FirstByte t at 16 byte (count_trailing_zeros 32 (65536 + m))
  first-of-sixteen at m e = rw e (first-digit 16 32 at (omega arith))
