-- The way to the j-th byte, step by step, on any tree.
use mathlib.Core.List.{List}
use mathlib.Core.Bool.{cond}
use mathlib.Core.Path.{◌≡◌, refl, ◌∙◌}
use mathlib.Core.Logic.{◌⊎◌, inl, inr}
use Prim.Native.Nat.{ℕ, zero, suc, ◌+◌, ◌-◌, ◌*◌, ◌/◌, ◌≤◌, ◌<◌}
use native.Mathlib.Omega.{arith}
use native.Mathlib.Nat.{add-zero, mul-add-div, div-eq_of_lt}
use lib.Dec.{ltb}
use borrow.Author.Tests.{lt-ltb, le-ltb}
use Rattle.text.specs.ListLaws.{lt-or-ge}
use Rattle.format.specs.Layout.{pieces, skip_field}
use Rattle.format.specs.Layout as at
use Rattle.format.specs.LayoutLaws.{Readable, full-step}
use Rattle.layout.specs.Record.{FieldIn, field_in}
use Rattle.walk_steps.specs.Steps.{OnLevel, InTable}
use Rattle.query_select.specs.Seeks.{LastBefore}

-- Every field of every record can be read.
pub select-field-there : (t : List ℕ) (size level i c f : ℕ) → Readable t → size ≡ at.record_size t → level < (at.settings t).levels → i < at.level_count t level
    → c < at.counted_count t → f ≤ skip_field c → FieldIn t size level i f
select-field-there t size level i c f k size_is hl hi hc hf = field_in t k size level i f size_is hl hi (omega arith)

-- A block of a level, with the block length of the tree.
pub full-there : (t : List ℕ) (size level b i : ℕ) → OnLevel t size level b → i < at.level_count t level → InTable t size level (at.full_length t level) i
full-there t size level b i on hi = record {
  on = record { facts = on.facts; size_is = on.size_is; level_in = on.level_in; b_is = refl };
  block_in = hi;
}

-- The block lengths of a level and of the next one.
pub full-below : (t : List ℕ) (size level b below arity : ℕ)
    → OnLevel t size level b → OnLevel t size (level + 1) below → arity ≡ (at.settings t).arity → b ≡ below * arity
full-below t size level b below arity on lower e = on.b_is ∙ full-step t on.facts level lower.level_in ∙ rw (lower.b_is, e)

-- A full block has as many children as the arity.
pub pieces-full : (bytes b below arity : ℕ) → bytes ≡ b → b ≡ below * arity → 0 < below → arity ≡ pieces bytes below
unfolding pieces
pieces-full bytes b below arity full b_is pos =
    let low : below - 1 < below = omega arith in
    let e : (below * arity + (below - 1)) / below ≡ arity = mul-add-div pos arity (below - 1) ∙ rw (div-eq_of_lt low) (add-zero arity) in
    rw (full, b_is, e)

-- siblings

-- What is below j on the way to block i and at the next one, is so on the way to the next one.
module _ (f : ℕ → ℕ) (first j : ℕ) where
  pub one-passed : (i : ℕ) → ((k : ℕ) → first < k → k ≤ i → f k < j) → f (i + 1) < j → (k : ℕ) → first < k → k ≤ i + 1 → f k < j
  one-passed i way next k low high = go (lt-or-ge i k)
    where
      go : (i < k) ⊎ (k ≤ i) → f k < j
      go (inl past) = let e : k ≡ i + 1 = omega arith in rw e next
      go (inr before) = way k low before

  -- The same for four blocks whose largest is below j.
  pub four-passed : (i most : ℕ) → ((k : ℕ) → first < k → k ≤ i → f k < j)
      → (f (i + 1) ≤ most) × (f (i + 2) ≤ most) × (f (i + 3) ≤ most) × (f (i + 4) ≤ most) → most < j → (k : ℕ) → first < k → k ≤ i + 4 → f k < j
  four-passed i most way four small =
      let two : i + 1 + 1 ≡ i + 2 = omega arith in
      let three : i + 2 + 1 ≡ i + 3 = omega arith in
      let all : i + 3 + 1 ≡ i + 4 = omega arith in
      let a = one-passed i way (omega (arith, four.0)) in
      let b = rw two at (one-passed (i + 1) a (rw two (omega (arith, four.1)))) in
      let c = rw three at (one-passed (i + 2) b (rw three (omega (arith, four.2)))) in
      rw all at (one-passed (i + 3) c (rw all (omega (arith, four.3))))

  -- One way after another.
  pub passed-both : (i r : ℕ) → ((k : ℕ) → first < k → k ≤ i → f k < j) → ((k : ℕ) → i < k → k ≤ r → f k < j) → (k : ℕ) → first < k → k ≤ r → f k < j
  passed-both i r way further k low high = go (lt-or-ge i k)
    where
      go : (i < k) ⊎ (k ≤ i) → f k < j
      go (inl past) = further k past high
      go (inr before) = way k low before

module _ (t : List ℕ) (c level first end j : ℕ) where
  -- From a first block with before below j the steps lead to such a block.
  pub last-here : (r : ℕ) → LastBefore t c level first end j r → at.before t level first c < j → at.before t level r c < j
  last-here r last low = go (lt-or-ge first r)
    where
      go : (first < r) ⊎ (r ≤ first) → at.before t level r c < j
      go (inl past) = last.passed r past (omega arith)
      go (inr same) = let e : r ≡ first = omega (arith, last.low) in rw e low

  pub last-stop : (r : ℕ) → first ≤ r
      → r < end → ((k : ℕ) → first < k → k ≤ r → at.before t level k c < j) → (n : ℕ) → n ≡ at.before t level (r + 1) c → j ≤ n
      → LastBefore t c level first end j r
  last-stop r low high passed n n-is stop = record { low = low; high = high; passed = passed; next = λ x. rw n-is at stop }

  pub last_end : (r : ℕ) → first ≤ r
      → r < end → ((k : ℕ) → first < k → k ≤ r → at.before t level k c < j) → end ≤ r + 1 → LastBefore t c level first end j r
  last_end r low high passed stop = record { low = low; high = high; passed = passed; next = λ x. absurd (let z : ⊥ = omega arith in z) }

  -- The steps before block k lead to block i; `going` is 1 if they have not stopped.
  pub record LastSoFar (k i going : ℕ) : Type 0 where
    pub low : first ≤ i
    pub reached : i < k
    pub high : k ≤ end
    pub flag : going ≤ 1
    pub passed : (x : ℕ) → first < x → x ≤ i → at.before t level x c < j
    pub goes : going ≡ 1 → i + 1 ≡ k
    pub stopped : going ≡ 0 → j ≤ at.before t level (i + 1) c

  pub so-far-first : first < end → LastSoFar (first + 1) first 1
  so-far-first some = record {
    low = omega arith;
    reached = omega arith;
    high = omega arith;
    flag = omega arith;
    passed = λ x past near. absurd (let z : ⊥ = omega arith in z);
    goes = λ z. refl;
    stopped = λ z. absurd (let y : ⊥ = omega arith in y);
  }

  pub so-far-next : (k i going next r : ℕ) → LastSoFar k i going → k < end → next ≡ at.before t level k c → r ≡ cond (ltb next j) 1 0
      → LastSoFar (k + 1) (i + going * r) (going * r)
  so-far-next k i zero next r s more is r-is = record {
    low = omega (arith, s.low);
    reached = omega (arith, s.reached);
    high = omega arith;
    flag = omega arith;
    passed = λ x past near. s.passed x past (omega arith);
    goes = λ z. absurd (let y : ⊥ = omega arith in y);
    stopped = λ z. let e : i + zero * r + 1 ≡ i + 1 = omega arith in rw e (s.stopped refl);
  }
  so-far-next k i (suc zero) next r s more is r-is = go (lt-or-ge next j)
    where
      go : (next < j) ⊎ (j ≤ next) → LastSoFar (k + 1) (i + suc zero * r) (suc zero * r)
      go (inl less) =
          let o : r ≡ 1 = r-is ∙ rw (lt-ltb next j less) in
          let e : i + suc zero * r ≡ k = omega (arith, s.goes refl) in
          rw e (record {
            low = omega (arith, s.low, s.reached);
            reached = omega arith;
            high = omega arith;
            flag = omega arith;
            passed = λ x past near. passed_on x past near less;
            goes = λ z. refl;
            stopped = λ z. absurd (let y : ⊥ = omega arith in y);
          })
        where
          passed_on : (x : ℕ) → first < x → x ≤ k → next < j → at.before t level x c < j
          passed_on x past near less = at_most (lt-or-ge i x)
            where
              at_most : (i < x) ⊎ (x ≤ i) → at.before t level x c < j
              at_most (inl new) = let e : x ≡ k = omega (arith, s.goes refl) in rw (e, ← is) less
              at_most (inr old) = s.passed x past old
      go (inr more-than) =
          let o : r ≡ 0 = r-is ∙ rw (le-ltb next j more-than) in
          let e : i + suc zero * r ≡ i = omega arith in
          rw e (record {
            low = s.low;
            reached = omega (arith, s.reached);
            high = omega arith;
            flag = omega arith;
            passed = s.passed;
            goes = λ z. absurd (let y : ⊥ = omega arith in y);
            stopped = λ z. rw (s.goes refl, ← is) more-than;
          })
  so-far-next k i (suc (suc g)) next r s more is r-is = absurd (let z : ⊥ = omega (arith, s.flag) in z)

  pub so_far_last : (k i going : ℕ) → LastSoFar k i going → end ≤ k → LastBefore t c level first end j i
  so_far_last k i zero s done = record { low = s.low; high = omega (arith, s.reached, s.high); passed = s.passed; next = λ x. s.stopped refl }
  so_far_last k i (suc zero) s done = last_end i s.low (omega (arith, s.reached, s.high)) s.passed (omega (arith, s.goes refl))
  so_far_last k i (suc (suc g)) s done = absurd (let z : ⊥ = omega (arith, s.flag) in z)

pub flags : (a b : ℕ) → a ≤ 1 → b ≤ 1 → a * b ≤ 1
flags zero b p q = omega arith
flags (suc zero) b p q = omega arith
flags (suc (suc a)) b p q = absurd (let z : ⊥ = omega arith in z)
