-- How many blocks a level can have, and all levels together: no more than twice the text's bytes, and one for each level.
use Rattle.std.specs.Prelude.{◌≡◌, refl, ◌⊎◌}
use Rattle.std.proofs.Common.{inl, inr, arith, mul-add, mul_assoc, mul_comm, mul-one, mul-le-mul, mul-le-mul_right, mul-le-mul_left}
use Prim.Native.Nat.{ℕ, zero, suc, ◌+◌, ◌-◌, ◌*◌, ◌≤◌, ◌<◌}
use Rattle.std.proofs.Math.Nat.{suc-mul, add-mul}
use Rattle.text.specs.Text.{sum_below}
use Rattle.text.specs.ListLaws.{lt-or-ge}
use Rattle.format.specs.Layout.{field_bytes, max_leaf, max_levels, max_counted}
use Rattle.theory_built.specs.LevelBlocks.{Level}

-- The blocks of one level follow each other, and each starts before the end of the text.
module _ (n b N : ℕ) (start : ℕ → ℕ) (lv : Level n b N start) where
  -- Block i begins i whole blocks or more after the first.
  pub start-multiples : (i : ℕ) → i < N → i * b ≤ start i
  start-multiples zero h = omega arith
  start-multiples (suc i) h = omega (arith, start-multiples i (omega arith), lv.rising i (suc i) (omega arith) h, suc-mul i b)

  pub blocks-room : N * b ≤ n + b
  blocks-room = go N refl
    where
      go : (m : ℕ) → m ≡ N → N * b ≤ n + b
      go zero e = rw (← e) (omega arith)
      go (suc m) e = rw (← e) (omega (arith, suc-mul m b, start-multiples m (omega arith), lv.within m (omega arith)))

-- If x parts of B bytes are at most 2 y bytes and k parts, and two parts of c bytes fit into B, then x parts of c bytes are at most y bytes and k parts.
halved : (x B c y k : ℕ) → 2 * c ≤ B → x * B ≤ 2 * y + k * B → x * c ≤ y + k * c
halved x B c y k half h = go (lt-or-ge k x)
  where
    past : (d : ℕ) → x ≡ k + d → x * c ≤ y + k * c
    past d e =
        let whole : x * B ≡ k * B + d * B = rw e (add-mul k d B) in
        let part : x * c ≡ k * c + d * c = rw e (add-mul k d c) in
        let twice : d * (2 * c) ≡ 2 * (d * c) = rw (← mul_assoc d 2 c, mul_comm d 2) (mul_assoc 2 d c) in
        omega (arith, mul-le-mul_left d half)

    go : (k < x) ⊎ (x ≤ k) → x * c ≤ y + k * c
    go (inl l) = past (x - k) (omega arith)
    go (inr l) = omega (arith, mul-le-mul_right c l)

-- Levels whose block lengths fall by half or more.
module _ (n H : ℕ) (b N : ℕ → ℕ) (half : (l : ℕ) → suc l < H → 2 * b (suc l) ≤ b l) (room : (l : ℕ) → l < H → N l * b l ≤ n + b l) where
  -- The blocks of the first levels, each counted with the bytes of a block of the last of them.
  pub all_room : (l : ℕ) → l < H → sum_below (suc l) N * b l ≤ 2 * n + suc l * b l
  unfolding sum_below
  all_room zero e = omega (arith, room 0 e, suc-mul 0 (b 0))
  all_room (suc l) e =
      let above = halved (sum_below (suc l) N) (b l) (b (suc l)) n (suc l) (half l e) (all_room l (omega arith)) in
      omega (arith, room (suc l) e, add-mul (sum_below (suc l) N) (N (suc l)) (b (suc l)), suc-mul (suc l) (b (suc l)))

-- The bound on the number of blocks, if no block is empty.
pub all-few : (x m y k : ℕ) → 1 ≤ m → x * m ≤ y + k * m → x ≤ y + k
all-few x m y k low h = go (lt-or-ge k x)
  where
    past : (d : ℕ) → x ≡ k + d → x ≤ y + k
    past d e =
        let whole : x * m ≡ k * m + d * m = rw e (add-mul k d m) in
        omega (arith, mul-le-mul_left d low, mul-one d)

    go : (k < x) ⊎ (x ≤ k) → x ≤ y + k
    go (inl l) = past (x - k) (omega arith)
    go (inr l) = omega arith

-- The most bytes of the records of a text of n bytes: of their words, with at most 2 n blocks and one for each level, and of their edges.
abbrev pub max_records : ℕ → ℕ
max_records n = (2 * n + max_levels) * field_bytes max_counted + 2 * (2 * n + max_levels * max_leaf)

-- The bytes of x records (k counted bytes, two edges of m bytes), where x blocks of m bytes are at most 2 n bytes and one block for each of H levels.
pub records-few : (x m n H k : ℕ) → 1 ≤ m → m ≤ max_leaf → H ≤ max_levels → k ≤ max_counted → x * m ≤ 2 * n + H * m → x * (field_bytes k + (m + m)) ≤ max_records n
records-few x m n H k low high levels counted room =
    let few : x ≤ 2 * n + max_levels = omega (arith, all-few x m (2 * n) H low room) in
    let words : x * field_bytes k ≤ (2 * n + max_levels) * field_bytes max_counted =
    mul-le-mul few (let e : field_bytes k ≤ field_bytes max_counted = omega arith in e) in
    let blocks : H * m ≤ max_levels * max_leaf = mul-le-mul levels high in
    let whole : x * (field_bytes k + (m + m)) ≡ x * field_bytes k + (x * m + x * m) = rw (mul-add x (field_bytes k) (m + m), mul-add x m m) in
    omega arith
