-- The windows counted are those of the definition.
use mathlib.Core.List.{List}
use mathlib.Core.Bool.{Bool, true, false, cond, ◌&&◌, ◌||◌}
use mathlib.Core.Path.{◌≡◌, refl, sym, ap, ap₂, ◌∙◌, subst}
use mathlib.Core.Logic.{◌⊎◌, inl, inr}
use Prim.Native.Nat.{ℕ, zero, suc, ◌+◌, ◌-◌, ◌*◌, ◌/◌, ◌%◌, ◌≤◌, ◌<◌}
use native.Mathlib.Omega.{arith}
use native.Mathlib.Decide.{ℕ_discrete}
use lib.ListN.{length}
use lib.Dec.{eqb}
use borrow.Author.Tests.{lt-ltb, eq-eqb, ne_eqb, eqb-true}
use Rattle.text.specs.Text.{sum_below}
use Rattle.text.specs.ListLaws.{bool_cases, bool_clash, and_left, and_right, and_both, or_cases, or_left, or_right, lt-or-ge, below_suc, sum_below-ext}
use Rattle.text.specs.ListLaws.{sum_below-none}
use Rattle.format.specs.Layout.{Settings, block_length, max_text}
use Rattle.format.specs.Blocks.{record_bytes, starts_at, pair_at}
use Rattle.theory_built.specs.Structure.{count, start, bytes_in}
use Rattle.build_records.specs.declared.level_written.Level.{Level}
use Rattle.build_records.specs.State.{record_settings_of}
use Rattle.build_levels.specs.Trees.{LevelReady}
use Rattle.scan_rolling_hash.specs.Windows.{places_of}
use Rattle.scan_rolling_hash.proofs.WindowLaws.{places-none, places-some}
use Rattle.scan_hash_table.specs.declared.Items.{Items}
use Rattle.scan_hash_table.specs.Entries.{start_at, length_at}
use Rattle.scan_pass.specs.declared.Lengths.{Lengths}
use Rattle.scan_pass.specs.Passes.{Present, Ordered, Among, Has, LengthsOf, Counted}
use Rattle.scan_pass.proofs.ItemLengths.{length-low, length_high, length_most, next-in}
use Rattle.build_by_scan.specs.ScanAnswers.{any_below, has_length, windows_at}
use Rattle.build_by_scan.specs.ItemTable.{items_of, pair_bytes}
use Rattle.build_by_scan.proofs.ScannedFillLaws as lev

-- `any_below` holds exactly where the test holds at some number.

pub any_at : (n : ℕ) (p : ℕ → Bool) (i : ℕ) → i < n → p i ≡ true → any_below n p ≡ true
unfolding any_below
any_at zero p i l e = absurd (let z : ⊥ = omega arith in z)
any_at (suc n) p i l e = go (any_at n p i) (below_suc i n l)
  where
    go : (i < n → p i ≡ true → any_below n p ≡ true) → (i < n) ⊎ (i ≡ n) → (any_below n p || p n) ≡ true
    go r (inl k) = or_left (p n) (r k e)
    go r (inr q) = or_right (any_below n p) (ap p (sym q) ∙ e)

pub any-find : (n : ℕ) (p : ℕ → Bool) → any_below n p ≡ true → (i : ℕ) × (i < n) × (p i ≡ true)
unfolding any_below
any-find zero p e = bool_clash false e refl
any-find (suc n) p e = go (any-find n p) (or_cases (any_below n p) (p n) e)
  where
    go : (any_below n p ≡ true → (i : ℕ) × (i < n) × (p i ≡ true)) → (any_below n p ≡ true) ⊎ (p n ≡ true) → (i : ℕ) × (i < suc n) × (p i ≡ true)
    go r (inl a) = let q = r a in (q.0, omega (arith, q.1), q.2)
    go r (inr a) = (n, omega arith, a)

-- Sums with one term that is not 0.

module _ (v : ℕ) (f : ℕ → ℕ) where
  at-v : ℕ → ℕ
  at-v x = cond (eqb x v) (f x) 0

  none_below : (n : ℕ) → n ≤ v → sum_below n at-v ≡ 0
  unfolding sum_below at-v
  none_below zero l = refl
  none_below (suc n) l = omega (arith, none_below n (omega arith), ap (λ (t : Bool). cond t (f n) 0) (ne_eqb n v (λ e. omega arith)))

  one_below : (n : ℕ) → v < n → sum_below n at-v ≡ f v
  unfolding sum_below at-v
  one_below zero l = absurd (let z : ⊥ = omega arith in z)
  one_below (suc n) l = go (one_below n) (below_suc v n l)
    where
      go : (v < n → sum_below n at-v ≡ f v) → (v < n) ⊎ (v ≡ n) → sum_below n at-v + cond (eqb n v) (f n) 0 ≡ f v
      go r (inl k) = omega (arith, r k, ap (λ (t : Bool). cond t (f n) 0) (ne_eqb n v (λ e. omega arith)))
      go r (inr q) = omega (arith, none_below n (omega arith), ap (λ (t : Bool). cond t (f n) 0) (eq-eqb n v (sym q)), ap f q)

-- What one length adds: its windows, if it is the given length; 0 is none.
module _ (n : ℕ) where
  unfoldable pub share : ℕ → ℕ → ℕ
  share v x = cond (eqb v 0) 0 (cond (eqb x v) (suc n - x) 0)

  share-none : (v x : ℕ) → (v ≡ 0) ⊎ (x ≡ v → ⊥) → share v x ≡ 0
  unfolding share
  share-none v x (inl e) = rw (eq-eqb v 0 e)
  share-none v x (inr d) = go (eqb v 0)
    where
      go : (t : Bool) → cond t 0 (cond (eqb x v) (suc n - x) 0) ≡ 0
      go true = refl
      go false = rw (ne_eqb x v d)

  share-own : (v x : ℕ) → (v ≡ 0 → ⊥) → x ≡ v → share v x ≡ suc n - x
  unfolding share
  share-own v x d e = rw (ne_eqb v 0 d, eq-eqb x v e)

  share-sum : (v : ℕ) → v ≤ n → sum_below (suc n) (share v) ≡ places_of n v
  unfolding share at-v
  share-sum v l = go (ℕ_discrete v 0)
    where
      go : Dec (v ≡ 0) → sum_below (suc n) (share v) ≡ places_of n v
      go (yes e) = sum_below-none (suc n) (share v) (λ x m. share-none v x (inl e)) ∙ rw (eq-eqb v 0 e)
      go (no d) = sum_below-ext (suc n) (share v) (at-v v (λ x. suc n - x)) (λ x m. ap (λ (t : Bool). cond t 0 (cond (eqb x v) (suc n - x) 0)) (ne_eqb v 0 d))
          ∙ one_below v (λ x. suc n - x) (suc n) (omega arith) ∙ rw (ne_eqb v 0 d) (omega arith)

sum-add : (k : ℕ) (f g : ℕ → ℕ) → sum_below k (λ x. f x + g x) ≡ sum_below k f + sum_below k g
unfolding sum_below
sum-add zero f g = refl
sum-add (suc k) f g = omega (arith, sum-add k f g)

module _ (seed : ℕ) (T out cs : List ℕ) (level : Level)
    (r : LevelReady (record_settings_of level.settings cs) T out level) (k : level.number + 1 < level.settings.levels) (some : 1 ≤ level.count) where
  abbrev l : ℕ
  l = level.number

  abbrev S : Settings
  S = record_settings_of level.settings cs

  abbrev it : Items
  it = items_of (length T) (record_bytes S) level seed

  o : Ordered T out it
  o = lev.ordered seed T out cs level r k some

  count_is : level.count ≡ count S T l
  count_is = r.level_is.count_is

  -- Some item has n bytes exactly if the definition requires it.
  abbrev test : ℕ → ℕ → Bool
  test n i = eqb (bytes_in S T l i) n || (pair_at T (block_length S l) (starts_at S T l) i && eqb (pair_bytes S T l i) n)

  has-test : (n x : ℕ) → x < it.items → Present T out it x → length_at T out it x ≡ n → test n (x / 2) ≡ true
  unfolding pair_at
  has-test n x xl p e = go (lt-or-ge (x % 2) 1)
    where
      i : ℕ
      i = x / 2

      il : x / 2 < count S T l
      il = omega (arith, lev.half_in seed T out cs level r k some x xl, count_is)

      even : x % 2 ≡ 0 → test n (x / 2) ≡ true
      even z =
          let q : x ≡ 2 * (x / 2) = omega arith in
          or_left (pair_at T (block_length S l) (starts_at S T l) (x / 2) && eqb (pair_bytes S T l (x / 2)) n)
          (eq-eqb (bytes_in S T l (x / 2)) n (sym (lev.block-bytes seed T out cs level r k some (x / 2) il) ∙ sym (ap (length_at T out it) q) ∙ e))

      pair : x % 2 ≡ 1 → start_at T out it (x + 1) ≡ start_at T out it x + it.size → pair_at T (block_length S l) (starts_at S T l) (x / 2) ≡ true
      pair z f =
          let xn : x + 1 < it.items = next-in T out it o (lev.placed seed T out cs level r k some) x z xl f in
          let a : start_at T out it (x + 1) ≡ start S T l (suc (x / 2)) =
          lev.start_is seed T out cs level r k some (x + 1) xn ∙ ap (start S T l) (let q : (x + 1) / 2 ≡ suc (x / 2) = omega arith in q) in
          and_both (lt-ltb (suc (x / 2)) (count S T l) (omega (arith, lev.half_in seed T out cs level r k some (x + 1) xn, count_is)))
          (eq-eqb (start S T l (suc (x / 2)))
          (start S T l (x / 2) + block_length S l) (omega (arith, a, f, lev.start_is seed T out cs level r k some x xl, r.level_is.size_is)))

      odd : x % 2 ≡ 1 → Present T out it x → test n (x / 2) ≡ true
      odd z (inl a) = absurd (let w : ⊥ = omega arith in w)
      odd z (inr f) =
          let q : x ≡ 2 * (x / 2) + 1 = omega arith in
          or_right (eqb (bytes_in S T l (x / 2)) n) (and_both (pair z f)
          (eq-eqb (pair_bytes S T l (x / 2)) n (sym (lev.pair-bytes seed T out cs level r k some (x / 2) il (pair z f)) ∙ sym (ap (length_at T out it) q) ∙ e)))

      go : (x % 2 < 1) ⊎ (1 ≤ x % 2) → test n (x / 2) ≡ true
      go (inl a) = even (omega arith)
      go (inr a) = odd (omega arith) p

  pub has-length : (n : ℕ) → Has T out it it.items n → has_length S T l n ≡ true
  unfolding has_length
  has-length n (x, xl, p, e) =
      any_at (count S T l) (test n) (x / 2) (omega (arith, lev.half_in seed T out cs level r k some x xl, count_is)) (has-test n x xl p e)

  pub length_has : (n : ℕ) → has_length S T l n ≡ true → Has T out it it.items n
  unfolding has_length
  length_has n y = go (any-find (count S T l) (test n) y)
    where
      by : (i : ℕ) → i < count S T l → (eqb (bytes_in S T l i) n ≡ true)
          ⊎ ((pair_at T (block_length S l) (starts_at S T l) i && eqb (pair_bytes S T l i) n) ≡ true) → Has T out it it.items n
      by i il (inl a) = (2 * i, omega (arith, count_is), inl (omega arith), lev.block-bytes seed T out cs level r k some i il ∙ eqb-true _ _ a)
      by i il (inr a) =
          let p = and_left (pair_at T (block_length S l) (starts_at S T l) i) (eqb (pair_bytes S T l i) n) a in (
            2 * i + 1,
            lev.pair-item seed T out cs level r k some i il p,
            lev.pair-there seed T out cs level r k some i il p,
            lev.pair-bytes seed T out cs level r k some i il p
                ∙ eqb-true _ _ (and_right (pair_at T (block_length S l) (starts_at S T l) i) (eqb (pair_bytes S T l i) n) a),
          )

      go : (i : ℕ) × (i < count S T l) × (test n i ≡ true) → Has T out it it.items n
      go (i, il, t) = by i il (or_cases (eqb (bytes_in S T l i) n) (pair_at T (block_length S l) (starts_at S T l) i && eqb (pair_bytes S T l i) n) t)

  -- The lengths noted.
  module _ (g : Lengths) (s : LengthsOf T out it it.items g) where
    abbrev n : ℕ
    n = length T

    abbrev b : ℕ
    b = it.size

    all : ℕ → ℕ
    all x = share n g.block x + share n g.pair x + share n g.last x + share n g.ending x

    -- x is none of a kind
    not-block : (x : ℕ) → (x ≡ b → ⊥) → (g.block ≡ 0) ⊎ (x ≡ g.block → ⊥)
    not-block x d = go s.block_is
      where
        go : (g.block ≡ 0) ⊎ ((g.block ≡ b) × Has T out it it.items g.block) → (g.block ≡ 0) ⊎ (x ≡ g.block → ⊥)
        go (inl e) = inl e
        go (inr (e, f)) = inr (λ q. d (q ∙ e))

    not-pair : (x : ℕ) → (x ≡ b + b → ⊥) → (g.pair ≡ 0) ⊎ (x ≡ g.pair → ⊥)
    not-pair x d = go s.pair_is
      where
        go : (g.pair ≡ 0) ⊎ ((g.pair ≡ b + b) × Has T out it it.items g.pair) → (g.pair ≡ 0) ⊎ (x ≡ g.pair → ⊥)
        go (inl e) = inl e
        go (inr (e, f)) = inr (λ q. d (q ∙ e))

    not_last : (x : ℕ) → b ≤ x → (g.last ≡ 0) ⊎ (x ≡ g.last → ⊥)
    not_last x d = go s.last_is
      where
        go : (g.last ≡ 0) ⊎ ((g.last < b) × Has T out it it.items g.last) → (g.last ≡ 0) ⊎ (x ≡ g.last → ⊥)
        go (inl e) = inl e
        go (inr (e, f)) = inr (λ q. omega arith)

    not-ending : (x : ℕ) → (b < x → x < b + b → ⊥) → (g.ending ≡ 0) ⊎ (x ≡ g.ending → ⊥)
    not-ending x d = go s.ending_is
      where
        go : (g.ending ≡ 0) ⊎ ((b < g.ending) × (g.ending < b + b) × Has T out it it.items g.ending) → (g.ending ≡ 0) ⊎ (x ≡ g.ending → ⊥)
        go (inl e) = inl e
        go (inr (e, f, h)) = inr (λ q. d (omega arith) (omega arith))

    b-low : 1 ≤ b
    b-low = o.size_low

    with-length : (x : ℕ) → 1 ≤ x → x ≤ b + b → Among b g x → all x ≡ suc n - x
    unfolding all
    with-length x low most m = go (lt-or-ge x b) (ℕ_discrete x b) (ℕ_discrete x (b + b))
      where
        go : (x < b) ⊎ (b ≤ x) → Dec (x ≡ b)
            → Dec (x ≡ b + b) → share n g.block x + share n g.pair x + share n g.last x + share n g.ending x ≡ suc n - x
        go (inl a) d e = omega (
          arith,
          share-none n g.block x (not-block x (λ q. omega arith)),
          share-none n g.pair x (not-pair x (λ q. omega arith)),
          share-own n g.last x (λ q. omega (arith, m.short a)) (sym (m.short a)),
          share-none n g.ending x (not-ending x (λ u v. omega arith)),
        )
        go (inr a) (yes d) e = omega (
          arith,
          share-own n g.block x (λ q. omega (arith, m.full d)) (sym (m.full d)),
          share-none n g.pair x (not-pair x (λ q. omega (arith, b-low))),
          share-none n g.last x (not_last x a),
          share-none n g.ending x (not-ending x (λ u v. omega arith)),
        )
        go (inr a) (no d) (yes e) = omega (
          arith,
          share-none n g.block x (not-block x d),
          share-own n g.pair x (λ q. omega (arith, m.both e)) (sym (m.both e)),
          share-none n g.last x (not_last x a),
          share-none n g.ending x (not-ending x (λ u v. omega arith)),
        )
        go (inr a) (no d) (no e) =
            let u : b < x = omega (arith, d) in
            let v : x < b + b = omega (arith, e) in
            omega (
              arith,
              share-none n g.block x (not-block x d),
              share-none n g.pair x (not-pair x e),
              share-none n g.last x (not_last x a),
              share-own n g.ending x (λ q. omega (arith, m.cut u v)) (sym (m.cut u v)),
            )

    no_length : (x : ℕ) → (Has T out it it.items x → ⊥) → all x ≡ 0
    unfolding all
    no_length x un = omega (
      arith,
      share-none n g.block x (go-block s.block_is),
      share-none n g.pair x (go-pair s.pair_is),
      share-none n g.last x (go-last s.last_is),
      share-none n g.ending x (go-ending s.ending_is),
    )
      where
        moved : (v : ℕ) → Has T out it it.items v → x ≡ v → ⊥
        moved v f q = un (subst (Has T out it it.items) (sym q) f)

        go-block : (g.block ≡ 0) ⊎ ((g.block ≡ b) × Has T out it it.items g.block) → (g.block ≡ 0) ⊎ (x ≡ g.block → ⊥)
        go-block (inl e) = inl e
        go-block (inr (e, f)) = inr (moved g.block f)

        go-pair : (g.pair ≡ 0) ⊎ ((g.pair ≡ b + b) × Has T out it it.items g.pair) → (g.pair ≡ 0) ⊎ (x ≡ g.pair → ⊥)
        go-pair (inl e) = inl e
        go-pair (inr (e, f)) = inr (moved g.pair f)

        go-last : (g.last ≡ 0) ⊎ ((g.last < b) × Has T out it it.items g.last) → (g.last ≡ 0) ⊎ (x ≡ g.last → ⊥)
        go-last (inl e) = inl e
        go-last (inr (e, f)) = inr (moved g.last f)

        go-ending : (g.ending ≡ 0) ⊎ ((b < g.ending) × (g.ending < b + b) × Has T out it it.items g.ending) → (g.ending ≡ 0) ⊎ (x ≡ g.ending → ⊥)
        go-ending (inl e) = inl e
        go-ending (inr (e, f, h)) = inr (moved g.ending h)

    each : (x : ℕ) → x < suc n → cond (has_length S T l x) (suc n - x) 0 ≡ all x
    each x xl = go (bool_cases (has_length S T l x))
      where
        here : Has T out it it.items x → all x ≡ suc n - x
        here (y, yl, p, e) = with-length x
            (omega (arith, e, length-low T out it o (lev.placed seed T out cs level r k some) y yl))
            (omega (arith, e, length_most T out it o (lev.placed seed T out cs level r k some) y))
            (subst (Among b g) e (s.covers y yl p))

        go : (has_length S T l x ≡ true) ⊎ (has_length S T l x ≡ false) → cond (has_length S T l x) (suc n - x) 0 ≡ all x
        go (inl t) = ap (λ (c : Bool). cond c (suc n - x) 0) t ∙ sym (here (length_has x t))
        go (inr f) = ap (λ (c : Bool). cond c (suc n - x) 0) f ∙ sym (no_length x (λ q. bool_clash (has_length S T l x) (has-length x q) f))

    in_text : (v : ℕ) → Has T out it it.items v → v ≤ n
    in_text v (x, xl, p, e) = omega (arith, e, length_high T out it o (lev.placed seed T out cs level r k some) x xl)

    block_in : (g.block ≡ 0) ⊎ ((g.block ≡ b) × Has T out it it.items g.block) → g.block ≤ n
    block_in (inl e) = omega arith
    block_in (inr (e, f)) = in_text g.block f

    pair_in : (g.pair ≡ 0) ⊎ ((g.pair ≡ b + b) × Has T out it it.items g.pair) → g.pair ≤ n
    pair_in (inl e) = omega arith
    pair_in (inr (e, f)) = in_text g.pair f

    last_in : (g.last ≡ 0) ⊎ ((g.last < b) × Has T out it it.items g.last) → g.last ≤ n
    last_in (inl e) = omega arith
    last_in (inr (e, f)) = in_text g.last f

    ending_in : (g.ending ≡ 0) ⊎ ((b < g.ending) × (g.ending < b + b) × Has T out it it.items g.ending) → g.ending ≤ n
    ending_in (inl e) = omega arith
    ending_in (inr (e, f, h)) = in_text g.ending h

    pub windows_are : places_of n g.block + places_of n g.pair + places_of n g.last + places_of n g.ending ≡ windows_at S T l
    unfolding windows_at all
    windows_are = sym (
        sum_below-ext (suc n) (λ x. cond (has_length S T l x) (suc n - x) 0) all each
        ∙ sum-add (suc n) (λ x. share n g.block x + share n g.pair x + share n g.last x) (share n g.ending)
        ∙ ap₂ (λ (u v : ℕ). u + v)
        (sum-add (suc n) (λ x. share n g.block x + share n g.pair x) (share n g.last)
        ∙ ap₂ (λ (u v : ℕ). u + v)
        (sum-add (suc n) (share n g.block) (share n g.pair)
        ∙ ap₂ (λ (u v : ℕ). u + v) (share-sum n g.block (block_in s.block_is)) (share-sum n g.pair (pair_in s.pair_is)))
        (share-sum n g.last (last_in s.last_is)))
        (share-sum n g.ending (ending_in s.ending_is)))

  pub counted : (w : ℕ) → Counted T out it w → w ≡ windows_at S T l
  counted w c = c.sum ∙ windows_are c.lengths c.lengths_are

  -- A window fits at no more places than the text has.
  places-most : (v : ℕ) → v ≤ length T → places_of (length T) v ≤ length T
  places-most v a = go (ℕ_discrete v 0)
    where
      go : Dec (v ≡ 0) → places_of (length T) v ≤ length T
      go (yes e) = omega (arith, places-none (length T) v e)
      go (no d) = omega (arith, d, places-some (length T) v d)

  pub counted_few : (w : ℕ) → Counted T out it w → w ≤ 4 * max_text
  counted_few w c =
      let g = c.lengths in
      let s = c.lengths_are in
      omega (
        arith,
        c.sum,
        (lev.placed seed T out cs level r k some).few,
        places-most g.block (block_in g s s.block_is),
        places-most g.pair (pair_in g s s.pair_is),
        places-most g.last (last_in g s s.last_is),
        places-most g.ending (ending_in g s s.ending_is),
      )

  pub counted-by : (made : Items) → made ≡ it → (w : ℕ) → Counted T out made w → (w ≡ windows_at S T l) × (w ≤ 4 * max_text)
  counted-by made e w c = let d = subst (λ (i : Items). Counted T out i w) e c in (counted w d, counted_few w d)

-- A level without blocks has no windows.
module _ (S : Settings) (T : List ℕ) (l : ℕ) (none : count S T l ≡ 0) where
  length_none : (n : ℕ) → has_length S T l n ≡ false
  unfolding has_length any_below
  length_none n = rw none

  pub windows-none : windows_at S T l ≡ 0
  unfolding windows_at
  windows-none = sum_below-none (suc (length T)) _ (λ n nl. ap (λ (t : Bool). cond t (suc (length T) - n) 0) (length_none n))
