-- Two trees that agree (`TreesAgree`) and pass questions 5 to 7 have the same path at every place, broken or not. So they have the same text, and `byte`
-- returns the same.
use Rattle.std.specs.Prelude.{List, true, false, cond, ◌≡◌, refl, ◌⊎◌, ℕ, zero, suc, ◌+◌, ◌-◌, ◌/◌, ◌%◌, ◌≤◌, ◌<◌, ltb}
use Rattle.std.proofs.Math.Option.{Option, none, some}
use Rattle.std.proofs.Common.{sym, ◌∙◌, inl, inr, le-ltb, ltb-true}
use Rattle.std.proofs.Math.Path.{ap}
use native.Mathlib.Omega.{arith}
use Rattle.text.specs.ListLaws.{bool_cases, bool_clash, lt-or-ge, and_left, and_right, tabulate-ext}
use Rattle.format.specs.LayoutLaws.{Readable}
use Rattle.format.specs.Layout as at
use Rattle.format.specs.TreeReading.{Path, is_kept_block, pointing_block, target_block, target_place, resolved_block, resolved_place, resolved_visits, resolves}
use Rattle.format.specs.TreeReading.{path_from, path_of, leaf_of, text_of, header_result}
use Rattle.format.specs.Answers.{byte_of, byte_answer}
use Rattle.theory_paths.specs.Links.{H, N, b}
use Rattle.theory_without_edges.specs.TreesAgree as agree
use Rattle.theory_without_edges.specs.TreesAgree.{Agree}

-- A block number past the table is no block: none of its places resolves to a kept block.
module _ (t : List ℕ) (l i : ℕ) (past : N t l ≤ i) where
  kept-past : is_kept_block t l i ≡ false
  unfolding is_kept_block
  kept-past = rw (le-ltb i (N t l) past)

  pointing_past : pointing_block t l i ≡ false
  unfolding pointing_block
  pointing_past = rw (le-ltb i (N t l) past)

  resolves-past : (o : ℕ) → resolves t l i o ≡ false
  unfolding resolves
  resolves-past o = rw (kept-past, pointing_past)

-- The kept block that a place resolves to is in the table.
kept-inside : (t : List ℕ) (l i : ℕ) → is_kept_block t l i ≡ true → i < N t l
unfolding is_kept_block
kept-inside t l i h = ltb-true i (N t l) (and_left (ltb i (N t l)) (at.is_kept t l i) h)

resolved-kept : (t : List ℕ) (l i o : ℕ) → resolves t l i o ≡ true → resolved_block t l i o < N t l
unfolding resolves resolved_block
resolved-kept t l i o h = go (bool_cases (is_kept_block t l i))
  where
    go : (is_kept_block t l i ≡ true) ⊎ (is_kept_block t l i ≡ false) → cond (is_kept_block t l i) i (target_block t l i o) < N t l
    go (inl y) = rw y (kept-inside t l i y)
    go (inr y) =
        rw y (kept-inside t l (target_block t l i o)
        (and_right (pointing_block t l i) (is_kept_block t l (target_block t l i o)) (rw y at h)))

module _ (t u : List ℕ) (k : Readable t) (g : Agree t u) where
  count_is : (l : ℕ) → l < H t → N u l ≡ N t l
  count_is = agree.count_is t u k g

  -- For a block of the table.
  module _ (l i : ℕ) (hl : l < H t) (hi : i < N t l) where
    kept_in : is_kept_block u l i ≡ is_kept_block t l i
    unfolding is_kept_block
    kept_in = rw (count_is l hl, agree.kept_is t u k g l i hl hi)

    pointing-in : pointing_block u l i ≡ pointing_block t l i
    unfolding pointing_block at.is_pointing
    pointing-in = rw (count_is l hl, agree.kind_is t u k g l i hl hi, agree.gap_is t u k g l i hl hi, agree.full_is t u k g l)

    target_in : (o : ℕ) → (target_block u l i o ≡ target_block t l i o) × (target_place u l i o ≡ target_place t l i o)
    unfolding target_block target_place
    target_in o = (
      rw (agree.gap_is t u k g l i hl hi, agree.link_is t u k g l i hl hi, agree.full_is t u k g l),
      rw (agree.gap_is t u k g l i hl hi, agree.full_is t u k g l),
    )

    resolved-in : (o : ℕ)
        → (resolved_block u l i o ≡ resolved_block t l i o) × (resolved_place u l i o ≡ resolved_place t l i o) × (resolved_visits u l i o ≡ resolved_visits t l i o)
    unfolding resolved_block resolved_place resolved_visits
    resolved-in o =
        (rw (kept_in, (target_in o).0), rw (kept_in, (target_in o).1), rw (kept_in, (target_in o).0, (target_in o).1))

  past-too : (l i : ℕ) → l < H t → N t l ≤ i → N u l ≤ i
  past-too l i hl past = rw (count_is l hl) past

  kept_same : (l i : ℕ) → l < H t → is_kept_block u l i ≡ is_kept_block t l i
  kept_same l i hl = go (lt-or-ge i (N t l))
    where
      go : (i < N t l) ⊎ (N t l ≤ i) → is_kept_block u l i ≡ is_kept_block t l i
      go (inl h) = kept_in l i hl h
      go (inr h) = kept-past u l i (past-too l i hl h) ∙ sym (kept-past t l i h)

  resolves-in : (l i o : ℕ) → l < H t → i < N t l → resolves u l i o ≡ resolves t l i o
  unfolding resolves
  resolves-in l i o hl hi = rw (kept_in l i hl hi, pointing-in l i hl hi, (target_in l i hl hi o).0, kept_same l (target_block t l i o) hl)

  resolves-same : (l i o : ℕ) → l < H t → resolves u l i o ≡ resolves t l i o
  resolves-same l i o hl = go (lt-or-ge i (N t l))
    where
      go : (i < N t l) ⊎ (N t l ≤ i) → resolves u l i o ≡ resolves t l i o
      go (inl h) = resolves-in l i o hl h
      go (inr h) = resolves-past u l i (past-too l i hl h) o ∙ sym (resolves-past t l i h o)

  last_in : (l i o : ℕ) → l < H t → i < N t l → path_from u 0 l i o ≡ path_from t 0 l i o
  unfolding path_from
  last_in l i o hl hi = rw (kept_in l i hl hi, agree.link_is t u k g l i hl hi, g.leaves_are)

  last-past : (v : List ℕ) (l i o : ℕ) → N v l ≤ i → path_from v 0 l i o ≡ none
  unfolding path_from
  last-past v l i o past = rw (kept-past v l i past)

  breaks : (v : List ℕ) (below l i o : ℕ) → resolves v l i o ≡ false → path_from v (suc below) l i o ≡ none
  unfolding path_from
  breaks v below l i o e = rw e

  below-same : (below l i o : ℕ) → l + suc below < H t → resolves t l i o ≡ true → i < N t l
      → ((j p : ℕ) → path_from u below (l + 1) j p ≡ path_from t below (l + 1) j p) → path_from u (suc below) l i o ≡ path_from t (suc below) l i o
  unfolding path_from
  below-same below l i o deep e hi rest =
      let hl : l < H t = omega arith in
      let q = resolved-in l i hl hi o in
      let j = resolved_block t l i o in
      rw (
        resolves-same l i o hl,
        q.0,
        q.1,
        q.2,
        agree.link_is t u k g l j hl (resolved-kept t l i o e),
        agree.full_is t u k g (l + 1),
        rest (at.link t l j + resolved_place t l i o / b t (l + 1)) (resolved_place t l i o % b t (l + 1)),
      )

  from-same : (below l i o : ℕ) → l + below < H t → path_from u below l i o ≡ path_from t below l i o
  from-same zero l i o deep = go (lt-or-ge i (N t l))
    where
      hl : l < H t
      hl = omega arith

      go : (i < N t l) ⊎ (N t l ≤ i) → path_from u 0 l i o ≡ path_from t 0 l i o
      go (inl h) = last_in l i o hl h
      go (inr h) = last-past u l i o (past-too l i hl h) ∙ sym (last-past t l i o h)
  from-same (suc below) l i o deep = go (bool_cases (resolves t l i o)) (lt-or-ge i (N t l)) (λ j p. from-same below (l + 1) j p (omega arith))
    where
      hl : l < H t
      hl = omega arith

      go : (resolves t l i o ≡ true) ⊎ (resolves t l i o ≡ false) → (i < N t l) ⊎ (N t l ≤ i)
          → ((j p : ℕ) → path_from u below (l + 1) j p ≡ path_from t below (l + 1) j p) → path_from u (suc below) l i o ≡ path_from t (suc below) l i o
      go (inl e) (inl h) rest = below-same below l i o deep e h rest
      go (inl e) (inr h) rest = bool_clash (resolves t l i o) e (resolves-past t l i h o)
      go (inr e) y rest = breaks u below l i o (resolves-same l i o hl ∙ e) ∙ sym (breaks t below l i o e)

  -- Every place has the same path, broken or not.
  pub path-same : (p : ℕ) → path_of u p ≡ path_of t p
  unfolding path_of
  path-same p =
      rw (agree.full_is t u k g 0, agree.levels-are t u k g)
      (from-same (H t - 1) 0 (p / b t 0) (p % b t 0) (omega (arith, k.bounds.levels_low)))

  leaf-same : (q : Option Path) → leaf_of u q ≡ leaf_of t q
  leaf-same none = refl
  leaf-same (some q) = g.leaf-bytes q.leaf

  -- The trees have the same text.
  pub paths-text : text_of u ≡ text_of t
  unfolding text_of
  paths-text =
      rw g.length_is (tabulate-ext (at.text_length t) (λ p. leaf_of u (path_of u p)) (λ p. leaf_of t (path_of t p))
      (λ p h. ap (leaf_of u) (path-same p) ∙ leaf-same (path_of t p)))

  -- `byte` returns the same refusal, byte and blocks entered.
  byte-same : (q : Option Path) → byte_of u q ≡ byte_of t q
  byte-same none = refl
  byte-same (some q) = rw (g.leaf-bytes q.leaf)

  pub bytes_same : header_result t ≡ 0 → header_result u ≡ 0 → (p : ℕ) → byte_answer u p ≡ byte_answer t p
  unfolding byte_answer
  bytes_same r r₁ p = rw (r, r₁, g.length_is, path-same p, byte-same (path_of t p))
