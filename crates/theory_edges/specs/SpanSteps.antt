-- The walk of a short span, step by step, on any tree.
use Rattle.std.specs.Prelude.{List, [], ◌∷◌, Bool, true, false, cond, ◌≡◌, refl, leb}
use Rattle.std.proofs.Math.Option.{Option, none, some}
use Prim.Native.Nat.{ℕ, zero, suc, ◌+◌, ◌-◌, ◌/◌, ◌%◌, ◌≤◌, ◌<◌}
use borrow.Author.Tests.{lt-ltb, le-leb, lt-leb}
use Rattle.format.specs.Layout as at
use Rattle.format.specs.TreeReading.{visit, is_kept_block, pointing_block, target_block, target_place, resolves, resolved_block, resolved_place, resolved_visits}
use Rattle.format.specs.TreeReading.{Short, led, by_edges, in_one_leaf, short_from}
use Rattle.theory_paths.specs.Links.{N, b}

cond_same : (y : Bool) → ◌≡◌ {A = Option Short} (cond y none none) none
cond_same true = refl
cond_same false = refl

module _ (t : List ℕ) where
  -- Two blocks side by side.
  pub edges-give : (l i o : ℕ) → i + 1 < N t l
      → by_edges t l i o ≡ some (record {
        visits = visit l i o ∷ visit l (i + 1) 0 ∷ [];
        from = at.edges_at t l i + ((at.settings t).leaf + (at.settings t).leaf - (b t l - o));
        size = b t l - o;
        next = at.edges_at t l (i + 1);
      })
  unfolding by_edges
  edges-give l i o h = rw (lt-ltb _ _ h)

  -- Across the end of the first block.
  pub over : (below l i o len : ℕ) → b t l < o + len → short_from t below l i o len ≡ by_edges t l i o
  unfolding short_from
  over zero l i o len h = rw (lt-leb (o + len) (b t l) h)
  over (suc below) l i o len h = rw (lt-leb (o + len) (b t l) h)

  module _ (l i o len : ℕ) (inside : o + len ≤ b t l) where
    pub last_step : is_kept_block t l i ≡ true → at.link t l i + o + len ≤ at.leaf_count t
        → short_from t 0 l i o len ≡ some (record { visits = visit l i o ∷ []; from = at.leaf_offset t + (at.link t l i + o); size = len; next = 0 })
    unfolding short_from in_one_leaf
    last_step kept h = rw (le-leb (o + len) (b t l) inside, kept, le-leb (at.link t l i + o + len) (at.leaf_count t) h)

    pub kept_step : (below : ℕ) → is_kept_block t l i ≡ true
        → short_from t (suc below) l i o len ≡ led (visit l i o ∷ []) (short_from t below (l + 1) (at.link t l i + o / b t (l + 1)) (o % b t (l + 1)) len)
    unfolding short_from resolves resolved_block resolved_place resolved_visits
    kept_step below kept = rw (le-leb (o + len) (b t l) inside, kept, le-leb (o + len) (b t l) inside)

    -- A pointing block, whose target holds the span, or whose two targets do.
    pub points-step : (below : ℕ)
        → is_kept_block t l i ≡ false → pointing_block t l i ≡ true → is_kept_block t l (target_block t l i o) ≡ true → target_place t l i o + len ≤ b t l
        → short_from t (suc below) l i o len ≡ led (visit l i o ∷ visit l (target_block t l i o) (target_place t l i o) ∷ [])
        (short_from t below (l + 1) (at.link t l (target_block t l i o) + target_place t l i o / b t (l + 1)) (target_place t l i o % b t (l + 1)) len)
    unfolding short_from resolves resolved_block resolved_place resolved_visits
    points-step below un pt kept h = rw (le-leb (o + len) (b t l) inside, un, pt, kept, le-leb (target_place t l i o + len) (b t l) h)

    pub between_step : (below : ℕ) → is_kept_block t l i ≡ false → pointing_block t l i ≡ true → b t l < target_place t l i o + len
        → short_from t (suc below) l i o len ≡ led (visit l i o ∷ []) (by_edges t l (target_block t l i o) (target_place t l i o))
    unfolding short_from resolved_block resolved_place
    between_step below un pt h = rw (le-leb (o + len) (b t l) inside, un, pt, lt-leb (target_place t l i o + len) (b t l) h)

    -- On the last level, and where the walk breaks.
    pub last_is : short_from t 0 l i o len ≡ in_one_leaf t l i o len
    unfolding short_from
    last_is = rw (le-leb (o + len) (b t l) inside)

    pub off-step : (below : ℕ) → is_kept_block t l i ≡ false → pointing_block t l i ≡ false → short_from t (suc below) l i o len ≡ none
    unfolding short_from resolves
    off-step below un pt =
        rw (le-leb (o + len) (b t l) inside, un, pt) (cond_same (leb (resolved_place t l i o + len) (b t l)))

    pub off-target : (below : ℕ)
        → is_kept_block t l i ≡ false → pointing_block t l i ≡ true → is_kept_block t l (target_block t l i o) ≡ false → target_place t l i o + len ≤ b t l
        → short_from t (suc below) l i o len ≡ none
    unfolding short_from resolves resolved_place
    off-target below un pt off h = rw (le-leb (o + len) (b t l) inside, un, pt, off, le-leb (target_place t l i o + len) (b t l) h)
