-- In a layout 2 tree that passes questions 5 to 8, the walk of a short span reads the bytes of the text that fits, if the edges that it reads are right:
-- those of the levels below the first block, and, if that block points, those of the kept blocks of its level.
use Rattle.std.specs.Prelude.{List, [], ◌∷◌, ◌++◌, true, false, ◌≡◌, refl, ◌⊎◌, length}
use Rattle.std.proofs.Math.Option.{Option, some}
use Rattle.std.proofs.Common.{sym, ◌∙◌, inl, inr, add_assoc, mod-lt, div-add-mod', add-mul}
use Rattle.std.proofs.Math.Path.{ap}
use Prim.Native.Nat.{ℕ, zero, suc, ◌+◌, ◌-◌, ◌*◌, ◌/◌, ◌%◌, ◌≤◌, ◌<◌}
use native.Mathlib.Omega.{arith}
use Rattle.std.proofs.Math.Arith.{digits_div, digits_mod}
use Rattle.std.proofs.Math.ListN.{get_or}
use Rattle.text.specs.ListLaws.{lt-or-ge, bool_cases}
use Rattle.text.specs.Text.{substring}
use Rattle.text.specs.TextLaws.{substring-ext, substring-add, substring-part}
use Rattle.format.specs.Layout as at
use Rattle.format.specs.LayoutLaws.{Readable, full-pos, full-last, full-falls, edges-inside, leaf-start-inside, level0-holds}
use Rattle.format.specs.TreeReading.{Visit, visit, target_block, target_place, Short, led, by_edges, short_from, short_of, short_bytes}
use Rattle.theory_paths.specs.Links.{H, N, b, s, len, Linked, Pointing, pointing-kind}
use Rattle.theory_paths.specs.BlockStarts.{len-small, len-end, start-below, child, last-kept, leaf-below}
use Rattle.theory_paths.specs.PlacesResolved.{kept_block, kept-not, pointing-block, target, target_first, target-second}
use Rattle.theory_paths.specs.FitsFacts.{Fitting}
use Rattle.theory_edges.specs.EdgesMatchTree.{Edged}
use Rattle.theory_edges.specs.SpanSteps.{edges-give, over, last_step, kept_step, points-step, between_step}

module _ (T t : List ℕ) (k : Readable t) (d : Linked t) (two : at.layout t ≡ 2) (f : Fitting T t) (x : ℕ) (low : 0 < x) (short : x ≤ (at.settings t).leaf) where
  abbrev m : ℕ
  m = (at.settings t).leaf

  -- The walk gives the x bytes of the text from p, in two parts, the second empty where one is enough.
  pub record Reads (r : Option Short) (p : ℕ) : Type 0 where
    pub found : Short
    pub is : r ≡ some found
    pub few : found.size ≤ x
    pub first_in : found.from + found.size ≤ length t
    pub next-in : found.next + (x - found.size) ≤ length t
    pub first_part : substring t found.from found.size ≡ substring T p found.size
    pub next_part : substring t found.next (x - found.size) ≡ substring T (p + found.size) (x - found.size)

  pub reads_bytes : (r : Option Short) (p : ℕ) (w : Reads r p) → short_bytes t x r ≡ substring T p x
  reads_bytes r p w =
      let all : w.found.size + (x - w.found.size) ≡ x = omega (arith, w.few) in
      rw (w.is, w.first_part, w.next_part) (sym (substring-add T p w.found.size (x - w.found.size)) ∙ ap (λ (z : ℕ). substring T p z) all)

  reads-led : (vs : List Visit) (r u : Option Short) (p : ℕ) → u ≡ led vs r → Reads r p → Reads u p
  reads-led vs r u p e w = record {
    found = record { visits = vs ++ w.found.visits; from = w.found.from; size = w.found.size; next = w.found.next };
    is = e ∙ ap (led vs) w.is;
    few = w.few;
    first_in = w.first_in;
    next-in = w.next-in;
    first_part = w.first_part;
    next_part = w.next_part;
  }

  reads_same : (r u : Option Short) (p q : ℕ) → u ≡ r → p ≡ q → Reads r p → Reads u q
  reads_same r u p q e g w = rw (e, ← g) w

  reads-text : (r : Option Short) (p q : ℕ) → p + x ≤ length T → q + x ≤ length T → substring T p x ≡ substring T q x → Reads r p → Reads r q
  reads-text r p q hp hq e w =
      let z = w.found.size in
      let part : (y len : ℕ) → y + len ≤ x → substring T (p + y) len ≡ substring T (q + y) len = λ y len h. substring-part T T p q x y len hp hq h e in
      let a : p + 0 ≡ p = omega arith in
      let c : q + 0 ≡ q = omega arith in record {
        found = w.found;
        is = w.is;
        few = w.few;
        first_in = w.first_in;
        next-in = w.next-in;
        first_part = w.first_part ∙ rw (a, c) at (part 0 z (omega (arith, w.few)));
        next_part = w.next_part ∙ part z (x - z) (omega (arith, w.few));
      }

  leaf-small : (l : ℕ) → l < H t → m ≤ b t l
  leaf-small l hl = rw (full-last t k) at (full-falls t k l (H t - 1) (omega arith))

  block-end : (l i : ℕ) → l < H t → i < N t l → s t l i + len t l i ≤ at.text_length t
  block-end l i hl hi = len-end t l i (omega (arith, start-below t k d l i hl hi))

  -- A block has this many bytes if a full block and the text do.
  len-has : (l i y : ℕ) → y ≤ b t l → s t l i + y ≤ at.text_length t → y ≤ len t l i
  unfolding at.block_length_at
  len-has l i y h g = omega arith

  -- Place o of block i is over x bytes before the end of a block that follows it in the text.
  record Crosses (l i o : ℕ) : Type 0 where
    level_in : l < H t
    block_in : i + 1 < N t l
    follows : s t l (i + 1) ≡ s t l i + b t l
    before : o < b t l
    past : b t l < o + x
    ends : s t l i + o + x ≤ at.text_length t

  module _ (l i o : ℕ) (c : Crosses l i o) (e : Edged T t l i) (g : Edged T t l (i + 1)) where
    left : ℕ
    left = b t l - o

    -- The left block is full.
    full : len t l i ≡ b t l
    full =
        let most : b t l ≤ len t l i = len-has l i (b t l) (omega arith) (omega (arith, start-below t k d l (i + 1) c.level_in c.block_in, c.follows)) in
        omega (arith, len-small t l i)

    first_part : substring t (at.edges_at t l i + (m + m - left)) left ≡ substring T (s t l i + o) left
    unfolding left
    first_part =
        substring-ext t T (at.edges_at t l i + (m + m - left)) (s t l i + o) left
        (omega (arith, edges-inside t k l i two c.level_in (omega (arith, c.block_in)), leaf-start-inside t k, short, c.past, c.before))
        (omega (arith, f.size, c.ends, c.past))
        (λ y hy.
        let small = leaf-small l c.level_in in
        let here : at.edges_at t l i + (m + m - left) + y ≡ at.edges_at t l i + (m + (m - left + y)) = omega (arith, c.past, c.before, short) in
        let there : s t l i + (len t l i - m) + (m - left + y) ≡ s t l i + o + y = omega (arith, full, c.past, c.before, short) in
        rw here (e.last (m - left + y) (omega (arith, c.past, c.before, short)) (omega (arith, full, c.past, c.before, short))
        ∙ ap (λ (z : ℕ). get_or T z 0) there))

    second-part : substring t (at.edges_at t l (i + 1)) (x - left) ≡ substring T (s t l i + o + left) (x - left)
    unfolding left
    second-part =
        let small = leaf-small l c.level_in in
        let most : x - left ≤ len t l (i + 1) = len-has l (i + 1) (x - left) (omega (arith, short)) (omega (arith, c.follows, c.ends, c.past, c.before)) in
        substring-ext t T (at.edges_at t l (i + 1)) (s t l i + o + left) (x - left)
        (omega (arith, edges-inside t k l (i + 1) two c.level_in c.block_in, leaf-start-inside t k, short))
        (omega (arith, f.size, c.ends, c.past))
        (λ y hy.
        let there : s t l (i + 1) + y ≡ s t l i + o + left + y = omega (arith, c.follows, c.before) in
        e' y (omega (arith, short)) (omega arith) ∙ ap (λ (z : ℕ). get_or T z 0) there)
      where
        e' : (y : ℕ) → y < m → y < len t l (i + 1) → get_or t (at.edges_at t l (i + 1) + y) 0 ≡ get_or T (s t l (i + 1) + y) 0
        e' = g.first

    crossing : Reads (by_edges t l i o) (s t l i + o)
    unfolding left
    crossing = record {
      found = record { visits = visit l i o ∷ visit l (i + 1) 0 ∷ []; from = at.edges_at t l i + (m + m - left); size = left; next = at.edges_at t l (i + 1) };
      is = edges-give t l i o c.block_in;
      few = omega (arith, c.past);
      first_in = omega (arith, edges-inside t k l i two c.level_in (omega (arith, c.block_in)), leaf-start-inside t k, short, c.past, c.before);
      next-in = omega (arith, edges-inside t k l (i + 1) two c.level_in c.block_in, leaf-start-inside t k, short);
      first_part = first_part;
      next_part = second-part;
    }

  -- Every block of a level has true edges; every kept one.
  abbrev pub Level : ℕ → Type 0
  Level l = (i : ℕ) → i < N t l → Edged T t l i

  abbrev pub Kept : ℕ → Type 0
  Kept l = (i : ℕ) → i < N t l → at.is_kept t l i ≡ true → Edged T t l i

  -- The walk holds from every block of a level that holds the span.
  abbrev Rest : ℕ → ℕ → Type 0
  Rest below l = (i o : ℕ) → i < N t l → o + x ≤ len t l i → Reads (short_from t below l i o x) (s t l i + o)

  -- From a kept block to its children.
  down : (below l a o : ℕ) → l + 1 < H t → a < N t l → at.is_kept t l a ≡ true → o + x ≤ len t l a → Level (l + 1) → Rest below (l + 1)
      → Reads (short_from t below (l + 1) (at.link t l a + o / b t (l + 1)) (o % b t (l + 1)) x) (s t l a + o)
  down below l a o hl ha kept ho edged rest = go (lt-or-ge (b t (l + 1)) (o % b t (l + 1) + x))
    where
      go : (b t (l + 1) < o % b t (l + 1) + x) ⊎ (o % b t (l + 1) + x ≤ b t (l + 1))
          → Reads (short_from t below (l + 1) (at.link t l a + o / b t (l + 1)) (o % b t (l + 1)) x) (s t l a + o)
      go (inr inside) =
          let w = child t k d l a o hl ha kept (omega arith) in
          let fits = len-has (l + 1)
          (at.link t l a + o / b t (l + 1)) (o % b t (l + 1) + x) inside (omega (arith, w.same_place, block-end l a (omega arith) ha)) in
          reads_same _ _ _ _ refl w.same_place (rest (at.link t l a + o / b t (l + 1)) (o % b t (l + 1)) w.below fits)
      go (inl past) =
          let c = b t (l + 1) in
          let pos = full-pos t k (l + 1) in
          let w = child t k d l a o hl ha kept (omega arith) in
          let next : ℕ = (o / c + 1) * c in
          let same : next ≡ o + (c - o % c) = omega (arith, add-mul (o / c) 1 c, div-add-mod' o c, mod-lt o pos) in
          let v = child t k d l a next hl ha kept (omega (arith, mod-lt o pos)) in
          let e : next ≡ (o / c + 1) * c + 0 = omega arith in
          let number : next / c ≡ o / c + 1 = rw e (digits_div (o / c + 1) pos) in
          let rest_is : next % c ≡ 0 = rw e (digits_mod (o / c + 1) pos) in
          let j = at.link t l a + o / c in
          let k' : at.link t l a + next / c ≡ j + 1 = rw number (omega arith) in
          let below_next : j + 1 < N t (l + 1) = rw k' at v.below in
          let place-next : s t (l + 1) (j + 1) + 0 ≡ s t l a + next = rw (k', rest_is) at v.same_place in
          let cross : Crosses (l + 1) j (o % c) = record {
            level_in = hl;
            block_in = below_next;
            follows = omega (arith, place-next, w.same_place, mod-lt o pos);
            before = mod-lt o pos;
            past = past;
            ends = omega (arith, w.same_place, block-end l a (omega arith) ha);
          } in
          reads_same _ _ _ _ (over t below (l + 1) j (o % c) x past)
          w.same_place (crossing (l + 1) j (o % c) cross (edged j w.below) (edged (j + 1) below_next))

  inside-block : (l i o : ℕ) → o + x ≤ len t l i → o + x ≤ b t l
  inside-block l i o h = omega (arith, len-small t l i)

  kept-walk : (below l i o : ℕ) → l + 1 < H t → i < N t l → at.is_kept t l i ≡ true → o + x ≤ len t l i → Level (l + 1) → Rest below (l + 1)
      → Reads (short_from t (suc below) l i o x) (s t l i + o)
  kept-walk below l i o hl hi kept ho edged rest =
      reads-led (visit l i o ∷ [])
      _ _ (s t l i + o) (kept_step t l i o x (inside-block l i o ho) below (kept_block t l i hi kept)) (down below l i o hl hi kept ho edged rest)

  -- The bytes of a pointing block are also those of its occurrence.
  occurrence : (l i o : ℕ) → l < H t → i < N t l → at.is_kept t l i ≡ false → Pointing t l i → o + x ≤ len t l i
      → substring T (s t l (at.link t l i) + at.gap t l i + o) x ≡ substring T (s t l i + o) x
  occurrence l i o hl hi un p ho =
      substring-ext T T (s t l (at.link t l i) + at.gap t l i + o) (s t l i + o) x
      (omega (arith, p.ends, f.size, start-below t k d l i hl hi)) (omega (arith, f.size, block-end l i hl hi))
      (λ y hy.
      let here : s t l i + o + y ≡ s t l i + (o + y) = omega arith in
      let there : s t l (at.link t l i) + at.gap t l i + o + y ≡ s t l (at.link t l i) + at.gap t l i + (o + y) = omega arith in
      rw (here, there) (sym (f.points l i (o + y) hl hi (pointing-kind t l i p) (omega arith))))

  pointing-walk : (below l i o : ℕ) → i < N t l → at.is_kept t l i ≡ false → Pointing t l i → o + x ≤ len t l i → Level (l + 1) → Kept l → Rest below (l + 1)
      → Reads (short_from t (suc below) l i o x) (s t l i + o)
  pointing-walk below l i o hi un p ho edged edged-kept rest =
      reads-text _ _ _ (omega (arith, p.ends, f.size, start-below t k d l i hl hi))
      (omega (arith, f.size, block-end l i hl hi)) (occurrence l i o hl hi un p ho) (go (lt-or-ge (b t l) (target_place t l i o + x)))
    where
      hl : l < H t
      hl = omega (arith, p.above)

      fits : o + x ≤ b t l
      fits = inside-block l i o ho

      go : (b t l < target_place t l i o + x)
          ⊎ (target_place t l i o + x ≤ b t l) → Reads (short_from t (suc below) l i o x) (s t l (at.link t l i) + at.gap t l i + o)
      go (inr inside) =
          let j = target_block t l i o in
          let q = target_place t l i o in
          let w = target t k d l i o hi p (omega arith) in
          let all : q + x ≤ len t l j = len-has l j (q + x) inside (omega (arith, w.same_place, p.ends, start-below t k d l i hl hi)) in
          reads_same _ _ _ _ refl w.same_place
          (reads-led (visit l i o ∷ visit l j q ∷ []) _ _ (s t l j + q)
          (points-step t l i o x fits below (kept-not t l i hi un) (pointing-block t l i hi p) (kept_block t l j w.below w.kept) inside)
          (down below l j q p.above w.below w.kept all edged rest))
      go (inl past) = first (lt-or-ge (at.gap t l i + o) (b t l))
        where
          first : (at.gap t l i + o < b t l) ⊎ (b t l ≤ at.gap t l i + o) → Reads (short_from t (suc below) l i o x) (s t l (at.link t l i) + at.gap t l i + o)
          first (inr second) = absurd (let z : ⊥ = omega (arith, (target-second t l i o second).1, past, fits, p.gap_small) in z)
          first (inl here) =
              let j = at.link t l i in
              let q = at.gap t l i + o in
              let e = target_first t l i o here in
              let n = p.next (omega (arith, e.1, past, ho)) in
              let cross : Crosses l j q = record {
                level_in = hl;
                block_in = n.below;
                follows = n.start_is;
                before = here;
                past = omega (arith, e.1, past);
                ends = omega (arith, p.ends, start-below t k d l i hl hi);
              } in
              let step : short_from t (suc below) l i o x ≡ led (visit l i o ∷ []) (by_edges t l j q) =
              rw (e.0, e.1) at (between_step t l i o x fits below (kept-not t l i hi un) (pointing-block t l i hi p) past) in
              let at-border : Reads (by_edges t l j q) (s t l j + q) =
              crossing l j q cross (edged-kept j p.target_below p.target_kept) (edged-kept (j + 1) n.below n.kept) in
              reads_same _ _ _ _ refl (sym (add_assoc (s t l j) (at.gap t l i) o)) (reads-led (visit l i o ∷ []) _ _ (s t l j + q) step at-border)

  nothing : (A B : List ℕ) (p q y : ℕ) → substring A p (y - y) ≡ substring B q (y - y)
  unfolding substring
  nothing A B p q y = let z : y - y ≡ 0 = omega arith in rw z

  -- A block of the last level has leaf bytes.
  last-walk : (i o : ℕ) → i < N t (H t - 1) → o + x ≤ len t (H t - 1) i → Reads (short_from t 0 (H t - 1) i o x) (s t (H t - 1) i + o)
  unfolding at.leaf_byte
  last-walk i o hi ho =
      let l = H t - 1 in
      let kept = last-kept t k d i hi in
      let link = at.link t l i in
      let in_leaves : link + o + x ≤ at.leaf_count t = omega (arith, leaf-below t k d i (o + x - 1) hi (omega arith)) in
      let from : ℕ = at.leaf_offset t + (link + o) in
      let same : substring t from x ≡ substring T (s t l i + o) x =
      substring-ext t T from (s t l i + o) x (omega (arith, k.size)) (omega (arith, f.size, block-end l i (omega (arith, k.bounds.levels_low)) hi))
      (λ y hy.
      let here : from + y ≡ at.leaf_offset t + (link + (o + y)) = omega arith in
      let there : s t l i + o + y ≡ s t l i + (o + y) = omega arith in
      rw (here, there) (sym (f.leaves i (o + y) hi (omega arith)))) in record {
        found = record { visits = visit l i o ∷ []; from = from; size = x; next = 0 };
        is = last_step t l i o x (inside-block l i o ho) (kept_block t l i hi kept) in_leaves;
        few = omega arith;
        first_in = omega (arith, k.size);
        next-in = omega arith;
        first_part = same;
        next_part = nothing t T 0 (s t l i + o + x) x;
      }

  -- The edges of the levels below l are true.
  abbrev pub Below : ℕ → Type 0
  Below l = (j : ℕ) → l < j → j < H t → Level j

  -- From any block that holds the span; a kept one reads no edges of its own level.
  pub walk : (below l i o : ℕ) → l + below + 1 ≡ H t → i < N t l → o + x ≤ len t l i → Below l → Kept l → Reads (short_from t below l i o x) (s t l i + o)
  walk zero l i o lev hi ho deep here = last l (omega arith) hi ho
    where
      last : (y : ℕ) → y ≡ H t - 1 → i < N t y → o + x ≤ len t y i → Reads (short_from t 0 y i o x) (s t y i + o)
      last y e h g = rw e (last-walk i o (rw e at h) (rw e at g))
  walk (suc below) l i o lev hi ho deep here =
      go (bool_cases (at.is_kept t l i))
      (λ j q hj hq. walk below (l + 1) j q (omega arith) hj hq (λ y a h. deep y (omega arith) h) (λ y h kept. deep (l + 1) (omega arith) (omega arith) y h))
    where
      go : (at.is_kept t l i ≡ true) ⊎ (at.is_kept t l i ≡ false) → Rest below (l + 1) → Reads (short_from t (suc below) l i o x) (s t l i + o)
      go (inl kept) rest = kept-walk below l i o (omega arith) hi kept ho (deep (l + 1) (omega arith) (omega arith)) rest
      go (inr un) rest = pointing-walk below l i o hi un (d.points l i (omega arith) hi un) ho (deep (l + 1) (omega arith) (omega arith)) here rest

  -- From a kept block of any level.
  pub walk_kept : (below l i o : ℕ)
      → l + below + 1 ≡ H t → i < N t l → at.is_kept t l i ≡ true → o + x ≤ len t l i → Below l → Reads (short_from t below l i o x) (s t l i + o)
  walk_kept zero l i o lev hi kept ho deep = last l (omega arith) hi ho
    where
      last : (y : ℕ) → y ≡ H t - 1 → i < N t y → o + x ≤ len t y i → Reads (short_from t 0 y i o x) (s t y i + o)
      last y e h g = rw e (last-walk i o (rw e at h) (rw e at g))
  walk_kept (suc below) l i o lev hi kept ho deep =
      kept-walk below l i o (omega arith) hi kept ho (deep (l + 1) (omega arith) (omega arith))
      (λ j q hj hq. walk below (l + 1) j q (omega arith) hj hq (λ y a h. deep y (omega arith) h) (λ y h kept. deep (l + 1) (omega arith) (omega arith) y h))

  -- From a place of the text, where all edges are true.
  pub walk-text : ((l : ℕ) → l < H t → Level l) → (p : ℕ) → p + x ≤ at.text_length t → Reads (short_of t p x) p
  unfolding short_of
  walk-text all p hp = go (lt-or-ge (b t 0) (p % b t 0 + x))
    where
      top : 0 < H t
      top = omega (arith, k.bounds.levels_low)

      here : p / b t 0 < N t 0
      here = level0-holds t k p (omega arith)

      start_is : s t 0 (p / b t 0) ≡ p / b t 0 * b t 0
      start_is = d.start0 (p / b t 0) here

      same : s t 0 (p / b t 0) + p % b t 0 ≡ p
      same = omega (arith, start_is, div-add-mod' p (b t 0))

      go : (b t 0 < p % b t 0 + x) ⊎ (p % b t 0 + x ≤ b t 0) → Reads (short_from t (H t - 1) 0 (p / b t 0) (p % b t 0) x) p
      go (inr inside) =
          reads_same _ _ _ _ refl same (walk (H t - 1) 0 (p / b t 0) (p % b t 0) (omega (arith, k.bounds.levels_low)) here
          (len-has 0 (p / b t 0) (p % b t 0 + x) inside (omega (arith, same))) (λ j lt hj. all j hj) (λ i hi kept. all 0 top i hi))
      go (inl past) =
          let c = b t 0 in
          let j = p / c in
          let pos = full-pos t k 0 in
          let below_end : (j + 1) * c < at.text_length t = omega (arith, add-mul j 1 c, div-add-mod' p c) in
          let e : (j + 1) * c ≡ (j + 1) * c + 0 = omega arith in
          let number : (j + 1) * c / c ≡ j + 1 = rw e (digits_div (j + 1) pos) in
          let next : j + 1 < N t 0 = rw number at (level0-holds t k ((j + 1) * c) below_end) in
          let cross : Crosses 0 j (p % c) = record {
            level_in = top;
            block_in = next;
            follows = omega (arith, start_is, d.start0 (j + 1) next, add-mul j 1 c);
            before = mod-lt p pos;
            past = past;
            ends = omega (arith, same);
          } in
          reads_same _ _ _ _ (over t (H t - 1) 0 j (p % c) x past) same (crossing 0 j (p % c) cross (all 0 top j here) (all 0 top (j + 1) next))
