-- The local equations that the check tests hold exactly if the edges are right for the one text that fits.
use Rattle.std.specs.Prelude.{List, [], ◌∷◌, Bool, false, not, ◌&&◌, ◌≡◌, ◌⊎◌, ℕ, zero, suc, ◌+◌, ◌-◌, ◌≤◌, ◌<◌, min, length, get_or, replicate}
use Rattle.std.proofs.Math.Option.{Option}
use Rattle.std.proofs.Math.Bool.{true, cond}
use Rattle.std.proofs.Math.Path.{refl}
use Rattle.std.proofs.Common.{sym, ap, ◌∙◌, inl, inr, add_assoc, ext_get_or}
use native.Mathlib.Omega.{arith}
use Rattle.std.proofs.lemmas.List.{length-replicate, get_or-replicate}
use Rattle.text.specs.Text.{same_list, substring}
use Rattle.text.specs.ListLaws.{lt-or-ge, bool_cases, and_left, and_right, and_both, or_right, all_below-at, all_below-make, same_list-true, eq-same_list}
use Rattle.text.specs.Conjunctions.{parts}
use Rattle.text.specs.TextLaws.{length-substring, get_or-substring, substring-ext, substring-at}
use Rattle.format.specs.Layout as at
use Rattle.format.specs.LayoutLaws.{Readable, edges-inside, leaf-start-inside}
use Rattle.format.specs.TreeReading.{text_of, edges_true, Short, short_from}
use Rattle.theory_paths.specs.Links.{H, N, s, len, Linked}
use Rattle.theory_paths.specs.BlockStarts.{len-end, len-pos, start-below}
use Rattle.theory_paths.specs.FitsFacts.{Fitting, fits-facts}
use Rattle.theory_paths.specs.OneText.{text-fits}
use Rattle.theory_edges.specs.EdgesMatchTree.{Edged, edged-facts, edged-make, edges-at, edges-all}
use Rattle.theory_edges.specs.SpanWalk as walks
use Rattle.theory_edges.specs.EdgesLocal.{edge_is, own_bytes, child_edges, walked_edges, has_full_children, edges_local, level_edges, all_edges_of}
use Rattle.theory_edges.specs.ChildEdges.{Full, full-facts, child-edged, edged-child}

-- A substring of zeros, byte by byte.
zeros-at : (t : List ℕ) (a n : ℕ) → substring t a n ≡ replicate n 0 → (y : ℕ) → y < n → get_or t (a + y) 0 ≡ 0
zeros-at t a n e y h = sym (get_or-substring t a n y h) ∙ ap (λ (x : List ℕ). get_or x y 0) e ∙ get_or-replicate n y 0 0 h

zeros-make : (t : List ℕ) (a n : ℕ) → a + n ≤ length t → ((y : ℕ) → y < n → get_or t (a + y) 0 ≡ 0) → substring t a n ≡ replicate n 0
zeros-make t a n fits z =
    ext_get_or 0 (substring t a n) (replicate n 0) (length-substring t a n fits ∙ sym (length-replicate n 0))
    (λ y hy. (let low : y < n = rw (length-substring t a n fits) at hy in get_or-substring t a n y low ∙ z y low ∙ sym (get_or-replicate n y 0 0 low)))

module _ (T t : List ℕ) (k : Readable t) (d : Linked t) (two : at.layout t ≡ 2) (f : Fitting T t) where
  abbrev m : ℕ
  m = (at.settings t).leaf

  -- One edge: the m bytes at a, against x bytes found that are those of the text from p.
  module _ (x : ℕ) (low : 0 < x) (short : x ≤ m)
      (r : Option Short) (p a : ℕ) (w : walks.Reads T t k d two f x low short r p) (room : a + m ≤ length t) (fits : p + x ≤ length T) where
    record Edge : Type 0 where
      own : (y : ℕ) → y < x → get_or t (a + y) 0 ≡ get_or T (p + y) 0
      zeros : (y : ℕ) → x ≤ y → y < m → get_or t (a + y) 0 ≡ 0

    abbrev q : Short
    q = w.found

    abbrev first : Bool
    first = same_list (substring t a q.size) (substring t q.from q.size)

    abbrev second : Bool
    second = same_list (substring t (a + q.size) (x - q.size)) (substring t q.next (x - q.size))

    abbrev third : Bool
    third = same_list (substring t (a + x) (m - x)) (replicate (m - x) 0)

    edge-facts : edge_is t a x r ≡ true → Edge
    edge-facts h =
        let tests : (first && second && third) ≡ true = rw w.is at h in
        let c = parts first (second ∷ third ∷ []) tests in
        let e1 : substring t a q.size ≡ substring T p q.size = same_list-true _ _ c.0 ∙ w.first_part in
        let e2 : substring t (a + q.size) (x - q.size) ≡ substring T (p + q.size) (x - q.size) = same_list-true _ _ c.1.0 ∙ w.next_part in
        let e3 : substring t (a + x) (m - x) ≡ replicate (m - x) 0 = same_list-true _ _ c.1.1.0 in
        record {
          own = λ y hy. own e1 e2 y hy (lt-or-ge y q.size);
          zeros = λ y lo hi. (let e : a + y ≡ a + x + (y - x) = omega arith in rw e (zeros-at t (a + x) (m - x) e3 (y - x) (omega arith)));
        }
      where
        own : substring t a q.size ≡ substring T p q.size → substring t (a + q.size) (x - q.size) ≡ substring T (p + q.size) (x - q.size)
            → (y : ℕ) → y < x → (y < q.size) ⊎ (q.size ≤ y) → get_or t (a + y) 0 ≡ get_or T (p + y) 0
        own e1 e2 y hy (inl z) = substring-at t T a p q.size e1 y z
        own e1 e2 y hy (inr z) =
            let e : a + y ≡ a + q.size + (y - q.size) = omega arith in
            let g : p + y ≡ p + q.size + (y - q.size) = omega arith in
            rw (e, g) (substring-at t T (a + q.size) (p + q.size) (x - q.size) e2 (y - q.size) (omega arith))

    edge-make : Edge → edge_is t a x r ≡ true
    edge-make e =
        let e1 : substring t a q.size ≡ substring T p q.size =
        substring-ext t T a p q.size (omega (arith, w.few)) (omega (arith, w.few)) (λ y hy. e.own y (omega (arith, w.few))) in
        let e2 : substring t (a + q.size) (x - q.size) ≡ substring T (p + q.size) (x - q.size) =
        substring-ext t T (a + q.size) (p + q.size) (x - q.size) (omega (arith, w.few)) (omega (arith, w.few))
        (λ y hy. rw (add_assoc a q.size y, add_assoc p q.size y) (e.own (q.size + y) (omega arith))) in
        let e3 : substring t (a + x) (m - x) ≡ replicate (m - x) 0 =
        zeros-make t (a + x) (m - x) (omega arith) (λ y hy. rw (add_assoc a x y) (e.zeros (x + y) (omega arith) (omega arith))) in
        let tests : (first && second && third) ≡ true =
        and_both (and_both (eq-same_list _ _ (e1 ∙ sym w.first_part)) (eq-same_list _ _ (e2 ∙ sym w.next_part))) (eq-same_list _ _ e3) in
        rw w.is tests

  -- One block.
  module _ (l i : ℕ) (hl : l < H t) (hi : i < N t l) where
    abbrev L : ℕ
    L = len t l i

    abbrev x : ℕ
    x = own_bytes t l i

    x-is : x ≡ min m L
    unfolding own_bytes
    x-is = refl

    some_bytes : 0 < x
    some_bytes = omega (arith, x-is, len-pos t k d l i hl hi, k.bounds.leaf_low)

    short : x ≤ m
    short = omega (arith, x-is)

    block-end : s t l i + L ≤ length T
    block-end = omega (arith, f.size, len-end t l i (omega (arith, start-below t k d l i hl hi)))

    room : at.edges_at t l i + (m + m) ≤ length t
    room = omega (arith, edges-inside t k l i two hl hi, leaf-start-inside t k)

    abbrev Walks : Type 0
    Walks = (o : ℕ) → o + x ≤ L → walks.Reads T t k d two f x some_bytes short (short_from t (H t - 1 - l) l i o x) (s t l i + o)

    module _ (w : Walks) where
      front : walks.Reads T t k d two f x some_bytes short (short_from t (H t - 1 - l) l i 0 x) (s t l i + 0)
      front = w 0 (omega (arith, x-is))

      back : walks.Reads T t k d two f x some_bytes short (short_from t (H t - 1 - l) l i (L - x) x) (s t l i + (L - x))
      back = w (L - x) (omega (arith, x-is))

      abbrev Front : Type 0
      Front = Edge x some_bytes
          short (short_from t (H t - 1 - l) l i 0 x) (s t l i + 0) (at.edges_at t l i) front (omega (arith, room)) (omega (arith, block-end, x-is))

      abbrev Back : Type 0
      Back = Edge x some_bytes short (short_from t (H t - 1 - l) l i (L - x) x)
          (s t l i + (L - x)) (at.edges_at t l i + m) back (omega (arith, room)) (omega (arith, block-end, x-is))

      first_test : Bool
      first_test = edge_is t (at.edges_at t l i) x (short_from t (H t - 1 - l) l i 0 x)

      last_test : Bool
      last_test = edge_is t (at.edges_at t l i + m) x (short_from t (H t - 1 - l) l i (L - x) x)

      from-edges : Front → Back → Edged T t l i
      from-edges a c = record {
        first = λ y hm hx. (let e : s t l i + 0 + y ≡ s t l i + y = omega arith in rw e at (a.own y (omega (arith, x-is))));
        first_zero = λ y hm hx. a.zeros y (omega (arith, x-is)) hm;
        last = λ y hm hx.
            (let e : at.edges_at t l i + (m + y) ≡ at.edges_at t l i + m + y = omega arith in
            let g : s t l i + (L - m) + y ≡ s t l i + (L - x) + y = omega (arith, x-is) in
            rw (e, g) (c.own y (omega (arith, x-is))));
        last_zero = λ y hm hx. (let e : at.edges_at t l i + (m + y) ≡ at.edges_at t l i + m + y = omega arith in rw e (c.zeros y (omega (arith, x-is)) hm));
      }

      walked-edged : walked_edges t l i ≡ true → Edged T t l i
      unfolding walked_edges first_test last_test
      walked-edged h =
          from-edges
          (edge-facts x some_bytes short _ _ (at.edges_at t l i) front (omega (arith, room)) (omega (arith, block-end, x-is)) (and_left first_test last_test h))
          (edge-facts x some_bytes short
          _ _ (at.edges_at t l i + m) back (omega (arith, room)) (omega (arith, block-end, x-is)) (and_right first_test last_test h))

      edged-walked : Edged T t l i → walked_edges t l i ≡ true
      unfolding walked_edges
      edged-walked e =
          and_both
          (edge-make x some_bytes short _ _ (at.edges_at t l i) front (omega (arith, room)) (omega (arith, block-end, x-is)) record {
            own = λ y hy. (let g : s t l i + 0 + y ≡ s t l i + y = omega arith in rw g (e.first y (omega (arith, short)) (omega (arith, x-is))));
            zeros = λ y lo hi. e.first_zero y hi (omega (arith, x-is));
          })
          (edge-make x some_bytes short _ _ (at.edges_at t l i + m) back (omega (arith, room)) (omega (arith, block-end, x-is)) record {
            own = λ y hy.
                (let e' : at.edges_at t l i + m + y ≡ at.edges_at t l i + (m + y) = omega arith in
                let g : s t l i + (L - x) + y ≡ s t l i + (L - m) + y = omega (arith, x-is) in
                rw (e', g) (e.last y (omega (arith, short)) (omega (arith, x-is))));
            zeros = λ y lo hi. (let e' : at.edges_at t l i + m + y ≡ at.edges_at t l i + (m + y) = omega arith in
                rw e' (e.last_zero y hi (omega (arith, x-is))));
          })

  -- A level, whose levels below have true edges: the kept blocks first, then those that point to them.
  abbrev pub Level : ℕ → Type 0
  Level l = (i : ℕ) → i < N t l → Edged T t l i

  abbrev Below : ℕ → Type 0
  Below l = (j : ℕ) → l < j → j < H t → Level j

  module _ (l : ℕ) (hl : l < H t) (deep : Below l) where
    -- One block, by the equation that holds for it.
    module _ (i : ℕ) (hi : i < N t l) (w : Walks l i hl hi) where
      under : Full t l i → Level (l + 1)
      under full = deep (l + 1) (omega arith) full.above

      local-edged : edges_local t l i ≡ true → Edged T t l i
      unfolding edges_local
      local-edged h = go (bool_cases (has_full_children t l i))
        where
          go : (has_full_children t l i ≡ true) ⊎ (has_full_children t l i ≡ false) → Edged T t l i
          go (inl is) = let full = full-facts t l i is in child-edged t k d l i hi full T two (under full) (rw is at h)
          go (inr is) = walked-edged l i hl hi w (rw is at h)

      edged-local : Edged T t l i → edges_local t l i ≡ true
      unfolding edges_local
      edged-local e = go (bool_cases (has_full_children t l i))
        where
          go : (has_full_children t l i ≡ true)
              ⊎ (has_full_children t l i ≡ false) → cond (has_full_children t l i) (child_edges t l i) (walked_edges t l i) ≡ true
          go (inl is) = let full = full-facts t l i is in rw is (edged-child t k d l i hi full T two (under full) e)
          go (inr is) = rw is (edged-walked l i hl hi w e)

    kept-edged : ((i : ℕ) → i < N t l → edges_local t l i ≡ true) → (i : ℕ) → i < N t l → at.is_kept t l i ≡ true → Edged T t l i
    kept-edged h i hi kept = local-edged i hi (λ o ho. walks.walk_kept
        T t k d two f (x l i hl hi) (some_bytes l i hl hi) (short l i hl hi) (H t - 1 - l) l i o (omega (arith, hl)) hi kept ho deep) (h i hi)

    all-edged : ((i : ℕ) → i < N t l → edges_local t l i ≡ true) → Level l
    all-edged h i hi = local-edged i hi (λ o ho. walks.walk T
        t k d two f (x l i hl hi) (some_bytes l i hl hi) (short l i hl hi) (H t - 1 - l) l i o (omega (arith, hl)) hi ho deep (kept-edged h)) (h i hi)

    level-local : Level l → (i : ℕ) → i < N t l → edges_local t l i ≡ true
    level-local e i hi = edged-local i hi (λ o ho. walks.walk T t k d two
        f (x l i hl hi) (some_bytes l i hl hi) (short l i hl hi) (H t - 1 - l) l i o (omega (arith, hl)) hi ho deep (λ j hj kept. e j hj)) (e i hi)

  -- All levels, from the last one up.
  levels-edged : ((l i : ℕ) → l < H t → i < N t l → edges_local t l i ≡ true) → (n l : ℕ) → l < H t → H t ≤ l + n → Level l
  levels-edged h zero l hl near = absurd (let z : ⊥ = omega arith in z)
  levels-edged h (suc n) l hl near = all-edged l hl (λ j lt hj. levels-edged h n j hj (omega arith)) (λ i hi. h l i hl hi)

  pub edged-all : edges_true T t ≡ true → (l : ℕ) → l < H t → Level l
  edged-all h l hl i hi = edged-facts T t l i (block-end l i hl hi) (edges-at T t two h l i hl hi)

  local-all : all_edges_of t ≡ true → (l i : ℕ) → l < H t → i < N t l → edges_local t l i ≡ true
  unfolding all_edges_of level_edges at.has_edges
  local-all h l i hl hi = all_below-at (N t l) (edges_local t l) (all_below-at (H t) (level_edges t) (rw two at h) l hl) i hi

  local-true : all_edges_of t ≡ true → edges_true T t ≡ true
  local-true h = edges-all T
      t (λ l i hl hi. edged-make T t l i (block-end l i hl hi) (room l i hl hi) (levels-edged (local-all h) (H t) l hl (omega arith) i hi))

  true-local : edges_true T t ≡ true → all_edges_of t ≡ true
  unfolding all_edges_of level_edges
  true-local h =
      let e = edged-all h in
      or_right (not (at.has_edges t))
      (all_below-make (H t) (level_edges t) (λ l hl. all_below-make (N t l) (edges_local t l) (level-local l hl (λ j lt hj. e j hj) (e l hl))))

same_test : (a c : Bool) → (a ≡ true → c ≡ true) → (c ≡ true → a ≡ true) → a ≡ c
same_test true c f g = sym (f refl)
same_test false true f g = g refl
same_test false false f g = refl

-- Any tree that passes questions 5 to 8.
module _ (t : List ℕ) (k : Readable t) (d : Linked t) where
  pub fitting : Fitting (text_of t) t
  fitting = fits-facts (text_of t) t (omega (arith, k.bounds.levels_low)) (text-fits t k d)

  pub edges-exact : all_edges_of t ≡ edges_true (text_of t) t
  unfolding all_edges_of edges_true at.has_edges
  edges-exact = go k.layout
    where
      go : (at.layout t ≡ 1) ⊎ (at.layout t ≡ 2) → all_edges_of t ≡ edges_true (text_of t) t
      go (inl one) = rw one
      go (inr two) = same_test (all_edges_of t) (edges_true (text_of t) t) (local-true (text_of t) t k d two fitting) (true-local (text_of t) t k d two fitting)
