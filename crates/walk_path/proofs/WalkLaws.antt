-- The walk down a path, step by step.
use mathlib.Core.List.{List, [], ◌∷◌}
use mathlib.Core.Option.{Option, none, some}
use mathlib.Core.Bool.{Bool, true, false, cond, ◌&&◌}
use mathlib.Core.Logic.{◌⊎◌, inl, inr}
use mathlib.Core.Path.{◌≡◌, refl, sym, ap, ◌∙◌}
use Prim.Native.Nat.{ℕ, zero, suc, ◌+◌, ◌-◌, ◌*◌, ◌/◌, ◌%◌, ◌≤◌, ◌<◌, min}
use native.Mathlib.Omega.{arith}
use native.Mathlib.Nat.{mod-lt, mul-le-mul_left}
use borrow.Author.Tests.{lt-ltb, le-ltb, ne_eqb}
use lib.ListN.{length}
use Rattle.text.specs.ListLaws.{lt-or-ge, bool_cases, and_left, and_right}
use Rattle.format.specs.Layout.{max_text, max_levels}
use Rattle.format.specs.Layout as at
use Rattle.format.specs.LayoutLaws.{byte_inside, size_low, full-last}
use Rattle.format.specs.TreeReading.{visit, is_kept_block, pointing_block, target_block, target_place, resolves, path_from}
use Rattle.format.specs.Answers.{left_over}
use Rattle.theory_paths.specs.Shift.{target_small}
use Rattle.layout.specs.declared.place.BlockNumber.{BlockNumber}
use Rattle.layout.specs.declared.place.BlockPlace.{BlockPlace}
use Rattle.walk_steps.specs.declared.BlockKind.{BlockKind}
use Rattle.walk_steps.specs.declared.BlockKind.TheVariants.{Kept, Points, Off}
use Rattle.walk_steps.specs.declared.position.BlockPosition.{BlockPosition}
use Rattle.walk_path.specs.declared.WalkState.{WalkState}
use Rattle.std.specs.Prelude.{Some, None}
use Rattle.std.specs.Prelude as prelude
use Rattle.walk_path.specs.declared.PathEnd.{PathEnd}
use Rattle.walk_steps.specs.Steps.{OnLevel, Pointing, block_kind_at, child_at, resolved_target}
use Rattle.walk_steps.proofs.NextLaws.{next-kept, next-points, next-off, level-below, child-at, child-off, resolved-at, resolved-off}
use Rattle.walk_steps.proofs.StepLaws.{b-pos, b-small, first-there, kept_in}
use Rattle.walk_path.specs.declared.Landing.{Landing}
use Rattle.walk_path.specs.Above.{Above, entered_above, above_from, above_of}
use Rattle.walk_path.specs.Walk.{onward, walked, walked_in, landing_at, KeptAt, MayPoint}
use Rattle.walk_path.proofs.AboveLaws.{above-last, above_kept, above-pointing, above-off, above-past}

-- What is carried.

pub onward-is : (state : WalkState) (here left : ℕ) → left ≡ min state.left here → record { entered = state.entered + 1; left = left } ≡ onward state here
unfolding onward
onward-is state here left e = rw e

-- A block entered first is carried on.
pub walked-enter : (t : List ℕ) (state : WalkState) (l i o : ℕ) (r : Option Above)
    → walked t (onward state (at.full_length t l - o)) r ≡ walked t state (entered_above (visit l i o ∷ []) r)
unfolding walked onward left_over
walked-enter t state l i o none = refl
walked-enter t state l i o (some a) =
    let left = left_over t a.visits (min state.left (at.full_length t l - o)) in
    let e : state.entered + 1 + length a.visits ≡ state.entered + length (visit l i o ∷ a.visits) = omega arith in
    ap (λ (n : ℕ). Some (record { block = record { 0 = a.block }; place = record { 0 = a.place }; state = record { entered = n; left = left } })) e

-- Paths that break.

module _ (t : List ℕ) where
  pub from-off : (n l i o : ℕ) → is_kept_block t l i ≡ false → pointing_block t l i ≡ false → path_from t n l i o ≡ none
  unfolding path_from resolves
  from-off zero l i o k p = rw k
  from-off (suc n) l i o k p = rw (k, p)

  pub from-last-points : (l i o : ℕ) → is_kept_block t l i ≡ false → path_from t 0 l i o ≡ none
  unfolding path_from
  from-last-points l i o k = rw k

  pub from-no-leaf : (l i o : ℕ) → at.leaf_count t ≤ at.link t l i + o → is_kept_block t l i ≡ true → path_from t 0 l i o ≡ none
  unfolding path_from
  from-no-leaf l i o h k = rw (k, le-ltb _ _ h)

  pub from-no-target : (n l i o : ℕ)
      → is_kept_block t l i ≡ false → is_kept_block t l (target_block t l i o) ≡ false → pointing_block t l i ≡ true → path_from t (suc n) l i o ≡ none
  unfolding path_from resolves
  from-no-target n l i o k z p = rw (k, p, z)

  pub from-off-lands : (n l i o : ℕ)
      → is_kept_block t l i ≡ false → (pointing_block t l i ≡ true → is_kept_block t l (target_block t l i o) ≡ false) → path_from t (suc n) l i o ≡ none
  from-off-lands n l i o k apart = go (bool_cases (pointing_block t l i))
    where
      go : (pointing_block t l i ≡ true) ⊎ (pointing_block t l i ≡ false) → path_from t (suc n) l i o ≡ none
      go (inl p) = from-no-target n l i o k (apart p) p
      go (inr p) = from-off (suc n) l i o k p

  pub from_past : (n l i o : ℕ) → at.level_count t l ≤ i → path_from t n l i o ≡ none
  unfolding is_kept_block pointing_block
  from_past n l i o past = from-off n l i o (rw (le-ltb i (at.level_count t l) past)) (rw (le-ltb i (at.level_count t l) past))

-- A step's word.

pub broken-word : None ≡ walked_in 18446744073709551615
unfolding walked_in
broken-word = refl

pub packed-word : (i o entered left : ℕ) → i < 268435456 → o < 256 → entered < 16 → left ≤ max_text
    → walked_in (i + 268435456 * (o + 256 * (entered + 16 * left)))
    ≡ Some (record { block = record { 0 = i }; place = record { 0 = o }; state = record { entered = entered; left = left } })
unfolding walked_in
packed-word i o entered left small low few short =
    let w = i + 268435456 * (o + 256 * (entered + 16 * left)) in
    let a : w % 268435456 ≡ i = omega arith in
    let q : w / 268435456 ≡ o + 256 * (entered + 16 * left) = omega arith in
    let m : (o + 256 * (entered + 16 * left)) % 256 ≡ o = omega arith in
    let p : w / 268435456 % 256 ≡ o = rw q m in
    let f : w / 68719476736 ≡ entered + 16 * left = omega arith in
    let g : (entered + 16 * left) % 16 ≡ entered = omega arith in
    let e : w / 68719476736 % 16 ≡ entered = rw f g in
    let c : w / 1099511627776 ≡ left = omega arith in
    rw (ne_eqb w 18446744073709551615 (λ z. omega arith), a, p, e, c)

pub unpacked-word : (w : ℕ) → (w ≡ 18446744073709551615 → ⊥)
    → Some (record {
      block = record { 0 = w % 268435456 };
      place = record { 0 = w / 268435456 % 256 };
      state = record { entered = w / 68719476736 % 16; left = w / 1099511627776 };
    }) ≡ walked_in w
unfolding walked_in
unpacked-word w ne = rw (ne_eqb w 18446744073709551615 ne)

-- The steps.

module _ (t : List ℕ) (size level b i o entered : ℕ) (k : KeptAt t size level b i o entered) where
  pub entered-fits : entered ≤ 2 * max_levels
  entered-fits = omega (arith, k.few, k.on.level_in, k.on.facts.bounds.levels_high)

  -- The child's level.
  pub asks-child : (level + 1 ≡ (at.settings t).levels → ⊥)
      → (below : ℕ) → below ≡ b / (at.settings t).arity → (OnLevel t size (level + 1) below) × (i < at.level_count t level)
  asks-child down below b_is = (rw b_is (level-below t size level b k.on down), kept_in t level i k.kept)

module _ (t : List ℕ) (size level b i o : ℕ) (state : WalkState) (k : KeptAt t size level b i o state.entered) where
  -- What is left fits a word.
  pub left-fits : (on : WalkState) → on ≡ onward state (b - o) → on.left ≤ max_text
  unfolding onward
  left-fits on e =
      let l : on.left ≡ min state.left (b - o) = ap (λ (y : WalkState). y.left) e in
      omega (arith, b-small t size level b k.on)

  module _ (down : level + 1 ≡ (at.settings t).levels → ⊥) (below : ℕ) (b_is : below ≡ b / (at.settings t).arity) (on : WalkState)
      (on-is : on ≡ onward state (b - o))
      (x : prelude.Option BlockPosition) (x-is : x ≡ child_at t (level + 1) (at.link t level i + o / below) (o % below)) where
    lower : OnLevel t size (level + 1) below
    lower = (asks-child t size level b i o state.entered k down below b_is).0

    -- The path goes on with the child.
    kept-down : (r : prelude.Option PathEnd)
        → r ≡ walked t on (above_from t ((at.settings t).levels - 1 - (level + 1)) (level + 1) (at.link t level i + o / below) (o % below))
        → r ≡ walked t state (above_from t ((at.settings t).levels - 1 - level) level i o)
    kept-down r e =
        let n = (at.settings t).levels - 1 - (level + 1) in
        let s : (at.settings t).levels - 1 - level ≡ suc n = omega (arith, lower.level_in) in
        rw (s, above_kept t n level i o k.kept, ← lower.b_is)
        (rw (on-is, k.on.b_is) at e ∙ walked-enter t state level i o (above_from t n (level + 1) (at.link t level i + o / below) (o % below)))

    pub child-may : (y : BlockPosition) → x ≡ Some y → MayPoint t size (level + 1) below y.block.0 y.place.0 on.entered
    unfolding onward
    child-may y e =
        let z = child-at t (level + 1) (at.link t level i + o / below) (o % below) x x-is y e in
        let m : o % below < below = mod-lt o (b-pos t size (level + 1) below lower) in
        let n : on.entered ≡ state.entered + 1 = ap (λ (y : WalkState). y.entered) on-is in record {
          on = lower;
          block_in = rw z.1 z.0;
          place-in = rw z.2 m;
          few = omega (arith, k.few);
        }

    pub child-by : (r : prelude.Option PathEnd) (y : BlockPosition) → x ≡ Some y
        → r ≡ walked t on (above_from t ((at.settings t).levels - 1 - (level + 1)) (level + 1) y.block.0 y.place.0)
        → r ≡ walked t state (above_from t ((at.settings t).levels - 1 - level) level i o)
    child-by r y e f =
        let z = child-at t (level + 1) (at.link t level i + o / below) (o % below) x x-is y e in
        kept-down r (rw (z.1, z.2) at f)

    pub child-none : x ≡ None → None ≡ walked t state (above_from t ((at.settings t).levels - 1 - level) level i o)
    unfolding walked
    child-none e =
        let n = (at.settings t).levels - 1 - (level + 1) in
        let j = at.link t level i + o / below in
        let f : None ≡ walked t on (above_from t n (level + 1) j (o % below)) =
        rw (above-past t n (level + 1) j (o % below) (child-off t (level + 1) j (o % below) x x-is e)) in
        kept-down None f

module _ (t : List ℕ) (size level b i o entered : ℕ) (k : MayPoint t size level b i o entered) where
  pub may-enter : entered ≤ 2 * max_levels
  may-enter = omega (arith, k.few, k.on.level_in, k.on.facts.bounds.levels_high)

  module _ (x : BlockKind) (x-is : x ≡ block_kind_at t level i o) (j : BlockNumber) (p : BlockPlace) where
    pub may-keep : x ≡ Kept j p → KeptAt t size level b i o entered
    may-keep e = record {
      on = k.on;
      place-in = k.place-in;
      kept = (next-kept t level i o x x-is j p e).0;
      few = omega (arith, k.few);
    }

    pub may-point : x ≡ Points j p → Pointing t size level b i o
    may-point e = record { on = k.on; place-in = k.place-in; points = (next-points t level i o x x-is j p e).1 }

-- A landing by its parts.
abbrev pub landed : BlockNumber → BlockPlace → WalkState → prelude.Option Landing
landed i o state = Some (record { block = i; place = o; state = state })

-- The kept block for a place of a block above the last level.
same-landing : (j : BlockNumber) (p : BlockPlace) (on : WalkState) (i o : ℕ) (state : WalkState) → j.0 ≡ i → p.0 ≡ o → on ≡ state
    → landed j p on ≡ landed (record { 0 = i }) (record { 0 = o }) state
same-landing j p on i o state e f g = rw (← e, ← f, g)

module _ (t : List ℕ) (size level b i o : ℕ) (state : WalkState) (k : MayPoint t size level b i o state.entered) (x : BlockKind)
    (x-is : x ≡ block_kind_at t level i o) where
  pub landing-off : x ≡ Off → None ≡ landing_at t state level i o
  unfolding landing_at
  landing-off e =
      let z = next-off t level i o x x-is e in
      rw (z.0, z.1)

  pub landing_kept : (j : BlockNumber) (p : BlockPlace)
      → x ≡ Kept j p → landed (record { 0 = i }) (record { 0 = o }) state ≡ landing_at t state level i o
  unfolding landing_at
  landing_kept j p e = rw (next-kept t level i o x x-is j p e).0

  module _ (j : BlockNumber) (p : BlockPlace) (e : x ≡ Points j p) where
    points : pointing_block t level i ≡ true
    points = (next-points t level i o x x-is j p e).1

    apart : is_kept_block t level i ≡ false
    apart = (next-points t level i o x x-is j p e).0

    module _ (y : prelude.Option BlockPosition) (y-is : y ≡ resolved_target t level i o) where
      -- On the last level no block points; nor does a target.
      pub land-breaks : y ≡ None → path_from t ((at.settings t).levels - 1 - level) level i o ≡ none
      land-breaks f = go (lt-or-ge (level + 1) (at.settings t).levels)
        where
          go : (level + 1 < (at.settings t).levels) ⊎ ((at.settings t).levels ≤ level + 1) → path_from t ((at.settings t).levels - 1 - level) level i o ≡ none
          go (inl more) =
              let s : (at.settings t).levels - 1 - level ≡ suc ((at.settings t).levels - 1 - (level + 1)) = omega arith in
              let z : is_kept_block t level (target_block t level i o) ≡ false = rw (lt-ltb _ _ more) at (resolved-off t level i o y y-is f) in
              rw (s, from-no-target t ((at.settings t).levels - 1 - (level + 1)) level i o apart z points)
          go (inr last) =
              let s : (at.settings t).levels - 1 - level ≡ 0 = omega (arith, k.on.level_in) in
              rw (s, from-last-points t level i o apart)

      pub landing-none : level + 1 < (at.settings t).levels → y ≡ None → None ≡ landing_at t state level i o
      unfolding landing_at
      landing-none more f =
          let z : is_kept_block t level (target_block t level i o) ≡ false = rw (lt-ltb _ _ more) at (resolved-off t level i o y y-is f) in
          rw (apart, points, z)

      module _ (on : WalkState) (on-is : on ≡ onward state (b - o)) (m : BlockPosition) (f : y ≡ Some m) where
        pub land-to : KeptAt t size level b m.block.0 m.place.0 on.entered
        unfolding onward
        land-to =
            let z = resolved-at t level i o y y-is m f in
            let small = target_small t level i o points (rw k.on.b_is at k.place-in) in
            let n : on.entered ≡ state.entered + 1 = ap (λ (w : WalkState). w.entered) on-is in record {
              on = k.on;
              place-in = rw (z.3, k.on.b_is) small;
              kept = rw z.2 z.1;
              few = omega (arith, k.few);
            }

        pub landing-target : landed m.block m.place on ≡ landing_at t state level i o
        unfolding landing_at
        landing-target =
            let z = resolved-at t level i o y y-is m f in
            rw (apart, points, z.1) (same-landing m.block m.place on _ _ _ z.2 z.3 (on-is ∙ ap (λ (y : ℕ). onward state (y - o)) k.on.b_is))

-- Where the walk goes on: in the block itself, or in its target.

landed-parts : (j m : BlockNumber) (p q : BlockPlace) (on further : WalkState) → landed j p on ≡ landed m q further → (j ≡ m) × (p ≡ q) × (on ≡ further)
landed-parts j m p q on further e =
    let from : Landing = record { block = j; place = p; state = on } in
    let to : Landing = record { block = m; place = q; state = further } in
    let z : from ≡ to = cc in (ap (λ (x : Landing). x.block) z, ap (λ (x : Landing). x.place) z, ap (λ (x : Landing). x.state) z)

cases-at : (kept both : Bool) (i o m q : ℕ) (state further : WalkState) (j : BlockNumber) (p : BlockPlace) (on : WalkState)
    → landed j p on ≡ cond kept (landed (record { 0 = i }) (record { 0 = o }) state)
    (cond both (landed (record { 0 = m }) (record { 0 = q }) further) None)
    → ((kept ≡ true) × (j ≡ record { 0 = i }) × (p ≡ record { 0 = o }) × (on ≡ state))
    ⊎ ((kept ≡ false) × (both ≡ true) × (j ≡ record { 0 = m }) × (p ≡ record { 0 = q }) × (on ≡ further))
cases-at true both i o m q state further j p on e = let z = landed-parts j _ p _ on _ e in inl (refl, z.0, z.1, z.2)
cases-at false true i o m q state further j p on e = let z = landed-parts j _ p _ on _ e in inr (refl, refl, z.0, z.1, z.2)
cases-at false false i o m q state further j p on e = absurd (let z : ◌≡◌ {A = ℕ} 0 1 = cc in omega arith)

cases-off : (kept both : Bool) (i o m q : ℕ) (state further : WalkState)
    → None ≡ cond kept (landed (record { 0 = i }) (record { 0 = o }) state)
    (cond both (landed (record { 0 = m }) (record { 0 = q }) further) None)
    → (kept ≡ false) × (both ≡ false)
cases-off true both i o m q state further e = absurd (let z : ◌≡◌ {A = ℕ} 0 1 = cc in omega arith)
cases-off false true i o m q state further e = absurd (let z : ◌≡◌ {A = ℕ} 0 1 = cc in omega arith)
cases-off false false i o m q state further e = (refl, refl)

module _ (t : List ℕ) (size level b i o : ℕ) (state : WalkState) (k : MayPoint t size level b i o state.entered) where
  -- On the last level.
  pub last_fits : level + 1 ≡ (at.settings t).levels → at.leaf_offset t < 4294967296 → (i < 268435456) × (o < 256) × (state.entered < 16)
  last_fits last word =
      let f = k.on.facts in
      let R = at.record_size t in
      let inside = byte_inside t f level i R k.on.level_in k.block_in (omega arith) in
      let wide : i * 16 ≤ i * R = mul-le-mul_left i (omega (arith, size_low t f)) in
      let z : (at.settings t).levels - 1 ≡ level = omega arith in
      let leaf : at.full_length t level ≡ (at.settings t).leaf = rw z at (full-last t f) in (
        omega arith,
        omega (arith, k.place-in, k.on.b_is, f.bounds.leaf_high),
        omega (arith, k.few, f.bounds.levels_high),
      )

  pub last-walked : level + 1 ≡ (at.settings t).levels
      → (r : prelude.Option PathEnd) → r ≡ Some (record { block = record { 0 = i }; place = record { 0 = o }; state = state })
      → r ≡ walked t state (above_from t ((at.settings t).levels - 1 - level) level i o)
  unfolding walked left_over
  last-walked last r e =
      let z : (at.settings t).levels - 1 - level ≡ 0 = omega arith in
      let n : state.entered + 0 ≡ state.entered = omega arith in
      e ∙ rw (z, above-last t level i o k.block_in, n)

  module _ (more : level + 1 < (at.settings t).levels) (y : prelude.Option Landing) (y-is : y ≡ landing_at t state level i o) where
    abbrev both : Bool
    both = pointing_block t level i && is_kept_block t level (target_block t level i o)

    steps : (at.settings t).levels - 1 - level ≡ suc ((at.settings t).levels - 1 - (level + 1))
    steps = omega arith

    pub landed-off : y ≡ None → None ≡ walked t state (above_from t ((at.settings t).levels - 1 - level) level i o)
    unfolding walked landing_at
    landed-off e =
        let z = cases-off (is_kept_block t level i) both i o _ _ state _ (sym e ∙ y-is) in
        rw (steps, above-off t ((at.settings t).levels - 1 - (level + 1)) level i o z.0 (λ pt. rw pt at z.1))

    module _ (j : BlockNumber) (p : BlockPlace) (on : WalkState) (e : y ≡ landed j p on) where
      abbrev Cases : Type 0
      Cases = ((is_kept_block t level i ≡ true) × (j ≡ record { 0 = i }) × (p ≡ record { 0 = o }) × (on ≡ state))
          ⊎ ((is_kept_block t level i ≡ false) × (both ≡ true) × (j ≡ record { 0 = target_block t level i o })
          × (p ≡ record { 0 = target_place t level i o }) × (on ≡ onward state (at.full_length t level - o)))

      landed-cases : Cases
      unfolding landing_at
      landed-cases = cases-at (is_kept_block t level i) both i o _ _ state _ j p on (sym e ∙ y-is)

      pub landed-kept : KeptAt t size level b j.0 p.0 on.entered
      unfolding onward
      landed-kept = go landed-cases
        where
          go : Cases → KeptAt t size level b j.0 p.0 on.entered
          go (inl c) = rw (c.1, c.2, c.3) (record { on = k.on; place-in = k.place-in; kept = c.0; few = omega (arith, k.few) })
          go (inr c) =
              let points = and_left (pointing_block t level i) (is_kept_block t level (target_block t level i o)) c.1 in
              let small = target_small t level i o points (rw k.on.b_is at k.place-in) in
              rw (c.2, c.3, c.4) (record {
                on = k.on;
                place-in = rw k.on.b_is small;
                kept = and_right (pointing_block t level i) (is_kept_block t level (target_block t level i o)) c.1;
                few = omega (arith, k.few);
              })

      pub landed-by : (r : prelude.Option PathEnd) → r ≡ walked t on (above_from t ((at.settings t).levels - 1 - level) level j.0 p.0)
          → r ≡ walked t state (above_from t ((at.settings t).levels - 1 - level) level i o)
      landed-by r f = go landed-cases
        where
          go : Cases → r ≡ walked t state (above_from t ((at.settings t).levels - 1 - level) level i o)
          go (inl c) = rw (c.1, c.2, c.3) at f
          go (inr c) =
              let n = (at.settings t).levels - 1 - (level + 1) in
              let points = and_left (pointing_block t level i) (is_kept_block t level (target_block t level i o)) c.1 in
              let kept = and_right (pointing_block t level i) (is_kept_block t level (target_block t level i o)) c.1 in
              let w : r ≡ walked t (onward state (at.full_length t level - o))
              (above_from t (suc n) level (target_block t level i o) (target_place t level i o)) =
              rw (steps, c.2, c.3, c.4) at f in
              rw (steps, above-pointing t n level i o c.0 points kept)
              (w ∙ walked-enter t state level i o (above_from t (suc n) level (target_block t level i o) (target_place t level i o)))

-- The start, on level 0.

module _ (t : List ℕ) (size b p : ℕ) (on : OnLevel t size 0 b) (x : BlockPosition)
    (x-is : x ≡ record { block = record { 0 = p / b }; place = record { 0 = p % b } }) where
  pub top-may : p < at.text_length t → MayPoint t size 0 b x.block.0 x.place.0 0
  top-may low =
      rw x-is (record {
        on = on;
        block_in = first-there t size b p on low;
        place-in = mod-lt p (b-pos t size 0 b on);
        few = omega arith;
      })

  pub top-by : (state : WalkState) (r : prelude.Option PathEnd)
      → r ≡ walked t state (above_from t ((at.settings t).levels - 1 - 0) 0 x.block.0 x.place.0) → r ≡ walked t state (above_of t p)
  unfolding above_of
  top-by state r e =
      let z : (at.settings t).levels - 1 - 0 ≡ (at.settings t).levels - 1 = omega arith in
      rw (z, x-is, on.b_is) at e
