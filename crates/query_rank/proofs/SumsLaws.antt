-- The sums down a path, step by step.
use mathlib.Core.List.{List, [], ◌∷◌}
use mathlib.Core.Option.{Option, none, some}
use mathlib.Core.Bool.{true, false, cond}
use mathlib.Core.Path.{◌≡◌, refl, sym, ap, ◌∙◌}
use mathlib.Core.Logic.{◌⊎◌, inl, inr}
use Prim.Native.Nat.{ℕ, suc, ◌+◌, ◌-◌, ◌*◌, ◌/◌, ◌%◌, ◌≤◌, ◌<◌}
use native.Mathlib.Omega.{arith}
use borrow.Author.Tests.{eq-eqb, ne_eqb, lt-leb, le-leb}
use lib.ListN.{length}
use lib.Dec.{eqb}
use Rattle.text.specs.ListLaws.{lt-or-ge}
use Rattle.text.specs.Text.{substring, count_in}
use Rattle.format.specs.Layout as at
use Rattle.format.specs.Layout.{skip_field, max_levels}
use Rattle.format.specs.TreeReading.{Path, Visit, visit, entered, is_kept_block, pointing_block, target_block, path_from, path_of}
use Rattle.format.specs.Answers.{added_after, added, taken_after, taken, last_place, leaves_reached, Answer, refused}
use Rattle.theory_paths.specs.PlacesResolved.{from_last, from-kept, from-pointing, target_first, target-second}
use Rattle.theory_paths.specs.Visits.{goes}
use Rattle.layout.specs.declared.place.BlockNumber.{BlockNumber}
use Rattle.layout.specs.declared.place.BlockPlace.{BlockPlace}
use Rattle.layout.specs.Record.{FieldIn, field_in}
use Rattle.walk_steps.specs.declared.BlockKind.{BlockKind}
use Rattle.walk_steps.specs.declared.BlockKind.TheVariants.{Kept, Points, Off}
use Rattle.walk_steps.specs.declared.position.BlockPosition.{BlockPosition}
use Rattle.walk_steps.specs.Steps.{OnLevel, block_kind_at, child_at, resolved_target}
use Rattle.walk_path.specs.Walk.{KeptAt, MayPoint, onward as trailed}
use Rattle.walk_path.specs.declared.WalkState.{WalkState}
use Rattle.walk_steps.proofs.NextLaws.{next-points, next-off, child-at, child-off, resolved-at}
use Rattle.walk_steps.proofs.StepLaws.{kept_in}
use Rattle.walk_path.proofs.WalkLaws as walk
use Rattle.walk_path.proofs.WalkLaws.{from-off, from_past, from-no-leaf}
use Rattle.theory_counts.specs.Ranks.{goes-head, added-target, taken-target}
use Rattle.query_rank.specs.declared.sums.Landing.{Landing}
use Rattle.std.proofs.Common.{Option as OptionOf, Some, None}
use Rattle.query_rank.specs.declared.sums.Sum.{Sum}
use Rattle.query_rank.specs.Sums.{sum_of, settled, answer_in, rank_onward, added_rest, summed, start_sum, whole_sum, Carried, Across, settled_from, LandedSum}

-- A field of a block of a level can be read.
pub field-on : (t : List ℕ) (size level b i c f : ℕ)
    → OnLevel t size level b → i < at.level_count t level → c < at.counted_count t → f ≤ skip_field c → FieldIn t size level i f
field-on t size level b i c f k hi hc hf = field_in t k.facts size level i f k.size_is k.level_in hi (omega arith)

-- What is carried.

pub rank-onward-is : (s : Sum) (plus minus : ℕ) → record { entered = s.entered + 1; plus = s.plus + plus; minus = s.minus + minus }
    ≡ rank_onward s plus minus
unfolding rank_onward
rank-onward-is s plus minus = refl

pub carried_on : (t : List ℕ) (c : ℕ) (s r : Sum) (plus minus : ℕ)
    → Carried t c s → r ≡ rank_onward s plus minus → plus < 4294967296 → minus < 4294967296 → Carried t c r
unfolding rank_onward
carried_on t c s r plus minus k e hp hm = rw e (record {
  number_in = k.number_in;
  plus_few = omega (arith, k.plus_few);
  minus_few = omega (arith, k.minus_few);
})

pub carried-small : (t : List ℕ) (c : ℕ) (s : Sum) → Carried t c s → s.entered ≤ 2 * max_levels → (s.plus ≤ 1099511627776) × (s.minus ≤ 1099511627776)
carried-small t c s k few = (omega (arith, k.plus_few), omega (arith, k.minus_few))

pub carried-word : (t : List ℕ) (c : ℕ) (s r : Sum) (plus : ℕ)
    → Carried t c s → s.entered ≤ 2 * max_levels → r ≡ rank_onward s plus 0 → plus < 4294967296 → (r.entered ≤ 2 * max_levels + 1) × (r.plus ≤ 1099511627776)
unfolding rank_onward
carried-word t c s r plus k few e small = rw e (omega arith, omega (arith, k.plus_few))

-- A block entered first is carried on.

same : (e₁ e₂ p₁ p₂ m₁ m₂ : ℕ)
    → e₁ ≡ e₂ → p₁ ≡ p₂ → m₁ ≡ m₂ → Some (sum_of e₁ p₁ m₁) ≡ Some (sum_of e₂ p₂ m₂)
same e₁ e₂ p₁ p₂ m₁ m₂ e p m = rw (e, p, m)

module _ (t : List ℕ) (byte c : ℕ) (s : Sum) where
  sum-path : (u w : Visit) (ws vs : List Visit) (x plus minus : ℕ) → vs ≡ w ∷ ws
      → added_after t c u (w ∷ ws) ≡ plus + added_after t c w ws → taken_after t c u (w ∷ ws) ≡ minus + taken_after t c w ws
      → summed t byte c (rank_onward s plus minus) (some (record { visits = vs; leaf = x })) ≡ summed t byte c s (some (record { visits = u ∷ vs; leaf = x }))
  unfolding summed rank_onward added_rest taken leaves_reached last_place
  sum-path u w ws vs x plus minus e a m = rw e (same _ _ _ _ _ _ (omega arith) (omega (arith, a)) (omega (arith, m)))

  sum-enter : (n l i o : ℕ) (u : Visit) (plus minus : ℕ)
      → ((ws : List Visit) → added_after t c u (visit l i o ∷ ws) ≡ plus + added_after t c (visit l i o) ws)
      → ((ws : List Visit) → taken_after t c u (visit l i o ∷ ws) ≡ minus + taken_after t c (visit l i o) ws)
      → (r : Option Path) → path_from t n l i o ≡ r → summed t byte c (rank_onward s plus minus) r ≡ summed t byte c s (entered (u ∷ []) r)
  unfolding summed
  sum-enter n l i o u plus minus a m none e = refl
  sum-enter n l i o u plus minus a m (some q) e =
      let g = goes-head t (goes t n l i o q e) in
      sum-path u (visit l i o) g.0 q.visits q.leaf plus minus g.1 (a g.0) (m g.0)

  -- To a child.
  added-child : (l i o j p : ℕ) (ws : List Visit)
      → added_after t c (visit l i o) (visit (l + 1) j p ∷ ws) ≡ at.before t (l + 1) j c + added_after t c (visit (l + 1) j p) ws
  unfolding added_after
  added-child l i o j p ws = rw (ne_eqb l (l + 1) (λ e. omega arith))

  taken-child : (l i o j p : ℕ) (ws : List Visit) → taken_after t c (visit l i o) (visit (l + 1) j p ∷ ws) ≡ 0 + taken_after t c (visit (l + 1) j p) ws
  unfolding taken_after
  taken-child l i o j p ws = rw (ne_eqb l (l + 1) (λ e. omega arith))

  pub sum-child : (n l i o j p : ℕ) → summed t byte c (rank_onward s (at.before t (l + 1) j c) 0) (path_from t n (l + 1) j p)
      ≡ summed t byte c s (entered (visit l i o ∷ []) (path_from t n (l + 1) j p))
  sum-child n l i o j p = sum-enter
      n (l + 1) j p (visit l i o) (at.before t (l + 1) j c) 0 (added-child l i o j p) (taken-child l i o j p) (path_from t n (l + 1) j p) refl

  -- To a target.
  pub sum-target : (n l i o j p : ℕ)
      → summed t byte c (rank_onward s (cond (eqb j (at.link t l i)) 0 (at.inside t l (at.link t l i) c)) (at.skip t l i c)) (path_from t n l j p)
      ≡ summed t byte c s (entered (visit l i o ∷ []) (path_from t n l j p))
  sum-target n l i o j p =
      sum-enter n l j p (visit l i o) (cond (eqb j (at.link t l i)) 0 (at.inside t l (at.link t l i) c))
      (at.skip t l i c) (added-target t c l i o j p) (taken-target t c l i o j p) (path_from t n l j p) refl

  -- On the last level.
  pub sum-leaf : (l i o n : ℕ) (r : Sum)
      → is_kept_block t l i ≡ true → at.link t l i + o < at.leaf_count t → n ≡ count_in byte (substring t (at.leaf_offset t + at.link t l i) (o + 1))
      → r ≡ rank_onward s n 0 → Some r ≡ summed t byte c s (path_from t 0 l i o)
  unfolding summed rank_onward added_rest added_after taken taken_after leaves_reached last_place
  sum-leaf l i o n r kept h e f =
      let z : at.link t l i + o - o ≡ at.link t l i = omega arith in
      rw (from_last t l i o kept h, z, f, e) (same _ _ _ _ _ _ (omega arith) (omega arith) (omega arith))

-- What a target adds.

pub across-first : (s r : Sum) (j link at-link inside skip at-skip : ℕ) → j ≡ link → link ≡ at-link → skip ≡ at-skip → r ≡ rank_onward s 0 skip
    → r ≡ rank_onward s (cond (eqb j at-link) 0 inside) at-skip
across-first s r j link at-link inside skip at-skip e l k f = rw (eq-eqb j at-link (e ∙ l), ← k) f

pub across-second : (s r : Sum) (j link at-link inside at-inside skip at-skip : ℕ)
    → (j ≡ link → ⊥) → link ≡ at-link → inside ≡ at-inside → skip ≡ at-skip → r ≡ rank_onward s inside skip
    → r ≡ rank_onward s (cond (eqb j at-link) 0 at-inside) at-skip
across-second s r j link at-link inside at-inside skip at-skip e l i k f = rw (ne_eqb j at-link (λ x. e (x ∙ sym l)), ← k, ← i) f

-- A count's word.

pub rank-broken-word : refused 14 ≡ answer_in 18446744073709551615
unfolding answer_in
rank-broken-word = refl

pub below_word : (s : Sum) → s.plus < s.minus → answer_in 18446744073709551615 ≡ settled (Some s)
unfolding settled
below_word s h = sym rank-broken-word ∙ rw (lt-leb s.minus s.plus h)

pub rank-packed-word : (s : Sum) → s.entered ≤ 2 * max_levels + 1 → s.plus ≤ 1099511627776 → s.minus ≤ s.plus
    → answer_in (s.plus - s.minus + 281474976710656 * s.entered) ≡ settled (Some s)
unfolding answer_in settled
rank-packed-word s few small low =
    let x = s.plus - s.minus in
    let y : x ≤ 1099511627776 = omega arith in
    let w = x + 281474976710656 * s.entered in
    let a : w % 281474976710656 ≡ x = omega arith in
    let b : w / 281474976710656 ≡ s.entered = omega arith in
    rw (ne_eqb w 18446744073709551615 (λ e. omega arith), a, b, le-leb s.minus s.plus low)

refused_none : (t : List ℕ) (byte c : ℕ) (s : Sum) (r : Option Path) → r ≡ none → refused 14 ≡ settled (summed t byte c s r)
unfolding summed settled
refused_none t byte c s r e = rw e

pub settled-none : (t : List ℕ) (byte c : ℕ) (s : Sum) (r : Option Path) → r ≡ none → answer_in 18446744073709551615 ≡ settled (summed t byte c s r)
settled-none t byte c s r e = sym rank-broken-word ∙ refused_none t byte c s r e

-- On the last level, as the code reads it.

pub entered-small : (t : List ℕ) (size level b i o e : ℕ) → KeptAt t size level b i o e → e ≤ 2 * max_levels
entered-small t size level b i o e k = walk.entered-fits t size level b i o e k

pub leaf-fits : (t : List ℕ) (size level b i link o offset count : ℕ)
    → OnLevel t size level b → link ≡ at.link t level i → offset ≡ at.leaf_offset t → count ≡ at.leaf_count t
    → link + o < count → offset + link + (o + 1) ≤ length t
leaf-fits t size level b i link o offset count k e a c s = omega (arith, k.facts.size)

module _ (t : List ℕ) (size byte c level b i o e : ℕ) (s : Sum) (k : KeptAt t size level b i o e) (link : ℕ) (link_is : link ≡ at.link t level i) where
  pub leaf-sum : (offset : ℕ) (r : Sum)
      → offset ≡ at.leaf_offset t → link + o < at.leaf_count t → {n : ℕ} → n ≡ count_in byte (substring t (offset + link) (o + 1)) → r ≡ rank_onward s n 0
      → settled (Some r) ≡ settled (summed t byte c s (path_from t 0 level i o))
  leaf-sum offset r a small {n} e f = ap settled (sum-leaf t byte c s level i o n r k.kept (omega arith) (rw (a, link_is) at e) f)

  pub leaf-none : at.leaf_count t ≤ link + o → answer_in 18446744073709551615 ≡ settled (summed t byte c s (path_from t 0 level i o))
  leaf-none large = settled-none t byte c s _ (from-no-leaf t level i o (omega (arith, link_is)) k.kept)

-- The steps.

entered_on : (s on : Sum) (plus minus : ℕ) → on ≡ rank_onward s plus minus → on.entered ≡ s.entered + 1
unfolding rank_onward
entered_on s on plus minus e = ap (λ (y : Sum). y.entered) e

pub by_last : (t : List ℕ) (size byte c level b i o : ℕ) (s : Sum) (r : Answer) → KeptAt t size level b i o s.entered → level + 1 ≡ (at.settings t).levels
    → r ≡ settled (summed t byte c s (path_from t 0 level i o)) → r ≡ settled_from t level byte c i o s
by_last t size byte c level b i o s r k last e =
    let z : (at.settings t).levels - 1 - level ≡ 0 = omega arith in
    rw z e

-- From a kept block to a child.
module _ (t : List ℕ) (size level b i o : ℕ) (s : Sum) (k : KeptAt t size level b i o s.entered) (more : level + 1 ≡ (at.settings t).levels → ⊥)
    (below : ℕ) (b_is : below ≡ b / (at.settings t).arity) (x : OptionOf BlockPosition)
    (x-is : x ≡ child_at t (level + 1) (at.link t level i + o / below) (o % below)) where
  lower : OnLevel t size (level + 1) below
  lower = (walk.asks-child t size level b i o s.entered k more below b_is).0

  abbrev n : ℕ
  n = (at.settings t).levels - 1 - (level + 1)

  way-child : path_from t ((at.settings t).levels - 1 - level)
      level i o ≡ entered (visit level i o ∷ []) (path_from t n (level + 1) (at.link t level i + o / below) (o % below))
  way-child =
      let z : (at.settings t).levels - 1 - level ≡ suc n = omega (arith, lower.level_in) in
      rw (z, lower.b_is) (from-kept t n level i o k.kept)

  pub by-off : (byte c : ℕ)
      → x ≡ None → answer_in 18446744073709551615 ≡ settled_from t level byte c i o s
  by-off byte c e =
      let j = at.link t level i + o / below in
      settled-none t byte c s _ (way-child ∙ rw (from_past t n (level + 1) j (o % below) (child-off t (level + 1) j (o % below) x x-is e)))

  module _ (c : ℕ) (j : BlockPosition) (e : x ≡ Some j) where
    -- The precondition of reading its count before.
    pub down-asks : Carried t c s
        → (OnLevel t size (level + 1) (at.full_length t (level + 1))) × (j.block.0 < at.level_count t (level + 1)) × (s.entered ≤ 2 * max_levels)
        × (Carried t c s)
    down-asks w =
        let z = child-at t (level + 1) (at.link t level i + o / below) (o % below) x x-is j e in
        (rw (← lower.b_is) lower, rw z.1 z.0, entered-small t size level b i o s.entered k, w)

    module _ (on : Sum) (on-is : on ≡ rank_onward s (at.before t (level + 1) j.block.0 c) 0) where
      pub to-child : Carried t c on → (MayPoint t size (level + 1) below j.block.0 j.place.0 on.entered) × (Carried t c on)
      unfolding trailed
      to-child w =
          let state : WalkState = record { entered = s.entered; left = 0 } in (
            rw (entered_on s on (at.before t (level + 1) j.block.0 c) 0 on-is)
                (walk.child-may t size level b i o state k more below b_is (trailed state (b - o)) refl x x-is j e),
            w,
          )

      pub by-child : (byte : ℕ) (r : Answer) → r ≡ settled (summed t byte c on (path_from t n (level + 1) j.block.0 j.place.0))
          → r ≡ settled_from t level byte c i o s
      by-child byte r f =
          let z = child-at t (level + 1) (at.link t level i + o / below) (o % below) x x-is j e in
          let way : path_from t ((at.settings t).levels - 1 - level) level i o
          ≡ entered (visit level i o ∷ []) (path_from t n (level + 1) j.block.0 j.place.0) =
          rw (z.1, z.2) way-child in
          rw way (rw on-is at f ∙ ap settled (sum-child t byte c s n level i o j.block.0 j.place.0))

-- A target is the block linked to, or the next.
link_low : (t : List ℕ) (level i o : ℕ) → at.link t level i ≤ target_block t level i o
link_low t level i o = go (lt-or-ge (at.gap t level i + o) (at.full_length t level))
  where
    go : (at.gap t level i + o < at.full_length t level) ⊎ (at.full_length t level ≤ at.gap t level i + o) → at.link t level i ≤ target_block t level i o
    go (inl a) = omega (arith, (target_first t level i o a).0)
    go (inr a) = omega (arith, (target-second t level i o a).0)

-- From a block at which a pointer may be followed.
module _ (t : List ℕ) (size level b i o : ℕ) (s : Sum) (k : MayPoint t size level b i o s.entered) (x : BlockKind) (x-is : x ≡ block_kind_at t level i o) where
  pub by-none : (byte c : ℕ) → x ≡ Off → LandedSum t size level b byte c i o s None
  unfolding LandedSum
  by-none byte c e =
      let z = next-off t level i o x x-is e in
      refused_none t byte c s _ (from-off t ((at.settings t).levels - 1 - level) level i o z.0 z.1)

  pub by_itself : (byte c : ℕ) (j : BlockNumber) (p : BlockPlace)
      → x ≡ Kept j p → Carried t c s → LandedSum t size level b byte c i o s (Some (record { block = record { 0 = i }; place = record { 0 = o }; sum = s }))
  unfolding LandedSum
  by_itself byte c j p e w = (walk.may-keep t size level b i o s.entered k x x-is j p e, w, refl)

  module _ (j : BlockNumber) (p : BlockPlace) (e : x ≡ Points j p) (y : OptionOf BlockPosition) (y-is : y ≡ resolved_target t level i o) where
    points : pointing_block t level i ≡ true
    points = (next-points t level i o x x-is j p e).1

    apart : is_kept_block t level i ≡ false
    apart = (next-points t level i o x x-is j p e).0

    abbrev state : WalkState
    state = record { entered = s.entered; left = 0 }

    pub by-no-target : (byte c : ℕ) → y ≡ None → LandedSum t size level b byte c i o s None
    unfolding LandedSum
    by-no-target byte c f = refused_none t byte c s _ (walk.land-breaks t size level b i o state k x x-is j p e y y-is f)

    module _ (m : BlockPosition) (f : y ≡ Some m) where
      target_kept : KeptAt t size level b m.block.0 m.place.0 (s.entered + 1)
      unfolding trailed
      target_kept = walk.land-to t size level b i o state k x x-is j p e y y-is (trailed state (b - o)) refl m f

      pub target-across : Across t size level i m.block.0
      target-across = record {
        on = rw (← k.on.b_is) k.on;
        block_in = k.block_in;
        target_in = kept_in t level m.block.0 target_kept.kept;
        link_low = rw (resolved-at t level i o y y-is m f).2 (link_low t level i o);
      }

      module _ (byte c : ℕ) (on : Sum)
          (on-is : on ≡ rank_onward s (cond (eqb m.block.0 (at.link t level i)) 0 (at.inside t level (at.link t level i) c)) (at.skip t level i c)) where
        same_count : settled_from t level byte c m.block.0 m.place.0 on ≡ settled_from t level byte c i o s
        same_count =
            let z = resolved-at t level i o y y-is m f in
            let n = (at.settings t).levels - 1 - (level + 1) in
            let a : (at.settings t).levels - 1 - level ≡ suc n = omega (arith, z.0) in
            let way : path_from t ((at.settings t).levels - 1 - level)
            level i o ≡ entered (visit level i o ∷ []) (path_from t ((at.settings t).levels - 1 - level) level m.block.0 m.place.0) =
            rw (a, z.2, z.3) (from-pointing t n level i o apart points z.1) in
            rw (way, on-is) (ap settled (sum-target t byte c s ((at.settings t).levels - 1 - level) level i o m.block.0 m.place.0))

        pub by-target : Carried t c on → LandedSum t size level b byte c i o s (Some (record { block = m.block; place = m.place; sum = on }))
        unfolding LandedSum
        by-target w = (
          rw (entered_on s on (cond (eqb m.block.0 (at.link t level i)) 0 (at.inside t level (at.link t level i) c)) (at.skip t level i c) on-is) target_kept,
          w,
          same_count,
        )

-- From where the count goes on.
module _ (t : List ℕ) (size level b byte c i o : ℕ) (s : Sum) (y : OptionOf Landing) (y-is : LandedSum t size level b byte c i o s y) where
  pub landed_none : y ≡ None → answer_in 18446744073709551615 ≡ settled_from t level byte c i o s
  unfolding LandedSum
  landed_none e = sym rank-broken-word ∙ rw e at y-is

  pub landed-on : (l : Landing) → y ≡ Some l → (KeptAt t size level b l.block.0 l.place.0 l.sum.entered)
      × (Carried t c l.sum) × (settled_from t level byte c l.block.0 l.place.0 l.sum ≡ settled_from t level byte c i o s)
  unfolding LandedSum
  landed-on l e = rw e at y-is

-- The whole path.

pub start_is : (t : List ℕ) (c i before : ℕ) → before ≡ at.before t 0 i c → record { entered = 0; plus = before; minus = 0 } ≡ start_sum t c i
unfolding start_sum
start_is t c i before e = rw e

pub start-carried : (t : List ℕ) (c before : ℕ) → c < at.counted_count t → before < 4294967296 → Carried t c (record { entered = 0; plus = before; minus = 0 })
start-carried t c before h s = record { number_in = h; plus_few = omega arith; minus_few = omega arith }

whole : (t : List ℕ) (byte c n i o : ℕ) (r : Option Path) → path_from t n 0 i o ≡ r → summed t byte c (start_sum t c i) r ≡ whole_sum t byte c r
unfolding summed whole_sum start_sum added_rest added
whole t byte c n i o none e = refl
whole t byte c n i o (some q) e =
    let g = goes-head t (goes t n 0 i o q e) in
    rw g.1 (same _ _ _ _ _ _ (omega arith) (omega arith) (omega arith))

module _ (t : List ℕ) (size byte c b p : ℕ) (on : OnLevel t size 0 b) (x : BlockPosition)
    (x-is : x ≡ record { block = record { 0 = p / b }; place = record { 0 = p % b } }) where
  top : path_of t p ≡ path_from t ((at.settings t).levels - 1 - 0) 0 (p / b) (p % b)
  unfolding path_of
  top = let z : (at.settings t).levels - 1 - 0 ≡ (at.settings t).levels - 1 = omega arith in rw (z, on.b_is)

  pub first-may : (s : Sum) → s.entered ≡ 0 → p < at.text_length t → MayPoint t size 0 b x.block.0 x.place.0 s.entered
  first-may s z low = rw z (walk.top-may t size b p on x x-is low)

  pub first_by : (s : Sum) (r : Answer)
      → s ≡ start_sum t c x.block.0 → r ≡ settled (summed t byte c s (path_from t ((at.settings t).levels - 1 - 0) 0 x.block.0 x.place.0))
      → r ≡ settled (whole_sum t byte c (path_of t p))
  first_by s r s-is f =
      let g = rw (s-is, x-is) at f in
      rw top (g ∙ ap settled (whole t
      byte c ((at.settings t).levels - 1 - 0) (p / b) (p % b) (path_from t ((at.settings t).levels - 1 - 0) 0 (p / b) (p % b)) refl))

pub start-entered : (t : List ℕ) (c i : ℕ) (s : Sum) → s ≡ start_sum t c i → s.entered ≡ 0
unfolding start_sum
start-entered t c i s e = ap (λ (y : Sum). y.entered) e
