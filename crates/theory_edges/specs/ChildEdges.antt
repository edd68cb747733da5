-- A full kept block above the last level has the edges of its first and last child.
use Rattle.std.specs.Prelude.{List, Bool, true, ◌&&◌, ◌≡◌, ℕ, ◌+◌, ◌-◌, ◌*◌, ◌/◌, ◌%◌, ◌≤◌, ◌<◌, length, get_or, ltb, eqb}
use Rattle.std.proofs.Math.Path.{sym}
use Rattle.std.proofs.Common.{ap, ◌∙◌, add-zero, add-mul, mul_comm, mul-le-mul_right, ltb-true, eqb-true}
use native.Mathlib.Omega.{arith}
use Rattle.std.proofs.Math.Arith.{digits_div, digits_mod}
use Rattle.text.specs.Text.{same_list, substring}
use Rattle.text.specs.ListLaws.{and_left, and_right, and_both, same_list-true, eq-same_list}
use Rattle.text.specs.TextLaws.{substring-ext, substring-at}
use Rattle.format.specs.Layout as at
use Rattle.format.specs.LayoutLaws.{Readable, full-pos, full-step, full-last, full-falls, edges-inside, leaf-start-inside}
use Rattle.theory_paths.specs.Links.{H, N, b, s, len, Linked}
use Rattle.theory_paths.specs.BlockStarts.{len-small, len-end, start-below, child}
use Rattle.theory_edges.specs.EdgesMatchTree.{Edged}
use Rattle.theory_edges.specs.EdgesLocal.{child_edges, has_full_children}

-- The fact that the test decides.
pub record Full (t : List ℕ) (l i : ℕ) : Type 0 where
  pub above : l + 1 < H t
  pub kept : at.is_kept t l i ≡ true
  pub whole : len t l i ≡ b t l

pub full-facts : (t : List ℕ) (l i : ℕ) → has_full_children t l i ≡ true → Full t l i
unfolding has_full_children
full-facts t l i h =
    let up : Bool = ltb (l + 1) (H t) in
    let kind : Bool = at.is_kept t l i in
    let size : Bool = eqb (len t l i) (b t l) in
    let rest = and_left (up && kind) size h in
    record {
      above = ltb-true _ _ (and_left up kind rest);
      kept = and_right up kind rest;
      whole = eqb-true (len t l i) (b t l) (and_right (up && kind) size h);
    }

-- The children of such a block.
module _ (t : List ℕ) (k : Readable t) (d : Linked t) (l i : ℕ) (hi : i < N t l) (f : Full t l i) where
  abbrev pub m : ℕ
  m = (at.settings t).leaf

  abbrev pub c : ℕ
  c = b t (l + 1)

  abbrev pub r : ℕ
  r = (at.settings t).arity

  abbrev pub first : ℕ
  first = at.link t l i

  small : m ≤ c
  small = rw (full-last t k) at (full-falls t k (l + 1) (H t - 1) (omega (arith, f.above)))

  level_in : l < H t
  level_in = omega (arith, f.above)

  -- child number y is full
  pub record Part (y : ℕ) : Type 0 where
    pub block_in : first + y < N t (l + 1)
    pub start_is : s t (l + 1) (first + y) ≡ s t l i + y * c
    pub whole : len t (l + 1) (first + y) ≡ c

  ends : (y : ℕ) → y < r → s t l i + y * c + c ≤ at.text_length t
  ends y hy =
      let most : (y + 1) * c ≤ r * c = mul-le-mul_right c (omega arith) in
      omega (arith, add-mul y 1 c, mul_comm r c, full-step t k l f.above, f.whole, len-end t l i (omega (arith, start-below t k d l i level_in hi)))

  within : (y : ℕ) → y < r → y * c + 0 < len t l i
  within y hy =
      let most : (y + 1) * c ≤ r * c = mul-le-mul_right c (omega arith) in
      omega (arith, add-mul y 1 c, mul_comm r c, full-step t k l f.above, f.whole, full-pos t k (l + 1))

  full-length : (j : ℕ) → s t (l + 1) j + c ≤ at.text_length t → len t (l + 1) j ≡ c
  unfolding at.block_length_at
  full-length j h = omega arith

  pub part : (y : ℕ) → y < r → Part y
  part y hy =
      let w = child t k d l i (y * c + 0) f.above hi f.kept (within y hy) in
      let pos = full-pos t k (l + 1) in
      let number : (y * c + 0) / c ≡ y = digits_div y pos in
      let place : (y * c + 0) % c ≡ 0 = digits_mod y pos in
      let start : s t (l + 1) (first + y) ≡ s t l i + y * c = omega (arith, rw (number, place) at w.same_place) in
      record {
        block_in = rw number at w.below;
        start_is = start;
        whole = full-length (first + y) (omega (arith, start, ends y hy));
      }

  pub last-low : r - 1 < r
  last-low = omega (arith, k.bounds.arity_low)

  pub last_in : first + (r - 1) < N t (l + 1)
  last_in = (part (r - 1) last-low).block_in

  -- The edges of the first and last child, if those of the level below are right.
  module _ (T : List ℕ) (two : at.layout t ≡ 2) (deep : (j : ℕ) → j < N t (l + 1) → Edged T t (l + 1) j) where
    abbrev first_edge : ℕ
    first_edge = at.edges_at t (l + 1) (first + 0)

    abbrev last_edge : ℕ
    last_edge = at.edges_at t (l + 1) (first + (r - 1))

    -- The edges of the two children are bytes of the block.
    first_byte : (y : ℕ) → y < m → get_or t (first_edge + y) 0 ≡ get_or T (s t l i + y) 0
    first_byte y hy =
        let p = part 0 (omega (arith, k.bounds.arity_low)) in
        let e : s t (l + 1) (first + 0) + y ≡ s t l i + y = omega (arith, p.start_is) in
        (deep (first + 0) p.block_in).first y hy (omega (arith, p.whole, small)) ∙ ap (λ (x : ℕ). get_or T x 0) e

    last_byte : (y : ℕ) → y < m → get_or t (last_edge + (m + y)) 0 ≡ get_or T (s t l i + (len t l i - m) + y) 0
    last_byte y hy =
        let p = part (r - 1) last-low in
        let all : (r - 1) * c + 1 * c ≡ r * c = sym (add-mul (r - 1) 1 c) ∙ ap (λ (x : ℕ). x * c) (let e : r - 1 + 1 ≡ r = omega (arith, last-low) in e) in
        let e : s t (l + 1) (first + (r - 1)) + (len t (l + 1) (first + (r - 1)) - m) + y ≡ s t l i + (len t l i - m) + y =
        omega (arith, p.start_is, p.whole, f.whole, full-step t k l f.above, mul_comm r c, all, small) in
        (deep (first + (r - 1)) p.block_in).last y hy (omega (arith, p.whole, small)) ∙ ap (λ (x : ℕ). get_or T x 0) e

    abbrev first_test : Bool
    first_test = same_list (substring t (at.edges_at t l i) m) (substring t (at.edges_at t (l + 1) first) m)

    abbrev last_test : Bool
    last_test = same_list (substring t (at.edges_at t l i + m) m) (substring t (last_edge + m) m)

    room : (j x : ℕ) → j < H t → x < N t j → at.edges_at t j x + (m + m) ≤ length t
    room j x hj hx = omega (arith, edges-inside t k j x two hj hx, leaf-start-inside t k)

    pub child-edged : child_edges t l i ≡ true → Edged T t l i
    unfolding child_edges
    child-edged h =
        let one : substring t (at.edges_at t l i) m ≡ substring t first_edge m = rw (add-zero first) (same_list-true _ _ (and_left first_test last_test h)) in
        let end : substring t (at.edges_at t l i + m) m ≡ substring t (last_edge + m) m = same_list-true _ _ (and_right first_test last_test h) in
        let long : m ≤ len t l i = omega (arith, f.whole, full-falls t k l (l + 1) (omega arith), small) in
        record {
          first = λ y hm hx. substring-at t t _ _ m one y hm ∙ first_byte y hm;
          first_zero = λ y hm hx. absurd (let z : ⊥ = omega arith in z);
          last = λ y hm hx.
              (let here : at.edges_at t l i + (m + y) ≡ at.edges_at t l i + m + y = omega arith in
              let there : last_edge + m + y ≡ last_edge + (m + y) = omega arith in
              rw here (substring-at t t _ _ m end y hm ∙ rw there (last_byte y hm)));
          last_zero = λ y hm hx. absurd (let z : ⊥ = omega arith in z);
        }

    pub edged-child : Edged T t l i → child_edges t l i ≡ true
    unfolding child_edges
    edged-child e =
        let long : m ≤ len t l i = omega (arith, f.whole, full-falls t k l (l + 1) (omega arith), small) in
        let p = part 0 (omega (arith, k.bounds.arity_low)) in
        let q = part (r - 1) last-low in
        let one : substring t (at.edges_at t l i) m ≡ substring t first_edge m =
        substring-ext t t _ _ m (omega (arith, room l i level_in hi)) (omega (arith, room (l + 1) (first + 0) f.above p.block_in))
        (λ y hy. e.first y hy (omega arith) ∙ sym (first_byte y hy)) in
        let end : substring t (at.edges_at t l i + m) m ≡ substring t (last_edge + m) m =
        substring-ext t t _ _ m (omega (arith, room l i level_in hi)) (omega (arith, room (l + 1) (first + (r - 1)) f.above q.block_in))
        (λ y hy.
        let here : at.edges_at t l i + m + y ≡ at.edges_at t l i + (m + y) = omega arith in
        let there : last_edge + m + y ≡ last_edge + (m + y) = omega arith in
        rw (here, there) (e.last y hy (omega arith) ∙ sym (last_byte y hy))) in
        and_both (eq-same_list _ _ (rw (add-zero first) at one)) (eq-same_list _ _ end)
