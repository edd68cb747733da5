-- The pass, place by place.
use mathlib.Core.List.{List}
use mathlib.Core.Path.{◌≡◌, refl, sym, ap, ◌∙◌, subst}
use mathlib.Core.Logic.{◌⊎◌, inl, inr}
use Prim.Native.Nat.{ℕ, ◌+◌, ◌≤◌, ◌<◌}
use native.Mathlib.Omega.{arith}
use lib.ListN.{length}
use Rattle.text.specs.ListLaws.{lt-or-ge}
use Rattle.text.specs.Text.{substring, leftmost}
use Rattle.text.specs.TextLaws.{leftmost-same, leftmost-first}
use Rattle.scan_rolling_hash.specs.declared.Window.{Window}
use Rattle.scan_rolling_hash.specs.Windows.{places_of, WindowAt}
use Rattle.scan_rolling_hash.proofs.WindowLaws.{places-none, places-some, within}
use Rattle.scan_hash_table.specs.declared.Items.{Items}
use Rattle.scan_hash_table.specs.Entries.{Laid, Listed, Found, Searched, WindowLookedUp, start_at, length_at, bytes_at, item_place_in}
use Rattle.scan_hash_table.specs.LookedUp.{Asks}
use Rattle.scan_hash_table.proofs.ItemLaws.{fits}
use Rattle.scan_hash_table.proofs.Chains.{searched-none, searched-then, chained-after, passed-after}
use Rattle.scan_pass.specs.declared.Lengths.{Lengths}
use Rattle.scan_pass.specs.declared.pass.CutWindows.{CutWindows}
use Rattle.scan_pass.specs.Passes.{Ordered, EnteredItems, Covers, Asked, Stepped, SteppedTwice, CutWindowsAt, Passed}
use Rattle.scan_pass.proofs.ItemLengths.{length-low}

-- A window that fits at no further place.
pub window-stays : (seed : ℕ) (T : List ℕ) (n p : ℕ) (w : Window) → WindowAt seed T n p w → w.places ≤ p + 1 → WindowAt seed T n (p + 1) w
window-stays seed T n p w s l = record {
  len_is = s.len_is;
  fits = s.fits;
  few = s.few;
  places_is = s.places_is;
  leaving_is = s.leaving_is;
  fingerprint_is = λ m. absurd (let z : ⊥ = omega arith in z);
  looked_is = omega (arith, s.looked_is);
}

pub of-len : (seed : ℕ) (T : List ℕ) (n p : ℕ) (w : Window) → WindowAt seed T n p w → WindowAt seed T w.len p w
of-len seed T n p w s = subst (λ (k : ℕ). WindowAt seed T k p w) (sym s.len_is) s

pub of-same : (seed : ℕ) (T : List ℕ) (n p : ℕ) (w r : Window) → WindowAt seed T n p w → WindowAt seed T w.len (p + 1) r → WindowAt seed T n (p + 1) r
of-same seed T n p w r s t = subst (λ (k : ℕ). WindowAt seed T k (p + 1) r) s.len_is t

-- A window that was moved fits at as many places.
pub window-moves : (seed : ℕ) (T : List ℕ) (n p : ℕ) (w r : Window)
    → WindowAt seed T n p w → WindowAt seed T n (p + 1) r → p + 1 < w.places → p + 1 < r.places
window-moves seed T n p w r s t l = omega (arith, s.places_is, t.places_is)

-- Both windows of a cut length, opened or moved together.
module _ (seed : ℕ) (T : List ℕ) (n k p : ℕ) (cut : CutWindows) where
  pub cut_opened : (last ending : Window) → cut.last ≡ last → cut.ending ≡ ending → last.places ≤ cut.places → ending.places ≤ cut.places
      → WindowAt seed T n p last → WindowAt seed T k p ending → CutWindowsAt seed T n k p cut
  cut_opened last ending el ee ml me sl se = record {
    last_is = subst (λ (w : Window). WindowAt seed T n p w) (sym el) sl;
    ending_is = subst (λ (w : Window). WindowAt seed T k p w) (sym ee) se;
    last_few = subst (λ (w : Window). w.places ≤ cut.places) (sym el) ml;
    ending_few = subst (λ (w : Window). w.places ≤ cut.places) (sym ee) me;
  }

  module _ (s : CutWindowsAt seed T n k p cut) where
    pub cut-of-len : CutWindowsAt seed T cut.last.len cut.ending.len p cut
    cut-of-len = record {
      last_is = of-len seed T n p cut.last s.last_is;
      ending_is = of-len seed T k p cut.ending s.ending_is;
      last_few = s.last_few;
      ending_few = s.ending_few;
    }

    pub cut-of-same : (r : CutWindows) → CutWindowsAt seed T cut.last.len cut.ending.len (p + 1) r → CutWindowsAt seed T n k (p + 1) r
    cut-of-same r t = record {
      last_is = of-same seed T n p cut.last r.last s.last_is t.last_is;
      ending_is = of-same seed T k p cut.ending r.ending s.ending_is t.ending_is;
      last_few = t.last_few;
      ending_few = t.ending_few;
    }

    pub cut-still : cut.places ≤ p + 1 → CutWindowsAt seed T n k (p + 1) cut
    cut-still l = record {
      last_is = window-stays seed T n p cut.last s.last_is (omega (arith, s.last_few));
      ending_is = window-stays seed T k p cut.ending s.ending_is (omega (arith, s.ending_few));
      last_few = s.last_few;
      ending_few = s.ending_few;
    }

    pub cut_moved : (last ending : Window) → WindowAt seed T n (p + 1) last → WindowAt seed T k (p + 1) ending
        → CutWindowsAt seed T n k (p + 1) (record { last = last; ending = ending; places = cut.places })
    cut_moved last ending sl se = record {
      last_is = sl;
      ending_is = se;
      last_few = omega (arith, s.last_few, s.last_is.places_is, sl.places_is);
      ending_few = omega (arith, s.ending_few, s.ending_is.places_is, se.places_is);
    }

places-most : (size n : ℕ) → n ≤ size → places_of size n ≤ size
places-most size n l = go (lt-or-ge 0 n)
  where
    go : (0 < n) ⊎ (n ≤ 0) → places_of size n ≤ size
    go (inl a) = omega (arith, places-some size n (λ e. omega arith))
    go (inr a) = omega (arith, places-none size n (omega arith))

pub looked-few : (seed : ℕ) (T : List ℕ) (n p : ℕ) (w : Window) → WindowAt seed T n p w → w.looked ≤ length T
looked-few seed T n p w s = omega (arith, s.looked_is, s.places_is, places-most (length T) n s.fits)

-- The window was looked up everywhere.
looked-of : (seed : ℕ) (T : List ℕ) (n m p : ℕ) (w : Window) → n ≡ m → WindowAt seed T n p w → length T ≤ p → w.looked ≡ places_of (length T) m
looked-of seed T n m p w e s l =
    let a : w.looked ≡ places_of (length T) n = omega (arith, s.looked_is, s.places_is, places-most (length T) n s.fits) in
    a ∙ ap (places_of (length T)) e

pub looked-sum : (seed : ℕ) (T : List ℕ) (na nb nc nd ma mb mc md p : ℕ) (a b c d : Window) → na ≡ ma → nb ≡ mb → nc ≡ mc → nd ≡ md
    → WindowAt seed T na p a → WindowAt seed T nb p b → WindowAt seed T nc p c → WindowAt seed T nd p d → length T ≤ p
    → a.looked + b.looked + c.looked + d.looked ≡ places_of (length T) ma + places_of (length T) mb + places_of (length T) mc + places_of (length T) md
looked-sum seed T na nb nc nd ma mb mc md p a b c d ea eb ec ed sa sb sc sd l =
    rw (looked-of seed T na ma p a ea sa l, looked-of seed T nb mb p b eb sb l, looked-of seed T nc mc p c ec sc l, looked-of seed T nd md p d ed sd l)

-- Equal bytes have the same first occurrence.
pub leftmost-same-bytes : (T : List ℕ) (s t n : ℕ) → substring T s n ≡ substring T t n → leftmost T s n ≡ leftmost T t n
leftmost-same-bytes T s t n e = omega (
  arith,
  leftmost-first T s n (leftmost T t n) (leftmost-same T t n ∙ sym e),
  leftmost-first T t n (leftmost T s n) (leftmost-same T s n ∙ e),
)

module _ (T out : List ℕ) (it : Items) where
  pub asked-after : (W Z : List ℕ) → Searched T out it W Z → Asked T out it W → Asked T out it Z
  asked-after W Z s a = record {
    laid = subst (λ (k : ℕ). Laid T out it k) (sym s.same_length) a.laid;
    chained = chained-after T out it W Z s it.items a.laid.heads_low a.chained;
    low = a.low;
  }

  module _ (W : List ℕ) (n p : ℕ) (w : Window) (a : Asked T out it W) (s : WindowAt it.seed T n p w) where
    -- The window does not fit at p: an item of its length was found before.
    pub stepped-past : w.places ≤ p → Stepped T out it W W n p
    stepped-past l = record {
      searched = searched-none T out it W;
      here = λ x xl i en f. passed-after T out it W x p n (omega (
        arith,
        f.near,
        fits T out it a.laid.placed x xl,
        a.low x xl,
        s.places_is,
        places-some (length T) n (λ e. omega (arith, a.low x xl)),
      )) f;
    }

    pub window-asks : p < w.places → Asks T out it W w.fingerprint p n
    window-asks l = record {
      laid = a.laid;
      chained = a.chained;
      fits = within it.seed T n p w s l;
      fingerprint_is = s.fingerprint_is l;
    }

  pub stepped-twice : (W Y Z : List ℕ) (n k p : ℕ) → Stepped T out it W Y n p → Stepped T out it Y Z k p → SteppedTwice T out it W Z n k p
  stepped-twice W Y Z n k p one other = record { between = Y; one = one; other = other }

  -- Neither window of a cut length fits at p.
  pub twice-past : (W : List ℕ) (n k p : ℕ) (cut : CutWindows) → Asked T out it W → CutWindowsAt it.seed T n k p cut → cut.places ≤ p
      → SteppedTwice T out it W W n k p
  twice-past W n k p cut a s l = stepped-twice W W W n k p (stepped-past W n p cut.last a s.last_is (omega (arith, s.last_few)))
      (stepped-past W k p cut.ending a s.ending_is (omega (arith, s.ending_few)))

  pub stepped-look : (W Z : List ℕ) (n p : ℕ) → WindowLookedUp T out it W Z p n → Stepped T out it W Z n p
  stepped-look W Z n p k = record { searched = k.searched; here = k.here }

  -- Items that are in no chain stay in none.
  listed_back : (W Z : List ℕ) → Searched T out it W Z → (x : ℕ) → x < it.items → Listed T out it Z x → Listed T out it W x
  listed_back W Z s x xl i = go (lt-or-ge (item_place_in W x) (length T))
    where
      go : (item_place_in W x < length T) ⊎ (length T ≤ item_place_in W x) → item_place_in W x < length T
      go (inl a) = a
      go (inr u) = absurd (let z : ⊥ = omega (arith, s.others x xl u) in z)

  covers-after : (W Z : List ℕ) (l : Lengths) → Searched T out it W Z → Covers T out it W l → Covers T out it Z l
  covers-after W Z l s v = record {
    one = λ x xl i. v.one x xl (listed_back W Z s x xl i);
    block_in = v.block_in;
    pair_in = v.pair_in;
    last_in = v.last_in;
    ending_in = v.ending_in;
  }

  -- Four windows, one of each length, were looked up at q.
  module _ (l : Lengths) (q na nb nc nd : ℕ) (Z Z₁ Z₂ Z₃ Z₄ : List ℕ) (s₁ : Stepped T out it Z Z₁ na q) (s₂ : Stepped T out it Z₁ Z₂ nb q)
      (s₃ : Stepped T out it Z₂ Z₃ nc q) (s₄ : Stepped T out it Z₃ Z₄ nd q) where
    t₂ : Searched T out it Z Z₂
    t₂ = searched-then T out it Z Z₁ Z₂ s₁.searched s₂.searched

    t₃ : Searched T out it Z Z₃
    t₃ = searched-then T out it Z Z₂ Z₃ t₂ s₃.searched

    pub searched-four : Searched T out it Z Z₄
    searched-four = searched-then T out it Z Z₃ Z₄ t₃ s₄.searched

    module _ (ea : na ≡ l.block) (eb : nb ≡ l.pair) (ec : nc ≡ l.last) (ed : nd ≡ l.ending) (v : Covers T out it Z l)
        (x : ℕ) (xl : x < it.items) (j : Listed T out it Z x) (f : Found T out it Z x q) where
      by-a : length_at T out it x ≡ l.block → Found T out it Z₄ x (q + 1)
      by-a en =
          let g = s₁.here x xl j (en ∙ sym ea) f in
          let j₁ = s₁.searched.listed x xl j in
          (searched-then T out it Z₁ Z₂ Z₄ s₂.searched (searched-then T out it Z₂ Z₃ Z₄ s₃.searched s₄.searched)).found x (q + 1) xl j₁ g

      by-b : length_at T out it x ≡ l.pair → Found T out it Z₄ x (q + 1)
      by-b en =
          let j₁ = s₁.searched.listed x xl j in
          let g = s₂.here x xl j₁ (en ∙ sym eb) (s₁.searched.found x q xl j f) in
          (searched-then T out it Z₂ Z₃ Z₄ s₃.searched s₄.searched).found x (q + 1) xl (t₂.listed x xl j) g

      by-c : length_at T out it x ≡ l.last → Found T out it Z₄ x (q + 1)
      by-c en =
          let g = s₃.here x xl (t₂.listed x xl j) (en ∙ sym ec) (t₂.found x q xl j f) in
          s₄.searched.found x (q + 1) xl (t₃.listed x xl j) g

      by-d : length_at T out it x ≡ l.ending → Found T out it Z₄ x (q + 1)
      by-d en = s₄.here x xl (t₃.listed x xl j) (en ∙ sym ed) (t₃.found x q xl j f)

      by_length : (length_at T out it x ≡ l.block)
          ⊎ ((length_at T out it x ≡ l.pair) ⊎ ((length_at T out it x ≡ l.last) ⊎ (length_at T out it x ≡ l.ending))) → Found T out it Z₄ x (q + 1)
      by_length (inl en) = by-a en
      by_length (inr (inl en)) = by-b en
      by_length (inr (inr (inl en))) = by-c en
      by_length (inr (inr (inr en))) = by-d en

      found-four : Found T out it Z₄ x (q + 1)
      found-four = by_length (v.one x xl j)

  -- The windows are at p, and were looked up there and at every place before.
  pub record Passing (na nb nc nd : ℕ) (W Z : List ℕ) (p : ℕ) (a b c d : Window) : Type 0 where
    pub within : p ≤ length T
    pub asked : Asked T out it Z
    pub searched : Searched T out it W Z
    pub found : (x : ℕ) → x < it.items → Listed T out it W x → Found T out it Z x (p + 1)
    pub a_is : WindowAt it.seed T na p a
    pub b_is : WindowAt it.seed T nb p b
    pub c_is : WindowAt it.seed T nc p c
    pub d_is : WindowAt it.seed T nd p d

  module _ (l : Lengths) (U : List ℕ) (e : EnteredItems T out it U it.items) (o : Ordered T out it) (v : Covers T out it U l) where
    pub first-asked : Asked T out it U
    first-asked = record { laid = e.laid; chained = e.chained; low = length-low T out it o e.laid.placed }

    first_found : (x : ℕ) → x < it.items → Listed T out it U x → Found T out it U x 0
    unfolding bytes_at
    first_found x xl i = record {
      near = omega (arith, e.own x xl i);
      same = ap (λ (k : ℕ). substring T k (length_at T out it x)) (e.own x xl i);
      absent = λ r m. absurd (let z : ⊥ = omega arith in z);
    }

    module _ (W₁ W₂ W₃ W : List ℕ) (f₁ : Stepped T out it U W₁ l.block 0) (f₂ : Stepped T out it W₁ W₂ l.pair 0)
        (f₃ : Stepped T out it W₂ W₃ l.last 0) (f₄ : Stepped T out it W₃ W l.ending 0) where
      pub begun : Searched T out it U W
      begun = searched-four l 0 l.block l.pair l.last l.ending U W₁ W₂ W₃ W f₁ f₂ f₃ f₄

      pub passing-first : (a b c d : Window) → WindowAt it.seed T l.block 0 a → WindowAt it.seed T l.pair 0 b
          → WindowAt it.seed T l.last 0 c → WindowAt it.seed T l.ending 0 d → Passing a.len b.len c.len d.len W W 0 a b c d
      passing-first a b c d sa sb sc sd = record {
        within = omega arith;
        asked = asked-after U W begun first-asked;
        searched = searched-none T out it W;
        found = λ x xl i.
            let j = listed_back U W begun x xl i in
            found-four l 0 l.block l.pair l.last l.ending U W₁ W₂ W₃ W f₁ f₂ f₃ f₄ refl refl refl refl v x xl j (first_found x xl j);
        a_is = of-len it.seed T l.block 0 a sa;
        b_is = of-len it.seed T l.pair 0 b sb;
        c_is = of-len it.seed T l.last 0 c sc;
        d_is = of-len it.seed T l.ending 0 d sd;
      }

      module _ (na nb nc nd : ℕ) (ea : na ≡ l.block) (eb : nb ≡ l.pair) (ec : nc ≡ l.last) (ed : nd ≡ l.ending) where
        module _ (Z : List ℕ) (p : ℕ) (a b c d : Window) (q : Passing na nb nc nd W Z p a b c d) (more : p < length T) (Z₁ Z₂ Z₃ Z₄ : List ℕ)
            (a' b' c' d' : Window) (s₁ : Stepped T out it Z Z₁ a.len (p + 1)) (s₂ : Stepped T out it Z₁ Z₂ b.len (p + 1))
            (s₃ : Stepped T out it Z₂ Z₃ c.len (p + 1)) (s₄ : Stepped T out it Z₃ Z₄ d.len (p + 1))
            (sa : WindowAt it.seed T a.len (p + 1) a') (sb : WindowAt it.seed T b.len (p + 1) b')
            (sc : WindowAt it.seed T c.len (p + 1) c') (sd : WindowAt it.seed T d.len (p + 1) d') where
          onward : Searched T out it Z Z₄
          onward = searched-four l (p + 1) a.len b.len c.len d.len Z Z₁ Z₂ Z₃ Z₄ s₁ s₂ s₃ s₄

          covered : Covers T out it Z l
          covered = covers-after U Z l (searched-then T out it U W Z begun q.searched) v

          pub passing-next : Passing na nb nc nd W Z₄ (p + 1) a' b' c' d'
          passing-next = record {
            within = omega arith;
            asked = asked-after Z Z₄ onward q.asked;
            searched = searched-then T out it W Z Z₄ q.searched onward;
            found = λ x xl i. found-four l (p + 1) a.len b.len c.len d.len Z Z₁ Z₂ Z₃ Z₄ s₁ s₂ s₃ s₄
                (q.a_is.len_is ∙ ea) (q.b_is.len_is ∙ eb) (q.c_is.len_is ∙ ec) (q.d_is.len_is ∙ ed)
                covered x xl (q.searched.listed x xl i) (q.found x xl i);
            a_is = of-same it.seed T na p a a' q.a_is sa;
            b_is = of-same it.seed T nb p b b' q.b_is sb;
            c_is = of-same it.seed T nc p c c' q.c_is sc;
            d_is = of-same it.seed T nd p d d' q.d_is sd;
          }

        -- The pass is over.
        pub passing-over : (Z : List ℕ) (p : ℕ) (a b c d : Window) → Passing na nb nc nd W Z p a b c d → length T ≤ p → Passed T out it U Z
        unfolding bytes_at
        passing-over Z p a b c d q over = record {
          searched = searched-then T out it U W Z begun q.searched;
          found = λ x xl i.
              let f = q.found x xl (begun.listed x xl i) in
              let s = start_at T out it x in
              let n = length_at T out it x in
              go (item_place_in Z x) s n f.same (λ r m e. f.absent r (omega (arith, f.near, e.0, q.asked.laid.placed.within x xl)) e.0 e.1)
              (lt-or-ge (leftmost T s n) (item_place_in Z x));
        }
          where
            go : (place s n : ℕ) → substring T place n ≡ substring T s n → ((r : ℕ) → (r ≡ r) → (r < place) × (substring T r n ≡ substring T s n) → ⊥)
                → (leftmost T s n < place) ⊎ (place ≤ leftmost T s n) → place ≡ leftmost T s n
            go place s n same none (inl a) = absurd (none (leftmost T s n) refl (a, leftmost-same T s n))
            go place s n same none (inr a) = omega (arith, leftmost-first T s n place same)
