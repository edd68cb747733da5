-- A pass over the text: the places found so far, and the result at the end.
use Rattle.std.specs.Prelude.{Some, None}
use mathlib.Core.List.{List, [], ◌∷◌, ◌++◌, append-nil}
use mathlib.Core.Bool.{Bool, true, false, cond}
use mathlib.Core.Path.{◌≡◌, sym, ap, ◌∙◌}
use mathlib.Core.Logic.{◌⊎◌, inl, inr}
use Prim.Native.Nat.{ℕ, zero, suc, ◌+◌, ◌-◌, ◌≤◌, ◌<◌}
use native.Mathlib.Omega.{arith}
use native.Mathlib.Nat.{add_assoc, sub-zero}
use borrow.Author.Tests.{eqb-true, eq-eqb, lt-ltb, le-ltb}
use lib.ListN.{length, get_or, drop, set, length-append, length-drop, length-take}
use lib.Seq.{ext_get_or}
use lib.Dec.{eqb, ltb}
use Rattle.text.specs.ListLaws.{lt-or-ge, bool_cases, bool_clash, ne-same_list, eq-same_list}
use Rattle.text.specs.Text.{substring}
use Rattle.text.specs.TextLaws.{length-substring, get_or-substring}
use Rattle.format.specs.Layout as at
use Rattle.format.specs.TreeReading.{text_of}
use Rattle.format.specs.Answers.{byte_answer, paths_hold}
use Rattle.theory_paths.specs.OneText.{text-length}
use Rattle.layout.specs.declared.header.Header.{Header}
use Rattle.layout.specs.HeaderFields.{HeaderOf}
use Rattle.query_access.specs.ReadByRuns.{ReadsOn}
use Rattle.query_access.proofs.RunLaws.{reads-rest}
use Rattle.search_kmp.specs.Borders.{Ends, Longest}
use Rattle.query_places.specs.declared.pattern_seek.Progress.{Progress}
use Rattle.query_places.specs.Places.{occurs_at, places_below, places_in, places_of}
use Rattle.query_places.specs.TableFilled.{Even, Stepped, filled, so_far, Seeking, SeekAnswer}
use Rattle.query_places.proofs.FillLaws.{filled_none, filled-length, filled_more, filled-full}

-- Where the pattern occurs.

module _ (P T : List ℕ) (i k : ℕ) (l : Longest P (λ p. get_or T p 0) 0 i k) (in_text : i ≤ length T) where
  -- The last bytes read are the whole pattern.
  occurs-full : k ≡ length P → occurs_at P T (i - length P) ≡ true
  unfolding occurs_at
  occurs-full e =
      let room : length P ≤ i = omega (arith, l.ends.room) in
      let long : length (substring T (i - length P) (length P)) ≡ length P = length-substring T (i - length P) (length P) (omega arith) in
      eq-same_list (substring T (i - length P) (length P)) P (ext_get_or 0 (substring T (i - length P) (length P)) P long (λ x h.
      let low : x < length P = omega arith in
      let same : get_or T (i - length P + x) 0 ≡ get_or P x 0 = rw e at (l.ends.same x (omega arith)) in
      get_or-substring T (i - length P) (length P) x low ∙ same))

  -- If the state is not the whole pattern, the pattern does not end here.
  occurs-not : (k ≡ length P → ⊥) → length P ≤ i → occurs_at P T (i - length P) ≡ false
  unfolding occurs_at
  occurs-not other room = ne-same_list (substring T (i - length P) (length P)) P (λ e. other (omega (arith, l.ends.short, l.most (length P) (match e))))
    where
      match : substring T (i - length P) (length P) ≡ P → Ends P (λ p. get_or T p 0) 0 i (length P)
      match e = record {
        short = omega arith;
        room = omega arith;
        same = λ x h. sym (get_or-substring T (i - length P) (length P) x h) ∙ ap (λ (s : List ℕ). get_or s x 0) e;
      }

-- After the last place where the pattern fits, it does not occur.
occurs-past : (P T : List ℕ) (p : ℕ) → 1 ≤ length P → length T < p + length P → occurs_at P T p ≡ false
unfolding occurs_at substring
occurs-past P T p pos past =
    ne-same_list (substring T p (length P)) P (λ e. omega (arith, ap length e, length-take (length P) (drop p T), length-drop p T))

-- Numbers below others.

below_true : (x : ℕ) (f : ℕ → Bool) → f x ≡ true → places_below (suc x) f ≡ places_below x f ++ x ∷ []
unfolding places_below
below_true x f e = rw e

below_false : (x : ℕ) (f : ℕ → Bool) → f x ≡ false → places_below (suc x) f ≡ places_below x f
unfolding places_below
below_false x f e = rw e (append-nil (places_below x f))

below-same : (f : ℕ → Bool) (k n : ℕ) → k ≤ n → ((x : ℕ) → k ≤ x → x < n → f x ≡ false) → places_below n f ≡ places_below k f
below-same f k zero h none = let e : k ≡ 0 = omega arith in rw e
below-same f k (suc n) h none = go (lt-or-ge n k) (below-same f k n)
  where
    go : (n < k) ⊎ (k ≤ n) → (k ≤ n → ((x : ℕ) → k ≤ x → x < n → f x ≡ false) → places_below n f ≡ places_below k f) → places_below (suc n) f ≡ places_below k f
    go (inl l) rest = let e : k ≡ suc n = omega arith in rw e
    go (inr l) rest = below_false n f (none n l (omega arith)) ∙ rest l (λ x a b. none x a (omega arith))

pub below-few : (n : ℕ) (f : ℕ → Bool) → length (places_below n f) ≤ n
unfolding places_below
below-few zero f = omega arith
below-few (suc n) f = go (f n) (below-few n f)
  where
    go : (b : Bool) → length (places_below n f) ≤ n → length (places_below n f ++ cond b (n ∷ []) []) ≤ suc n
    go true h = omega (arith, length-append (places_below n f) (n ∷ []))
    go false h = omega (arith, length-append (places_below n f) [])

module _ (t P : List ℕ) where
  abbrev T : List ℕ
  T = text_of t

  -- Nothing was read.
  so-far-start : 1 ≤ length P → so_far t P 0 ≡ []
  unfolding so_far places_below
  so-far-start some_byte = let e : 0 + 1 - length P ≡ 0 = omega arith in rw e

  so-far-few : 1 ≤ length P → (i : ℕ) → length (so_far t P i) ≤ i
  unfolding so_far
  so-far-few some_byte i = omega (arith, below-few (i + 1 - length P) (occurs_at P T))

  -- One byte more.
  module _ (i k : ℕ) (l : Longest P (λ p. get_or T p 0) 0 (i + 1) k) (in_text : i + 1 ≤ length T) where
    so-far-full : k ≡ length P → so_far t P (i + 1) ≡ so_far t P i ++ (i + 1 - length P) ∷ []
    unfolding so_far
    so-far-full e =
        let s : i + 1 + 1 - length P ≡ suc (i + 1 - length P) = omega (arith, l.ends.room) in
        rw s (below_true (i + 1 - length P) (occurs_at P T) (occurs-full P T (i + 1) k l in_text e))

    so-far-other : (k ≡ length P → ⊥) → so_far t P (i + 1) ≡ so_far t P i
    unfolding so_far
    so-far-other other = go (lt-or-ge (i + 1) (length P))
      where
        go : (i + 1 < length P) ⊎ (length P ≤ i + 1) → places_below (i + 1 + 1 - length P) (occurs_at P T) ≡ places_below (i + 1 - length P) (occurs_at P T)
        go (inl h) =
            let a : i + 1 + 1 - length P ≡ 0 = omega arith in
            let b : i + 1 - length P ≡ 0 = omega arith in
            rw (a, b)
        go (inr h) =
            let s : i + 1 + 1 - length P ≡ suc (i + 1 - length P) = omega arith in
            rw s (below_false (i + 1 - length P) (occurs_at P T) (occurs-not P T (i + 1) k l in_text other h))

  -- All was read.
  pub so-far-end : 1 ≤ length P → (i : ℕ) → i ≡ length T → so_far t P i ≡ places_of t P
  unfolding so_far places_of places_in
  so-far-end some_byte i e =
      rw e (sym (below-same (occurs_at P T) (length T + 1 - length P) (length T) (omega arith) (λ x a b. occurs-past P T x some_byte (omega arith))))

  -- The pass.

  module _ (room : ℕ) (before : List ℕ) where
    pub seeking-start : 1 ≤ length P → room ≤ length before → (m : Progress) → m.place.0 ≡ 0 → m.state ≡ 0 → m.found ≡ 0 → Seeking t P room before m before
    seeking-start some_byte fits m a b c = record {
      in_text = omega arith;
      fits = fits;
      longest = rw (a, b) (record {
        ends = record { short = omega arith; room = omega arith; same = λ x h. absurd (let y : ⊥ = omega arith in y) };
        most = λ j e. omega (arith, e.room);
      });
      found-is = rw (a, c, so-far-start some_byte);
      table_is = rw (a, so-far-start some_byte) (filled_none room before);
    }

    module _ (m : Progress) (table : List ℕ) (s : Seeking t P room before m table) where
      -- The figures stay within what was read.
      pub seeking-even : 1 ≤ length P → Even P m
      seeking-even some_byte = record {
        short = s.longest.ends.short;
        state_low = omega (arith, s.longest.ends.room);
        found_low = omega (arith, s.found-is, so-far-few some_byte m.place.0);
      }

      pub seeking-length : length table ≡ length before
      seeking-length = ap length s.table_is ∙ filled-length (so_far t P m.place.0) room before s.fits

      -- One byte more.
      seeking-step : (r : Progress) (after : List ℕ) (byte : ℕ) → Stepped P byte room m table r after
          → byte ≡ get_or T m.place.0 0 → m.place.0 < length T → Seeking t P room before r after
      seeking-step r after byte e is low = go (bool_cases (eqb r.state (length P)))
        where
          i : ℕ
          i = m.place.0

          on : Longest P (λ p. get_or T p 0) 0 (i + 1) r.state
          on = e.next.next (λ p. get_or T p 0) 0 i s.longest (sym is)

          in_text : r.place.0 ≤ at.text_length t
          in_text = omega (arith, e.place_is, text-length t)

          go : (eqb r.state (length P) ≡ true) ⊎ (eqb r.state (length P) ≡ false) → Seeking t P room before r after
          go (inl y) =
              let more = so-far-full i r.state on (omega arith) (eqb-true r.state (length P) y) in
              let n : length (so_far t P (i + 1)) ≡ length (so_far t P i) + 1 =
              omega (arith, ap length more, length-append (so_far t P i) ((i + 1 - length P) ∷ [])) in record {
                in_text = in_text;
                fits = s.fits;
                longest = rw e.place_is on;
                found-is = e.found-is ∙ rw (y, e.place_is) (omega (arith, s.found-is));
                table_is = e.table_is ∙ rw (y, e.place_is, more) (put (lt-or-ge m.found room));
              }
            where
              put : (m.found < room) ⊎ (room ≤ m.found)
                  → cond (ltb m.found room)
                  (set table m.found (m.place.0 + 1 - length P)) table ≡ filled (so_far t P i ++ (i + 1 - length P) ∷ []) room before
              put (inl h) = rw (lt-ltb m.found room h, s.table_is, s.found-is)
                  (filled_more (so_far t P i) room before s.fits (i + 1 - length P) (omega (arith, s.found-is)))
              put (inr h) = rw (le-ltb m.found room h)
                  (s.table_is ∙ sym (filled-full (so_far t P i) room before s.fits (i + 1 - length P) (omega (arith, s.found-is))))
          go (inr y) =
              let same = so-far-other i r.state on (omega arith) (λ z. bool_clash _ (eq-eqb r.state (length P) z) y) in record {
                in_text = in_text;
                fits = s.fits;
                longest = rw e.place_is on;
                found-is = e.found-is ∙ rw (y, e.place_is, same) s.found-is;
                table_is = e.table_is ∙ rw (y, e.place_is, same) s.table_is;
              }

      -- The next byte of a part that is read.
      pub seeking-byte : (m₀ : Progress) (from size j byte : ℕ) (r : Progress) (after : List ℕ)
          → ReadsOn t m₀.place.0 from size → j < size → m.place.0 ≡ m₀.place.0 + j
          → byte ≡ get_or t (from + j) 0 → Stepped P byte room m table r after → Seeking t P room before r after
      seeking-byte m₀ from size j byte r after a low at-is byte_is e =
          seeking-step r after byte e (byte_is ∙ a.bytes j low ∙ ap (λ (p : ℕ). get_or T p 0) (sym at-is)) (omega (arith, a.in_text, text-length t))

-- A text's length is far from where words end.
pub places-text-small : (t : List ℕ) (h : Header) → HeaderOf t h → at.text_length t < 4294967296
places-text-small t h k = omega (arith, k.facts.bounds.text_high)

-- The paths of what is left, and of the whole text.

pub hold-start : (t : List ℕ) → paths_hold t 0 (at.text_length t - 0) ≡ paths_hold t 0 (at.text_length t)
hold-start t = rw (sub-zero (at.text_length t))

holds-run : (t : List ℕ) (p x rest : ℕ) → ((d : ℕ) → d < x → (byte_answer t (p + d)).number ≡ 0) → paths_hold t p (x + rest) ≡ paths_hold t (p + x) rest
unfolding paths_hold
holds-run t p zero rest h =
    let a : 0 + rest ≡ rest = omega arith in
    let b : p + 0 ≡ p = omega arith in
    rw (a, b)
holds-run t p (suc x) rest h = step (holds-run t (p + 1) x rest (λ d l. rw (add_assoc p 1 d) (h (1 + d) (omega arith))))
  where
    step : paths_hold t (p + 1) (x + rest) ≡ paths_hold t (p + 1 + x) rest → paths_hold t p (suc x + rest) ≡ paths_hold t (p + suc x) rest
    step e =
        let a : suc x + rest ≡ suc (x + rest) = omega arith in
        let b : p + suc x ≡ p + 1 + x = omega arith in
        let c : p + 0 ≡ p = omega arith in
        let z : (byte_answer t p).number ≡ 0 = rw c at (h 0 (omega arith)) in
        rw (a, b, paths_hold, z) e

module _ (t P : List ℕ) (room : ℕ) (before : List ℕ) (m : Progress) (table : List ℕ) (s : Seeking t P room before m table)
    (hold : paths_hold t m.place.0 (at.text_length t - m.place.0) ≡ paths_hold t 0 (at.text_length t)) where
  -- A run was read.
  pub seek-on : (from size next : ℕ) → ReadsOn t m.place.0 from size → next ≡ m.place.0 + size
      → paths_hold t next (at.text_length t - next) ≡ paths_hold t 0 (at.text_length t)
  seek-on from size next a e =
      let z : at.text_length t - m.place.0 ≡ size + (at.text_length t - (m.place.0 + size)) = omega (arith, a.in_text) in
      rw e (sym (holds-run t m.place.0 size (at.text_length t - (m.place.0 + size)) a.holds) ∙ rw z at hold)

  -- A path breaks.
  pub seek-broken : m.place.0 < at.text_length t → (byte_answer t m.place.0).number ≡ 14 → SeekAnswer t P room before None table
  unfolding paths_hold
  seek-broken low b =
      let z : at.text_length t - m.place.0 ≡ suc (at.text_length t - m.place.0 - 1) = omega arith in
      let no_more : paths_hold t m.place.0 (suc (at.text_length t - m.place.0 - 1)) ≡ false = rw b in
      let not-all : paths_hold t 0 (at.text_length t) ≡ false = sym (rw z at hold) ∙ no_more in record {
        answers = rw not-all;
        table_is = λ y. bool_clash _ y not-all;
      }

  -- All was read.
  pub seek-end : 1 ≤ length P → at.text_length t ≤ m.place.0 → SeekAnswer t P room before (Some m.found) table
  unfolding paths_hold
  seek-end some_byte past =
      let z : at.text_length t - m.place.0 ≡ 0 = omega arith in
      let all : paths_hold t 0 (at.text_length t) ≡ true = sym (rw z at hold) in
      let e : so_far t P m.place.0 ≡ places_of t P = so-far-end t P some_byte m.place.0 (omega (arith, s.in_text, text-length t)) in record {
        answers = rw all (rw e at (ap Some s.found-is));
        table_is = λ y. s.table_is ∙ ap (λ (ps : List ℕ). filled ps room before) e;
      }

-- The bytes of a part that are left.
pub reads-from : (t : List ℕ) (p at from size i : ℕ) → ReadsOn t p from size → i ≤ size → at ≡ p + i → ReadsOn t at (from + i) (size - i)
reads-from t p at from size i reads h e = rw e (reads-rest t p from size i reads h)
