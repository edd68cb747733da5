-- The places of a pattern: all of them, each once, in rising order.
use Rattle.std.specs.Prelude.{List, [], ◌∷◌, ◌++◌, Bool, true, false, cond, ◌≡◌, refl, ◌⊎◌, ℕ, zero, suc, ◌+◌, ◌≤◌, ◌<◌, get_or, drop}
use Rattle.std.proofs.Common.{append-nil, sym, ◌∙◌, inl, inr, arith, length-append}
use Rattle.std.proofs.Math.Path.{ap}
use Rattle.std.proofs.Math.ListN.{length, length-take, length-drop, get_or-append}
use Rattle.std.proofs.Math.Seq.{get_or-append_seam}
use Rattle.text.specs.ListLaws.{below_suc, bool_clash, same_list-true, eq-same_list}
use Rattle.text.specs.Text.{substring}
use Rattle.query_places.specs.Places.{occurs_at, places_below, places_in}

-- The numbers below n with f, each once, rising.
pub record Listed (n : ℕ) (f : ℕ → Bool) (ps : List ℕ) : Type 0 where
  pub entry : (x : ℕ) → x < length ps → (get_or ps x 0 < n) × (f (get_or ps x 0) ≡ true)
  pub all : (p : ℕ) → p < n → f p ≡ true → (x : ℕ) × (x < length ps) × (get_or ps x 0 ≡ p)
  pub rising : (x y : ℕ) → x < y → y < length ps → get_or ps x 0 < get_or ps y 0

module _ (f : ℕ → Bool) (n : ℕ) (ps : List ℕ) (k : Listed n f ps) where
  listed-other : f n ≡ false → Listed (suc n) f ps
  listed-other e = record {
    entry = λ x h. let z = k.entry x h in (omega (arith, z.0), z.1);
    all = λ p h is. go p is (below_suc p n h);
    rising = k.rising;
  }
    where
      go : (p : ℕ) → f p ≡ true → (p < n) ⊎ (p ≡ n) → (x : ℕ) × (x < length ps) × (get_or ps x 0 ≡ p)
      go p is (inl l) = k.all p l is
      go p is (inr z) = bool_clash (f n) (ap f (sym z) ∙ is) e

  one_more : length (ps ++ n ∷ []) ≡ suc (length ps)
  one_more = omega (arith, length-append ps (n ∷ []))

  earlier : (x : ℕ) → x < length ps → get_or (ps ++ n ∷ []) x 0 ≡ get_or ps x 0
  earlier x h = get_or-append ps (n ∷ []) 0 x h

  last : (x : ℕ) → x ≡ length ps → get_or (ps ++ n ∷ []) x 0 ≡ n
  last x e = rw e (get_or-append_seam ps n [] 0)

  listed_more : f n ≡ true → Listed (suc n) f (ps ++ n ∷ [])
  listed_more e = record {
    entry = λ x h. entries x (below_suc x (length ps) (omega (arith, one_more)));
    all = λ p h is. go p is (below_suc p n h);
    rising = λ x y l h. rise x y l (below_suc y (length ps) (omega (arith, one_more)));
  }
    where
      entries : (x : ℕ) → (x < length ps) ⊎ (x ≡ length ps) → (get_or (ps ++ n ∷ []) x 0 < suc n) × (f (get_or (ps ++ n ∷ []) x 0) ≡ true)
      entries x (inl h) = rw (earlier x h) (let z = k.entry x h in (omega (arith, z.0), z.1))
      entries x (inr h) = rw (last x h) (omega arith, e)

      go : (p : ℕ) → f p ≡ true → (p < n) ⊎ (p ≡ n) → (x : ℕ) × (x < length (ps ++ n ∷ [])) × (get_or (ps ++ n ∷ []) x 0 ≡ p)
      go p is (inl l) = let z = k.all p l is in (z.0, omega (arith, z.1, one_more), earlier z.0 z.1 ∙ z.2)
      go p is (inr z) = (length ps, omega (arith, one_more), last (length ps) refl ∙ sym z)

      rise : (x y : ℕ) → x < y → (y < length ps) ⊎ (y ≡ length ps) → get_or (ps ++ n ∷ []) x 0 < get_or (ps ++ n ∷ []) y 0
      rise x y l (inl h) = rw (earlier x (omega arith), earlier y h) (k.rising x y l h)
      rise x y l (inr h) = rw (earlier x (omega arith), last y h) (k.entry x (omega arith)).0

pub below-listed : (n : ℕ) (f : ℕ → Bool) → Listed n f (places_below n f)
unfolding places_below
below-listed zero f = record {
  entry = λ x h. absurd (let z : ⊥ = omega arith in z);
  all = λ p h. absurd (let z : ⊥ = omega arith in z);
  rising = λ x y l h. absurd (let z : ⊥ = omega arith in z);
}
below-listed (suc n) f = go (f n) refl (below-listed n f)
  where
    go : (b : Bool) → f n ≡ b → Listed n f (places_below n f) → Listed (suc n) f (places_below n f ++ cond b (n ∷ []) [])
    go true e k = listed_more f n (places_below n f) k e
    go false e k = rw (append-nil (places_below n f)) (listed-other f n (places_below n f) k e)

-- Where the pattern occurs, its bytes are in the text.
module _ (P T : List ℕ) (p : ℕ) where
  pub occurs-there : occurs_at P T p ≡ true → substring T p (length P) ≡ P
  unfolding occurs_at
  occurs-there e = same_list-true (substring T p (length P)) P e

  pub there-occurs : substring T p (length P) ≡ P → occurs_at P T p ≡ true
  unfolding occurs_at
  there-occurs e = eq-same_list (substring T p (length P)) P e

  pub occurs-within : 1 ≤ length P → occurs_at P T p ≡ true → p + length P ≤ length T
  unfolding occurs_at substring
  occurs-within some_byte e =
      omega (arith, ap length (same_list-true (substring T p (length P)) P e), length-take (length P) (drop p T), length-drop p T)

-- ps has exactly the places of P in T, overlapping ones too, in increasing order without repetition
pub record AllPlaces (P T ps : List ℕ) : Type 0 where
  pub entry : (x : ℕ) → x < length ps → substring T (get_or ps x 0) (length P) ≡ P
  pub all : (p : ℕ) → substring T p (length P) ≡ P → (x : ℕ) × (x < length ps) × (get_or ps x 0 ≡ p)
  pub rising : (x y : ℕ) → x < y → y < length ps → get_or ps x 0 < get_or ps y 0

pub places-all : (P T : List ℕ) → 1 ≤ length P → AllPlaces P T (places_in P T)
unfolding places_in
places-all P T some_byte =
    let k = below-listed (length T) (occurs_at P T) in record {
      entry = λ x h. occurs-there P T _ (k.entry x h).1;
      all = λ p e. let z = there-occurs P T p e in k.all p (omega (arith, occurs-within P T p some_byte z)) z;
      rising = k.rising;
    }
