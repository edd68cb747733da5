-- A window at the text's start, and moved on.
use mathlib.Core.List.{List}
use mathlib.Core.Path.{◌≡◌, refl, sym, ap, ap₂, ◌∙◌}
use Prim.Native.Nat.{ℕ, ◌+◌, ◌-◌, ◌*◌, ◌%◌, ◌^◌, ◌≤◌, ◌<◌}
use native.Mathlib.Omega.{arith}
use lib.ListN.{length, get_or}
use borrow.Author.Tests.{eq-eqb, ne_eqb}
use Rattle.text.specs.Text.{substring}
use Rattle.scan_rolling_hash.specs.declared.Window.{Window}
use Rattle.scan_rolling_hash.specs.Fingerprints.{base_of, fingerprint}
use Rattle.scan_rolling_hash.specs.Windows.{places_of, WindowAt}
use Rattle.scan_rolling_hash.proofs.WindowFingerprintLaws.{fingerprint-below, fingerprint-roll}

pub places-none : (size n : ℕ) → n ≡ 0 → places_of size n ≡ 0
places-none size n e = rw (eq-eqb n 0 e)

pub places-some : (size n : ℕ) → (n ≡ 0 → ⊥) → places_of size n ≡ size - n + 1
places-some size n e = rw (ne_eqb n 0 e)

pub window-nowhere : (seed : ℕ) (T : List ℕ) (n : ℕ) → n ≤ length T → length T < 4294967295 → n ≡ 0
    → WindowAt seed T n 0 (record { len = 0; leaving = 0; fingerprint = 0; places = 0; looked = 0 })
window-nowhere seed T n fits few e = record {
  len_is = sym e;
  fits = fits;
  few = few;
  places_is = sym (places-none (length T) n e);
  leaving_is = λ l. absurd (let z : ⊥ = omega arith in z);
  fingerprint_is = λ l. absurd (let z : ⊥ = omega arith in z);
  looked_is = omega arith;
}

pub window-first : (seed : ℕ) (T : List ℕ) (n t h : ℕ) → n ≤ length T → length T < 4294967295 → (n ≡ 0 → ⊥)
    → t ≡ base_of seed ^ (n + 1) % 2147483647 → h ≡ fingerprint seed (substring T 0 n)
    → WindowAt seed T n 0 (record { len = n; leaving = 2147483647 - t; fingerprint = h; places = length T - n + 1; looked = 1 })
window-first seed T n t h fits few e et eh = record {
  len_is = refl;
  fits = fits;
  few = few;
  places_is = sym (places-some (length T) n e);
  leaving_is = λ l. ap (λ (k : ℕ). 2147483647 - k) et;
  fingerprint_is = λ l. eh;
  looked_is = omega arith;
}

-- The window fits at p.
module _ (seed : ℕ) (T : List ℕ) (n p : ℕ) (w : Window) (s : WindowAt seed T n p w) where
  module _ (here : p < w.places) where
    some : n ≡ 0 → ⊥
    some e = let z : w.places ≡ 0 = s.places_is ∙ places-none (length T) n e in omega arith

    places-are : w.places ≡ length T - n + 1
    places-are = s.places_is ∙ places-some (length T) n some

    pub within : p + n ≤ length T
    within = omega (arith, places-are, s.fits)

  -- The window fits at the next place too.
  module _ (more : p + 1 < w.places) where
    pub before-end : p + n < length T
    before-end = omega (arith, places-are (omega arith), s.fits)

    pub fingerprint-low : w.fingerprint < 2147483647
    fingerprint-low = omega (arith, s.fingerprint_is (omega arith), fingerprint-below seed (substring T p n))

    pub leaving-low : w.leaving ≤ 2147483647
    leaving-low = omega (arith, s.leaving_is (omega arith))

    pub rolls : (h x out b : ℕ) → out ≡ get_or T p 0 → x ≡ get_or T (p + n) 0 → b ≡ base_of seed
        → h ≡ ((w.fingerprint + x) * b + out * w.leaving) % 2147483647 → h ≡ fingerprint seed (substring T (p + 1) n)
    rolls h x out b eo ex eb e =
        e
        ∙ ap₂ (λ (k t : ℕ). ((w.fingerprint + x) * k + out * t) % 2147483647) eb (s.leaving_is (omega arith))
        ∙ fingerprint-roll seed T p n before-end w.fingerprint (base_of seed ^ (n + 1) % 2147483647) x out (s.fingerprint_is (omega arith)) refl eo ex

    pub window-next : (h : ℕ) → h ≡ fingerprint seed (substring T (p + 1) n)
        → WindowAt seed T n (p + 1) (record { len = w.len; leaving = w.leaving; fingerprint = h; places = w.places; looked = w.looked + 1 })
    window-next h e = record {
      len_is = s.len_is;
      fits = s.fits;
      few = s.few;
      places_is = s.places_is;
      leaving_is = s.leaving_is;
      fingerprint_is = λ _. e;
      looked_is = omega (arith, s.looked_is);
    }

    pub places-few : w.places ≤ length T
    places-few = omega (arith, places-are (omega arith), s.fits, some (omega arith))
