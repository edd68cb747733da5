-- The byte of a place of the text, of a tree that passes questions 5 to 7: the place's path gives it, or breaks, and it is refused with 14.
use Rattle.std.specs.Prelude.{List, Bool, true, false, ◌&&◌, ◌≡◌, refl, ℕ, zero, suc, ◌+◌, ◌≤◌, ◌<◌, get_or, eqb}
use Rattle.std.proofs.Math.Option.{Option, none, some}
use Rattle.std.proofs.Common.{sym, ap, ◌∙◌, arith}
use borrow.Author.Tests.{lt-ltb, eqb-true}
use Rattle.text.specs.Text.{tabulate, substring}
use Rattle.text.specs.ListLaws.{and_left, and_right}
use Rattle.format.specs.Layout as at
use Rattle.format.specs.TreeReading.{Path, path_of, links_ok, text_of, header_result}
use Rattle.format.specs.LayoutLaws.{header-facts}
use Rattle.format.specs.Answers.{Answer, refused, byte_of, byte_answer, paths_hold}
use Rattle.theory_paths.specs.Visits.{path-long}
use Rattle.theory_paths.specs.FitsFacts.{substring-tabulate}
use Rattle.theory_paths.specs.OneText.{text-length}
use Rattle.theory_paths.specs.Reads.{byte-of-path, text-of-path}
use Rattle.theory_paths.specs.Theorems.{byte-of-text}

-- Where the paths of some places hold, each of them holds. They hold exactly where those of a first part and those of the rest hold.

and_assoc : (a b c : Bool) → (a && (b && c)) ≡ ((a && b) && c)
and_assoc true b c = refl
and_assoc false b c = refl

pub hold_at : (t : List ℕ) (len p x : ℕ) → paths_hold t p len ≡ true → x < len → (byte_answer t (p + x)).number ≡ 0
unfolding paths_hold
hold_at t zero p x h l = absurd (let z : ⊥ = omega arith in z)
hold_at t (suc len) p zero h l =
    let e : p + 0 ≡ p = omega arith in
    rw e (eqb-true (byte_answer t p).number 0 (and_left (eqb (byte_answer t p).number 0) (paths_hold t (p + 1) len) h))
hold_at t (suc len) p (suc x) h l =
    let e : p + suc x ≡ p + 1 + x = omega arith in
    rw e (hold_at t len (p + 1) x (and_right (eqb (byte_answer t p).number 0) (paths_hold t (p + 1) len) h) (omega arith))

pub holds-split : (t : List ℕ) (x p rest : ℕ) → paths_hold t p (x + rest) ≡ (paths_hold t p x && paths_hold t (p + x) rest)
unfolding paths_hold
holds-split t zero p rest =
    let a : 0 + rest ≡ rest = omega arith in
    let b : p + 0 ≡ p = omega arith in
    rw (a, b)
holds-split t (suc x) p rest =
    let a : suc x + rest ≡ suc (x + rest) = omega arith in
    let b : p + suc x ≡ p + 1 + x = omega arith in
    rw (a, b, paths_hold, holds-split t x (p + 1) rest) (and_assoc (eqb (byte_answer t p).number 0) (paths_hold t (p + 1) x) (paths_hold t (p + 1 + x) rest))

module _ (t : List ℕ) (r : header_result t ≡ 0) (p : ℕ) (low : p < at.text_length t) where
  pub byte-path : byte_answer t p ≡ byte_of t (path_of t p)
  unfolding byte_answer
  byte-path = rw (r, lt-ltb p (at.text_length t) low)

  -- Byte is not refused only if there is a path.
  pub path-there : (byte_answer t p).number ≡ 0 → (q : Path) × (path_of t p ≡ some q)
  path-there z = go (path_of t p) refl (ap (λ (s : Answer). s.number) (sym byte-path) ∙ z)
    where
      go : (o : Option Path) → path_of t p ≡ o → (byte_of t o).number ≡ 0 → (q : Path) × (path_of t p ≡ some q)
      go none e y = absurd (let x : ⊥ = omega arith in x)
      go (some q) e y = (q, e)

  -- A byte that is answered is the text's.
  pub byte-text : (byte_answer t p).number ≡ 0 → (byte_answer t p).value ≡ get_or (text_of t) p 0
  byte-text z =
      let w = path-there z in
      ap (λ (s : Answer). s.value) (byte-of-path t (header-facts t r) r p low w.0 w.1) ∙ sym (text-of-path t (header-facts t r) r p low w.0 w.1)

  -- If byte is refused here, the number is 14.
  pub byte-broken : ((byte_answer t p).number ≡ 0 → ⊥) → (byte_answer t p).number ≡ 14
  byte-broken n = go (path_of t p) refl
    where
      number_is : (o : Option Path) → path_of t p ≡ o → (byte_answer t p).number ≡ (byte_of t o).number
      number_is o e = ap (λ (s : Answer). s.number) (byte-path ∙ ap (byte_of t) e)

      go : (o : Option Path) → path_of t p ≡ o → (byte_answer t p).number ≡ 14
      go none e = number_is none e
      go (some q) e = absurd (n (number_is (some q) e))

  -- A result has entered a block, so what has entered none is a refusal.
  pub only-14 : (q : ℕ) → refused q ≡ byte_answer t p → (byte_answer t p).number ≡ 14
  only-14 q e =
      byte-broken (λ z.
      let w = path-there z in
      let y = ap (λ (s : Answer). s.entered) (e ∙ byte-of-path t (header-facts t r) r p low w.0 w.1) in
      omega (arith, path-long t p w.0 w.1))

  -- In a tree that passes question 8 it is answered.
  pub never-14 : links_ok t ≡ true → (byte_answer t p).number ≡ 14 → ⊥
  never-14 links z = let y = ap (λ (s : Answer). s.number) (byte-of-text t r links p low).2 in omega arith

-- The bytes of places whose paths all hold are those of the text, in any tree that passes questions 5 to 7.
module _ (t : List ℕ) (r : header_result t ≡ 0) where
  pub held_bytes : (p len : ℕ) → p + len ≤ at.text_length t → paths_hold t p len ≡ true
      → tabulate len (λ x. (byte_answer t (p + x)).value) ≡ substring (text_of t) p len
  held_bytes p len within hold =
      sym (substring-tabulate (text_of t) p len (λ x. (byte_answer t (p + x)).value) (omega (arith, text-length t))
      (λ o ho. sym (byte-text t r (p + o) (omega arith) (hold_at t len p o hold ho))))
