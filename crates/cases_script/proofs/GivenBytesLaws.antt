-- Laws of the bytes that lines give, for the proofs of `making`.
use mathlib.Core.List.{List, [], ◌∷◌, ◌++◌, append_assoc}
use mathlib.Core.Bool.{Bool, true, false, cond}
use mathlib.Core.Path.{◌≡◌, refl, sym, ap, subst, ◌∙◌}
use mathlib.Core.Logic.{◌⊎◌, inl, inr}
use Prim.Native.Nat.{ℕ, suc, ◌+◌, ◌-◌, ◌*◌, ◌/◌, ◌%◌, ◌≤◌, ◌<◌}
use native.Mathlib.Nat.{zero-add, zero-mul, mul_comm, mod-le, mod-lt, mod-eq_of_lt, mod-eq-sub-mod, le-div_iff_mul-le, div-lt_iff_lt-mul}
use native.Mathlib.Numerals.{add-one}
use native.Mathlib.Omega.{arith}
use lib.ListN.{length, get_or, set, take, drop, replicate, length-take, length-drop, length-append, length-replicate}
use lib.Seq.{paste, take-paste, length-take-le, get_or-set_same, get_or-set_other, get_or-take, take_at, ext_get_or}
use borrow.Author.Tests.{lt-ltb, le-ltb}
use Rattle.std.specs.Prelude.{Result, Ok, Err, IsErrAnd}
use Rattle.text.specs.Text.{tabulate}
use Rattle.text.specs.ListLaws.{below_suc, length-tabulate, get_or-tabulate, tabulate-ext}
use Rattle.cases_tokens.specs.Parts.{token_of}
use Rattle.cases_tokens.specs.Decimals.{number_of, value_of, figures_right}
use Rattle.cases_tokens.specs.Hexadecimals.{hex_bytes, hex_of, made_size}
use Rattle.cases_tokens.proofs.HexadecimalLaws.{hex-all}
use Rattle.cases_tokens.specs.declared.hexadecimal.Fault.{Fault}
use Rattle.cases_tokens.specs.declared.hexadecimal.Fault.TheVariants as fault
use Rattle.cases_script.specs.GivenBytes.{Given, Gives, script_first_of, hex_given, figure_of, repeated, times_over, repeat_given, plain_by, plain_given}
use Rattle.cases_script.specs.GivenBytes.{pad_to, pad_given, make_by, make_given, named_given}
use Rattle.cases_script.specs.LineWords.{input_kind}
use Rattle.cases_script.specs.declared.line_words.InputKind.{InputKind}
use Rattle.cases_script.specs.NameLine.{giving_line}
use Rattle.cases_script.specs.GivenBytes.Given.{bytes, none}

-- Bytes repeated up to i.
pub record Again (entry out : List ℕ) (k i : ℕ) : Type 0 where
  pub are : (j : ℕ) → j < i → get_or out j 0 ≡ get_or entry (j % k) 0

pub again-none : (entry : List ℕ) (k : ℕ) → Again entry entry k k
again-none entry k = record { are = λ j h. ap (λ (x : ℕ). get_or entry x 0) (sym (mod-eq_of_lt h)) }

pub again-more : (entry out : List ℕ) (k i : ℕ) → 0 < k → k ≤ i → i < length out → Again entry out k i
    → Again entry (set out i (get_or out (i - k) 0)) k (i + 1)
again-more entry out k i pos from h a = record { are = λ j l. go j (below_suc j i (rw add-one at l)) }
  where
    new : get_or out (i - k) 0 ≡ get_or entry (i % k) 0
    new = a.are (i - k) (omega arith) ∙ ap (λ (x : ℕ). get_or entry x 0) (sym (mod-eq-sub-mod from))

    go : (j : ℕ) → (j < i) ⊎ (j ≡ i) → get_or (set out i (get_or out (i - k) 0)) j 0 ≡ get_or entry (j % k) 0
    go j (inl l) = get_or-set_other out i j (get_or out (i - k) 0) 0 (λ e. omega arith) ∙ a.are j l
    go j (inr e) = rw e (get_or-set_same out i (get_or out (i - k) 0) 0 h ∙ new)

pub again-all : (entry out : List ℕ) (k i : ℕ) → length out ≡ length entry → length out ≤ i → Again entry out k i
    → out ≡ tabulate (length entry) (λ j. get_or entry (j % k) 0)
again-all entry out k i long h a =
    ext_get_or 0 out (tabulate (length entry) (λ j. get_or entry (j % k) 0)) (long ∙ sym (length-tabulate (length entry) (λ j. get_or entry (j % k) 0)))
    (λ j l. a.are j (omega arith) ∙ sym (get_or-tabulate (length entry) (λ x. get_or entry (x % k) 0) j 0 (omega arith)))

script-empty : (l : List ℕ) → length l ≡ 0 → l ≡ []
script-empty [] e = refl
script-empty (x ∷ l) e = absurd (let z : suc (length l) ≡ 0 = e in omega arith)

-- The bytes of a word in hexadecimal.

-- A buffer that starts with the first n bytes of b.
first_gives : (x : Result ℕ Fault) (b buffer : List ℕ) → made_size x ≤ length b → take (made_size x) buffer ≡ take (made_size x) b → Gives buffer x (script_first_of x b)
first_gives (Ok n) b buffer h e = record { answer = ap (λ (k : ℕ). Ok k) (sym (length-take-le n b h)); put = e }
first_gives (Err f) b buffer h e = record { answer = refl; put = e }

take-start : (d s : List ℕ) (n : ℕ) → n ≤ length s → take n (paste d 0 s n) ≡ take n s
take-start d s n h = ap (λ (k : ℕ). take k (paste d 0 s n)) (sym (zero-add n)) ∙ take-paste d 0 s n (omega arith) h

pub hex-gives : (w entry exit : List ℕ) (r : Result ℕ Fault)
    → r ≡ hex_of w (length entry) → exit ≡ paste entry 0 (hex_bytes w) (made_size r) → Gives exit r (hex_given w (length entry))
unfolding hex_given
hex-gives w entry exit r a e =
    let fits : made_size r ≤ length (hex_bytes w) = rw a (hex-all w (length entry)) in
    rw (← a) (first_gives r (hex_bytes w) exit fits (ap (λ (l : List ℕ). take (made_size r) l) e ∙ take-start entry (hex_bytes w) (made_size r) fits))

-- The fault that `?` passes on.
pub fault-passed-on : (r : Result ℕ Fault) (f : Fault) → IsErrAnd r (λ d. d ≡ f) → r ≡ Err f
fault-passed-on (Ok n) f k = absurd k
fault-passed-on (Err d) f k = ap Err k

-- What is given, read off the buffer.

not-both : (f : Fault) (n : ℕ) → Err f ≡ Ok n → ⊥
not-both f n z = let o : ◌≡◌ {A = ℕ} 0 1 = cc in omega arith

module _ (mid : List ℕ) (r : Result ℕ Fault) where
  pub is-bytes : (g : Given) (k : ℕ) → Gives mid r g → r ≡ Ok k → g ≡ bytes (take k mid)
  is-bytes (bytes b) k h e = ap bytes (sym (rw e at h.put))
  is-bytes (none f) k h e = absurd (not-both f k (sym h.answer ∙ e))

  pub is-fault : (g : Given) (f : Fault) → Gives mid r g → r ≡ Err f → g ≡ none f
  is-fault (bytes b) f h e = absurd (not-both f (length b) (sym e ∙ h.answer))
  is-fault (none k) f h e = let z : Err k ≡ Err f = sym h.answer ∙ e in cc

  pub gives-inside : (g : Given) (k : ℕ) → Gives mid r g → r ≡ Ok k → k ≤ length mid
  gives-inside (bytes b) k h e =
      let z : Ok (length b) ≡ Ok k = sym h.answer ∙ e in
      let same : length b ≡ k = cc in
      omega (arith, same, simp length-take at (ap length h.put), rw e at (ap length h.put))
  gives-inside (none f) k h e = absurd (not-both f k (sym h.answer ∙ e))

pub fault-gives : (buffer : List ℕ) (f : Fault) (g : Given) → none f ≡ g → Gives buffer (Err f) g
fault-gives buffer f g e = let h : Gives buffer (Err f) (none f) = record { answer = refl; put = refl } in rw e at h

bytes-give : (buffer b : List ℕ) (n : ℕ) (g : Given) → bytes b ≡ g → length b ≡ n → take n buffer ≡ b → Gives buffer (Ok n) g
bytes-give buffer b n g e l t =
    let h : Gives buffer (Ok n) (bytes b) = record { answer = ap (λ (k : ℕ). Ok k) (sym l); put = t } in
    rw e at h

-- The first k bytes of a buffer, repeated.
module _ (entry : List ℕ) (k times : ℕ) (inside : k ≤ length entry) where
  long : length (take k entry) ≡ k
  long = length-take-le k entry inside

  over-fits : k * times ≤ length entry → bytes (repeated (take k entry) times) ≡ times_over (bytes (take k entry)) times (length entry)
  over-fits h = simp (le-ltb (length entry) (length (take k entry) * times) (rw long h))

  over-length : length (repeated (take k entry) times) ≡ k * times
  unfolding repeated
  over-length = length-tabulate (length (take k entry) * times) _ ∙ ap (λ (n : ℕ). n * times) long

  pub over_none : k ≡ 0 → Gives entry (Ok 0) (times_over (bytes (take k entry)) times (length entry))
  over_none z =
      let none : k * times ≡ 0 = rw z (zero-mul times) in
      bytes-give entry (repeated (take k entry) times)
      0 _ (over-fits (omega (arith, none))) (over-length ∙ none) (sym (script-empty (repeated (take k entry) times) (over-length ∙ none)))

  pub over-long : 0 < k → length entry / k < times → Gives entry (Err fault.Room) (times_over (bytes (take k entry)) times (length entry))
  over-long p h =
      let past : length entry < k * times = rw (mul_comm times k) at ((div-lt_iff_lt-mul p).0 h) in
      fault-gives entry fault.Room _ (simp (lt-ltb (length entry) (length (take k entry) * times) (rw long past)))

  pub total_inside : 0 < k → times ≤ length entry / k → k * times ≤ length entry
  total_inside p h = rw (mul_comm times k) at ((le-div_iff_mul-le p).0 h)

  pub over-all : (last rest : List ℕ) → 0 < k → k * times ≤ length entry
      → last ≡ tabulate (length (take (k * times) entry)) (λ i. get_or (take (k * times) entry) (i % k) 0)
      → Gives (last ++ rest) (Ok (k * times)) (times_over (bytes (take k entry)) times (length entry))
  unfolding repeated
  over-all last rest p h e =
      bytes-give (last ++ rest)
      (repeated (take k entry) times) (k * times) _ (over-fits h) over-length (take_at last rest (k * times) (ap length same ∙ over-length) ∙ same)
    where
      total : length (take (k * times) entry) ≡ k * times
      total = length-take-le (k * times) entry h

      at_each : (i : ℕ) → i < k * times → get_or (take (k * times) entry) (i % k) 0 ≡ get_or (take k entry) (i % k) 0
      at_each i l = get_or-take (k * times) entry (i % k) 0 (omega (arith, mod-le i k)) ∙ sym (get_or-take k entry (i % k) 0 (mod-lt i p))

      same : last ≡ repeated (take k entry) times
      same = e ∙ rw (total, long) (tabulate-ext (k * times) _ _ at_each)

-- The first n bytes of a buffer, with zeros after them.
module _ (entry : List ℕ) (n to : ℕ) (inside : n ≤ length entry) where
  head : length (take n entry) ≡ n
  head = length-take-le n entry inside

  pub pad-short : to < n → Gives entry (Err fault.Number) (pad_to (bytes (take n entry)) to (length entry))
  pad-short h = fault-gives entry fault.Number _ (simp (lt-ltb to (length (take n entry)) (rw head h)))

  pub pad-long : n ≤ to → length entry < to → Gives entry (Err fault.Room) (pad_to (bytes (take n entry)) to (length entry))
  pad-long h l = fault-gives entry fault.Room _ (simp (le-ltb to (length (take n entry)) (rw head h), lt-ltb (length entry) to l))

  pub pad-all : (zeros rest : List ℕ) → n ≤ to → to ≤ length entry → zeros ≡ replicate (length (take (to - n) (drop n entry))) 0
      → Gives (take n entry ++ (zeros ++ rest)) (Ok to) (pad_to (bytes (take n entry)) to (length entry))
  pad-all zeros rest h l e =
      bytes-give (take n entry ++ (zeros ++ rest)) padded to _
      (simp (le-ltb to (length (take n entry)) (rw head h), le-ltb (length entry) to l)) whole
      (ap (take to) (sym (append_assoc (take n entry) zeros rest) ∙ ap (λ (x : List ℕ). x ++ rest) same) ∙ take_at padded rest to whole)
    where
      padded : List ℕ
      padded = take n entry ++ replicate (to - length (take n entry)) 0

      count : length (take (to - n) (drop n entry)) ≡ to - length (take n entry)
      count = length-take-le (to - n) (drop n entry) (simp length-drop (omega arith)) ∙ sym (ap (λ (x : ℕ). to - x) head)

      same : take n entry ++ zeros ≡ padded
      same = ap (λ (x : List ℕ). take n entry ++ x) (e ∙ ap (λ (x : ℕ). replicate x 0) count)

      whole : length padded ≡ to
      whole = length-append (take n entry) (replicate (to - length (take n entry)) 0)
          ∙ rw (length-replicate {A = ℕ} (to - length (take n entry)) 0, head) (omega arith)

-- A line whose fourth token is a number n, and which makes f of what its third token gives.
module _ (f : Given → ℕ → ℕ → Given) (keeps : (k : Fault) (n m : ℕ) → f (none k) n m ≡ none k) (right b : Bool) (q : b ≡ right) (g : Given) (n room : ℕ) where
  module _ (mid : List ℕ) (x : Result ℕ Fault) (got : Gives mid x g) (z : b ≡ true) where
    opened : f g n room ≡ cond right (f g n room) (none fault.Number)
    opened = simp (sym q ∙ z)

    pub then-bytes : (exit : List ℕ) (r : Result ℕ Fault) (k : ℕ) → x ≡ Ok k
        → length mid ≡ room → Gives exit r (f (bytes (take k mid)) n (length mid)) → Gives exit r (cond right (f g n room) (none fault.Number))
    then-bytes exit r k e l h =
        subst (λ (y : Given). Gives exit r y) (ap (λ (y : Given). f y n (length mid)) (sym (is-bytes mid x g k got e)) ∙ ap (λ (m : ℕ). f g n m) l ∙ opened) h

    pub then-fault : (k : Fault) → x ≡ Err k → Gives mid (Err k) (cond right (f g n room) (none fault.Number))
    then-fault k e = fault-gives mid k _ (sym (keeps k n room) ∙ ap (λ (y : Given). f y n room) (sym (is-fault mid x g k got e)) ∙ opened)

abbrev Repeated : List ℕ → List ℕ → ℕ → ℕ → Given
Repeated line w times room = cond (figures_right line 3 4) (times_over (hex_given w room) times room) (none fault.Number)

pub repeat-is : (line w : List ℕ) (times room : ℕ)
    → w ≡ token_of line 2 → times ≡ value_of (number_of (token_of line 3)) → Repeated line w times room ≡ repeat_given line room
unfolding repeat_given figure_of
repeat-is line w times room e t = rw (e, t)

pub repeat-bad : (line entry : List ℕ) (b : Bool) → b ≡ figures_right line 3 4 → b ≡ false → Gives entry (Err fault.Number) (repeat_given line (length entry))
unfolding repeat_given
repeat-bad line entry b q z = fault-gives entry fault.Number _ (simp (sym q ∙ z))

pub over-keeps : (k : Fault) (n m : ℕ) → times_over (none k) n m ≡ none k
over-keeps k n m = refl

abbrev Padded : List ℕ → List ℕ → ℕ → ℕ → Given
Padded line base to room = cond (figures_right line 3 4) (pad_to (plain_given base room) to room) (none fault.Number)

pub pad-is : (script line w base : List ℕ) (to room : ℕ)
    → w ≡ token_of line 2 → base ≡ giving_line script w → to ≡ value_of (number_of (token_of line 3)) → Padded line base to room ≡ pad_given script line room
unfolding pad_given figure_of
pad-is script line w base to room e b t = rw (b, e, t)

pub pad-bad : (script line entry : List ℕ) (b : Bool)
    → b ≡ figures_right line 3 4 → b ≡ false → Gives entry (Err fault.Number) (pad_given script line (length entry))
unfolding pad_given
pad-bad script line entry b q z = fault-gives entry fault.Number _ (simp (sym q ∙ z))

pub pad-keeps : (k : Fault) (n m : ℕ) → pad_to (none k) n m ≡ none k
pad-keeps k n m = refl

pub as-given : {buffer : List ℕ} {r : Result ℕ Fault} {g h : Given} → g ≡ h → Gives buffer r g → Gives buffer r h
as-given {buffer} {r} e a = subst (λ (y : Given). Gives buffer r y) e a

-- A line by its word.
module _ (line : List ℕ) (x y : InputKind) (room : ℕ) (a : x ≡ input_kind line) (e : x ≡ y) where
  pub plain-is : plain_by y line room ≡ plain_given line room
  unfolding plain_given
  plain-is = ap (λ (g : InputKind). plain_by g line room) (sym e ∙ a)

  pub make-is : (script : List ℕ) → make_by y script line room ≡ make_given script line room
  unfolding make_given
  make-is script = ap (λ (g : InputKind). make_by g script line room) (sym e ∙ a)

pub named-is : (script name line : List ℕ) (room : ℕ) → line ≡ giving_line script name → make_given script line room ≡ named_given script name room
unfolding named_given
named-is script name line room e = rw e
