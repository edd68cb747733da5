-- What holds of the edges of a tree, and of spans: each statement under its own sentence.
-- docs/FORMAT.md: "Question 9", "The walk of a short span".
use Rattle.std.specs.Prelude.{List, ◌++◌, Bool, ◌⊎◌, ℕ, ◌+◌, ◌-◌, ◌*◌, ◌≤◌, drop}
use Rattle.std.proofs.Math.Option.{Option, none, some}
use Rattle.std.proofs.Math.Bool.{true, false, cond}
use Rattle.std.proofs.Math.Path.{◌≡◌, refl}
use Rattle.std.proofs.Common.{inl, inr}
use native.Mathlib.Omega.{arith}
use borrow.Author.Tests.{le-leb}
use Rattle.std.proofs.Math.ListN.{length, length-append}
use Rattle.text.specs.ListLaws.{bool_cases, length-tabulate}
use Rattle.text.specs.Text.{substring, tabulate}
use Rattle.text.specs.TextLaws.{length-substring}
use Rattle.format.specs.Layout as at
use Rattle.format.specs.TreeReading.{links_ok, text_of, edges_true, header_result, check_result, Short, short_of, short_bytes}
use Rattle.format.specs.CheckResultLaws.{accepted-header, accepted-links, accepted-edges}
use Rattle.format.specs.LayoutLaws.{Readable, header-facts}
use Rattle.format.specs.Answers.{byte_answer, paths_hold, span_questions, buffer_after, is_short, holds, blocks_of, span_reached, span_bytes, span_blocks, span_refusal}
use Rattle.format.specs.Answers.{span_buffer}
use Rattle.format.specs.ReadAnswerLaws.{ShortSpan, short-span}
use Rattle.theory_paths.specs.Links.{Linked, linked-facts}
use Rattle.theory_paths.specs.Theorems as paths
use Rattle.theory_edges.specs.EdgesLocal.{all_edges_of}
use Rattle.theory_edges.specs.EdgesExact as exact
use Rattle.theory_edges.specs.SpanWalk as walks
use Rattle.theory_edges.specs.SpanEntered.{short-entered}
use Rattle.theory_edges.specs.SpanPlaces.{Inside, short-inside}

-- Any tree that passes questions 5 to 8: the local equations that the check looks at hold exactly where the edges are true of the one text
-- that fits.
pub edges-exact : (t : List ℕ) → header_result t ≡ 0 → links_ok t ≡ true → all_edges_of t ≡ edges_true (text_of t) t
edges-exact t r h = exact.edges-exact t (header-facts t r) (linked-facts t h)

short-blocks : (t : List ℕ) (r : Option Short) (n : ℕ) → ((q : Short) → r ≡ some q → length q.visits ≤ n) → blocks_of t r ≤ n
short-blocks t none n h = omega arith
short-blocks t (some q) n h = h q refl

-- Any tree that passes questions 5 to 7.
module _ (t : List ℕ) (r : header_result t ≡ 0) (p len : ℕ) where
  low : 1 ≤ (at.settings t).levels
  low = (header-facts t r).bounds.levels_low

  -- A span returns at most 2H as blocks entered.
  pub span-entered : span_blocks t p len ≤ 2 * (at.settings t).levels
  unfolding span_blocks
  span-entered = go (is_short t len)
    where
      go : (y : Bool) → cond y (blocks_of t (short_of t p len)) 0 ≤ 2 * (at.settings t).levels
      go true = short-blocks t (short_of t p len) (2 * (at.settings t).levels) (λ q e. (short-entered t p len q low e).1)
      go false = omega arith

  -- No blocks for a span that is not short.
  pub span-other : is_short t len ≡ false → span_blocks t p len ≡ 0
  unfolding span_blocks
  span-other is = rw is

  -- For a short one the blocks of its walk, at least one, if the walk does not break.
  pub span-walked : is_short t len ≡ true → span_reached t p len ≡ true
      → (q : Short) × (short_of t p len ≡ some q) × (span_blocks t p len ≡ length q.visits) × (1 ≤ length q.visits)
  unfolding span_reached span_blocks
  span-walked is reached = go (short_of t p len) refl (rw is at reached)
    where
      go : (o : Option Short) → short_of t p len ≡ o → holds t o ≡ true
          → (q : Short) × (short_of t p len ≡ some q) × (cond (is_short t len) (blocks_of t (short_of t p len)) 0 ≡ length q.visits) × (1 ≤ length q.visits)
      go none e h = absurd (let z : ◌≡◌ {A = ℕ} 0 1 = cc in omega arith)
      go (some q) e h = (q, e, rw (is, e), (short-entered t p len q low e).0)

  -- If the bytes of a span are reached, there are as many as its length.
  pub span-length : span_reached t p len ≡ true → length (span_bytes t p len) ≡ len
  unfolding span_bytes
  span-length reached = go (bool_cases (is_short t len))
    where
      both : (q : Short) → Inside t len q → length (substring t q.from q.size ++ substring t q.next (len - q.size)) ≡ len
      both q in_tree =
          rw (
            length-append (substring t q.from q.size) (substring t q.next (len - q.size)),
            length-substring t q.from q.size in_tree.first_in,
            length-substring t q.next (len - q.size) in_tree.next-in,
          )
          (omega (arith, in_tree.few))

      go : (is_short t len ≡ true) ⊎ (is_short t len ≡ false)
          → length (cond (is_short t len) (short_bytes t len (short_of t p len)) (tabulate len (λ k. (byte_answer t (p + k)).value))) ≡ len
      go (inl is) =
          let w = span-walked is reached in
          rw (is, w.1) (both w.0 (short-inside t (header-facts t r) p len (short-span t len is) w.0 w.1))
      go (inr is) = rw is (length-tabulate len (λ k. (byte_answer t (p + k)).value))

-- Any accepted tree.
module _ (t : List ℕ) (v : check_result t ≡ 0) where
  abbrev r : header_result t ≡ 0
  r = accepted-header t v

  abbrev k : Readable t
  k = header-facts t r

  abbrev d : Linked t
  d = linked-facts t (accepted-links t v)

  -- In layout 2 the walk of a short span holds, and gives the text's bytes.
  module _ (p len : ℕ) (fits : p + len ≤ at.text_length t) (is : is_short t len ≡ true) where
    sort : ShortSpan t len
    sort = short-span t len is

    abbrev reads : walks.Reads (text_of t) t k d sort.two (exact.fitting t k d) len sort.low sort.high (short_of t p len) p
    reads = walks.walk-text (text_of t) t k d sort.two (exact.fitting t k d) len sort.low sort.high
        (exact.edged-all (text_of t) t k d sort.two (exact.fitting t k d) (accepted-edges t v)) p fits

    pub short-holds : (q : Short) × (short_of t p len ≡ some q)
    short-holds = (reads.found, reads.is)

    pub short-text : short_bytes t len (short_of t p len) ≡ substring (text_of t) p len
    short-text = walks.reads_bytes (text_of t) t k d sort.two (exact.fitting t k d) len sort.low sort.high (short_of t p len) p reads

  -- Every span of the text is reached.
  pub span-reached : (p len : ℕ) → p + len ≤ at.text_length t → span_reached t p len ≡ true
  unfolding span_reached
  span-reached p len fits = go (bool_cases (is_short t len))
    where
      go : (is_short t len ≡ true) ⊎ (is_short t len ≡ false) → cond (is_short t len) (holds t (short_of t p len)) (paths_hold t p len) ≡ true
      go (inl y) = rw (y, (short-holds p len fits y).1)
      go (inr y) = rw y (paths.paths-all t r (accepted-links t v) p len fits)

  -- The bytes of a span are those of the text.
  bytes : (p len : ℕ) → p + len ≤ at.text_length t → span_bytes t p len ≡ substring (text_of t) p len
  unfolding span_bytes
  bytes p len fits = go (bool_cases (is_short t len))
    where
      go : (is_short t len ≡ true) ⊎ (is_short t len ≡ false)
          → cond (is_short t len) (short_bytes t len (short_of t p len)) (tabulate len (λ k. (byte_answer t (p + k)).value)) ≡ substring (text_of t) p len
      go (inl y) = rw y (short-text p len fits y)
      go (inr y) = rw y (paths.bytes-all t r (accepted-links t v) p len fits)

  -- Span, with room for it, is not refused, and leaves the text's bytes in the buffer.
  pub span-good : (p len room : ℕ) → p + len ≤ at.text_length t → len ≤ room → span_refusal t p len room ≡ 0
  unfolding span_refusal span_questions
  span-good p len room fits h = rw (r, le-leb _ _ fits, le-leb _ _ h, span-reached p len fits)

  pub span-of-text : (p len : ℕ) (buffer : List ℕ) → p + len ≤ at.text_length t → len ≤ length buffer
      → span_buffer t p len buffer ≡ substring (text_of t) p len ++ drop len buffer
  unfolding span_buffer buffer_after
  span-of-text p len buffer fits h = rw (span-good p len (length buffer) fits h, bytes p len fits)
