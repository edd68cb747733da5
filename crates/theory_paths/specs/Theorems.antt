-- Theorems about paths and about the text of a tree.
-- docs/FORMAT.md: "The text that a tree represents", "The path of a place".
use Rattle.std.specs.Prelude.{List, ◌++◌, true, ◌≡◌, ℕ, ◌+◌, ◌-◌, ◌*◌, ◌/◌, ◌%◌, ◌≤◌, ◌<◌, length, get_or, drop}
use Rattle.std.proofs.Math.Option.{some}
use Rattle.std.proofs.Common.{arith}
use Rattle.text.specs.Text.{substring, tabulate}
use Rattle.format.specs.Layout as at
use Rattle.format.specs.TreeReading.{Path, Visit, entered, path_from, path_of, links_ok, text_of, header_result}
use Rattle.format.specs.FittingText.{fits}
use Rattle.format.specs.LayoutLaws.{Readable, header-facts}
use Rattle.format.specs.Answers.{byte_answer, run_answer, paths_hold, copy_refusal, copy_buffer}
use Rattle.theory_paths.specs.Links.{Linked, linked-facts}
use Rattle.theory_paths.specs.Visits.{Goes, goes, goes-length, goes-short, pointers}
use Rattle.theory_paths.specs.PathWalk.{path-holds}
use Rattle.theory_paths.specs.Reach.{reach}
use Rattle.theory_paths.specs.OneText as one
use Rattle.theory_paths.specs.Reads as reads

-- Any tree that passes questions 5 to 7.
module _ (t : List ℕ) (r : header_result t ≡ 0) (p : ℕ) (q : Path) (e : path_of t p ≡ some q) where
  -- A path goes down one level at a time: from a kept block to a child, from a pointing block first to a kept block of its level.
  pub path-goes : Goes t ((at.settings t).levels - 1) 0 (p / at.full_length t 0) (p % at.full_length t 0) q.visits q.leaf
  unfolding path_of
  path-goes = goes t ((at.settings t).levels - 1) 0 (p / at.full_length t 0) (p % at.full_length t 0) q e

  -- A path enters one block a level, plus one for each pointing block.
  pub blocks-entered : length q.visits ≡ (at.settings t).levels + pointers t q.visits
  blocks-entered = omega (arith, goes-length t path-goes, (header-facts t r).bounds.levels_low)

  -- A path enters at most 2H - 1 blocks.
  pub path-short : length q.visits ≤ 2 * (at.settings t).levels - 1
  path-short = omega (arith, goes-short t path-goes, (header-facts t r).bounds.levels_low)

  -- Byte answers with the leaf byte at the path's end and the number of blocks entered.
  pub byte-by-path : p < at.text_length t → byte_answer t p ≡ record { number = 0; value = at.leaf_byte t q.leaf; entered = length q.visits }
  byte-by-path h = reads.byte-of-path t (header-facts t r) r p h q e

  -- Run answers with a part of the tree that is a part of its text from p: at least one byte, within the tree and the text.
  pub run-by-path : p < at.text_length t → reads.Part t p (run_answer t p).0 (run_answer t p).1
  run-by-path h = reads.run-part t (header-facts t r) r p h q e

-- Any tree that passes questions 5 to 8.
module _ (t : List ℕ) (r : header_result t ≡ 0) (h : links_ok t ≡ true) where
  k : Readable t
  k = header-facts t r

  d : Linked t
  d = linked-facts t h

  -- No path breaks.
  pub no-path-breaks : (p : ℕ) → p < at.text_length t → (q : Path) × (path_of t p ≡ some q)
  no-path-breaks = path-holds t k d

  -- The path of a block's place passes through the block.
  pub path-passes : (l i o : ℕ) → l < (at.settings t).levels → i < at.level_count t l → o < at.block_length_at t l i
      → (vs : List Visit) × (path_of t (at.start t l i + o) ≡ entered vs (path_from t ((at.settings t).levels - 1 - l) l i o))
  path-passes l i o hl hi ho = let w = reach t k d l i o hl hi ho in (w.visits, w.path)

  -- Exactly one text fits the tree: the text that its paths give, which has n bytes.
  pub text-size : length (text_of t) ≡ at.text_length t
  text-size = one.text-length t

  pub text-fits : fits (text_of t) t ≡ true
  text-fits = one.text-fits t k d

  pub only-text : (T : List ℕ) → fits T t ≡ true → T ≡ text_of t
  only-text = one.fits-same t k d

  -- Byte answers with the text's byte, and with the length of the place's path.
  pub byte-of-text : (p : ℕ) → p < at.text_length t
      → (q : Path) × (path_of t p ≡ some q) × (byte_answer t p ≡ record { number = 0; value = get_or (text_of t) p 0; entered = length q.visits })
  byte-of-text p hp =
      let w = no-path-breaks p hp in
      (w.0, w.1, rw (reads.text-of-path t k r p hp w.0 w.1) (reads.byte-of-path t k r p hp w.0 w.1))

  -- Run answers with bytes of the text from p, at least one.
  pub run-of-text : (p : ℕ) → p < at.text_length t → reads.Part t p (run_answer t p).0 (run_answer t p).1
  run-of-text p hp = let w = no-path-breaks p hp in reads.run-part t k r p hp w.0 w.1

  -- The paths of all places hold, and give the text's bytes.
  pub paths-all : (p len : ℕ) → p + len ≤ at.text_length t → paths_hold t p len ≡ true
  paths-all p len fits = reads.paths-hold t k r no-path-breaks len p fits

  pub bytes-all : (p len : ℕ) → p + len ≤ at.text_length t → tabulate len (λ x. (byte_answer t (p + x)).value) ≡ substring (text_of t) p len
  bytes-all = reads.bytes-of-text t k r no-path-breaks

  -- Copying bytes by their paths, with room for them, is not refused, and leaves the text's bytes in the buffer.
  pub copy-good : (p len room : ℕ) → p + len ≤ at.text_length t → len ≤ room → copy_refusal t p len room ≡ 0
  copy-good = reads.copy-number t k r no-path-breaks

  pub copy-of-text : (p len : ℕ) (buffer : List ℕ) → p + len ≤ at.text_length t → len ≤ length buffer
      → copy_buffer t p len buffer ≡ substring (text_of t) p len ++ drop len buffer
  copy-of-text = reads.copy-leaves t k r no-path-breaks
