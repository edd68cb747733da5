-- What digest returns for any bytes given as a tree, and what the caller's buffer contains afterwards.
-- docs/FORMAT.md: "Digest".
use Rattle.std.specs.Prelude.{List, [], ◌∷◌, ℕ, length, leb}
use Rattle.format.specs.Layout as at
use Rattle.format.specs.TreeReading.{text_of, asks, or_next, header_result}
use Rattle.format.specs.Answers.{paths_hold, buffer_after}
use Rattle.sha256.specs.Sha256.{sha256}

module _ (t : List ℕ) where
  -- The refusal: 5 to 7, then 13 if the buffer has fewer than 32 bytes, then 14 if some place of the text has no path.
  unfoldable pub digest_refusal : ℕ → ℕ
  digest_refusal room =
      or_next (header_result t) (asks ((13, leb 32 room) ∷ (14, paths_hold t 0 (at.text_length t)) ∷ []))

  -- The buffer afterwards, by the rule of span for 32 bytes: the SHA-256 of the bytes that the paths give; zeros if refused with 14; unchanged for any other
  -- refusal.
  unfoldable pub digest_buffer : List ℕ → List ℕ
  digest_buffer out = buffer_after t (digest_refusal (length out)) 32 (sha256 (text_of t)) out
