-- Examples, computed from the definitions: a small book's tree, intact and damaged.
use Rattle.std.specs.Prelude.{List, [], ◌∷◌, ◌++◌, ◌≡◌, refl, ℕ, replicate, take}
use Rattle.text.specs.Text.{tabulate, concat, sum_below, count_below, all_below, same_list, substring, leftmost, first_from, count_in}
use Rattle.format.specs.Layout.{word_at, words_bytes, word_bytes, set_word, block_length, pieces, record_length, length_ok, sizes_ok, counted_ok, rising, rising_after}
use Rattle.format.specs.Blocks.{tree_of, header, leaf_bytes, level_pairs, record_bytes, level_bytes, record_in, record_of, target, occurrence, width, is_kept}
use Rattle.format.specs.Blocks.{starts_at, cut, kept_by_pairs, first_pair_at, pair_at, length_of, start_of}
use Rattle.format.specs.Layout.{edges_of, filled_out}
use Rattle.format.specs.Layout as at
use Rattle.format.specs.TreeReading.{path_of, path_from, target_place, target_block, pointing_block, is_kept_block, resolves, resolved_block, resolved_place}
use Rattle.format.specs.TreeReading.{resolved_visits, text_of}
use Rattle.format.specs.TreeReading.{header_result}
use Rattle.format.specs.Answers.{byte_answer, paths_hold, buffer_after}
use Rattle.sha256.specs.Sha256.{rotr, ch, maj, big_sigma0, big_sigma1, sigma0, sigma1, constants, initial_state, length_bytes, padding, padded, word_bE}
use Rattle.sha256.specs.Sha256.{block_at, schedule, round, rounds, add_states, compressed, state_after, bytes_bE, state_bytes, hash_of, sha256}
use Rattle.query_digest.specs.Digest.{digest_refusal, digest_buffer}

-- AB1, AB2, AC3, each with its byte 10
digest-book : List ℕ
digest-book = 65 ∷ 66 ∷ 49 ∷ 10 ∷ 65 ∷ 66 ∷ 50 ∷ 10 ∷ 65 ∷ 67 ∷ 51 ∷ 10 ∷ []

digest-tree : List ℕ
digest-tree = tree_of (record { leaf = 2; arity = 2; levels = 2; counted = [] }) digest-book

-- The kind of level 0 block 2 (places 8 to 11) is no kind.
digest-broken : List ℕ
digest-broken = set_word digest-tree 144 2

-- A buffer of n bytes 238.
digest-lent : ℕ → List ℕ
digest-lent n = replicate n 238

pub record DigestMarked : Type 0 where
  -- The digest of the book; the byte after it is unchanged.
  whole : (digest_refusal digest-tree 33 ≡ 0) × (digest_buffer digest-tree (digest-lent 33) ≡
      247 ∷ 109 ∷ 230 ∷ 96 ∷ 206 ∷ 91 ∷ 184 ∷ 54 ∷ 158 ∷ 68 ∷ 202 ∷ 171 ∷ 95 ∷ 217 ∷ 171 ∷ 177
      ∷ 15 ∷ 26 ∷ 32 ∷ 15 ∷ 193 ∷ 205 ∷ 27 ∷ 162 ∷ 136 ∷ 202 ∷ 24 ∷ 99 ∷ 20 ∷ 44 ∷ 150 ∷ 77 ∷ 238 ∷ [])
  -- 13: the buffer is unchanged
  short : (digest_refusal digest-tree 31 ≡ 13) × (digest_buffer digest-tree (digest-lent 31) ≡ digest-lent 31)
  -- 14: zeros in the 32 bytes; 13 comes before it
  damaged : (digest_refusal digest-broken 33 ≡ 14) × (digest_buffer digest-broken (digest-lent 33) ≡ replicate 32 0 ++ 238 ∷ [])
  before : (digest_refusal digest-broken 31 ≡ 13) × (digest_buffer digest-broken (digest-lent 31) ≡ digest-lent 31)
  unread : (digest_refusal (take 99 digest-tree) 0 ≡ 5) × (digest_refusal (set_word digest-tree 0 9) 0 ≡ 6)
      × (digest_refusal (set_word digest-tree 4 13) 0 ≡ 7)

pub digest-marked : DigestMarked
unfolding digest-book digest-tree set_word digest-broken digest-lent digest_refusal digest_buffer buffer_after paths_hold text_of tabulate concat sum_below
    count_below all_below same_list
    word_at words_bytes word_bytes substring leftmost first_from count_in block_length pieces record_length length_ok sizes_ok counted_ok rising rising_after
    tree_of header leaf_bytes level_pairs record_bytes edges_of filled_out level_bytes record_in record_of target occurrence width is_kept starts_at cut
    kept_by_pairs first_pair_at pair_at length_of start_of path_of path_from target_place target_block pointing_block is_kept_block resolves resolved_block resolved_place
    resolved_visits header_result at.leaf_byte byte_answer at.block_length_at at.level_count at.level_offset rotr ch maj big_sigma0 big_sigma1 sigma0 sigma1 constants
    initial_state length_bytes padding padded word_bE block_at schedule round rounds add_states compressed state_after bytes_bE state_bytes hash_of sha256
    at.layout at.text_length at.counted_count at.settings at.leaf_offset at.leaf_count at.record_size at.field at.start at.kind at.link at.gap at.before
    at.inside at.skip at.edges_at at.full_length at.is_kept at.is_pointing at.has_edges at.holds_header at.layout_ok at.is_header_ok
digest-marked = record {
  whole = (refl, refl);
  short = (refl, refl);
  damaged = (refl, refl);
  before = (refl, refl);
  unread = (refl, refl, refl);
}
