use native.Mathlib.Omega.{arith}
use mathlib.Core.Path.{ap₂, ◌∙◌}
use Prim.Native.Nat.{ℕ}
use Rattle.text.specs.Text.{substring}
use Rattle.scan_rolling_hash.specs.Fingerprints.{fingerprint}
use Rattle.scan_hash_table.specs.Entries.{bytes_at}
use Rattle.scan_pass.proofs.enter.block_fingerprint.Goals as goal

pub overflow_mul-i : goal.overflow_mul-i
unfolding bytes_at
overflow_mul-i c = omega (arith, c.requires.0.items_few, c.requires.1)

pub bytes_of-own-requires : goal.bytes_of-own-requires
unfolding bytes_at
bytes_of-own-requires c = (c.requires.0, c.requires.1)

pub fingerprint_at-requires : goal.fingerprint_at-requires
unfolding bytes_at
fingerprint_at-requires c = c.bytes_of-own.ensures.fits

pub returns : goal.returns
unfolding bytes_at
returns c = c.fingerprint_at.ensures ∙ ap₂ (λ (s n : ℕ). fingerprint c.args.it.seed (substring c.args.text.now s n))
    c.bytes_of-own.ensures.start_is c.bytes_of-own.ensures.length_is
