use mathlib.Core.Path.{◌≡◌, ap, ◌∙◌}
use native.Mathlib.Omega.{arith}
use Prim.Native.Nat.{◌%◌}
use Rattle.sha256.specs.DigestWritten.{last_blocks_size}
use Rattle.sha256.proofs.LastBlocksLaws.{size_is, finished}
use Rattle.sha256.proofs.finalize.Goals as goal

pub write-requires : goal.write-requires
write-requires c = let e : c.size-size.result ≡ last_blocks_size (c.args.n % 64) = c.size-size.ensures ∙ ap last_blocks_size c.requires in
    (c.requires, e, omega (arith, size_is c.args.n))

pub hash_blocks-requires : goal.hash_blocks-requires
hash_blocks-requires c = let e : c.size-size.result ≡ last_blocks_size (c.args.n % 64) = c.size-size.ensures ∙ ap last_blocks_size c.requires in
    omega (arith, size_is c.args.n, c.write.auto.last)

pub returns : goal.returns
returns c = let e : c.size-size.result ≡ last_blocks_size (c.args.n % 64) = c.size-size.ensures ∙ ap last_blocks_size c.requires in
    c.hash_blocks.ensures ∙ finished c.args.rest.now c.args.n c.requires c.args.s _ _ _ e c.write.ensures
