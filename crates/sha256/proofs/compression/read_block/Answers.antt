use Rattle.std.proofs.Common.{◌≡◌, ◌+◌, ◌*◌, drop, arith}
use Rattle.text.specs.ListLaws.{tab-none, tab-more}
use Rattle.sha256.specs.Sha256.{word_bE}
use Rattle.sha256.proofs.CompressionLaws.{block_read}
use Rattle.sha256.proofs.compression.read_block.Goals as goal

pub loop-t-init : goal.loop-t-init
loop-t-init c = tab-none (λ t. word_bE c.args.bytes.now (c.args.at + 4 * t)) c.args.words.now

pub loop-t-preserved : goal.loop-t-preserved
loop-t-preserved c =
    tab-more c.loop-t.t _ (λ t. word_bE c.args.bytes.now (c.args.at + 4 * t)) c.args.words.now c.loop-t.words
    (omega (arith, c.requires.1)) c.word.ensures c.loop-t.invariant

pub returns : goal.returns
returns c = let e : c.loop-t.t ≡ 16 = omega arith in
    block_read _ (drop 16 c.args.words.now) _ _ (rw e at c.loop-t.invariant)
