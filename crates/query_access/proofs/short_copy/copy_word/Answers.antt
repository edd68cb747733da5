use Rattle.query_access.proofs.ShortCopyLaws.{word_copied}
use Rattle.query_access.proofs.short_copy.copy_word.Goals as goal

pub returns : goal.returns
returns c = word_copied c.args.text.now (λ k. (c.shared_slice_known-1.given k).fits) c.args.from _ c.read.ensures c.args.out.now _ c.args.to c.write.ensures
