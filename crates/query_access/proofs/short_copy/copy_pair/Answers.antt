use Rattle.query_access.proofs.ShortCopyLaws.{pair-copied}
use Rattle.query_access.proofs.short_copy.copy_pair.Goals as goal

pub returns : goal.returns
returns c = pair-copied c.args.text.now (λ k. (c.shared_slice_known-1.given k).fits) c.args.from _ _ c.read-low.ensures c.read-high.ensures
    c.args.out.now _ _ c.args.to c.write.ensures c.write-2.ensures
