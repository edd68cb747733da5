use borrow.Author.Rules.{rules}
use Rattle.query_info.specs.Info.{counted_byte}
use Rattle.query_info.proofs.InfoLaws as laws
use Rattle.query_info.proofs.counted_bytes.Goals as goal

pub wide-requires : goal.wide-requires
unfolding counted_byte
wide-requires c = search rules

pub wide-requires-2 : goal.wide-requires-2
unfolding counted_byte
wide-requires-2 c = search rules

pub wide-requires-3 : goal.wide-requires-3
unfolding counted_byte
wide-requires-3 c = search rules

pub wide-requires-4 : goal.wide-requires-4
unfolding counted_byte
wide-requires-4 c = search rules

pub returns : goal.returns
unfolding counted_byte
returns c = laws.four
    _ _ _ _ _ c.wide.ensures c.wide-2.ensures c.wide-3.ensures c.wide-4.ensures
