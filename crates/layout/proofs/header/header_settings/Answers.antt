use borrow.Author.Rules.{rules}
use borrow.Author.Tests.{lt-leb}
use Rattle.format.specs.Layout.{length_ok, max_text}
use Rattle.layout.proofs.HeaderCheck as laws
use Rattle.layout.proofs.header.header_settings.Goals as goal

pub read-n-requires : goal.read-n-requires
unfolding length_ok
read-n-requires c = search rules

pub returns-then-n-gt-MAX_TEXT : goal.returns-then-n-gt-MAX_TEXT
unfolding length_ok
returns-then-n-gt-MAX_TEXT c = laws.wrong _ (laws.header-length _ _ c.read-n.ensures (simp (lt-leb _ max_text c.if-n-gt-MAX_TEXT.true)))

pub read-k-requires : goal.read-k-requires
unfolding length_ok
read-k-requires c = search rules

pub returns-then-k-gt-MAX_COUNTED : goal.returns-then-k-gt-MAX_COUNTED
unfolding length_ok
returns-then-k-gt-MAX_COUNTED c = laws.wrong _ (laws.header-many c.args.t.now _ c.read-k.ensures c.if-k-gt-MAX_COUNTED.true)

pub read-requires : goal.read-requires
unfolding length_ok
read-requires c = search rules

pub read-requires-2 : goal.read-requires-2
unfolding length_ok
read-requires-2 c = search rules

pub read-requires-3 : goal.read-requires-3
unfolding length_ok
read-requires-3 c = search rules

pub new-checked-requires : goal.new-checked-requires
unfolding length_ok
new-checked-requires c = search rules

pub returns-in_default : goal.returns-in_default
unfolding length_ok
returns-in_default c = laws.wrong _ (laws.header_refused
    c.args.t.now _ _ _ _ c.read.ensures c.read-2.ensures c.read-3.ensures
    c.read-k.ensures c.if-k-gt-MAX_COUNTED.false _ _ c.new-checked.ensures c.in_default.is)

pub returns : goal.returns
unfolding length_ok
returns c = laws.settings-fine c.args.t.now _ _ _ _ c.read.ensures
    c.read-2.ensures c.read-3.ensures c.read-k.ensures c.if-k-gt-MAX_COUNTED.false _ c.read-n.ensures
    c.if-n-gt-MAX_TEXT.false _ _ c.new-checked.ensures c.in-Ok.is c.requires
