use Rattle.keys.proofs.FormLaws.{code-early, code-space, code-long, code-more}
use Rattle.keys.proofs.key_state.in_code.Goals as goal

pub returns-then-k-eq0 : goal.returns-then-k-eq0
returns-then-k-eq0 c = code-early _ _ c.if-byte-eq32.true c.if-k-eq0.true

pub returns-then-byte-eq32 : goal.returns-then-byte-eq32
returns-then-byte-eq32 c = code-space _ _ c.if-byte-eq32.true c.if-k-eq0.false

pub returns-then-k-ge-MAX_CODE : goal.returns-then-k-ge-MAX_CODE
returns-then-k-ge-MAX_CODE c = code-long _ _ c.if-byte-eq32.false c.if-k-ge-MAX_CODE.true

pub returns : goal.returns
returns c = code-more _ _ c.if-byte-eq32.false c.if-k-ge-MAX_CODE.false
