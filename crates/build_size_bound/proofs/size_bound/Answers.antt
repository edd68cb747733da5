use native.Mathlib.Omega.{arith}
use Rattle.refusals.specs.RefusalsLaws.{passed-on}
use Rattle.build_size_bound.proofs.SizeBoundLaws as laws
use Rattle.build_size_bound.proofs.size_bound.Goals as goal

pub returns-then-n-gt-MAX_TEXT : goal.returns-then-n-gt-MAX_TEXT
returns-then-n-gt-MAX_TEXT c = laws.long c.args.n c.args.leaf c.args.arity c.args.levels c.args.counted c.if-n-gt-MAX_TEXT.true

pub returns-in_err-s : goal.returns-in_err-s
returns-in_err-s c = rw (passed-on _ _ c.from_residual.ensures.1) (laws.sizes-refused
    c.args.n c.args.leaf c.args.arity c.args.levels c.args.counted c.if-n-gt-MAX_TEXT.false _ c.new.ensures _ c.in_err-s.was)

pub returns-then-counted-gt-MAX_COUNTED : goal.returns-then-counted-gt-MAX_COUNTED
returns-then-counted-gt-MAX_COUNTED c = laws.many-counted c.args.n c.args.leaf
    c.args.arity c.args.levels c.args.counted c.if-n-gt-MAX_TEXT.false _ c.new.ensures _ c.in_ok-s.was c.if-counted-gt-MAX_COUNTED.true

pub record_size-size-requires : goal.record_size-size-requires
record_size-size-requires c = let f = laws.fine-sized c.args.n c.args.leaf c.args.arity c.args.levels c.args.counted
    c.if-n-gt-MAX_TEXT.false _ c.new.ensures _ c.in_ok-s.was in (f.0.bounds.leaf_high, c.if-counted-gt-MAX_COUNTED.false)

pub blocks-requires : goal.blocks-requires
blocks-requires c = let f = laws.fine-sized c.args.n c.args.leaf c.args.arity
    c.args.levels c.args.counted c.if-n-gt-MAX_TEXT.false _ c.new.ensures _ c.in_ok-s.was in (f.0, f.1, c.if-n-gt-MAX_TEXT.false)

pub overflow_mul-result : goal.overflow_mul-result
overflow_mul-result c = omega (arith, laws.bytes-few _ _ c.record_size-size.ensures.1 c.blocks-2.ensures.1)

pub overflow_add-result-2 : goal.overflow_add-result-2
overflow_add-result-2 c = omega (
  arith,
  c.if-n-gt-MAX_TEXT.false,
  laws.bytes-few _ _ c.record_size-size.ensures.1 c.blocks-2.ensures.1,
)

pub returns : goal.returns
returns c = laws.size-bound-is c.args.n c.args.leaf c.args.arity c.args.levels c.args.counted c.if-n-gt-MAX_TEXT.false
    _ c.new.ensures _ c.in_ok-s.was c.if-counted-gt-MAX_COUNTED.false _ c.blocks-2.ensures.0 _ c.record_size-size.ensures.0
