use Prim.Native.Nat.{◌≤◌}
use mathlib.Core.Path.{refl}
use native.Mathlib.Omega.{arith}
use Rattle.query_access.specs.ReadByRuns.{ReadsOn}
use Rattle.query_access.proofs.LeafRunLaws.{range-reads, range-broken}
use Rattle.query_places.proofs.PatternSeekLaws as laws
use Rattle.query_places.proofs.pattern_seek.seek.Goals as goal

pub loop-m-init : goal.loop-m-init
loop-m-init c =
    (laws.seeking-start _ _ _ _ c.requires.header_of.1 c.requires.header_of.2 _ refl refl refl, laws.hold-start _)

pub shape_of-table-in_default : goal.shape_of-table-in_default
shape_of-table-in_default c = laws.seeking-length _ _ _ _ _ _ c.loop-m.invariant.0

pub returns-in_default : goal.returns-in_default
returns-in_default c =
    laws.seek-broken _ _ _ _ _ _ c.loop-m.invariant.0 c.loop-m.invariant.1 (omega (arith, c.requires.header_of.0.length_is))
    (range-broken c.args.t.now c.loop-m.m.place.0 65536 _ c.range_at-range.ensures _ c.in_default.is).1

pub feed-m-requires : goal.feed-m-requires
feed-m-requires c =
    let part : ReadsOn c.args.t.now c.loop-m.m.place.0 c.in-Ok.part.from c.in-Ok.part.length
    × (1 ≤ c.in-Ok.part.length) × (c.in-Ok.part.length ≤ 65536) = range-reads _ _ 65536 _ c.range_at-range.ensures _ c.in-Ok.is in record {
      reads_on = (
        part.0,
        omega (arith, part.0.in_text, laws.places-text-small _ _ c.requires.header_of.0),
        laws.seeking-even _ _ _ _ _ _ c.loop-m.invariant.0 c.requires.header_of.1,
        omega (arith, laws.seeking-length _ _ _ _ _ _ c.loop-m.invariant.0, c.requires.header_of.2),
      );
      in_bounds = (c.requires.header_of.1, c.requires.pattern_len_bound.0, c.requires.pattern_len_bound.1, c.requires.pattern_len_bound.2);
    }

pub loop-m-smaller : goal.loop-m-smaller
loop-m-smaller c =
    let part : ReadsOn c.args.t.now c.loop-m.m.place.0 c.in-Ok.part.from c.in-Ok.part.length
    × (1 ≤ c.in-Ok.part.length) × (c.in-Ok.part.length ≤ 65536) = range-reads _ _ 65536 _ c.range_at-range.ensures _ c.in-Ok.is in
    let z = part in
    omega (arith, z.0.in_text, z.1, c.feed-m.ensures.0)

pub loop-m-preserved : goal.loop-m-preserved
loop-m-preserved c =
    let part : ReadsOn c.args.t.now c.loop-m.m.place.0 c.in-Ok.part.from c.in-Ok.part.length
    × (1 ≤ c.in-Ok.part.length) × (c.in-Ok.part.length ≤ 65536) = range-reads _ _ 65536 _ c.range_at-range.ensures _ c.in-Ok.is in
    (c.feed-m.ensures.1 _ c.loop-m.invariant.0, laws.seek-on _ _ _ _ _ _ c.loop-m.invariant.0 c.loop-m.invariant.1 _ _ _ part.0 c.feed-m.ensures.0)

pub shape_of-table : goal.shape_of-table
shape_of-table c = laws.seeking-length _ _ _ _ _ _ c.loop-m.invariant.0

pub returns : goal.returns
returns c =
    laws.seek-end _ _ _ _ _ _ c.loop-m.invariant.0 c.loop-m.invariant.1 c.requires.header_of.1 (omega (arith, c.requires.header_of.0.length_is, c.loop-m-test.false))
