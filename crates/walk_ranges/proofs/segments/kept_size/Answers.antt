use Prim.Native.Nat.{◌-◌}
use native.Mathlib.Omega.{arith}
use native.Mathlib.Nat.{mul-le-mul_left}
use Rattle.format.specs.Layout as at
use Rattle.walk_steps.proofs.StepLaws.{field-there, kept_in, b-small}
use Rattle.walk_ranges.specs.Segments.{full_width}
use Rattle.walk_ranges.proofs.LeafEndLaws.{steps-one, steps-more}
use Rattle.walk_ranges.proofs.NextSegmentLaws as laws
use Rattle.walk_ranges.proofs.segments.kept_size.Goals as goal

pub link-first-requires : goal.link-first-requires
link-first-requires c = field-there _ _ _ _ _ 2 c.requires.0 (kept_in _ _ _ c.requires.1) (omega arith)

pub loop-next-init : goal.loop-next-init
loop-next-init c = record {
  whole = omega (arith, steps-one c.args.from.block.0 (at.full_length c.args.t.now c.args.on.level), c.requires.0.b_is, c.requires.2);
  links = omega (arith, steps-one c.args.from.block.0 (full_width c.args.t.now c.args.on.level), c.link-first.ensures, c.width-step.ensures);
  near = omega arith;
  kept = laws.kept-first _ c.requires.0.facts _ c.requires.0.level_in _ _ (omega (arith, c.requires.0.b_is)) _ c.requires.1 (omega (arith, c.requires.0.b_is));
}

pub returns-then-most-n : goal.returns-then-most-n
returns-then-most-n c = c.loop-next.invariant.kept

pub overflow_add-n : goal.overflow_add-n
overflow_add-n c = record { fits = omega (arith, b-small _ _ _ _ c.requires.0, c.if-most-n.false, c.requires.3) }

-- The links go on no faster than the bytes.
pub overflow_add-link-in-loop-next : goal.overflow_add-link-in-loop-next
overflow_add-link-in-loop-next c =
    let narrow = (laws.width-in _ _ c.requires.0.facts c.requires.0.level_in).1 in
    record {
      fits = omega (
        arith,
        mul-le-mul_left (c.loop-next.next - c.args.from.block.0) narrow,
        narrow,
        c.loop-next.invariant.whole,
        c.loop-next.invariant.links,
        c.loop-next.invariant.near,
        c.requires.3,
        c.requires.0.b_is,
        b-small _ _ _ _ c.requires.0,
        c.width-step.ensures,
        c.link-first.ensures,
        c.link-first.type_inv.1.1.0.1,
      );
    }

pub loop-next-preserved : goal.loop-next-preserved
loop-next-preserved c =
    let i = c.args.from.block.0 in
    let next = c.loop-next.next in record {
      whole = omega (
        arith,
        steps-more i next (at.full_length c.args.t.now c.args.on.level) (omega (arith, c.loop-next.auto.next)),
        c.loop-next.invariant.whole,
        c.requires.0.b_is,
      );
      links = omega (
        arith,
        steps-more i next (full_width c.args.t.now c.args.on.level) (omega (arith, c.loop-next.auto.next)),
        c.loop-next.invariant.links,
        c.width-step.ensures,
      );
      near = omega (arith, c.if-most-n.false);
      kept = rw c.requires.0.b_is (laws.kept_more _ c.requires.0.facts _ c.requires.0.level_in _ _ (omega (arith, c.requires.0.b_is)) _ (next - i) _ _
          c.loop-next.invariant.kept c.loop-next.invariant.whole (omega (arith, c.loop-next.auto.next)) c.loop-next.invariant.links
          _ c.continues.ensures c.if-not-continues.false);
    }

pub returns : goal.returns
returns c = c.loop-next.invariant.kept
