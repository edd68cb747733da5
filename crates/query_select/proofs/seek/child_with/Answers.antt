use mathlib.Core.Path.{refl}
use native.Mathlib.Omega.{arith}
use Rattle.layout.proofs.ShapeLaws.{shapes}
use Rattle.walk_steps.proofs.StepLaws.{kept_in, field-there, b-small, b-pos}
use Rattle.query_select.proofs.LandLaws as laws
use Rattle.query_select.proofs.SeekLaws as counts
use Rattle.query_select.proofs.seek.child_with.Goals as goal

pub shape_of-shape-requires : goal.shape_of-shape-requires
shape_of-shape-requires c = c.requires.0.on.facts.long

pub link-link-requires : goal.link-link-requires
link-link-requires c = field-there _ _ _ _ _ 2 c.requires.0.on (kept_in _ _ _ c.requires.0.kept) (omega arith)

pub block_length-bytes-requires : goal.block_length-bytes-requires
block_length-bytes-requires c = record { on = c.requires.0.on; block_in = kept_in _ _ _ c.requires.0.kept }

pub children-count-requires : goal.children-count-requires
children-count-requires c = (
  omega (arith, c.block_length-bytes.ensures.1, b-small _ _ _ _ c.requires.0.on),
  b-pos _ _ _ _ c.requires.1,
  b-small _ _ _ _ c.requires.1,
  counts.full-below _ _ _ _ _ _ c.requires.0.on c.requires.1 (shapes _ _ c.shape_of-shape.ensures).arity_is,
)

pub overflow_add-on : goal.overflow_add-on
overflow_add-on c = omega (arith, c.requires.1.level_in, c.requires.1.facts.bounds.levels_high)

pub level_count-table-requires : goal.level_count-table-requires
level_count-table-requires c = (omega (arith, c.requires.1.level_in, c.requires.1.facts.bounds.levels_high), c.requires.1.facts.long)

pub returns-then-table-link : goal.returns-then-table-link
returns-then-table-link c =
    let family : laws.Family c.args.t.now c.args.field c.args.on.level c.args.on.b c.args.parent.block.0
    c.args.parent.below c.args.j c.link-link.result.0 c.children-count.result = record {
      kept = c.requires.0;
      lower = c.requires.1;
      number_in = c.requires.2;
      low = c.requires.3;
      link_is = c.link-link.ensures;
      count_is = rw c.block_length-bytes.ensures.0 at c.children-count.ensures;
    } in
    laws.child-past _ _ _ _ _ _ _ _ _ family
    (omega (arith, c.level_count-table.ensures, c.if-table-link.true))

pub returns-then-count-eq0 : goal.returns-then-count-eq0
returns-then-count-eq0 c =
    let family : laws.Family c.args.t.now c.args.field c.args.on.level c.args.on.b c.args.parent.block.0
    c.args.parent.below c.args.j c.link-link.result.0 c.children-count.result = record {
      kept = c.requires.0;
      lower = c.requires.1;
      number_in = c.requires.2;
      low = c.requires.3;
      link_is = c.link-link.ensures;
      count_is = rw c.block_length-bytes.ensures.0 at c.children-count.ensures;
    } in
    laws.child-none _ _ _ _ _ _ _ _ _ family c.if-count-eq0.true

pub last_child-i-requires : goal.last_child-i-requires
last_child-i-requires c =
    let family : laws.Family c.args.t.now c.args.field c.args.on.level c.args.on.b c.args.parent.block.0
    c.args.parent.below c.args.j c.link-link.result.0 c.children-count.result = record {
      kept = c.requires.0;
      lower = c.requires.1;
      number_in = c.requires.2;
      low = c.requires.3;
      link_is = c.link-link.ensures;
      count_is = rw c.block_length-bytes.ensures.0 at c.children-count.ensures;
    } in
    laws.siblings _ _ _ _ _ _ _ _ _ family
    (omega (arith, c.level_count-table.ensures, c.if-table-link.false)) c.if-count-eq0.false

pub overflow_add-on-3 : goal.overflow_add-on-3
overflow_add-on-3 c = record { fits = omega (arith, c.requires.1.level_in, c.requires.1.facts.bounds.levels_high) }

pub rest_in-rest-requires : goal.rest_in-rest-requires
rest_in-rest-requires c =
    let family : laws.Family c.args.t.now c.args.field c.args.on.level c.args.on.b c.args.parent.block.0
    c.args.parent.below c.args.j c.link-link.result.0 c.children-count.result = record {
      kept = c.requires.0;
      lower = c.requires.1;
      number_in = c.requires.2;
      low = c.requires.3;
      link_is = c.link-link.ensures;
      count_is = rw c.block_length-bytes.ensures.0 at c.children-count.ensures;
    } in
    laws.alone _ _ _ _ _ _ _ _ _ family
    _ (omega (arith, c.level_count-table.ensures, c.if-table-link.false)) c.last_child-i.ensures

pub returns-then-rest-eq0 : goal.returns-then-rest-eq0
returns-then-rest-eq0 c =
    let family : laws.Family c.args.t.now c.args.field c.args.on.level c.args.on.b c.args.parent.block.0
    c.args.parent.below c.args.j c.link-link.result.0 c.children-count.result = record {
      kept = c.requires.0;
      lower = c.requires.1;
      number_in = c.requires.2;
      low = c.requires.3;
      link_is = c.link-link.ensures;
      count_is = rw c.block_length-bytes.ensures.0 at c.children-count.ensures;
    } in
    laws.child-without _ _ _ _ _ _ _ _ _ family
    _ (omega (arith, c.level_count-table.ensures, c.if-table-link.false)) c.last_child-i.ensures _ c.rest_in-rest.ensures c.if-rest-eq0.true

pub overflow_sub-result : goal.overflow_sub-result
overflow_sub-result c = omega (arith, c.last_child-i.ensures.low)

pub overflow_mul-result : goal.overflow_mul-result
overflow_mul-result c =
    let family : laws.Family c.args.t.now c.args.field c.args.on.level c.args.on.b c.args.parent.block.0
    c.args.parent.below c.args.j c.link-link.result.0 c.children-count.result = record {
      kept = c.requires.0;
      lower = c.requires.1;
      number_in = c.requires.2;
      low = c.requires.3;
      link_is = c.link-link.ensures;
      count_is = rw c.block_length-bytes.ensures.0 at c.children-count.ensures;
    } in
    let small = laws.child-place-small _ _ _ _ _ _ _ _ _ family
    _ (omega (arith, c.level_count-table.ensures, c.if-table-link.false)) c.last_child-i.ensures in
    omega (arith, small)

pub returns : goal.returns
returns c =
    let family : laws.Family c.args.t.now c.args.field c.args.on.level c.args.on.b c.args.parent.block.0
    c.args.parent.below c.args.j c.link-link.result.0 c.children-count.result = record {
      kept = c.requires.0;
      lower = c.requires.1;
      number_in = c.requires.2;
      low = c.requires.3;
      link_is = c.link-link.ensures;
      count_is = rw c.block_length-bytes.ensures.0 at c.children-count.ensures;
    } in
    laws.child-chosen _ _ _ _ _ _ _ _ _ family
    _ (omega (arith, c.level_count-table.ensures, c.if-table-link.false)) c.last_child-i.ensures _ c.rest_in-rest.ensures _ refl c.if-rest-eq0.false
