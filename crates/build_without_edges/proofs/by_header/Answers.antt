use mathlib.Core.Path.{◌∙◌}
use Rattle.build_without_edges.proofs.WithoutEdgesLaws as laws
use Rattle.build_without_edges.proofs.by_header.Goals as goal

pub records_between-count-requires : goal.records_between-count-requires
records_between-count-requires c = (laws.offset-low _ _ c.requires, laws.size-pos _ _ c.requires)

pub returns-then-out-size : goal.returns-then-out-size
returns-then-out-size c = let both = laws.no_room _ c.args.out.now c.requires.passes _
    (laws.size-right _ _ c.requires _ _ _ (laws.stride-right _ _ c.requires _ c.record_size-stride.ensures.0)
    (c.records_between-count.ensures.0 ∙ laws.count-right _ _ c.requires) c.table_bytes.ensures.0) c.if-out-size.true in record { result_value = both.0; result_value_2 = both.1.0; out_after = both.1.1 }

pub write_all-requires : goal.write_all-requires
write_all-requires c = let stride = laws.stride-right _ _ c.requires _ c.record_size-stride.ensures.0 in
    let count = c.records_between-count.ensures.0 ∙ laws.count-right _ _ c.requires in record {
      header = c.requires;
      stride_is = stride;
      count_is = count;
      small = rw c.requires.offset_is at c.records_between-count.ensures.1;
      room = rw (laws.size-right _ _ c.requires _ _ _ stride count c.table_bytes.ensures.0) at c.if-out-size.false;
    }

pub returns : goal.returns
returns c = let both = laws.written _ c.args.out.now c.requires.passes _
    (laws.size-right _ _ c.requires _ _ _ (laws.stride-right _ _ c.requires _ c.record_size-stride.ensures.0)
    (c.records_between-count.ensures.0 ∙ laws.count-right _ _ c.requires) c.table_bytes.ensures.0) _
    c.if-out-size.false c.write_all.ensures in record { result_value = both.0; result_value_2 = both.1.0; out_after = both.1.1 }
