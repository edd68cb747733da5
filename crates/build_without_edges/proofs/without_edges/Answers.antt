use native.Mathlib.Omega.{arith}
use Rattle.layout.specs.HeaderFields.{header-good}
use Rattle.refusals.specs.RefusalsLaws.{passed-on}
use Rattle.build_without_edges.proofs.WithoutEdgesLaws as laws
use Rattle.build_without_edges.proofs.without_edges.Goals as goal

pub by_header-requires : goal.by_header-requires
by_header-requires c = header-good _ _ c.read_header.ensures _ c.in_ok-h.was

pub returns : goal.returns
returns c = record {
  refusal = c.by_header.ensures.result_value;
  size = c.by_header.ensures.result_value_2;
  buffer = c.by_header.ensures.out_after;
  bytes = λ x. omega (arith, c.shared_slice_known-1.given x);
}

pub returns-in_err-h : goal.returns-in_err-h
returns-in_err-h c =
    let z = laws.unread _ c.args.out.now _ c.read_header.ensures _ c.in_err-h.was in
    rw (passed-on _ _ c.from_residual.ensures.1)
    (record { refusal = z.0; size = z.1.0; buffer = z.1.1; bytes = λ x. omega (arith, c.shared_slice_known-1.given x) })
