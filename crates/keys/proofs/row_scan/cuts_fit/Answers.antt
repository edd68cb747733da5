use Rattle.std.proofs.Common.{◌+◌, ◌/◌, ◌∙◌, sym, length, arith}
use Rattle.std.proofs.lemmas.List.Edits.{get_or-between}
use Rattle.keys.proofs.RowScanLaws as laws
use Rattle.keys.proofs.row_scan.cuts_fit.Goals as goal

pub returns-then-not-cut_fits : goal.returns-then-not-cut_fits
returns-then-not-cut_fits c =
    let byte = get_or-between c.args.part.now c.args.at (c.args.at + length c.args.ranges.now / 2) c.loop-k.k 0 (omega arith) in
    laws.cut_out _ _ _ c.loop-k.k (omega arith) (rw byte at (sym c.cut_fits.ensures ∙ c.if-not-cut_fits.true))
