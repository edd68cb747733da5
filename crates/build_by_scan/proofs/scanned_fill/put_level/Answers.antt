use Rattle.build_by_scan.proofs.scanned_fill.put_level.Goals as goal

pub scan_level-windows-requires : goal.scan_level-windows-requires
scan_level-windows-requires c = c.requires

pub fill_scanned-requires : goal.fill_scanned-requires
fill_scanned-requires c = (c.requires.0, c.scan_level-windows.ensures.table_gives_marking)

pub returns : goal.returns
returns c = record { level_done = c.fill_scanned.ensures; windows_value = c.scan_level-windows.ensures.value }
