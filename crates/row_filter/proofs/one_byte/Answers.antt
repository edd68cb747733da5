use Rattle.row_filter.proofs.ScanStepLaws.{byte-ends, byte-leads}
use Rattle.row_filter.proofs.one_byte.Goals as goal

pub returns-in-Found : goal.returns-in-Found
returns-in-Found g c = byte-ends _ _ _ _ _ c.requires.1 _ c.scan_byte.ensures _ c.in-Found.is

pub returns-in-On : goal.returns-in-On
returns-in-On g c = byte-leads _ _ _ _ _ c.requires.1 _ c.scan_byte.ensures _ _ c.in-On.is
