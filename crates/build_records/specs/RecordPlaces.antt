-- The offsets of records.
use Rattle.std.specs.Prelude.{ℕ, ◌+◌, ◌*◌}
use Rattle.format.specs.Layout.{Settings}
use Rattle.format.specs.Blocks.{record_bytes}

-- The offset of the record of block i; the records of the level begin at `table`.
abbrev pub record_place : ℕ → ℕ → Settings → ℕ
record_place table i S = table + i * record_bytes S
