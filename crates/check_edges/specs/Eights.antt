-- Eight bytes as one number.
use Rattle.std.specs.Prelude.{List, ℕ, ◌+◌, ◌*◌, get_or}

-- The eight bytes of t at `at`, lowest first.
abbrev pub eight_at : List ℕ → ℕ → ℕ
eight_at t at =
    get_or t at 0
    + 256 * get_or t (at + 1) 0
    + 65536 * get_or t (at + 2) 0
    + 16777216 * get_or t (at + 3) 0
    + 4294967296 * get_or t (at + 4) 0
    + 1099511627776 * get_or t (at + 5) 0
    + 281474976710656 * get_or t (at + 6) 0
    + 72057594037927936 * get_or t (at + 7) 0
