-- Addresses and pages (gABI, "Program Loading").
use Rattle.std.specs.Prelude.{ℕ, ◌+◌, ◌-◌, ◌%◌, ◌==◌, if◌then◌else◌}

-- the last address up to `address` at which a page begins
unfoldable pub down : ℕ → ℕ → ℕ
down page address = address - address % page

-- the first address from `address` on at which a page begins
unfoldable pub up : ℕ → ℕ → ℕ
up page address = if address % page == 0 then address else down page address + page
