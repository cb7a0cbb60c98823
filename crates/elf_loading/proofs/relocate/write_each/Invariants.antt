use Rattle.std.proofs.Common.{◌≡◌, ℕ, ◌+◌, ◌-◌, ◌&&◌, nat_le, nat_lt, length, get_or, if◌then◌else◌}
use Rattle.elf_loading.specs.Relocate.{byte_of_number}
use Rattle.elf_loading.proofs.relocate.write_each.Given as goal

-- the first bytes are written
abbrev pub invariant-loop-place : goal.invariant-loop-place
invariant-loop-place l = record {
  len : length l.image ≡ length l.fn.image;
  bytes : (i : ℕ) → get_or l.image i 0 ≡ (if nat_le l.index i && nat_lt i (l.index + l.place)
      then byte_of_number l.order l.width l.number (i - l.index) else get_or l.fn.image i 0);
}
