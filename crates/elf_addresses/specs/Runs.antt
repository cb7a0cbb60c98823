-- Runs of bytes of a file with one owner, and the next begin of a part (this project's own).
use Rattle.std.specs.Prelude.{ℕ, ◌<◌, ◌≤◌}
use Rattle.xmas_elf.specs.Types.{ElfFile}
use Rattle.elf_addresses.specs.FileClaims.{byte_count}
use Rattle.elf_addresses.specs.Owner.{IsOwner}
use Rattle.elf_addresses.specs.declared.owner.Owner.{Owner}

-- each byte from `begin` up to `end` has the owner, and the byte at `end` has another one, or is past the file
pub record IsRun (file : ElfFile) (begin end : ℕ) (owner : Owner) : Type 0 where
  pub some : begin < end
  pub within : end ≤ byte_count file
  pub same : (byte : ℕ) → begin ≤ byte → byte < end → IsOwner file byte owner
  pub ends : end < byte_count file → IsOwner file end owner → ⊥

-- `next` is the first number after a byte at which something begins, or the limit if that is smaller
pub record IsNext (Begins : ℕ → Type 0) (byte limit next : ℕ) : Type 0 where
  pub bound : next ≤ limit
  pub first : (begin : ℕ) → byte < begin → Begins begin → next ≤ begin
  pub begins : next < limit → (byte < next) × Begins next
