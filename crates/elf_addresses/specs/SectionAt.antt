-- The addresses of a section (gABI, "Sections", sh_addr, sh_size and sh_flags).
use Rattle.std.specs.Prelude.{◌≡◌, ◌≢◌, ℕ, ◌+◌, ◌≤◌, ◌<◌, bit_and}
use Rattle.xmas_elf.specs.SectionHeader.{SectionFields}

-- the section is in memory (SHF_ALLOC, 2), is not thread-local (SHF_TLS, 0x400), and contains the address
pub record HoldsAddress (section : SectionFields) (address : ℕ) : Type 0 where
  pub in_memory : bit_and section.flags 2 ≢ 0
  pub shared : bit_and section.flags 0x400 ≡ 0
  pub begins : section.address ≤ address
  pub ends : address < section.address + section.size
