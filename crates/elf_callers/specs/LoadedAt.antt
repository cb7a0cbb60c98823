-- The loaded segment that an address lies in (gABI, "Program Header": PT_LOAD, p_vaddr and p_memsz).
use Rattle.std.specs.Prelude.{◌≡◌, ℕ, ◌+◌, ◌<◌, ◌≤◌, Ok}
use Rattle.xmas_elf.specs.ProgramHeader.{program_fields, segment_type}
use Rattle.xmas_elf.specs.SegmentType.TheVariants.{Load}
use Rattle.xmas_elf.specs.Types.{ProgramHeader}

-- the address is one of the memory of a segment to be loaded
abbrev pub IsLoadedAt : ℕ → ProgramHeader → Type 0
IsLoadedAt address program = let segment = program_fields program in
    (segment_type segment ≡ Ok Load) × (segment.virtual_addr ≤ address)
    × (address < segment.virtual_addr + segment.mem_size)
