-- The input ranges of bytes at addresses (gABI, "Program Header": PT_LOAD).
use Rattle.std.specs.Prelude.{ℕ, ◌+◌, ◌-◌, ◌==◌, Option, None, Some, Result, Ok, Err, if◌then◌else◌}
use Rattle.elf_base.specs.FirstError.{and_then}
use Rattle.elf_base.specs.declared.error.ElfError.{ElfError}
use Rattle.elf_linking.specs.Loaded.{segment_at_of}
use Rattle.elf_linking.specs.declared.error.LinkError.TheVariants.{Address}
use Rattle.elf_linking.specs.Segments.{segment_bytes}
use Rattle.elf_linking.specs.declared.segments.Segment.{Segment}
use Rattle.xmas_elf.specs.declared.ElfFile.{ElfFile}
use Rattle.elf_c.specs.Records.{range_at}
use Rattle.elf_c.specs.Status.{and_so}
use Rattle.elf_c.specs.declared.names.Range.{Range}
use Rattle.elf_c.specs.declared.status.AnyError.{AnyError}
use Rattle.elf_c.specs.declared.status.AnyError.TheVariants.{Link}

-- the input range of the bytes of a segment, or why it has none: for an empty one the empty range at 0
abbrev pub bytes_range : ElfFile → Segment → Result Range ElfError
bytes_range file segment = and_then (segment_bytes file segment)
    (λ _. Ok (range_at (if segment.file_size == 0 then 0 else segment.offset) segment.file_size))

-- the input range of `count` bytes at an address, in the segment with these bytes
abbrev pub range_in_segment : ElfFile → ℕ → ℕ → Option Segment → Result Range AnyError
range_in_segment file address count None = Err (Link Address)
range_in_segment file address count (Some segment) = and_so (bytes_range file segment) (λ part.
    Ok (range_at (part.offset + (address - segment.address)) count))

-- the input range of `count` bytes at an address, in the first loaded segment with all of them
abbrev pub range_at_address : ElfFile → ℕ → ℕ → Result Range AnyError
range_at_address file address count = range_in_segment file address count (segment_at_of file address count)
