-- The bytes of a file that a symbol names (gABI, "Symbol Table", st_value and st_size, and "Program Header",
-- PT_TLS; that there are none if they are not all in the symbol's section is this project's own).
use Rattle.std.specs.Prelude.{ℕ, ◌+◌, ◌-◌, ◌%◌, ◌==◌, nat_lt, Bool, Option, Some, None, option_map, Result, Ok, Err, if◌then◌else◌}
use Rattle.std.specs.List.{find}
use Rattle.std.specs.Option.{option_and_then}
use Rattle.elf_base.specs.FileHeader.{header_fields, type_number}
use Rattle.elf_base.specs.FirstError.{and_then}
use Rattle.elf_base.specs.declared.error.ElfError.TheVariants.{ReservedSymbolIndex}
use Rattle.elf_records.specs.ProgramNumbers.{ph_type_number}
use Rattle.xmas_elf.specs.Prelude.{ElfError, ElfFile, ProgramHeader, SectionHeader}
use Rattle.xmas_elf.specs.ProgramHeader.{program_fields, program_list}
use Rattle.xmas_elf.specs.SectionData.{stored_range_of}
use Rattle.xmas_elf.specs.SectionHeader.{section_fields}
use Rattle.xmas_elf.specs.Symbol.{SymbolFields}
use Rattle.xmas_elf.specs.SymbolSection.{symbol_section_of}

-- a segment is the template of thread-local data (PT_TLS, 7)
abbrev pub is_template : ProgramHeader → Bool
is_template program = ph_type_number (program_fields program).type_ == 7

-- the first such segment
unfoldable pub template_of : ElfFile → Option ProgramHeader
template_of file = find is_template (program_list file)

-- the address of a symbol in a file that is linked: its value; that of a thread-local one (STT_TLS, 6) is its offset
-- in the template
abbrev pub symbol_address : ElfFile → SymbolFields → Option ℕ
symbol_address file symbol = if symbol.info % 16 == 6
    then option_map (λ program. (program_fields program).virtual_addr + symbol.value) (template_of file)
    else Some symbol.value

-- how far an address is after the first of a section
abbrev pub offset_after : ℕ → ℕ → Option ℕ
offset_after first address = if nat_lt address first then None else Some (address - first)

-- the offset of a symbol in its section: in an object file (ET_REL, 1) its value, otherwise that of its address
unfoldable pub symbol_offset : ElfFile → SymbolFields → SectionHeader → Option ℕ
symbol_offset file symbol section = if type_number (header_fields file.header.pt2).type_ == 1 then Some symbol.value
    else option_and_then (offset_after (section_fields section).address) (symbol_address file symbol)

-- the `count` bytes of a range from an offset in it on, if they are all in the range
abbrev pub part_of_range : ℕ → ℕ → ℕ × ℕ → Option (ℕ × ℕ)
part_of_range offset count range = if nat_lt range.1 (offset + count) then None else Some (range.0 + offset, count)

-- the range of the bytes that a file stores for a symbol of a section
unfoldable pub symbol_range_in : ElfFile → SymbolFields → SectionHeader → Result (Option (ℕ × ℕ)) ElfError
symbol_range_in file symbol section = and_then (stored_range_of file section) (λ stored. Ok (option_and_then
    (λ range. option_and_then (λ offset. part_of_range offset symbol.size range) (symbol_offset file symbol section)) stored))

-- the same by the result for the section: none for a symbol that has none (SHN_UNDEF, SHN_ABS, SHN_COMMON)
abbrev pub range_by_section : ElfFile → SymbolFields → Result SectionHeader ElfError → Result (Option (ℕ × ℕ)) ElfError
range_by_section file symbol (Ok section) = symbol_range_in file symbol section
range_by_section file symbol (Err ReservedSymbolIndex) = Ok None
range_by_section file symbol (Err error) = Err error

-- the range of the bytes that a file stores for symbol `self_index` of a table
abbrev pub symbol_range_of : ElfFile → SymbolFields → ℕ → Result (Option (ℕ × ℕ)) ElfError
symbol_range_of file symbol self_index = range_by_section file symbol (symbol_section_of file symbol self_index)
