-- The addresses in packed relative relocations, of a section and of the dynamic segment (gABI, "Relocation", SHT_RELR,
-- and "Dynamic Section", DT_RELR).
use Rattle.std.specs.Prelude.{ℕ, ◌==◌, List, Option, None, Some, Result, Ok, Err, if◌then◌else◌}
use Rattle.elf_linking.specs.DynamicView.{dynamic_entries_of, number_with}
use Rattle.elf_linking.specs.LinkedSections.{relr_at, relr_in, section_range_of}
use Rattle.elf_linking.specs.declared.error.LinkError.{LinkError}
use Rattle.elf_linking.specs.declared.sections.TheConstants.{SHT_RELR}
use Rattle.elf_linking.specs.declared.view.tags.TheConstants.{DT_RELR, DT_RELRSZ}
use Rattle.elf_records.specs.declared.dynamic.Dynamic.{Dynamic}
use Rattle.xmas_elf.specs.SectionHeader.{section_fields, section_of}
use Rattle.xmas_elf.specs.Types.{ElfFile, SectionHeader}
use Rattle.elf_c.specs.Records.{record_in}
use Rattle.elf_c.specs.Status.{and_so}
use Rattle.elf_c.specs.declared.status.AnyError.{AnyError}
use Rattle.elf_c.specs.declared.status.AnyError.TheVariants.{Link, NoRecord, OtherData}

-- the address at an index, or why there is none
abbrev pub address_among : ℕ → Result (List ℕ) LinkError → Result ℕ AnyError
address_among index (Ok addresses) = record_in (λ address. address) addresses index
address_among index (Err error) = Err (Link error)

-- the address at an index in a section
abbrev pub address_in : ElfFile → ℕ → SectionHeader → Result ℕ AnyError
address_in file index section = if (section_fields section).type_ == SHT_RELR
    then address_among index (relr_in file (section_range_of file section)) else Err OtherData

-- the address at an index in the section at an index
abbrev pub packed_address : ElfFile → ℕ → ℕ → Result ℕ AnyError
packed_address file section index = and_so (section_of file section) (address_in file index)

-- the address at an index in the packed relocations at an address, if there are any, by their size
abbrev pub address_by : ElfFile → ℕ → Option ℕ → Option ℕ → Result ℕ AnyError
address_by file index size None = Err NoRecord
address_by file index size (Some address) = address_among index (relr_at file size address)

-- the address at an index in those of the entries, if these can be read
abbrev pub entries_address : ElfFile → ℕ → Result (List (Dynamic ℕ)) LinkError → Result ℕ AnyError
entries_address file index (Ok entries) =
    address_by file index (number_with DT_RELRSZ entries) (number_with DT_RELR entries)
entries_address file index (Err error) = Err (Link error)

-- the address at an index in those of a file's dynamic segment, or why there is none
abbrev pub dynamic_packed_address : ElfFile → ℕ → Result ℕ AnyError
dynamic_packed_address file index = entries_address file index (dynamic_entries_of file)
