-- The sections that a dynamic linker reads (gABI, "Sections": SHT_RELR; SHT_GNU_HASH of GNU binutils and
-- glibc), in the class and byte order of the file.
use Rattle.std.specs.Prelude.{◌≡◌, ◌≢◌, List, Option, None, Some, Result, Ok, Err, ℕ, IsSomeAnd, MatchResult, ok_or}
use Rattle.elf_base.specs.FileHeader.{class_of, file_class, file_order}
use Rattle.elf_base.specs.FirstError.{and_then}
use Rattle.elf_linking.specs.DynamicView.{as_link_error, number_with}
use Rattle.elf_linking.specs.Layouts.{gnu_table_of}
use Rattle.elf_linking.specs.Loaded.{bytes_at_of}
use Rattle.elf_linking.specs.Relr.{relr_of, relr_rest}
use Rattle.elf_linking.specs.declared.error.LinkError.{LinkError}
use Rattle.elf_linking.specs.declared.error.LinkError.TheVariants.{NoEntry}
use Rattle.elf_linking.specs.declared.relr.Relr.{Relr}
use Rattle.elf_linking.specs.declared.view.tags.TheConstants.{DT_RELR, DT_RELRSZ}
use Rattle.elf_records.specs.declared.dynamic.Dynamic.{Dynamic}
use Rattle.xmas_elf.specs.Ranges.{range_of}
use Rattle.xmas_elf.specs.SectionData.{section_data_of}
use Rattle.xmas_elf.specs.SectionHeader.{section_fields}
use Rattle.xmas_elf.specs.declared.ElfFile.{ElfFile}
use Rattle.xmas_elf.specs.Types.{SectionHeader}

-- the result is `None` if a section is of another type than this, otherwise a result with the property
abbrev pub OnType : {A : Type 0} → ℕ → SectionHeader → (A → Type 0) → Option A → Type 0
OnType kind section P None = (section_fields section).type_ ≢ kind
OnType kind section P (Some answer) = ((section_fields section).type_ ≡ kind) × P answer

-- the bytes of the GNU hash table in a section's data, or why there is none
abbrev pub gnu_hash_in : ElfFile → SectionHeader → Result (List ℕ) LinkError
gnu_hash_in file section = and_then (as_link_error (section_data_of file section))
    (λ bytes. and_then (gnu_table_of (class_of (file_class file.header)) (file_order file.header) bytes) (λ _. Ok bytes))

-- the byte range of a section in the input, by its offset and its size, whatever its type
abbrev pub section_range_of : ElfFile → SectionHeader → Result (List ℕ) LinkError
section_range_of file section =
    as_link_error (range_of file.input.now (section_fields section).offset (section_fields section).size)

-- the addresses of the packed relocations in bytes, if there are bytes
abbrev pub relr_in : ElfFile → Result (List ℕ) LinkError → Result (List ℕ) LinkError
relr_in file (Ok bytes) = relr_of (class_of (file_class file.header)) (file_order file.header) bytes
relr_in file (Err error) = Err error

-- the addresses of the packed relocations at an address, by their size in bytes, or why there are none
abbrev pub relr_at : ElfFile → Option ℕ → ℕ → Result (List ℕ) LinkError
relr_at file size address = and_then (and_then (ok_or size NoEntry) (bytes_at_of file address))
    (relr_of (class_of (file_class file.header)) (file_order file.header))

-- the packed relocations of a dynamic segment (gABI, "Dynamic Section": DT_RELR and DT_RELRSZ); `None` if it has no
-- entry with their address
abbrev pub IsRelr : ElfFile → List (Dynamic ℕ) → Option (Result Relr LinkError) → Type 0
IsRelr file entries None = number_with DT_RELR entries ≡ None
IsRelr file entries (Some answer) = IsSomeAnd (number_with DT_RELR entries) (λ address.
    let addresses = relr_at file (number_with DT_RELRSZ entries) address in
    MatchResult answer (λ relr. addresses ≡ Ok (relr_rest relr)) (λ error. addresses ≡ Err error))
