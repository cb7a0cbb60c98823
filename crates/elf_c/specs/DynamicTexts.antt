-- Texts that entries of the dynamic segment name, as input ranges (gABI, "Dynamic Section": DT_NEEDED, DT_SONAME,
-- DT_RUNPATH and others, which are offsets in the string table of DT_STRTAB and DT_STRSZ).
use Rattle.std.specs.Prelude.{ℕ, ◌==◌, List, [], ◌∷◌, Option, Some, Result, Ok, Err, if◌then◌else◌}
use Rattle.elf_linking.specs.DynamicView.{dynamic_entries_of, number_with}
use Rattle.elf_linking.specs.declared.error.LinkError.{LinkError}
use Rattle.elf_linking.specs.declared.error.LinkError.TheVariants.{NoEntry}
use Rattle.elf_records.specs.Dynamic.{dynamic_tag, dynamic_value}
use Rattle.elf_records.specs.declared.dynamic.Dynamic.{Dynamic}
use Rattle.elf_linking.specs.declared.view.tags.TheConstants.{DT_STRSZ, DT_STRTAB}
use Rattle.xmas_elf.specs.declared.ElfFile.{ElfFile}
use Rattle.elf_c.specs.Addresses.{range_at_address}
use Rattle.elf_c.specs.Records.{record_in, range_at, text_range}
use Rattle.elf_c.specs.Status.{and_so, failure_number}
use Rattle.elf_c.specs.declared.names.Name.{Name}
use Rattle.elf_c.specs.declared.names.Range.{Range}
use Rattle.elf_c.specs.declared.status.AnyError.{AnyError}
use Rattle.elf_c.specs.declared.status.AnyError.TheVariants.{Link}

-- the input range of a string table, by its address and its size
abbrev pub string_table_range : ElfFile → Option ℕ → Option ℕ → Result Range AnyError
string_table_range file (Some address) (Some size) = range_at_address file address size
string_table_range file _ _ = Err (Link NoEntry)

-- the input range of the string table of the entries
abbrev pub strings_range : ElfFile → List (Dynamic ℕ) → Result Range AnyError
strings_range file entries = string_table_range file (number_with DT_STRTAB entries) (number_with DT_STRSZ entries)

-- the range of the text at an offset in a string table, or why there is none
abbrev pub range_in_strings : List ℕ → Result Range AnyError → ℕ → Result Range AnyError
range_in_strings input (Ok part) place = and_so (text_range input part place) (λ range. Ok range)
range_in_strings input (Err error) place = Err error

-- the range of a name with its status: the empty range at 0 if there is an error
abbrev pub linked_name : Result Range AnyError → Name
linked_name (Ok range) = record { range = range; status = 0 }
linked_name (Err error) = record { range = range_at 0 0; status = failure_number error }

-- the ranges of the texts at the offsets in the entries with a tag
abbrev pub texts_with : ℕ → List ℕ → Result Range AnyError → List (Dynamic ℕ) → List Name
texts_with tag input strings [] = []
texts_with tag input strings (entry ∷ entries) = if dynamic_tag entry == tag
    then linked_name (range_in_strings input strings (dynamic_value entry)) ∷ texts_with tag input strings entries
    else texts_with tag input strings entries

-- the range of that text at an index, or why there is none
abbrev pub text_among : ElfFile → ℕ → ℕ → Result (List (Dynamic ℕ)) LinkError → Result Name AnyError
text_among file tag index (Ok entries) =
    record_in (λ name. name) (texts_with tag file.input.now (strings_range file entries) entries) index
text_among file tag index (Err error) = Err (Link error)

-- that range of a file, or why there is none
abbrev pub dynamic_text_at : ElfFile → ℕ → ℕ → Result Name AnyError
dynamic_text_at file tag index = text_among file tag index (dynamic_entries_of file)
