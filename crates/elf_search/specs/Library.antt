-- Whether a file that a search took can be loaded as a library (glibc 2.36; gABI, "Program Header": PT_LOAD and PT_DYNAMIC;
-- DT_FLAGS_1 of Solaris and GNU, `elf.h`).
use Rattle.std.specs.Prelude.{ℕ, ◌==◌, not, false, bit_and, Bool, List, [], ◌∷◌, Option, None, Some, is_some}
use Rattle.std.specs.List.{find}
use Rattle.elf_base.specs.FileHeader.{header_fields, type_number}
use Rattle.elf_linking.specs.Segments.{segments_of}
use Rattle.elf_linking.specs.declared.segments.Segment.{Segment}
use Rattle.elf_linking.specs.declared.view.tags.TheConstants.{DT_FLAGS_1}
use Rattle.elf_records.specs.declared.dynamic.Dynamic.{Dynamic}
use Rattle.xmas_elf.specs.Types.{ElfFile}
use Rattle.elf_library.specs.Segments.{dynamic_address}
use Rattle.elf_search.specs.Names.{last_number}
use Rattle.elf_search.specs.declared.error.SearchError.{SearchError}
use Rattle.elf_search.specs.declared.error.SearchError.TheVariants as error

-- a segment is loaded (PT_LOAD)
abbrev pub is_load : Segment → Bool
is_load segment = segment.kind == 1

-- some segment is loaded
abbrev pub has_load : List Segment → Bool
has_load segments = is_some (find is_load segments)

-- the file is an executable of a fixed address (ET_EXEC)
abbrev pub is_executable : ElfFile → Bool
is_executable file = type_number (header_fields file.header.pt2).type_ == 2

-- why the file is no library, in order
abbrev pub library_rows : ElfFile → List (Bool × SearchError)
library_rows file =
    (not (has_load (segments_of file)), error.NoLoad)
    ∷ (is_executable file, error.Executable)
    ∷ (dynamic_address (segments_of file) == 0, error.NoDynamic)
    ∷ []

-- a number of flags, if there is one, has all bits of a flag
abbrev pub has_bits : ℕ → Option ℕ → Bool
has_bits flag None = false
has_bits flag (Some flags) = bit_and flags flag == flag

-- the last entry DT_FLAGS_1 has a flag
abbrev pub has_flag_1 : ℕ → List (Dynamic ℕ) → Bool
has_flag_1 flag entries = has_bits flag (last_number DT_FLAGS_1 None entries)

-- why a library is an executable (DF_1_PIE)
abbrev pub shared_rows : List (Dynamic ℕ) → List (Bool × SearchError)
shared_rows entries = (has_flag_1 0x8000000 entries, error.SharedExecutable) ∷ []
