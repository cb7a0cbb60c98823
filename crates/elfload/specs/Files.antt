-- The files that the program is given, and their objects (this project's own).
use Rattle.std.specs.Prelude.{◌≡◌, ℕ, List, IfSome, IsSomeAnd, is_some, true, None, Ok, Err, slice_get}
use Rattle.std.specs.Borrow.{Bor}
use Rattle.elf_base.specs.FileHeader.{header_of}
use Rattle.elfload.specs.Types.{ElfError, ElfFile, Input}
use Rattle.elf_linking.specs.DynamicView.{dynamic_segment_of}
use Rattle.elfload.specs.Plans.{IsInputLoaded}

-- the file that these bytes are has a plan, with pages of a size
abbrev pub AreBytesLoaded : ℕ → List ℕ → Type 0
AreBytesLoaded page bytes = (input : Bor (List ℕ)) × (input.now ≡ bytes) × IsInputLoaded page input

-- the same of each input
abbrev pub AreLoaded : ℕ → List Input → Type 0
AreLoaded page inputs = (i : ℕ) → IfSome (slice_get inputs i) (λ input. AreBytesLoaded page input.bytes.items)

-- bytes are no file with a dynamic segment: they have no header, or the file has none
pub data AreStatic (bytes : List ℕ) : Type 0 where
  no_file : (error : ElfError) → header_of bytes ≡ Err error → AreStatic bytes
  no_segment : (file : ElfFile) → file.input.now ≡ bytes → header_of bytes ≡ Ok file.header
      → dynamic_segment_of file ≡ None → AreStatic bytes

-- bytes are a file with a dynamic segment
pub record AreDynamic (bytes : List ℕ) : Type 0 where
  pub file : ElfFile
  pub input_is : file.input.now ≡ bytes
  pub header_is : header_of bytes ≡ Ok file.header
  pub has_segment : is_some (dynamic_segment_of file) ≡ true

-- none of the inputs is a file with a dynamic segment
abbrev pub AreAllStatic : List Input → Type 0
AreAllStatic inputs = (i : ℕ) → IfSome (slice_get inputs i) (λ input. AreStatic input.bytes.items)

-- one of the inputs is a file with a dynamic segment
pub record HasDynamic (inputs : List Input) : Type 0 where
  pub index : ℕ
  pub is_dynamic : IsSomeAnd (slice_get inputs index) (λ input. AreDynamic input.bytes.items)
