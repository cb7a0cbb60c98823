-- What the program writes of the libraries that a file needs (this project's own): the bytes of the name of each on a
-- line.
use Rattle.std.specs.Prelude.{◌≡◌, ℕ, ◌++◌, ◌∷◌, List, [], Result, Ok, Err, codes, IsOk, IsOkAnd, ⊤}
use Rattle.std.specs.Borrow.{Bor}
use Rattle.std.specs.List.{AllZip, concat}
use Rattle.elf_base.specs.FileHeader.{header_of}
use Rattle.elf_base.specs.declared.error.ElfError.{ElfError}
use Rattle.elf_linking.specs.DynamicView.{dynamic_entries_of, needed_bytes_in, strings_by}
use Rattle.elf_linking.specs.declared.error.LinkError.{LinkError}
use Rattle.elf_linking.specs.declared.error.LinkError.TheVariants.{Elf}
use Rattle.program_ends.specs.Json.{json_line, member, name_value}
use Rattle.program_ends.specs.Names.{escaped}
use Rattle.program_ends.specs.declared.json.Form.{Form}
use Rattle.program_ends.specs.declared.json.Form.TheVariants.{Json, Text}
use Rattle.xmas_elf.specs.Prelude.{Dynamic}
use Rattle.xmas_elf.specs.Types.{ElfFile, Header}

-- the line of a library: its name with its control characters escaped, or as the member `needed`
abbrev pub library_text : Form → List ℕ → List ℕ
library_text Text name = escaped name ++ codes "\n"
library_text Json name = json_line (member (codes "needed") (name_value name) ∷ [])

-- the same of a name that can be read
abbrev pub IsLibraryLine : Form → Result (List ℕ) LinkError → List ℕ → Type 0
IsLibraryLine form found line = IsOkAnd found (λ name. line ≡ library_text form name)

-- the text is a line for each library, in order
pub record AreLibraryLines (form : Form) (libraries : List (Result (List ℕ) LinkError)) (text : List ℕ) : Type 0 where
  pub lines : List (List ℕ)
  pub each : AllZip (IsLibraryLine form) libraries lines
  pub text_is : text ≡ concat lines

-- the lines for a file: those of the libraries that its dynamic segment names
pub record AreFileLibraries (form : Form) (file : ElfFile) (text : List ℕ) : Type 0 where
  pub entries : List (Dynamic ℕ)
  pub entries_are : dynamic_entries_of file ≡ Ok entries
  pub lines : AreLibraryLines form (needed_bytes_in (strings_by file entries) entries) text

-- the lines for an input that is accepted
abbrev pub AreInputLibraries : Form → Bor (List ℕ) → List ℕ → Type 0
AreInputLibraries form input text = IsOkAnd (header_of input.now)
    (λ header. AreFileLibraries form (record { input = input; header = header }) text)

-- Why no such lines are written.

-- the error of the first name that can't be read: those before it have their lines
pub record IsNameError (form : Form) (libraries : List (Result (List ℕ) LinkError)) (error : LinkError) : Type 0 where
  pub earlier : List (Result (List ℕ) LinkError)
  pub later : List (Result (List ℕ) LinkError)
  pub split : earlier ++ (Err error ∷ later) ≡ libraries
  pub text : List ℕ
  pub lines : AreLibraryLines form earlier text

-- why a file gives no lines: its dynamic entries can't be read, or a name can't
pub data AreFileLibrariesFailed (form : Form) (file : ElfFile) (error : LinkError) : Type 0 where
  by_entries : dynamic_entries_of file ≡ Err error → AreFileLibrariesFailed form file error
  by_name : (entries : List (Dynamic ℕ)) → dynamic_entries_of file ≡ Ok entries
      → IsNameError form (needed_bytes_in (strings_by file entries) entries) error → AreFileLibrariesFailed form file error

-- why an input gives no lines: an error of its header, or of the file
pub data AreInputLibrariesFailed (form : Form) (input : Bor (List ℕ)) : LinkError → Type 0 where
  no_header : (error : ElfError) → header_of input.now ≡ Err error → AreInputLibrariesFailed form input (Elf error)
  no_lines : (header : Header) (error : LinkError) → header_of input.now ≡ Ok header
      → AreFileLibrariesFailed form (record { input = input; header = header }) error
      → AreInputLibrariesFailed form input error

-- How far the program has come when its first line is written.

-- the first of the names, if there is one, can be read
abbrev pub HasFirstLibrary : List (Result (List ℕ) LinkError) → Type 0
HasFirstLibrary [] = ⊤
HasFirstLibrary (name ∷ others) = IsOk name

-- the same of the names in a file
pub record AreFileLibrariesBegun (file : ElfFile) : Type 0 where
  pub entries : List (Dynamic ℕ)
  pub entries_are : dynamic_entries_of file ≡ Ok entries
  pub first : HasFirstLibrary (needed_bytes_in (strings_by file entries) entries)

-- the same of an input that is accepted
abbrev pub AreInputLibrariesBegun : Bor (List ℕ) → Type 0
AreInputLibrariesBegun input = IsOkAnd (header_of input.now)
    (λ header. AreFileLibrariesBegun (record { input = input; header = header }))
