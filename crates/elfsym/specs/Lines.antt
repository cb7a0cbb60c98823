-- What the program writes of references (this project's own): a line for each, with the value and the size of the
-- symbol that the reference is defined to get by the dynamic segment.
use Rattle.std.specs.Prelude.{◌≡◌, ◌≢◌, ◌<◌, ◌==◌, ℕ, ◌++◌, ◌∷◌, Bool, false, List, [], length, Option, None, Some, Ok, Err, codes, if◌then◌else◌, slice_get, take, IsOkAnd, ⊤}
use Rattle.std.specs.Borrow.{Bor}
use Rattle.std.specs.Fmt.{digits}
use Rattle.std.specs.List.{AllZip, after_first, before_first, concat, position_or_len}
use Rattle.elf_base.specs.FileHeader.{file_class, header_of}
use Rattle.elf_base.specs.declared.bytes.Order.{Order}
use Rattle.elf_base.specs.declared.error.ElfError.{ElfError}
use Rattle.elf_linking.specs.AnyTable.{IsCheckBy, IsGoodBy}
use Rattle.elf_linking.specs.DynamicObject.{AreVersionedSymbols, IsObjectError}
use Rattle.elf_linking.specs.Find.{AreReadable, DynamicSymbols, FindsRight, IsFound, exact_version}
use Rattle.elf_linking.specs.Serves.{serves_others}
use Rattle.elf_linking.specs.declared.error.LinkError.{LinkError}
use Rattle.elf_linking.specs.declared.error.LinkError.TheVariants.{Elf}
use Rattle.elf_linking.specs.declared.find.Use.TheVariants.{Any}
use Rattle.elf_linking.specs.declared.find.Wanted.{Wanted}
use Rattle.elf_linking.specs.declared.find.Wanted.TheVariants.{Newest}
use Rattle.program_ends.specs.Json.{json_line, member, text_value}
use Rattle.program_ends.specs.declared.json.Form.{Form}
use Rattle.program_ends.specs.declared.json.Form.TheVariants.{Json, Text}
use Rattle.program_ends.specs.declared.json.Member.{Member}
use Rattle.program_ends.specs.declared.json.Value.TheVariants.{Null, Number}
use Rattle.xmas_elf.specs.Symbol.{SymbolFields, dyn_entry_32, dyn_entry_32_fields, dyn_entry_64, dyn_entry_64_fields}
use Rattle.xmas_elf.specs.Types.{DynEntry32, DynEntry64, ElfFile, Header}

-- the members of the line of a reference: as it was asked for, and the value and the size of its symbol, or null for both
abbrev pub number_members : List ℕ → Option (ℕ × ℕ) → List Member
number_members reference (Some numbers) = member (codes "name") (text_value reference)
    ∷ member (codes "value") (Number numbers.0) ∷ member (codes "size") (Number numbers.1) ∷ []
number_members reference None = member (codes "name") (text_value reference)
    ∷ member (codes "value") Null ∷ member (codes "size") Null ∷ []

-- the line of a reference: the value and the size of its symbol in hexadecimal, or that there is none; or these members
abbrev pub line_text : Form → List ℕ → Option (ℕ × ℕ) → List ℕ
line_text Json reference numbers = json_line (number_members reference numbers)
line_text Text reference (Some numbers) =
    reference ++ (codes " 0x" ++ (digits 16 false numbers.0 ++ (codes " 0x" ++ (digits 16 false numbers.1 ++ codes "\n"))))
line_text Text reference None = reference ++ codes ": none\n"

-- a byte is '@'
abbrev pub is_at : ℕ → Bool
is_at byte = byte == 64

-- what a reference asks for: a name and, if it has an '@', the version after the first one; the name is the text
-- before it
pub data Asks (reference : List ℕ) : List ℕ → Wanted → Type 0 where
  newest : position_or_len is_at reference ≡ length reference → Asks reference reference Newest
  by_version : (version : Bor (List ℕ)) → position_or_len is_at reference < length reference
      → version.now ≡ after_first is_at reference
      → Asks reference (before_first is_at reference) (exact_version version)

-- the value and the size of a symbol, if it serves other files than its own
abbrev pub numbers_if_serving : SymbolFields → Option (ℕ × ℕ)
numbers_if_serving e = if serves_others e then Some (e.value, e.size) else None

-- the same of what was found
abbrev pub numbers_of_found : {E : Type 0} → (E → SymbolFields) → Option (ℕ × E) → Option (ℕ × ℕ)
numbers_of_found fields None = None
numbers_of_found fields (Some at) = numbers_if_serving (fields at.1)

-- the value and the size of the symbol that a search for the reference, for any use, has as its result, if it serves
-- other files, as `dlsym` and `dlvsym` have it; if the versions can be read, it is what the list of symbols says
pub record AreNumbers {E : Type 0} (file : DynamicSymbols E) (reference : List ℕ) (numbers : Option (ℕ × ℕ)) : Type 0 where
  pub name : List ℕ
  pub wanted : Wanted
  pub asked : Asks reference name wanted
  pub found : Option (ℕ × E)
  pub answer : IsFound file name wanted Any (Ok found)
  pub right : AreReadable file → FindsRight file name wanted Any (Ok found)
  pub numbers_are : numbers ≡ numbers_of_found file.symbols.fields found

-- the error that such a search has as its result; there is none if the versions can be read
pub record IsSearchError {E : Type 0} (file : DynamicSymbols E) (reference : List ℕ) (error : LinkError) : Type 0 where
  pub name : List ℕ
  pub wanted : Wanted
  pub asked : Asks reference name wanted
  pub answer : IsFound file name wanted Any (Err error)
  pub right : AreReadable file → FindsRight file name wanted Any (Err error)

-- the line of a reference by the symbols of a file
abbrev pub IsLine : {E : Type 0} → Form → DynamicSymbols E → List ℕ → List ℕ → Type 0
IsLine form file reference line =
    (numbers : Option (ℕ × ℕ)) × AreNumbers file reference numbers × (line ≡ line_text form reference numbers)

-- the text is a line for each reference, in order, by a hash table that passed its check
pub record AreLines {E S : Type 0} (form : Form) (text_of : S → List ℕ) (file : DynamicSymbols E) (references : List S) (text : List ℕ) : Type 0 where
  pub good : IsGoodBy file.table file.symbols
  pub lines : List (List ℕ)
  pub each : AllZip (λ reference line. IsLine form file (text_of reference) line) references lines
  pub text_is : text ≡ concat lines

-- the lines for a file: those by its dynamic symbols, of either class
pub data AreFileLines {S : Type 0} (form : Form) (text_of : S → List ℕ) (file : ElfFile) (references : List S) (text : List ℕ) : Type 0 where
  narrow : (all : DynamicSymbols DynEntry32) → AreVersionedSymbols 1 16 dyn_entry_32 dyn_entry_32_fields file all
      → AreLines form text_of all references text → AreFileLines form text_of file references text
  wide : (all : DynamicSymbols DynEntry64) → AreVersionedSymbols 2 24 dyn_entry_64 dyn_entry_64_fields file all
      → AreLines form text_of all references text → AreFileLines form text_of file references text

-- the lines for an input that is accepted
abbrev pub AreInputLines : {S : Type 0} → Form → (S → List ℕ) → Bor (List ℕ) → List S → List ℕ → Type 0
AreInputLines form text_of input references text = IsOkAnd (header_of input.now)
    (λ header. AreFileLines form text_of (record { input = input; header = header }) references text)

-- Why no such lines are written.

-- the error of the first search that has one: those for the references before it have none
pub record IsSearchFailed {E S : Type 0} (form : Form) (text_of : S → List ℕ) (file : DynamicSymbols E) (references : List S) (error : LinkError) : Type 0 where
  pub index : ℕ
  pub reference : S
  pub reference_is : slice_get references index ≡ Some reference
  pub lines : List (List ℕ)
  pub each : AllZip (λ earlier line. IsLine form file (text_of earlier) line) (take index references) lines
  pub error_is : IsSearchError file (text_of reference) error

-- why the symbols of a file give no lines: the error of the check of its hash table, or that of a search
pub data AreSymbolsFailed {E S : Type 0} (form : Form) (text_of : S → List ℕ) (file : DynamicSymbols E) (references : List S) (error : LinkError) : Type 0 where
  by_table : IsCheckBy file.table file.symbols (Err error) → AreSymbolsFailed form text_of file references error
  by_search : IsGoodBy file.table file.symbols → IsSearchFailed form text_of file references error
      → AreSymbolsFailed form text_of file references error

-- why a file of this class, with symbols of this size, gives no lines: its dynamic symbols can't be read, or
-- have an error
pub data AreLinesFailed {E S : Type 0} (class size : ℕ) (entry : Order → List ℕ → E) (fields : E → SymbolFields) (form : Form) (text_of : S → List ℕ) (file : ElfFile) (references : List S) (error : LinkError) : Type 0 where
  by_object : IsObjectError class size file error
      → AreLinesFailed class size entry fields form text_of file references error
  by_symbols : (all : DynamicSymbols E) → AreVersionedSymbols class size entry fields file all
      → AreSymbolsFailed form text_of all references error
      → AreLinesFailed class size entry fields form text_of file references error

-- why a file gives no lines, by its class; a file that is of no known class has no dynamic entries
pub data AreFileLinesFailed {S : Type 0} (form : Form) (text_of : S → List ℕ) (file : ElfFile) (references : List S) (error : LinkError) : Type 0 where
  narrow_file : file_class file.header ≡ 1
      → AreLinesFailed 1 16 dyn_entry_32 dyn_entry_32_fields form text_of file references error
      → AreFileLinesFailed form text_of file references error
  wide_file : file_class file.header ≢ 1
      → AreLinesFailed 2 24 dyn_entry_64 dyn_entry_64_fields form text_of file references error
      → AreFileLinesFailed form text_of file references error

-- why an input gives no lines: an error of its header, or of the file
pub data AreInputLinesFailed {S : Type 0} (form : Form) (text_of : S → List ℕ) (input : Bor (List ℕ)) (references : List S) : LinkError → Type 0 where
  no_header : (error : ElfError) → header_of input.now ≡ Err error
      → AreInputLinesFailed form text_of input references (Elf error)
  no_lines : (header : Header) (error : LinkError) → header_of input.now ≡ Ok header
      → AreFileLinesFailed form text_of (record { input = input; header = header }) references error
      → AreInputLinesFailed form text_of input references error

-- How far the program has come when its first line is written.

-- the first of the references, if there is one, has its line
abbrev pub HasFirstLine : {E S : Type 0} → Form → (S → List ℕ) → DynamicSymbols E → List S → Type 0
HasFirstLine form text_of file [] = ⊤
HasFirstLine form text_of file (reference ∷ others) = (line : List ℕ) × IsLine form file (text_of reference) line

-- the hash table passed its check, and the first reference has its line
abbrev pub AreLinesBegun : {E S : Type 0} → Form → (S → List ℕ) → DynamicSymbols E → List S → Type 0
AreLinesBegun form text_of file references = IsGoodBy file.table file.symbols × HasFirstLine form text_of file references

-- the same of a file, of either class
pub data AreFileLinesBegun {S : Type 0} (form : Form) (text_of : S → List ℕ) (file : ElfFile) (references : List S) : Type 0 where
  narrow_begun : (all : DynamicSymbols DynEntry32) → AreVersionedSymbols 1 16 dyn_entry_32 dyn_entry_32_fields file all
      → AreLinesBegun form text_of all references → AreFileLinesBegun form text_of file references
  wide_begun : (all : DynamicSymbols DynEntry64) → AreVersionedSymbols 2 24 dyn_entry_64 dyn_entry_64_fields file all
      → AreLinesBegun form text_of all references → AreFileLinesBegun form text_of file references

-- the same of an input that is accepted
abbrev pub AreInputLinesBegun : {S : Type 0} → Form → (S → List ℕ) → Bor (List ℕ) → List S → Type 0
AreInputLinesBegun form text_of input references = IsOkAnd (header_of input.now)
    (λ header. AreFileLinesBegun form text_of (record { input = input; header = header }) references)
