-- What the program writes of a file (this project's own): a line for each part, with its size and its share.
use Rattle.std.specs.Prelude.{◌≡◌, ℕ, ◌*◌, ◌/◌, ◌%◌, ◌++◌, ◌==◌, ◌||◌, List, [], Option, None, Some, codes, decimal, Result, Ok, Err, if◌then◌else◌, max, ⊤}
use Rattle.std.specs.Borrow.{Bor}
use Rattle.std.specs.List.{flat_map}
use Rattle.elf_addresses.specs.FileClaims.{byte_count}
use Rattle.elfsize.specs.Json.{capped, size_record}
use Rattle.elfsize.specs.Sides.{IsSide}
use Rattle.elfsize.specs.Symbols.{AreRunsBy, or_mark, symbol_name_in}
use Rattle.elfsize.specs.Totals.{AreSizes, all_bytes}
use Rattle.elfsize.specs.declared.lines.AnyError.{AnyError}
use Rattle.elfsize.specs.declared.lines.AnyError.TheVariants.{Elf, Many, Memory}
use Rattle.elfsize.specs.declared.side.Side.{Side}
use Rattle.elfsize.specs.declared.symbols.Symbols.{Symbols}
use Rattle.elfsize.specs.declared.totals.Run.{Run}
use Rattle.program_ends.specs.declared.json.Form.{Form}
use Rattle.program_ends.specs.declared.json.Form.TheVariants as forms
use Rattle.elfsize.specs.declared.view.Options.{Options}
use Rattle.program_ends.specs.Names.{escaped}
use Rattle.xmas_elf.specs.NameTable.{shstr_bytes_of}
use Rattle.xmas_elf.specs.SectionHeader.{section_fields, section_of}
use Rattle.xmas_elf.specs.Types.{ElfError, ElfFile, SectionHeader}

-- the name of the section at an index, or `?` if it can't be read
abbrev pub name_or_mark : ElfFile → Result SectionHeader ElfError → List ℕ
name_or_mark file (Ok section) = or_mark (shstr_bytes_of file (section_fields section).name)
name_or_mark file (Err error) = codes "?"

-- the name of the section at an index of a file, as it is written
abbrev pub section_name : ElfFile → ℕ → List ℕ
section_name file index = name_or_mark file (section_of file index)

-- the name of a part: a section has one, and a symbol
abbrev pub part_name : ElfFile → Symbols → ℕ → List ℕ
part_name file symbols part = if part % 4 == 0 then section_name file (part / 4)
    else (if part % 4 == 2 then symbol_name_in symbols (part / 4) else [])

-- the text of a part without an index
abbrev pub other_text : ℕ → List ℕ
other_text index =
    if index == 0 then codes "ELF header"
    else (if index == 1 then codes "program headers"
    else (if index == 2 then codes "section headers"
    else (if index == 3 then codes "between parts" else codes "after all parts")))

-- the text of a part before its name
abbrev pub label_text : ℕ → List ℕ
label_text part =
    if part % 4 == 0 then codes "section " ++ (decimal (part / 4) ++ codes " ")
    else (if part % 4 == 1 then codes "segment " ++ decimal (part / 4)
    else (if part % 4 == 2 then codes "symbol " ++ (decimal (part / 4) ++ codes " ") else other_text (part / 4)))

-- a size in a file of n bytes, in hundredths of a percent, without the fraction
abbrev pub share_of : ℕ → ℕ → ℕ
share_of n size = (size * 10000) / max n 1

-- a size, and its share
abbrev pub amount_text : ℕ → ℕ → List ℕ
amount_text n size = let share = share_of n size in
    decimal size ++ (codes " " ++ (decimal (share / 100) ++ (codes "." ++ (decimal (share / 10 % 10) ++ (decimal (share % 10) ++ codes "% ")))))

-- the line of a part before its name
abbrev pub start_text : ℕ → ℕ → ℕ → List ℕ
start_text n size part = amount_text n size ++ label_text part

-- what a part is, in one word or two
abbrev pub kind_word : ℕ → List ℕ
kind_word part =
    if part % 4 == 0 then codes "section"
    else (if part % 4 == 1 then codes "segment" else (if part % 4 == 2 then codes "symbol" else other_text (part / 4)))

-- the index of a part, where it has one
abbrev pub index_of : ℕ → Option ℕ
index_of part = if part % 4 == 3 then None else Some (part / 4)

-- the name of a part as JSON has it: that of a section or of a symbol; other parts have none
abbrev pub name_of : ℕ → List ℕ → Option (List ℕ)
name_of part name = if part % 4 == 0 || part % 4 == 2 then Some name else None

-- the line of a part
abbrev pub line_text : Form → List ℕ → ElfFile → Symbols → Run → List ℕ
line_text forms.Text path file symbols one =
    start_text (byte_count file) one.size one.part ++ (escaped (part_name file symbols one.part) ++ codes "\n")
line_text forms.Json path file symbols one =
    size_record (Some path) (kind_word one.part) (index_of one.part) (name_of one.part (part_name file symbols one.part)) one.size
    (Some (capped (share_of (byte_count file) one.size)))

-- the line of the sum of the sizes
abbrev pub sum_line : ℕ → List ℕ
sum_line n = amount_text n n ++ codes "sum\n"

-- the sum of the sizes, in the form that is asked for
abbrev pub sum_text : Form → List ℕ → ℕ → List ℕ
sum_text forms.Text path n = sum_line n
sum_text forms.Json path n = size_record (Some path) (codes "sum") None None n (Some (capped (share_of n n)))

-- the line of the path; as JSON, each line has the path
abbrev pub head_text : Form → List ℕ → List ℕ
head_text forms.Text path = path ++ codes "\n"
head_text forms.Json path = []

-- the text of a file at a path: the path, the lines, and the sum
abbrev pub sizes_text : Form → List ℕ → ElfFile → Symbols → List Run → List ℕ
sizes_text form path file symbols sizes =
    head_text form path ++ (flat_map (line_text form path file symbols) sizes ++ sum_text form path (byte_count file))

-- the sizes of the parts of a file, with the bytes of sections by symbol if there are symbols; they sum to its size
pub record AreFileSizes (file : ElfFile) (symbols : Symbols) (sizes : List Run) : Type 0 where
  pub runs : List Run
  pub are_runs : AreRunsBy symbols file runs
  pub are_sizes : AreSizes runs sizes
  pub sum : all_bytes sizes ≡ byte_count file

-- the text is that of the sizes of the parts of a file
abbrev pub IsTextBy : Form → List ℕ → Side → List ℕ → Type 0
IsTextBy form path side text = (sizes : List Run) × AreFileSizes side.file side.symbols sizes
    × (text ≡ sizes_text form path side.file side.symbols sizes)

-- the same of an input, with the symbols that are asked for
unfoldable pub IsInputText : Options → List ℕ → Bor (List ℕ) → List ℕ → Type 0
IsInputText options path input text = (side : Side) × IsSide options input side × IsTextBy options.form path side text

-- the reason is that memory is short
abbrev pub IsShort : AnyError → Type 0
IsShort (Elf error) = ⊥
IsShort Many = ⊥
IsShort Memory = ⊤
