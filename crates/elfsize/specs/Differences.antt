-- What the program writes of two files (this project's own): a line for each part whose size differs, and the bytes by
-- kind of part.
use Rattle.std.specs.Prelude.{◌≡◌, ℕ, ◌+◌, ◌-◌, ◌/◌, ◌%◌, ◌++◌, ◌==◌, ◌⊎◌, Bool, false, true, List, [], Option, None, Some, Result, Ok, Err, codes, decimal, if◌then◌else◌, length, nat_lt}
use Rattle.std.specs.Borrow.{Bor}
use Rattle.std.specs.List.{AllZip, flat_map, sum_by}
use Rattle.elf_addresses.specs.Differences.{AreDifferences, all_sizes, distance, growth, new_size, old_size, shown, shrinkage}
use Rattle.elf_addresses.specs.FileClaims.{byte_count}
use Rattle.elf_addresses.specs.declared.difference.Change.{Change}
use Rattle.elf_addresses.specs.declared.difference.Change.TheVariants.{Both, Gone, New}
use Rattle.elf_addresses.specs.declared.difference.SizedPart.{SizedPart}
use Rattle.elfsize.specs.Ends.{IsFault, IsFaultOf, OfFile}
use Rattle.elfsize.specs.Json.{capped, change_record}
use Rattle.elfsize.specs.Lines.{AreFileSizes, kind_word, name_of, other_text, part_name}
use Rattle.elfsize.specs.Sides.{IsInputError, IsInputThere, IsSide}
use Rattle.elfsize.specs.Sums.{AreSums}
use Rattle.elfsize.specs.declared.changes.Kinds.{Kinds}
use Rattle.elfsize.specs.declared.difference.Comparison.{Comparison}
use Rattle.elfsize.specs.declared.difference.Lengths.{Lengths}
use Rattle.elfsize.specs.declared.lines.AnyError.{AnyError}
use Rattle.elfsize.specs.declared.side.Side.{Side}
use Rattle.elfsize.specs.declared.sums.Sums.{Sums}
use Rattle.elfsize.specs.declared.symbols.Symbols.{Symbols}
use Rattle.elfsize.specs.declared.totals.Run.{Run}
use Rattle.program_ends.specs.declared.json.Form.{Form}
use Rattle.program_ends.specs.declared.json.Form.TheVariants as forms
use Rattle.elfsize.specs.declared.view.Options.{Options}
use Rattle.elfsize.specs.declared.view.View.{View}
use Rattle.program_ends.specs.Names.{escaped}
use Rattle.program_ends.specs.declared.Fault.{Fault}
use Rattle.xmas_elf.specs.Types.{ElfFile}

-- the number of the kind of a part: 0 for sections, 1 for segments, 2 for symbols, and from 3 on one for each part without
-- an index
abbrev pub kind_number : ℕ → ℕ
kind_number part = if part % 4 == 3 then 3 + part / 4 else part % 4

-- a part of a file, by its number of bytes
pub record IsPartOf (file : ElfFile) (symbols : Symbols) (one : Run) (part : SizedPart) : Type 0 where
  pub kind : part.kind ≡ kind_number one.part
  pub name : part.name.now ≡ part_name file symbols one.part
  pub place : part.place ≡ one.part
  pub size : part.size ≡ one.size

-- the parts of a file that have bytes, which sum to its size
pub record AreParts (file : ElfFile) (symbols : Symbols) (parts : List SizedPart) : Type 0 where
  pub sizes : List Run
  pub are_sizes : AreFileSizes file symbols sizes
  pub each : AllZip (λ one part. IsPartOf file symbols one part) sizes parts
  pub sum : all_sizes parts ≡ byte_count file

-- The lines.

-- the sign of a change of size: `-` if there are fewer bytes now, otherwise `+`
abbrev pub sign_of : ℕ → ℕ → List ℕ
sign_of old new = if nat_lt new old then codes "-" else codes "+"

-- by how much a number of bytes changed, and what it is now
unfoldable pub step_text : ℕ → ℕ → List ℕ
step_text old new =
    sign_of old new ++ (decimal ((new - old) + (old - new)) ++ (codes " -> " ++ (decimal new ++ codes " ")))

-- whether a part came or went
abbrev pub mark_text : Change → List ℕ
mark_text (Gone old) = codes "gone "
mark_text (New new) = codes "new "
mark_text (Both old new) = []

-- what a part is, before its name; a segment has none, and is told by its index
abbrev pub kind_text : ℕ → List ℕ
kind_text part =
    if part % 4 == 0 then codes "section "
    else (if part % 4 == 1 then codes "segment " ++ decimal (part / 4)
    else (if part % 4 == 2 then codes "symbol " else other_text (part / 4)))

-- the line of a part before its name
abbrev pub start_of : ℕ → ℕ → List ℕ → ℕ → List ℕ
start_of old new mark part = step_text old new ++ (mark ++ kind_text part)

-- the index of a part that has no name
abbrev pub segment_index : ℕ → Option ℕ
segment_index part = if part % 4 == 1 then Some (part / 4) else None

-- whether a part came or went, in one word
abbrev pub state_word : Change → Option (List ℕ)
state_word (Gone old) = Some (codes "gone")
state_word (New new) = Some (codes "new")
state_word (Both old new) = None

-- the line of a part
abbrev pub different_text : Form → Change → List ℕ
different_text forms.Text change =
    start_of (old_size change) (new_size change) (mark_text change) (shown change).place
    ++ (escaped (shown change).name.now ++ codes "\n")
different_text forms.Json change = change_record (kind_word (shown change).place) (segment_index (shown change).place)
    (name_of (shown change).place (shown change).name.now) (state_word change) (old_size change) (new_size change) false

-- none if its size is the same
abbrev pub change_text : Form → Change → List ℕ
change_text form change = if distance change == 0 then [] else different_text form change

-- the line of a kind
unfoldable pub kind_line : ℕ → ℕ → List ℕ → List ℕ
kind_line old new kind = step_text old new ++ (kind ++ codes "\n")

-- the bytes by kind, and those of the files
abbrev pub kinds_lines : Sums → Sums → ℕ → ℕ → List ℕ
kinds_lines old new old_bytes new_bytes =
    codes "all parts\n" ++ (kind_line old.sections new.sections (codes "sections")
    ++ (kind_line old.segments new.segments (codes "segments")
    ++ (kind_line old.elf_headers new.elf_headers (codes "ELF headers")
    ++ (kind_line old.program_headers new.program_headers (codes "program headers")
    ++ (kind_line old.section_headers new.section_headers (codes "section headers")
    ++ (kind_line old.between new.between (codes "between parts")
    ++ (kind_line old.after new.after (codes "after all parts")
    ++ kind_line old_bytes new_bytes (codes "sum"))))))))

-- the record of a kind as JSON
unfoldable pub kind_record : ℕ → ℕ → List ℕ → List ℕ
kind_record old new kind = change_record kind None None None (capped old) (capped new) true

-- the bytes by kind as JSON: a record for each kind, and one for the sizes of the files
abbrev pub kinds_records : Sums → Sums → ℕ → ℕ → List ℕ
kinds_records old new old_bytes new_bytes = kind_record old.sections new.sections (codes "sections")
    ++ (kind_record old.segments new.segments (codes "segments")
    ++ (kind_record old.elf_headers new.elf_headers (codes "ELF headers")
    ++ (kind_record old.program_headers new.program_headers (codes "program headers")
    ++ (kind_record old.section_headers new.section_headers (codes "section headers")
    ++ (kind_record old.between new.between (codes "between parts")
    ++ (kind_record old.after new.after (codes "after all parts")
    ++ kind_record old_bytes new_bytes (codes "sum")))))))

-- the bytes by kind, in the form that is asked for
abbrev pub kinds_text : Form → Kinds → List ℕ
kinds_text forms.Text kinds = kinds_lines kinds.old kinds.new kinds.old_bytes kinds.new_bytes
kinds_text forms.Json kinds = kinds_records kinds.old kinds.new kinds.old_bytes kinds.new_bytes

-- what is written of changes, and of the kinds
abbrev pub found_text : Form → List Change → Kinds → List ℕ
found_text form changes kinds = flat_map (change_text form) changes ++ kinds_text form kinds

-- the same of the differences of two lists of parts
abbrev pub IsChangesText : Form → List SizedPart → List SizedPart → Kinds → List ℕ → Type 0
IsChangesText form old new kinds text =
    (changes : List Change) × AreDifferences old new changes × (text ≡ found_text form changes kinds)

-- the bytes of two files by kind, and their sizes
pub record AreKinds (old new : ElfFile) (kinds : Kinds) : Type 0 where
  pub old_sums : AreSums old kinds.old
  pub new_sums : AreSums new kinds.new
  pub old_bytes : kinds.old_bytes ≡ byte_count old
  pub new_bytes : kinds.new_bytes ≡ byte_count new

-- what is written of two files: each part of each file is in exactly one difference, and these sum to the difference of
-- the sizes of the files
pub record IsDifferenceText (form : Form) (old new : Side) (text : List ℕ) : Type 0 where
  pub old_parts : List SizedPart
  pub new_parts : List SizedPart
  pub changes : List Change
  pub kinds : Kinds
  pub old_are : AreParts old.file old.symbols old_parts
  pub new_are : AreParts new.file new.symbols new_parts
  pub are_changes : AreDifferences old_parts new_parts changes
  pub difference : sum_by growth changes + byte_count old.file ≡ sum_by shrinkage changes + byte_count new.file
  pub are_kinds : AreKinds old.file new.file kinds
  pub text_is : text ≡ found_text form changes kinds

-- How the program ends.

-- a text of two inputs
unfoldable pub IsPairText : Options → Bor (List ℕ) → Bor (List ℕ) → List ℕ → Type 0
IsPairText options old new text = (old_side : Side) × (new_side : Side) × IsSide options old old_side × IsSide options new new_side
    × IsDifferenceText options.form old_side new_side text

-- the lengths of two inputs
abbrev pub AreLengths : List ℕ → List ℕ → Lengths → Type 0
AreLengths old new lengths = (lengths.old ≡ length old) × (lengths.new ≡ length new)

-- two inputs have the symbols that are asked for
abbrev pub AreSides : Options → Bor (List ℕ) → Bor (List ℕ) → Type 0
AreSides options old new = IsInputThere options old × IsInputThere options new

-- the fault of one of two inputs: an error of its header or of its symbols; a write that failed, if neither has one; or
-- memory was short
abbrev pub IsPairFault : Comparison → Bor (List ℕ) → Bor (List ℕ) → Fault AnyError → Type 0
IsPairFault asked old new fault = IsFault asked.old (IsInputError asked.options old) (AreSides asked.options old new) fault
    ⊎ IsFault asked.new (IsInputError asked.options new) (AreSides asked.options old new) fault

-- a property of a view of all bytes of two files
abbrev pub OfFiles : {R : Type 0} → View → (R → Option (List ℕ)) → Option R → Option R → (Bor (List ℕ) → Bor (List ℕ) → Type 0) → Type 0
OfFiles view remaining old new P = OfFile view remaining old (λ input. OfFile view remaining new (λ other. P input other))

-- how the program ends for two files: there is a text of their difference, and these are their lengths; or the fault
abbrev pub IsDifferenceEnd : {R : Type 0} → Comparison → (R → Option (List ℕ)) → Option R → Option R → Result Lengths (Fault AnyError) → Type 0
IsDifferenceEnd asked remaining old new (Ok lengths) =
    OfFiles asked.options.view remaining old new (λ input other.
    ((text : List ℕ) × IsPairText asked.options input other text) × AreLengths input.now other.now lengths)
IsDifferenceEnd asked remaining old new (Err fault) =
    IsFaultOf asked.options asked.old remaining old (OfFiles asked.options.view remaining old new (AreSides asked.options)) fault
    ⊎ IsFaultOf asked.options asked.new remaining new (OfFiles asked.options.view remaining old new (AreSides asked.options)) fault

-- the same of what is opened at two paths, or of nothing
abbrev pub IsDifferenceEndAt : {R : Type 0} → Comparison → (R → Option (List ℕ)) → Result Lengths (Fault AnyError) → Type 0
IsDifferenceEndAt {R} asked remaining end = (old : Option R) × (new : Option R) × IsDifferenceEnd asked remaining old new end

-- a file is larger than the one before it by more than a limit, if there is one
abbrev pub is_above : Option ℕ → Lengths → Bool
is_above None lengths = false
is_above (Some limit) lengths = nat_lt limit (lengths.new - lengths.old)

-- the exit status: 1 after a fault, 2 if the file grew by more than the limit, otherwise 0
abbrev pub difference_status : Option ℕ → Result Lengths (Fault AnyError) → ℕ
difference_status limit (Ok lengths) = if is_above limit lengths then 2 else 0
difference_status limit (Err fault) = 1
