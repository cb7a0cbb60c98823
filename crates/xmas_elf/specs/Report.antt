-- The report of a file (this project's own).
use Rattle.std.specs.Prelude.{◌≡◌, ◌↔◌, ℕ, ◌+◌, List, [], ◌∷◌, ◌++◌, drop, Option, Result, Ok, Err, codes, decimal, IsOkAnd}
use Rattle.std.specs.Borrow.{Bor}
use Rattle.std.specs.Io.KnownBytes.{Appends}
use Rattle.elf_base.specs.Message.{message_of}
use Rattle.elf_base.specs.Printed.{joined}
use Rattle.elf_base.specs.HeaderText.{header_text}
use Rattle.elf_base.specs.FileHeader.{header_of}
use Rattle.elf_records.specs.ProgramNumbers.{ph_type_number}
use Rattle.xmas_elf.specs.Prelude.{ElfError, ElfFile, ProgramHeader, ReportFault, SectionHeader}
use Rattle.xmas_elf.specs.Checks.{header_check, program_check}
use Rattle.xmas_elf.specs.ReportHash.{IsHashVerdict}
use Rattle.xmas_elf.specs.NameTable.{name_of}
use Rattle.xmas_elf.specs.ProgramHeader.{program_fields, program_list}
use Rattle.xmas_elf.specs.SectionHeader.{section_fields, section_list}
use Rattle.xmas_elf.specs.SectionText.{section_type_text}
use Rattle.xmas_elf.specs.ProgramText.{segment_type_text}
use Rattle.xmas_elf.specs.declared.report.ReportFault.TheVariants.{Elf, Write}
use Rattle.xmas_elf.specs.declared.report.hash.HashVerdict.{HashVerdict}
use Rattle.xmas_elf.specs.declared.report.hash.HashVerdict.TheVariants.{NoTable, NoSymbols, Checked}

-- the printed form of a fault
abbrev pub fault_text : ReportFault → List ℕ
fault_text (Elf error) = message_of error
fault_text Write = codes "cannot write"

-- the result of a check: ` ok`, or ` ! ` and the error
abbrev pub verdict_text : Result (Unit {0}) ElfError → List ℕ
verdict_text (Ok done) = codes " ok"
verdict_text (Err error) = codes " ! " ++ message_of error

-- a name after ` = `, or ` ! ` and the error for it
abbrev pub name_text : Result (List ℕ) ElfError → List ℕ
name_text (Ok name) = codes " = " ++ name
name_text (Err error) = codes " ! " ++ message_of error

-- the line of the check of the ELF header
abbrev pub check_line : ElfFile → List ℕ
check_line file = codes "check:" ++ (verdict_text (header_check file) ++ codes "\n")

-- the line of a section: its index, its type, its name
unfoldable pub section_line : ElfFile → ℕ → SectionHeader → List ℕ
section_line file index section = decimal index ++ (codes " "
    ++ (section_type_text (section_fields section).type_
    ++ (name_text (name_of file section) ++ codes "\n")))

-- the line of a segment: its index, its type, the result of its check
unfoldable pub segment_line : ElfFile → ℕ → ProgramHeader → List ℕ
segment_line file index program = decimal index ++ (codes " "
    ++ (segment_type_text (ph_type_number (program_fields program).type_)
    ++ (verdict_text (program_check file program) ++ codes "\n")))

-- the lines of headers, the first of which has index `index`
abbrev pub lines_from : {H : Type 0} → (ℕ → H → List ℕ) → ℕ → List H → List ℕ
lines_from line index [] = []
lines_from line index (h ∷ others) = line index h ++ lines_from line (index + 1) others

-- the lines of all sections except the first
abbrev pub section_lines : ElfFile → List ℕ
section_lines file = lines_from (section_line file) 1 (drop 1 (section_list file))

-- the lines of all segments
abbrev pub segment_lines : ElfFile → List ℕ
segment_lines file = lines_from (segment_line file) 0 (program_list file)

-- the line of the hash table
abbrev pub hash_line : HashVerdict → List ℕ
hash_line NoTable = codes "hash: none\n"
hash_line NoSymbols = codes "hash: no symbols\n"
hash_line (Checked answer) = codes "hash:" ++ (verdict_text answer ++ codes "\n")

-- the report of a file with this result for the hash table
unfoldable pub report_text : ElfFile → HashVerdict → List ℕ
report_text file verdict = joined (
    header_text file.header
    ∷ check_line file
    ∷ codes "sections\n"
    ∷ section_lines file
    ∷ codes "\n"
    ∷ codes "program headers\n"
    ∷ segment_lines file
    ∷ hash_line verdict
    ∷ [])

-- the report of the file was appended to what was written
abbrev pub AppendsReport : ElfFile → Option (List ℕ) → Option (List ℕ) → Type 0
AppendsReport file old new = (verdict : HashVerdict) × IsHashVerdict file verdict
    × Appends old new (report_text file verdict)

-- the input is accepted, and the report of its file was appended to what was written
abbrev pub WritesReport : Bor (List ℕ) → Option (List ℕ) → Option (List ℕ) → Type 0
WritesReport input old new = IsOkAnd (header_of input.now)
    (λ header. AppendsReport (record { input = input; header = header }) old new)

-- the result is `Elf(error)` exactly if the bytes have no accepted header, for that error
abbrev pub FailsExactly : List ℕ → Result (Unit {0}) ReportFault → Type 0
FailsExactly bytes result = (error : ElfError) → (result ≡ Err (Elf error)) ↔ (header_of bytes ≡ Err error)

-- if the error is that of the bytes, the writer is unchanged
abbrev pub WritesNothing : {W : Type 0} → ReportFault → W → W → Type 0
WritesNothing (Elf error) old new = new ≡ old
WritesNothing Write old new = Unit {0}
