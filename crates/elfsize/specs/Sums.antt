-- The bytes of files by kind of part (this project's own).
use Rattle.std.specs.Prelude.{◌≡◌, ℕ, ◌+◌, ◌-◌, ◌/◌, ◌%◌, ◌==◌, ◌++◌, ◌^◌, List, None, IfOk, codes, decimal, if◌then◌else◌, map, min, slice_index}
use Rattle.std.specs.Borrow.{Bor}
use Rattle.elf_base.specs.FileHeader.{header_of}
use Rattle.elfsize.specs.Json.{capped, size_record}
use Rattle.elfsize.specs.Parts.{AreRuns}
use Rattle.elfsize.specs.Totals.{AreTotals}
use Rattle.elfsize.specs.declared.sums.Sums.{Sums}
use Rattle.elfsize.specs.declared.totals.Run.{Run}
use Rattle.program_ends.specs.declared.json.Form.{Form}
use Rattle.program_ends.specs.declared.json.Form.TheVariants as forms
use Rattle.xmas_elf.specs.Types.{ElfFile}

-- the number of the kind of a part: sections, segments, and then those without an index
abbrev pub kind_of : ℕ → ℕ
kind_of part = if part % 4 == 1 then 1 else (if part % 4 == 3 then 2 + min (part / 4) 4 else 0)

-- a run with the kind of its part
abbrev pub kind_run : Run → Run
kind_run run = record { part = kind_of run.part; size = run.size }

-- the totals of the kinds
abbrev pub sums_of : List ℕ → Sums
sums_of totals = record {
  sections = slice_index totals 0;
  segments = slice_index totals 1;
  elf_headers = slice_index totals 2;
  program_headers = slice_index totals 3;
  section_headers = slice_index totals 4;
  between = slice_index totals 5;
  after = slice_index totals 6;
}

-- the sums of a file are the bytes of its runs by kind
abbrev pub AreSums : ElfFile → Sums → Type 0
AreSums file sums = (runs : List Run) × (totals : List ℕ) × AreRuns file runs × AreTotals (map kind_run runs) totals × (sums ≡ sums_of totals)

-- the sums of an input that has a header are those of its file
abbrev pub AreInputSums : Bor (List ℕ) → Sums → Type 0
AreInputSums input sums = IfOk (header_of input.now) (λ header. AreSums (record { input = input; header = header }) sums)

-- sums of two; none is more than 2 to the 128 minus 1
abbrev pub added : ℕ → ℕ → ℕ
added one other = min (one + other) (2 ^ 128 - 1)

-- the sums of files with those of others
abbrev pub with_sums : Sums → Sums → Sums
with_sums one other = record {
  sections = added one.sections other.sections;
  segments = added one.segments other.segments;
  elf_headers = added one.elf_headers other.elf_headers;
  program_headers = added one.program_headers other.program_headers;
  section_headers = added one.section_headers other.section_headers;
  between = added one.between other.between;
  after = added one.after other.after;
}

-- the bytes of all kinds
abbrev pub all_of : Sums → ℕ
all_of sums = added (added (added (added (added (added sums.sections sums.segments) sums.elf_headers) sums.program_headers)
    sums.section_headers) sums.between) sums.after

-- a line of sums: a number of bytes, and what they belong to
unfoldable pub sums_line : ℕ → List ℕ → List ℕ
sums_line bytes kind = decimal bytes ++ (codes " " ++ (kind ++ codes "\n"))

-- what is written of sums: a line for each kind, and one for the bytes of all kinds
abbrev pub lines_of : Sums → List ℕ
lines_of sums =
    codes "all files\n" ++ (sums_line sums.sections (codes "sections")
    ++ (sums_line sums.segments (codes "segments")
    ++ (sums_line sums.elf_headers (codes "ELF headers")
    ++ (sums_line sums.program_headers (codes "program headers")
    ++ (sums_line sums.section_headers (codes "section headers")
    ++ (sums_line sums.between (codes "between parts")
    ++ (sums_line sums.after (codes "after all parts")
    ++ sums_line (all_of sums) (codes "sum"))))))))

-- the record of a kind as JSON, where a sum is at most 2 to the 64 minus 1
unfoldable pub sums_record : ℕ → List ℕ → List ℕ
sums_record bytes kind = size_record None kind None None (capped bytes) None

-- the sums as JSON: a record for each kind, and one for the bytes of all kinds
abbrev pub records_of : Sums → List ℕ
records_of sums = sums_record sums.sections (codes "sections")
    ++ (sums_record sums.segments (codes "segments")
    ++ (sums_record sums.elf_headers (codes "ELF headers")
    ++ (sums_record sums.program_headers (codes "program headers")
    ++ (sums_record sums.section_headers (codes "section headers")
    ++ (sums_record sums.between (codes "between parts")
    ++ (sums_record sums.after (codes "after all parts")
    ++ sums_record (all_of sums) (codes "sum")))))))

-- the sums, in the form that is asked for
abbrev pub sums_text : Form → Sums → List ℕ
sums_text forms.Text sums = lines_of sums
sums_text forms.Json sums = records_of sums
