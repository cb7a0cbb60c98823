-- The printed form of a program header (this project's own, after the Rust crate).
use Rattle.std.specs.Prelude.{ℕ, List, [], ◌∷◌, ◌++◌, codes}
use Rattle.elf_base.specs.Printed.{field_line, hex_text, joined, result_text}
use Rattle.elf_records.specs.ProgramNumbers.{flags_text, ph_type_number, ph_type_of, ph_type_text}
use Rattle.xmas_elf.specs.Prelude.{ProgramHeader64}

-- the type of a segment, as `Ok(Load)` or `Err("Invalid type")`
abbrev pub segment_type_text : ℕ → List ℕ
segment_type_text number = result_text ph_type_text (ph_type_of number)

-- the fields of either class
abbrev pub program_fields_text : ProgramHeader64 → List ℕ
program_fields_text segment = joined (
    field_line (codes "type") (segment_type_text (ph_type_number segment.type_))
    ∷ field_line (codes "flags") (flags_text segment.flags.0)
    ∷ field_line (codes "offset") (hex_text segment.offset)
    ∷ field_line (codes "virtual address") (hex_text segment.virtual_addr)
    ∷ field_line (codes "physical address") (hex_text segment.physical_addr)
    ∷ field_line (codes "file size") (hex_text segment.file_size)
    ∷ field_line (codes "memory size") (hex_text segment.mem_size)
    ∷ field_line (codes "align") (hex_text segment.align)
    ∷ [])

-- a program header, under its heading
abbrev pub program_text : ProgramHeader64 → List ℕ
program_text segment = codes "Program header:\n" ++ program_fields_text segment
