-- The printed form of a section header (this project's own, after the Rust crate).
use Rattle.std.specs.Prelude.{ℕ, List, [], ◌∷◌, ◌++◌, codes, decimal}
use Rattle.elf_base.specs.Printed.{field_line, joined, result_text}
use Rattle.elf_records.specs.SectionNumbers.{sh_type_of, sh_type_text}
use Rattle.xmas_elf.specs.SectionHeader.{SectionFields}

-- the type of a section, as `Ok(StrTab)` or `Err("Invalid sh type")`
abbrev pub section_type_text : ℕ → List ℕ
section_type_text number = result_text sh_type_text (sh_type_of number)

-- the fields of either class, except `info`
abbrev pub section_fields_text : SectionFields → List ℕ
section_fields_text section = joined (
    field_line (codes "name") (decimal section.name)
    ∷ field_line (codes "type") (section_type_text section.type_)
    ∷ field_line (codes "flags") (decimal section.flags)
    ∷ field_line (codes "address") (decimal section.address)
    ∷ field_line (codes "offset") (decimal section.offset)
    ∷ field_line (codes "size") (decimal section.size)
    ∷ field_line (codes "link") (decimal section.link)
    ∷ field_line (codes "align") (decimal section.align)
    ∷ field_line (codes "entry size") (decimal section.entry_size)
    ∷ [])

-- a section header, under its heading
abbrev pub section_text : SectionFields → List ℕ
section_text section = codes "Section header:\n" ++ section_fields_text section
