-- The relocations of a section and of the dynamic segment, as numbers (gABI, "Relocation" and "Dynamic Section").
use Rattle.std.specs.Prelude.{ℕ, ◌++◌, ◌==◌, Bool, true, false, List, map, Option, None, Some, Result, Ok, Err}
use Rattle.elf_base.specs.Table.{records}
use Rattle.elf_linking.specs.DynamicView.{dynamic_entries_of, number_with}
use Rattle.elf_linking.specs.References.{Tables, relocation_tables}
use Rattle.elf_linking.specs.declared.error.LinkError.{LinkError}
use Rattle.elf_linking.specs.declared.references.Reference.{Reference}
use Rattle.elf_linking.specs.declared.view.tags.TheConstants.{DT_PLTREL, DT_RELA}
use Rattle.elf_records.specs.declared.dynamic.Dynamic.{Dynamic}
use Rattle.elf_records.specs.Relocations as relocation
use Rattle.elf_records.specs.declared.sections.relocations.Rel.{Rel}
use Rattle.elf_records.specs.declared.sections.relocations.Rela.{Rela}
use Rattle.xmas_elf.specs.Content as kind
use Rattle.xmas_elf.specs.Content.{Content, table_of}
use Rattle.xmas_elf.specs.declared.ElfFile.{ElfFile}
use Rattle.elf_c.specs.Records.{flag_number, record_in}
use Rattle.elf_c.specs.declared.relocations.Relocation.{Relocation}
use Rattle.elf_c.specs.declared.status.AnyError.{AnyError}
use Rattle.elf_c.specs.declared.status.AnyError.TheVariants.{Link, OtherData}

-- the numbers of a relocation with an addend, where `symbol` and `type_` decode its info
abbrev pub rela_record : (ℕ → ℕ) → (ℕ → ℕ) → Rela ℕ → Relocation
rela_record symbol type_ rela = record {
  offset = relocation.rela_offset rela;
  addend = relocation.rela_addend rela;
  symbol = symbol (relocation.rela_info rela);
  type_ = type_ (relocation.rela_info rela);
  has_addend = 1;
}

-- the numbers of a relocation without an addend
abbrev pub rel_record : (ℕ → ℕ) → (ℕ → ℕ) → Rel ℕ → Relocation
rel_record symbol type_ rel = record {
  offset = relocation.rel_offset rel;
  addend = 0;
  symbol = symbol (relocation.rel_info rel);
  type_ = type_ (relocation.rel_info rel);
  has_addend = 0;
}

-- the relocation at an index of the contents of a section, or why there is none
abbrev pub relocation_in : ℕ → Content → Result Relocation AnyError
relocation_in index (table_of kind.rela_32 order bytes) =
    record_in (rela_record relocation.symbol_in_32 relocation.type_in_32) (records 12 (relocation.rela_32 order) bytes) index
relocation_in index (table_of kind.rela_64 order bytes) =
    record_in (rela_record relocation.symbol_in_64 relocation.type_in_64) (records 24 (relocation.rela_64 order) bytes) index
relocation_in index (table_of kind.rel_32 order bytes) =
    record_in (rel_record relocation.symbol_in_32 relocation.type_in_32) (records 8 (relocation.rel_32 order) bytes) index
relocation_in index (table_of kind.rel_64 order bytes) =
    record_in (rel_record relocation.symbol_in_64 relocation.type_in_64) (records 16 (relocation.rel_64 order) bytes) index
relocation_in index _ = Err OtherData

-- the numbers of a relocation of a table with addends or without
abbrev pub reference_record : Bool → Reference → Relocation
reference_record addends reference = record {
  offset = reference.offset;
  addend = reference.addend;
  symbol = reference.symbol;
  type_ = reference.kind;
  has_addend = flag_number addends;
}

-- those of the table of DT_RELA, of that of DT_REL, and of that of DT_JMPREL, which has addends or not
abbrev pub dynamic_records : Bool → Tables → List Relocation
dynamic_records addends tables = map (reference_record true) tables.rela
    ++ (map (reference_record false) tables.rel ++ map (reference_record addends) tables.plt)

-- a table of this kind (DT_PLTREL) has addends
abbrev pub is_rela : Option ℕ → Bool
is_rela None = false
is_rela (Some kind) = kind == DT_RELA

-- the relocation at an index of the tables of the entries, or why there is none
abbrev pub tables_relocation : List (Dynamic ℕ) → ℕ → Result Tables LinkError → Result Relocation AnyError
tables_relocation entries index (Ok tables) =
    record_in (λ one. one) (dynamic_records (is_rela (number_with DT_PLTREL entries)) tables) index
tables_relocation entries index (Err error) = Err (Link error)

-- the same by the entries, if these can be read
abbrev pub entries_relocation : ElfFile → ℕ → Result (List (Dynamic ℕ)) LinkError → Result Relocation AnyError
entries_relocation file index (Ok entries) = tables_relocation entries index (relocation_tables file entries)
entries_relocation file index (Err error) = Err (Link error)

-- the relocation at an index of a file's dynamic segment, or why there is none
abbrev pub dynamic_relocation_at : ElfFile → ℕ → Result Relocation AnyError
dynamic_relocation_at file index = entries_relocation file index (dynamic_entries_of file)
