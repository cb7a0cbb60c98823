-- The numbers of records of relocations that are read one by one (gABI, "Relocation").
use Rattle.std.specs.Prelude.{ℕ, List}
use Rattle.elf_base.specs.Table.{records}
use Rattle.elf_base.specs.declared.bytes.Order.{Order}
use Rattle.elf_linking.specs.declared.references.Reference.{Reference}
use Rattle.elf_records.specs.Relocations.{rel_info, rel_offset, rela_addend, rela_info, rela_offset}
use Rattle.elf_records.specs.declared.sections.relocations.Rel.{Rel}
use Rattle.elf_records.specs.declared.sections.relocations.Rela.{Rela}

-- the numbers of a relocation with an addend, where `symbol` and `kind` decode its info
abbrev pub rela_reference : (ℕ → ℕ) → (ℕ → ℕ) → Rela ℕ → Reference
rela_reference symbol kind rela = record {
  offset = rela_offset rela;
  kind = kind (rela_info rela);
  symbol = symbol (rela_info rela);
  addend = rela_addend rela;
}

-- the numbers of a relocation without an addend
abbrev pub rel_reference : (ℕ → ℕ) → (ℕ → ℕ) → Rel ℕ → Reference
rel_reference symbol kind rel = record {
  offset = rel_offset rel;
  kind = kind (rel_info rel);
  symbol = symbol (rel_info rel);
  addend = 0;
}

-- the relocations in bytes, where `value` decodes the bytes of a record
unfoldable pub references_by : {R : Type 0} → ℕ → (Order → List ℕ → R) → (R → Reference) → Order → List ℕ → List Reference
references_by size value reference order bytes = records size (λ one. reference (value order one)) bytes
