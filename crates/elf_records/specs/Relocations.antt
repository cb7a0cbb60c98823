-- Relocations (gABI, "Relocation": Elf32_Rel, Elf32_Rela, Elf64_Rel and Elf64_Rela).
use Rattle.std.specs.Prelude.{ℕ, ◌/◌, ◌%◌, ◌^◌, List}
use Rattle.elf_base.specs.Number.{number}
use Rattle.elf_base.specs.declared.bytes.Order.{Order}
use Rattle.elf_records.specs.declared.sections.relocations.Rel.{Rel}
use Rattle.elf_records.specs.declared.sections.relocations.Rela.{Rela}

-- a relocation without an addend of class 32, of 8 bytes
abbrev pub rel_32 : Order → List ℕ → Rel ℕ
rel_32 order bytes = record {
  offset = number order 4 0 bytes;
  info = number order 4 4 bytes;
}

-- a relocation without an addend of class 64, of 16 bytes
abbrev pub rel_64 : Order → List ℕ → Rel ℕ
rel_64 order bytes = record {
  offset = number order 8 0 bytes;
  info = number order 8 8 bytes;
}

-- a relocation with an addend of class 32, of 12 bytes
abbrev pub rela_32 : Order → List ℕ → Rela ℕ
rela_32 order bytes = record {
  offset = number order 4 0 bytes;
  info = number order 4 4 bytes;
  addend = number order 4 8 bytes;
}

-- a relocation with an addend of class 64, of 24 bytes
abbrev pub rela_64 : Order → List ℕ → Rela ℕ
rela_64 order bytes = record {
  offset = number order 8 0 bytes;
  info = number order 8 8 bytes;
  addend = number order 8 16 bytes;
}

-- r_offset of a relocation without an addend
abbrev pub rel_offset : {P : Type 0} → Rel P → P
rel_offset rel = rel.offset

-- r_info of a relocation without an addend
abbrev pub rel_info : {P : Type 0} → Rel P → P
rel_info rel = rel.info

-- r_offset of a relocation with an addend
abbrev pub rela_offset : {P : Type 0} → Rela P → P
rela_offset rela = rela.offset

-- r_info of a relocation with an addend
abbrev pub rela_info : {P : Type 0} → Rela P → P
rela_info rela = rela.info

-- r_addend of a relocation with an addend
abbrev pub rela_addend : {P : Type 0} → Rela P → P
rela_addend rela = rela.addend

-- the index of the symbol in the r_info of class 32 (ELF32_R_SYM)
abbrev pub symbol_in_32 : ℕ → ℕ
symbol_in_32 info = info / 256

-- the type in the r_info of class 32 (ELF32_R_TYPE)
abbrev pub type_in_32 : ℕ → ℕ
type_in_32 info = info % 256

-- the index of the symbol in the r_info of class 64 (ELF64_R_SYM)
abbrev pub symbol_in_64 : ℕ → ℕ
symbol_in_64 info = info / 2 ^ 32

-- the type in the r_info of class 64 (ELF64_R_TYPE)
abbrev pub type_in_64 : ℕ → ℕ
type_in_64 info = info % 2 ^ 32
