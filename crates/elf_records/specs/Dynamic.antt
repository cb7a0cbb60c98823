-- The dynamic section (gABI, "Dynamic Section": Elf32_Dyn, Elf64_Dyn and the table of tags; `Flags1` and the
-- end of the range of OS-specific tags are the Rust crate's).
use Rattle.std.specs.Prelude.{ℕ, nat_le, ◌&&◌, List, [], ◌∷◌, Result, Ok, Err, if◌then◌else◌}
use Rattle.elf_base.specs.Number.{named_or, number}
use Rattle.elf_base.specs.FirstError.{and_then}
use Rattle.elf_base.specs.declared.bytes.Order.{Order}
use Rattle.elf_base.specs.declared.error.ElfError.{ElfError}
use Rattle.elf_base.specs.declared.error.ElfError.TheVariants.{InvalidPtr, InvalidTag, InvalidValue}
use Rattle.elf_records.specs.declared.dynamic.Meaning.{Meaning}
use Rattle.elf_records.specs.declared.dynamic.Meaning.TheVariants.{Ignored, Value, Pointer, Unspecified}
use Rattle.elf_records.specs.declared.dynamic.Dynamic.{Dynamic}
use Rattle.elf_records.specs.declared.dynamic.Tag_.{Tag_}
use Rattle.elf_records.specs.declared.dynamic.Tag.{Tag}
use Rattle.elf_records.specs.declared.dynamic.Tag.TheVariants as tag

-- an entry of class 32, of 8 bytes
abbrev pub dynamic_32 : Order → List ℕ → Dynamic ℕ
dynamic_32 order bytes = record {
  tag = record { 0 = number order 4 0 bytes };
  value = number order 4 4 bytes;
}

-- an entry of class 64, of 16 bytes
abbrev pub dynamic_64 : Order → List ℕ → Dynamic ℕ
dynamic_64 order bytes = record {
  tag = record { 0 = number order 8 0 bytes };
  value = number order 8 8 bytes;
}

-- d_tag of an entry
abbrev pub dynamic_tag : {P : Type 0} → Dynamic P → P
dynamic_tag entry = entry.tag.0

-- d_un of an entry
abbrev pub dynamic_value : {P : Type 0} → Dynamic P → P
dynamic_value entry = entry.value

-- the number of a tag, as it is in the file
abbrev pub tag_number : {P : Type 0} → Tag_ P → P
tag_number tag = tag.0

-- the tag of a number
abbrev pub tag_raw : {P : Type 0} → P → Tag_ P
tag_raw n = record { 0 = n }

-- the ranges of tags: OS-specific and processor-specific
abbrev pub tag_row_in_range : {P : Type 0} → P → ℕ → Result (Tag P × Meaning) ElfError
tag_row_in_range raw n =
    if nat_le 0x6000000d n && nat_le n 0x6fffffff then Ok (tag.OsSpecific raw, Unspecified)
    else (if nat_le 0x70000000 n && nat_le n 0x7fffffff then Ok (tag.ProcessorSpecific raw, Unspecified)
    else Err InvalidTag)

-- d_tag: its number, its name, and the meaning of d_un, in both classes
unfoldable pub tag_row_of : {P : Type 0} → P → ℕ → Result (Tag P × Meaning) ElfError
tag_row_of raw n = named_or (tag_row_in_range raw) (
    (0, Ok (tag.Null, Ignored))
    ∷ (1, Ok (tag.Needed, Value))
    ∷ (2, Ok (tag.PltRelSize, Value))
    ∷ (3, Ok (tag.Pltgot, Pointer))
    ∷ (4, Ok (tag.Hash, Pointer))
    ∷ (5, Ok (tag.StrTab, Pointer))
    ∷ (6, Ok (tag.SymTab, Pointer))
    ∷ (7, Ok (tag.Rela, Pointer))
    ∷ (8, Ok (tag.RelaSize, Value))
    ∷ (9, Ok (tag.RelaEnt, Value))
    ∷ (10, Ok (tag.StrSize, Value))
    ∷ (11, Ok (tag.SymEnt, Value))
    ∷ (12, Ok (tag.Init, Pointer))
    ∷ (13, Ok (tag.Fini, Pointer))
    ∷ (14, Ok (tag.SoName, Value))
    ∷ (15, Ok (tag.RPath, Value))
    ∷ (16, Ok (tag.Symbolic, Ignored))
    ∷ (17, Ok (tag.Rel, Pointer))
    ∷ (18, Ok (tag.RelSize, Value))
    ∷ (19, Ok (tag.RelEnt, Value))
    ∷ (20, Ok (tag.PltRel, Value))
    ∷ (21, Ok (tag.Debug, Pointer))
    ∷ (22, Ok (tag.TextRel, Ignored))
    ∷ (23, Ok (tag.JmpRel, Pointer))
    ∷ (24, Ok (tag.BindNow, Ignored))
    ∷ (25, Ok (tag.InitArray, Pointer))
    ∷ (26, Ok (tag.FiniArray, Pointer))
    ∷ (27, Ok (tag.InitArraySize, Value))
    ∷ (28, Ok (tag.FiniArraySize, Value))
    ∷ (29, Ok (tag.RunPath, Value))
    ∷ (30, Ok (tag.Flags, Value))
    ∷ (32, Ok (tag.PreInitArray, Pointer))
    ∷ (33, Ok (tag.PreInitArraySize, Value))
    ∷ (34, Ok (tag.SymTabShIndex, Pointer))
    ∷ (35, Ok (tag.RelrSize, Value))
    ∷ (36, Ok (tag.Relr, Pointer))
    ∷ (37, Ok (tag.RelrEnt, Value))
    ∷ (0x6ffffffb, Ok (tag.Flags1, Value))
    ∷ []) n

-- the tag of a number, or that the number is unknown
abbrev pub tag_of : ℕ → Result (Tag ℕ) ElfError
tag_of n = and_then (tag_row_of n n) (λ row. Ok row.0)

-- d_un as a value, if the tag has one
abbrev pub value_in : {P : Type 0} → P → Meaning → Result P ElfError
value_in value Value = Ok value
value_in value Unspecified = Ok value
value_in value _ = Err InvalidValue

-- d_un as a pointer, if the tag has one
abbrev pub pointer_in : {P : Type 0} → P → Meaning → Result P ElfError
pointer_in value Pointer = Ok value
pointer_in value Unspecified = Ok value
pointer_in value _ = Err InvalidPtr

-- d_un of an entry as a value, by its tag and its number, or why it has none
abbrev pub value_of : ℕ → ℕ → Result ℕ ElfError
value_of n value = and_then (tag_row_of n n) (λ row. value_in value row.1)

-- d_un of an entry as a pointer, by its tag and its number, or why it has none
abbrev pub pointer_of : ℕ → ℕ → Result ℕ ElfError
pointer_of n value = and_then (tag_row_of n n) (λ row. pointer_in value row.1)
