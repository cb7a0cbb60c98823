-- The contents of bytes are read from these bytes.
use Rattle.std.proofs.Common.{◌≡◌, ℕ, ◌%◌, ◌==◌, Bool, true, false, not, nat_lt, List, length, drop, take, Result, Ok, Err, IfOk, MatchResult, if◌then◌else◌, refl, subst}
use Rattle.elf_base.specs.Number.{number}
use Rattle.elf_base.specs.declared.error.ElfError.TheVariants.{Note32, NotMultiple, ShortData, UnknownClass}
use Rattle.elf_records.specs.Note.{note_header}
use Rattle.elf_records.specs.declared.program.Type.TheVariants as ph_type
use Rattle.elf_records.specs.declared.sections.ShType.TheVariants as sh_type
use Rattle.xmas_elf.specs.Prelude.{ElfError, Order, SegmentType, ShType}
use Rattle.xmas_elf.specs.Content.{Content, IsReadFrom, TableKind, dyn_symbols_32, dyn_symbols_64, dynamic_32, dynamic_64, functions_32, functions_64, group, group_content, hash_table, note_64, note_content, rel_32, rel_64, rela_32, rela_64, section_indices, symbols_32, symbols_64, table_of, whole_table}
use Rattle.xmas_elf.specs.SectionContent.{content_of_section}
use Rattle.xmas_elf.specs.SegmentContent.{content_of_segment}

-- a result that is a content, where that is read from bytes
pub read_of : {T : Type 0} (Is : List ℕ → Type 0) (order : Order) (content_is : T → Content) (made : Result Content ElfError) (answer : Result T ElfError) → IfOk made (IsReadFrom Is order) → MatchResult answer (λ d. made ≡ Ok (content_is d)) (λ e. made ≡ Err e) → IfOk answer (λ d. IsReadFrom Is order (content_is d))
read_of Is order content_is made (Ok part) reads exact = subst (λ r. IfOk r (IsReadFrom Is order)) exact reads
read_of Is order content_is made (Err error) reads exact = tt

module _ (Is : List ℕ → Type 0) (order : Order) (bytes : List ℕ) (is : Is bytes) where
  abbrev Reads : Result Content ElfError → Type 0
  Reads made = IfOk made (IsReadFrom Is order)

  without_error : (failed : Bool) (error : ElfError) (made : Result Content ElfError) → Reads made → Reads (if failed then Err error else made)
  without_error true error made reads = tt
  without_error false error made reads = reads

  table_reads : (kind : TableKind) → Reads (whole_table kind order bytes)
  table_reads kind = without_error _ _ (Ok (table_of kind order bytes)) (refl, is)

  classed : (narrow wide : TableKind) (one two : Bool) → Reads (if one then whole_table narrow order bytes else (if two then whole_table wide order bytes else Err UnknownClass))
  classed narrow wide true two = table_reads narrow
  classed narrow wide false true = table_reads wide
  classed narrow wide false false = tt

  group_reads : Reads (group_content order bytes)
  group_reads =
      let made = group (number order 4 0 bytes) order (drop 4 bytes) in
      let from : IsReadFrom Is order made = record { whole = bytes; is = is; flags_are = refl; indices_are = refl; order_is = refl } in
      without_error (nat_lt (length bytes) 4) ShortData _ (without_error (not (length (drop 4 bytes) % 4 == 0)) NotMultiple (Ok made) from)

  note_reads : (class : ℕ) → Reads (note_content class order bytes)
  note_reads class =
      let made = note_64 (note_header order (take 12 bytes)) (drop 12 bytes) in
      let from : IsReadFrom Is order made = record { whole = bytes; is = is; header_is = refl; body_is = refl } in
      without_error (class == 1) Note32 _ (without_error (not (class == 2)) UnknownClass _ (without_error (nat_lt (length bytes) 12) ShortData (Ok made) from))

  pub section_reads : (kind : ShType) (class : ℕ) → Reads (content_of_section kind class order bytes)
  section_reads sh_type.StrTab class = is
  section_reads sh_type.SymTab class = classed symbols_32 symbols_64 (class == 1) (class == 2)
  section_reads sh_type.DynSym class = classed dyn_symbols_32 dyn_symbols_64 (class == 1) (class == 2)
  section_reads sh_type.InitArray class = classed functions_32 functions_64 (class == 1) (class == 2)
  section_reads sh_type.FiniArray class = classed functions_32 functions_64 (class == 1) (class == 2)
  section_reads sh_type.PreInitArray class = classed functions_32 functions_64 (class == 1) (class == 2)
  section_reads sh_type.Rela class = classed rela_32 rela_64 (class == 1) (class == 2)
  section_reads sh_type.Rel class = classed rel_32 rel_64 (class == 1) (class == 2)
  section_reads sh_type.Dynamic class = classed dynamic_32 dynamic_64 (class == 1) (class == 2)
  section_reads sh_type.SymTabShIndex class = table_reads section_indices
  section_reads sh_type.Group class = group_reads
  section_reads sh_type.Note class = note_reads class
  section_reads sh_type.Hash class = without_error _ _ (Ok (hash_table order bytes)) (refl, is)
  section_reads _ class = is

  pub segment_reads : (kind : SegmentType) (class : ℕ) → Reads (content_of_segment kind class order bytes)
  segment_reads ph_type.Dynamic class = classed dynamic_32 dynamic_64 (class == 1) (class == 2)
  segment_reads ph_type.Note class = note_reads class
  segment_reads _ class = is
