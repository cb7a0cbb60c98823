-- The contents of a section or segment (gABI, "Sections": the contents of sections by type; the errors for
-- malformed data are this project's own).
use Rattle.std.specs.Prelude.{◌≡◌, ℕ, ◌%◌, ◌==◌, not, nat_lt, List, [], ◌∷◌, length, drop, take, Result, Err, if◌then◌else◌}
use Rattle.elf_base.specs.Number.{number}
use Rattle.elf_base.specs.FirstError.{unless}
use Rattle.elf_records.specs.Note.{note_header}
use Rattle.elf_base.specs.declared.error.ElfError.TheVariants.{NotMultiple, Note32, ShortData, UnknownClass}
use Rattle.xmas_elf.specs.Prelude.{ElfError, NoteHeader, Order}

-- the type of a table's records; the numbers in the names are the class
pub data TableKind : Type 0 where
  symbols_32 symbols_64 dyn_symbols_32 dyn_symbols_64 : TableKind
  functions_32 functions_64 section_indices : TableKind
  rela_32 rela_64 rel_32 rel_64 dynamic_32 dynamic_64 : TableKind

-- the size of a record in bytes
abbrev pub record_size : TableKind → ℕ
record_size symbols_32 = 16
record_size symbols_64 = 24
record_size dyn_symbols_32 = 16
record_size dyn_symbols_64 = 24
record_size functions_32 = 4
record_size functions_64 = 8
record_size section_indices = 4
record_size rela_32 = 12
record_size rela_64 = 24
record_size rel_32 = 8
record_size rel_64 = 16
record_size dynamic_32 = 8
record_size dynamic_64 = 16

-- bytes, and the byte order of their numbers if they have any; for a group its flags and the section indices,
-- for a note its header and the bytes after it
pub data Content : Type 0 where
  empty : Content
  undefined : List ℕ → Content
  strings : List ℕ → Content
  table_of : TableKind → Order → List ℕ → Content
  group : ℕ → Order → List ℕ → Content
  note_64 : NoteHeader → List ℕ → Content
  hash_table : Order → List ℕ → Content

-- a table, whose bytes are a whole number of records
abbrev pub whole_table : TableKind → Order → List ℕ → Result Content ElfError
whole_table kind order bytes =
    unless ((not (length bytes % record_size kind == 0), NotMultiple) ∷ []) (table_of kind order bytes)

-- a table whose records depend on the class
abbrev pub by_class : TableKind → TableKind → ℕ → Order → List ℕ → Result Content ElfError
by_class narrow wide class order bytes =
    if class == 1 then whole_table narrow order bytes
    else (if class == 2 then whole_table wide order bytes else Err UnknownClass)

-- a group of sections: its flags in four bytes, and then section indices of four bytes each
abbrev pub group_content : Order → List ℕ → Result Content ElfError
group_content order bytes = unless (
    (nat_lt (length bytes) 4, ShortData)
    ∷ (not (length (drop 4 bytes) % 4 == 0), NotMultiple)
    ∷ []) (group (number order 4 0 bytes) order (drop 4 bytes))

-- a note: its header of twelve bytes, and the bytes after it; those of class 32 are not supported
abbrev pub note_content : ℕ → Order → List ℕ → Result Content ElfError
note_content class order bytes = unless (
    (class == 1, Note32)
    ∷ (not (class == 2), UnknownClass)
    ∷ (nat_lt (length bytes) 12, ShortData)
    ∷ []) (note_64 (note_header order (take 12 bytes)) (drop 12 bytes))

-- a hash table, which begins with its two counts and a bucket
abbrev pub hash_table_content : Order → List ℕ → Result Content ElfError
hash_table_content order bytes = unless ((nat_lt (length bytes) 12, ShortData) ∷ []) (hash_table order bytes)

-- a group read from bytes with the property
pub record IsGroupReadFrom (Is : List ℕ → Type 0) (order own : Order) (flags : ℕ) (indices : List ℕ) : Type 0 where
  pub whole : List ℕ
  pub is : Is whole
  pub flags_are : flags ≡ number order 4 0 whole
  pub indices_are : indices ≡ drop 4 whole
  pub order_is : own ≡ order

-- a note read from bytes with the property
pub record IsNoteReadFrom (Is : List ℕ → Type 0) (order : Order) (header : NoteHeader) (body : List ℕ) : Type 0 where
  pub whole : List ℕ
  pub is : Is whole
  pub header_is : header ≡ note_header order (take 12 whole)
  pub body_is : body ≡ drop 12 whole

-- contents read from bytes with the property, in this byte order
abbrev pub IsReadFrom : (List ℕ → Type 0) → Order → Content → Type 0
IsReadFrom Is order empty = Unit {0}
IsReadFrom Is order (undefined bytes) = Is bytes
IsReadFrom Is order (strings bytes) = Is bytes
IsReadFrom Is order (table_of kind own bytes) = (own ≡ order) × Is bytes
IsReadFrom Is order (group flags own indices) = IsGroupReadFrom Is order own flags indices
IsReadFrom Is order (note_64 header body) = IsNoteReadFrom Is order header body
IsReadFrom Is order (hash_table own bytes) = (own ≡ order) × Is bytes
