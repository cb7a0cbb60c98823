-- The tables that a dynamic linker reads while it relocates a file, and whether it can (gABI, "Dynamic Section"; what
-- is asked of them as glibc 2.36 has it).
use Rattle.std.specs.Prelude.{ℕ, ◌+◌, ◌-◌, ◌*◌, ◌%◌, ◌^◌, ◌==◌, ◌&&◌, ◌||◌, not, min, max, nat_lt, unwrap_or, is_none, is_some, Bool, true, false, List, [], ◌∷◌, ◌++◌, length, Option, None, Some, Result, Ok, Err, if◌then◌else◌}
use Rattle.std.specs.List.{list_any}
use Rattle.elf_base.specs.FileHeader.{file_class}
use Rattle.elf_base.specs.FirstError.{and_then, unless}
use Rattle.elf_base.specs.Table.{table_items}
use Rattle.elf_linking.specs.DynamicObject.{object_file, object_records, object_table, object_view}
use Rattle.elf_linking.specs.DynamicView.{dynamic_segment_of, flag_in, number_with, view_entries}
use Rattle.elf_linking.specs.GnuHash as gnu
use Rattle.elf_linking.specs.Loaded.{segment_at_of, word_at_of}
use Rattle.elf_linking.specs.References.{Tables, file_machine, record_size}
use Rattle.elf_linking.specs.RelocationTypes.{relative_kind, row_of}
use Rattle.elf_linking.specs.TableLocations.{table_but_zero, table_by}
use Rattle.elf_loading.specs.Types.{AnyTable, Dynamic, DynamicObject, Formula, LinkError, LoadError, Reference, Segment, TableLocation}
use Rattle.elf_linking.specs.declared.any_table.AnyTable.TheVariants.{Gnu, Sysv}
use Rattle.elf_linking.specs.declared.view.tags.TheConstants.{DT_FLAGS, DT_GNU_HASH, DT_HASH, DT_JMPREL, DT_PLTGOT, DT_PLTREL, DT_PLTRELSZ, DT_REL, DT_RELA, DT_RELACOUNT, DT_RELAENT, DT_RELASZ, DT_RELCOUNT, DT_RELENT, DT_RELR, DT_RELRENT, DT_RELRSZ, DT_RELSZ, DT_STRSZ, DT_STRTAB, DT_SYMTAB, DT_TEXTREL, DT_VERDEF, DT_VERNEED, DT_VERSYM}
use Rattle.elf_linking.specs.declared.references.types.Formula.TheVariants as formulas
use Rattle.elf_loading.specs.InOrder.{is_kind, kept_records}
use Rattle.elf_loading.specs.Segments.{has_flag}
use Rattle.elf_loading.specs.Words.{address_size, binds_lazily}
use Rattle.elf_loading.specs.declared.error.LoadError.TheVariants as error
use Rattle.elf_loading.specs.declared.words.Binding.TheVariants.{Lazy}
use Rattle.xmas_elf.specs.HashTable as gabi
use Rattle.xmas_elf.specs.Types.{ElfFile}

-- Tables by their entries.

-- the size of a hash table in bytes, for a file with this many symbols: words of 4 bytes, and in GNU's the Bloom words,
-- which are addresses
abbrev pub hash_size : ElfFile → AnyTable → ℕ → ℕ
hash_size file (Sysv table) count = 8 + 4 * (gabi.bucket_count_of table + gabi.chain_count_of table)
hash_size file (Gnu table) count = 16 + address_size file * gnu.bloom_count_of table
    + 4 * (gnu.gnu_bucket_count table + (count - gnu.first_symbol_of table))

-- the entry with the address of the hash table
abbrev pub hash_tag : AnyTable → ℕ
hash_tag (Sysv table) = DT_HASH
hash_tag (Gnu table) = DT_GNU_HASH

-- a table at the number of an entry, of a known size
abbrev pub table_of_size : List (Dynamic ℕ) → ℕ → ℕ → TableLocation
table_of_size entries start size = record { start = number_with start entries; size = Some size }

-- the table of relocations with addends, of those without, the packed ones, and those of the procedure linkage table
abbrev pub relocation_locations : List (Dynamic ℕ) → List TableLocation
relocation_locations entries = table_but_zero entries DT_RELA DT_RELASZ ∷ table_but_zero entries DT_REL DT_RELSZ
    ∷ table_by entries DT_RELR DT_RELRSZ ∷ table_by entries DT_JMPREL DT_PLTRELSZ ∷ []

-- the number of symbols that an index of 32 bits can name
abbrev pub symbol_number : {E : Type 0} → {r : _} → DynamicObject E r → ℕ
symbol_number object = min (length (table_items (object_records object))) (2 ^ 32)

-- the string table, the symbols, which have this size each, the hash table, and the version numbers of the symbols
abbrev pub symbol_tables : {E : Type 0} → {r : _} → ℕ → DynamicObject E r → List TableLocation
symbol_tables size object = let entries = view_entries (object_view object) in
    let count = symbol_number object in
    table_by entries DT_STRTAB DT_STRSZ ∷ table_of_size entries DT_SYMTAB (size * count)
    ∷ table_of_size entries (hash_tag (object_table object)) (hash_size (object_file object) (object_table object) count)
    ∷ table_of_size entries DT_VERSYM (2 * count) ∷ []

-- the number of bytes of a segment: those in memory, or those in the file if these are more
abbrev pub full_size : Segment → ℕ
full_size segment = max segment.mem_size segment.file_size

-- the bytes of a segment
abbrev pub segment_extent : Option Segment → TableLocation
segment_extent None = record { start = None; size = None }
segment_extent (Some segment) =
    record { start = Some segment.address; size = Some (full_size segment) }

-- all tables that a dynamic linker reads while it relocates a file: these, and the dynamic segment
abbrev pub tables_of : {E : Type 0} → {r : _} → ℕ → DynamicObject E r → List TableLocation
tables_of size object = relocation_locations (view_entries (object_view object))
    ++ (symbol_tables size object ++ (segment_extent (dynamic_segment_of (object_file object)) ∷ []))

-- Whether they can be read.

-- there is a segment, and it is readable
abbrev pub is_readable : Option Segment → Bool
is_readable None = false
is_readable (Some segment) = has_flag 4 segment

-- the file has not all bytes of a table for a readable load
abbrev pub is_unreadable_at : ElfFile → ℕ → Option ℕ → Bool
is_unreadable_at file start None = true
is_unreadable_at file start (Some size) = not (is_readable (segment_at_of file start size))

-- the same for a table that may have no address: it is not read then
abbrev pub is_unreadable_by : ElfFile → Option ℕ → Option ℕ → Bool
is_unreadable_by file None size = false
is_unreadable_by file (Some start) size = is_unreadable_at file start size

-- the same for a table
abbrev pub is_unreadable : ElfFile → TableLocation → Bool
is_unreadable file table = is_unreadable_by file table.start table.size

-- a size that is known is no multiple of another
abbrev pub is_no_multiple : ℕ → Option ℕ → Bool
is_no_multiple each None = false
is_no_multiple each (Some size) = not (size % each == 0)

-- an entry is missing that glibc reads: that of the strings or the symbols; of the versions of symbols, if there are
-- versions; or of the table of slots, if these get their symbols later
abbrev pub lacks_entry : List (Dynamic ℕ) → Bool
lacks_entry entries = is_none (number_with DT_STRTAB entries) || (is_none (number_with DT_SYMTAB entries)
    || ((is_none (number_with DT_VERSYM entries)
    && (is_some (number_with DT_VERDEF entries) || is_some (number_with DT_VERNEED entries)))
    || (binds_lazily entries Lazy && (is_some (number_with DT_JMPREL entries) && is_none (number_with DT_PLTGOT entries)))))

-- glibc can't apply relocations of these kinds, or not as the supplement has them: in class 64 those without addends, in
-- class 32 those with addends, and those of the procedure linkage table where there is an entry for their kind and none
-- for the table
abbrev pub kind_rows : ElfFile → List (Dynamic ℕ) → List (Bool × LoadError)
kind_rows file entries = let kind = number_with DT_PLTREL entries in
    (not (file_class file.header == 1) && (is_some (number_with DT_REL entries) || is_kind DT_REL kind), error.NoAddends)
    ∷ (file_class file.header == 1 && (is_some (number_with DT_RELA entries) || is_kind DT_RELA kind), error.Addends)
    ∷ (is_some kind && is_none (number_with DT_JMPREL entries), error.NoSlots)
    ∷ []

-- a word that can be read is odd
abbrev pub is_odd : Result ℕ LinkError → Bool
is_odd (Ok word) = word % 2 == 1
is_odd (Err error) = false

-- a table with a known start and size has bytes, and its first word, as wide as an address, is odd
abbrev pub has_odd_first_by : ElfFile → Option ℕ → Option ℕ → Bool
has_odd_first_by file (Some start) (Some size) = is_odd (word_at_of file start) && not (size == 0)
has_odd_first_by file start size = false

-- a table has bytes, and its first word is odd: in that of DT_RELR a bitmap, which has no address before it
abbrev pub has_odd_first : ElfFile → TableLocation → Bool
has_odd_first file table = has_odd_first_by file table.start table.size

-- why a table can't be read; a record has a size, and the number in the entry for that size
abbrev pub relocation_rows : ElfFile → ℕ → Option ℕ → TableLocation → List (Bool × LoadError)
relocation_rows file each told table =
    (is_some table.start && not (is_kind each told), error.RelocationSize)
    ∷ (is_some table.start && is_no_multiple each table.size, error.NotMultiple)
    ∷ (is_unreadable file table, error.Unreadable)
    ∷ []

-- the same for the relocations of the procedure linkage table; `kind` is the number in DT_PLTREL
abbrev pub slot_rows : ElfFile → Option ℕ → TableLocation → List (Bool × LoadError)
slot_rows file kind table =
    (is_some table.start && not (is_kind DT_RELA kind || is_kind DT_REL kind), error.SlotKind)
    ∷ (is_some table.start && is_no_multiple (record_size (address_size file) (is_kind DT_RELA kind)) table.size, error.NotMultiple)
    ∷ (is_unreadable file table, error.Unreadable)
    ∷ []

-- a load has the bytes of the dynamic segment, from the same offset of the file; it is readable, and writable if the
-- segment is
abbrev pub holds_dynamic : Segment → Option Segment → Bool
holds_dynamic dynamic None = false
holds_dynamic dynamic (Some load) =
    has_flag 4 load && (not (has_flag 2 dynamic) || has_flag 2 load) && load.offset + (dynamic.address - load.address) == dynamic.offset

-- no load has the dynamic segment
abbrev pub is_dynamic_lost : ElfFile → Option Segment → Bool
is_dynamic_lost file None = true
is_dynamic_lost file (Some dynamic) =
    not (holds_dynamic dynamic (segment_at_of file dynamic.address (full_size dynamic)))

-- the machine and the class are not those of x86-64 (62), 386 (3) or AArch64 (183)
abbrev pub is_other_machine : ElfFile → Bool
is_other_machine file = let class = file_class file.header in let machine = file_machine file in
    not (if class == 1 then machine == 3 else (class == 2 && (machine == 62 || machine == 183)))

-- all relocations can be read: their kinds, those of DT_RELA, DT_REL, DT_RELR and DT_JMPREL; or the first reason why not
unfoldable pub check_all_relocations : ElfFile → List (Dynamic ℕ) → Result (Unit {0}) LoadError
check_all_relocations file entries =
    and_then (unless (kind_rows file entries) (tt {0})) (λ kinds.
    and_then (unless (relocation_rows file (record_size (address_size file) true) (number_with DT_RELAENT entries) (table_but_zero entries DT_RELA DT_RELASZ)) (tt {0})) (λ rela.
    and_then (unless (relocation_rows file (record_size (address_size file) false) (number_with DT_RELENT entries) (table_but_zero entries DT_REL DT_RELSZ)) (tt {0})) (λ rel.
    and_then (unless (relocation_rows file (address_size file) (number_with DT_RELRENT entries) (table_by entries DT_RELR DT_RELRSZ)) (tt {0})) (λ packed.
    and_then (unless ((has_odd_first file (table_by entries DT_RELR DT_RELRSZ), error.FirstPacked) ∷ []) (tt {0})) (λ first.
    unless (slot_rows file (number_with DT_PLTREL entries) (table_by entries DT_JMPREL DT_PLTRELSZ)) tt)))))

-- the tables can be used, or the first reason why not: the dynamic segment, missing entries, relocations, other tables,
-- the machine
unfoldable pub check_tables : {E : Type 0} → {r : _} → ℕ → DynamicObject E r → Result (Unit {0}) LoadError
check_tables size object = let file = object_file object in let entries = view_entries (object_view object) in
    and_then (unless (
    (is_dynamic_lost file (dynamic_segment_of file), error.Dynamic)
    ∷ (lacks_entry entries, error.NoEntry)
    ∷ []) (tt {0})) (λ named. and_then (check_all_relocations file entries) (λ relocated. unless (
    (list_any (is_unreadable file) (symbol_tables size object), error.Unreadable)
    ∷ (is_other_machine file, error.Machine)
    ∷ []) tt))

-- The records of these tables.

-- fewer relocations than a number are at the start of a list, all of a type
abbrev pub lacks_kind : ℕ → ℕ → List Reference → Bool
lacks_kind kind count [] = not (count == 0)
lacks_kind kind count (one ∷ rest) =
    not (count == 0) && (not (one.kind == kind) || lacks_kind kind (count - 1) rest)

-- an entry counts more relative relocations than its table, at the entries `kind` and `size`, begins with; those of the
-- procedure linkage table again aside
abbrev pub is_overcounted : ElfFile → List (Dynamic ℕ) → ℕ → ℕ → ℕ → List Reference → Bool
is_overcounted file entries kind size counted references = let count = unwrap_or (number_with counted entries) 0 in
    is_some (table_but_zero entries kind size).start && (nat_lt (kept_records file entries kind size) count
    || lacks_kind (relative_kind (file_machine file)) count references)

-- a relocation of a formula writes a descriptor, or what a function returns
abbrev pub is_for_calls : Option Formula → Bool
is_for_calls (Some formulas.Descriptor) = true
is_for_calls (Some formulas.Call) = true
is_for_calls _ = false

-- a relocation isn't one for the procedure linkage table: no jump slot either
abbrev pub is_no_slot : ℕ → Reference → Bool
is_no_slot machine one = let row = row_of machine one.kind in not (row.slot || is_for_calls row.formula)

-- why glibc can't apply the relocations of these tables: counts of relative ones; types of the procedure linkage table, if
-- the file doesn't ask for its symbols before it runs
abbrev pub record_rows : ElfFile → List (Dynamic ℕ) → Tables → List (Bool × LoadError)
record_rows file entries tables =
    (is_overcounted file entries DT_RELA DT_RELASZ DT_RELACOUNT tables.rela || is_overcounted file entries DT_REL DT_RELSZ DT_RELCOUNT tables.rel, error.RelativeCount)
    ∷ (binds_lazily entries Lazy && list_any (is_no_slot (file_machine file)) tables.plt, error.SlotType)
    ∷ []

-- the file asks for writes to loads that are not writable: by an entry DT_TEXTREL, or by the flag DF_TEXTREL (4)
abbrev pub asks_for_text : List (Dynamic ℕ) → Bool
asks_for_text entries = is_some (number_with DT_TEXTREL entries) || flag_in (number_with DT_FLAGS entries) 4
