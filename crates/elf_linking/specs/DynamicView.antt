-- What the dynamic segment of a file leads to (gABI, "Dynamic Section"): its entries, the string table, the hash
-- tables, and the symbols with their number and their names.
use Rattle.std.specs.Prelude.{ℕ, ◌==◌, List, [], ◌∷◌, length, filter, Option, Result, Err, option_map, ok_or, if◌then◌else◌, ◌≡◌, None, Some, IfOk, IsSomeAnd, Ok, IsOkAnd, nat_lt, ◌*◌, ◌^◌}
use Rattle.std.specs.List.{last_or}
use Rattle.std.specs.Borrow.{Bor}
use Rattle.elf_base.specs.FirstError.{and_then, unless}
use Rattle.elf_base.specs.FileHeader.{class_of, file_class, file_order}
use Rattle.elf_base.specs.Lent.{LiesAt}
use Rattle.elf_base.specs.Text.{as_text, bytes_up_to_zero_of, text_of}
use Rattle.elf_linking.specs.Segments.{segments_of}
use Rattle.elf_linking.specs.declared.segments.Segment.{Segment}
use Rattle.xmas_elf.specs.declared.ElfFile.{ElfFile}
pub use Rattle.elf_linking.specs.Entries.{all_entries, entries_left, first_with, flag_in, is_symbolic, number_with, pairs_left, pairs_of, until_null, whole_entries}
use Rattle.elf_linking.specs.Layouts.{gnu_table_of}
use Rattle.elf_linking.specs.declared.error.LinkError.{LinkError}
use Rattle.elf_linking.specs.declared.error.LinkError.TheVariants.{Elf, NoDynamic, NoEntry, SymbolIndex}
use Rattle.elf_records.specs.Dynamic.{dynamic_tag, dynamic_value}
use Rattle.elf_records.specs.declared.dynamic.Dynamic.{Dynamic}
use Rattle.elf_linking.specs.declared.view.tags.TheConstants.{DT_NEEDED, DT_STRSZ, DT_STRTAB, DT_GNU_HASH, DT_HASH, DT_SYMTAB}
pub use Rattle.elf_linking.specs.Loaded.{as_link_error}
use Rattle.elf_linking.specs.Loaded.{LiesAsLoaded, bytes_at_of, lent, bytes_from_of}
use Rattle.elf_linking.specs.declared.view.dynamic.DynamicView.{DynamicView}
use Rattle.elf_linking.specs.declared.view.needed.Needed.{Needed}
use Rattle.elf_linking.specs.declared.view.needed_bytes.NeededBytes.{NeededBytes}
use Rattle.elf_base.specs.declared.error.ElfError.TheVariants.{ShortData}
use Rattle.elf_base.specs.Number.{number}
use Rattle.elf_linking.specs.GnuCount.{IsGnuCount}
use Rattle.elf_linking.specs.declared.gnu_hash.GnuHashTable.{GnuHashTable}

-- The dynamic segment of a file and its string table (DT_NEEDED, DT_STRTAB, DT_STRSZ and others; that the last segment
-- and the last entry of a kind are the ones read, and the segment at its address, as in glibc).

-- the last segment of type Dynamic (PT_DYNAMIC, 2)
unfoldable pub dynamic_segment_of : ElfFile → Option Segment
dynamic_segment_of file = last_or None (filter (λ (segment : Segment). segment.kind == 2) (segments_of file))

-- its bytes, or why there are none
unfoldable pub dynamic_bytes_of : ElfFile → Result (List ℕ) LinkError
dynamic_bytes_of file = and_then (ok_or (dynamic_segment_of file) NoDynamic) (λ segment.
    if segment.file_size == 0 then Err NoDynamic else bytes_at_of file segment.address segment.file_size)

-- their place
abbrev pub LiesAsDynamic : ElfFile → Bor (List ℕ) → Type 0
LiesAsDynamic file part = IsSomeAnd (dynamic_segment_of file) (λ segment. LiesAsLoaded file segment.address segment.file_size part)

-- the entries of a file before the first with tag Null, or why there are none
unfoldable pub dynamic_entries_of : ElfFile → Result (List (Dynamic ℕ)) LinkError
dynamic_entries_of file = and_then (dynamic_bytes_of file) (λ bytes.
    and_then (all_entries (file_class file.header) (file_order file.header) bytes) (λ entries. Ok (until_null entries)))

-- the string table of the entries, by its address and its size (DT_STRTAB and DT_STRSZ)
abbrev pub strings_by : ElfFile → List (Dynamic ℕ) → Result (List ℕ) LinkError
strings_by file entries = and_then (ok_or (number_with DT_STRTAB entries) NoEntry) (λ address.
    and_then (ok_or (number_with DT_STRSZ entries) NoEntry) (bytes_at_of file address))

-- the string table of a file, or why there is none
unfoldable pub dynamic_strings_of : ElfFile → Result (List ℕ) LinkError
dynamic_strings_of file = and_then (dynamic_entries_of file) (strings_by file)

-- the place of the string table of the entries
abbrev pub LiesAsStrings : ElfFile → List (Dynamic ℕ) → Bor (List ℕ) → Type 0
LiesAsStrings file entries part = IsSomeAnd (number_with DT_STRTAB entries) (λ address.
    IsSomeAnd (number_with DT_STRSZ entries) (λ size. LiesAsLoaded file address size part))

-- the place of the string table of a file's entries
abbrev pub LiesAsFileStrings : ElfFile → Bor (List ℕ) → Type 0
LiesAsFileStrings file part = IsOkAnd (dynamic_entries_of file) (λ entries. LiesAsStrings file entries part)

-- the entries of a view
abbrev pub view_entries : DynamicView → List (Dynamic ℕ)
view_entries view = until_null (pairs_of view.entries.pairs)

-- the bytes of the string table of a view, or why there is none
abbrev pub view_strings : DynamicView → Result (List ℕ) LinkError
view_strings view = lent view.strings

-- the slice that a view borrows as its string table: its place in memory and its bytes
abbrev pub view_table : DynamicView → Result (Bor (List ℕ)) LinkError
view_table view = view.strings

-- the text at an offset in a string table, or the error for it
abbrev pub text_in_strings : Result (List ℕ) LinkError → ℕ → Result (List ℕ) LinkError
text_in_strings (Ok table) place = as_link_error (text_of table place)
text_in_strings (Err error) place = Err error

-- the bytes at an offset in a string table up to a zero byte, or the error for them
abbrev pub bytes_in_strings : Result (List ℕ) LinkError → ℕ → Result (List ℕ) LinkError
bytes_in_strings (Ok table) place = as_link_error (bytes_up_to_zero_of table place)
bytes_in_strings (Err error) place = Err error

-- such bytes as a text
abbrev pub as_linked_text : Result (List ℕ) LinkError → Result (List ℕ) LinkError
as_linked_text (Ok bytes) = as_link_error (as_text bytes)
as_linked_text (Err error) = Err error

-- the text at the offset in the last entry with a tag
abbrev pub text_with : ℕ → DynamicView → Option (Result (List ℕ) LinkError)
text_with tag view = option_map (text_in_strings (view_strings view)) (number_with tag (view_entries view))

-- the result of a call is that text
abbrev pub IsTextWith : DynamicView → ℕ → Option (Result (Bor (List ℕ)) LinkError) → Type 0
IsTextWith view tag found = option_map lent found ≡ text_with tag view

-- what is at the offsets in the entries with tag Needed (DT_NEEDED)
abbrev pub needed_by : (ℕ → Result (List ℕ) LinkError) → List (Dynamic ℕ) → List (Result (List ℕ) LinkError)
needed_by name_at [] = []
needed_by name_at (entry ∷ entries) =
    if dynamic_tag entry == DT_NEEDED then name_at (dynamic_value entry) ∷ needed_by name_at entries else needed_by name_at entries

-- the texts there
abbrev pub needed_in : Result (List ℕ) LinkError → List (Dynamic ℕ) → List (Result (List ℕ) LinkError)
needed_in strings entries = needed_by (text_in_strings strings) entries

-- the bytes there
abbrev pub needed_bytes_in : Result (List ℕ) LinkError → List (Dynamic ℕ) → List (Result (List ℕ) LinkError)
needed_bytes_in strings entries = needed_by (bytes_in_strings strings) entries

-- the needed libraries of a view
abbrev pub needed_of : DynamicView → List (Result (List ℕ) LinkError)
needed_of view = needed_in (view_strings view) (view_entries view)

-- their names as bytes
abbrev pub needed_bytes_of : DynamicView → List (Result (List ℕ) LinkError)
needed_bytes_of view = needed_bytes_in (view_strings view) (view_entries view)

-- the needed libraries that an iterator has not yet returned
abbrev pub needed_left : Needed → List (Result (List ℕ) LinkError)
needed_left iter = needed_in (lent iter.strings) (entries_left iter.entries)

-- the names that an iterator over bytes has not yet returned
abbrev pub needed_bytes_left : NeededBytes → List (Result (List ℕ) LinkError)
needed_bytes_left iter = needed_bytes_in (lent iter.strings) (entries_left iter.entries)

-- the string table in which it finds them, with its place, or why there is none
abbrev pub needed_table : NeededBytes → Result (Bor (List ℕ)) LinkError
needed_table iter = iter.strings

-- the next name lies in the string table at the number in its entry
abbrev pub LiesAsNeeded : NeededBytes → Result (Bor (List ℕ)) LinkError → Type 0
LiesAsNeeded iter item = IfOk item (λ name. IsOkAnd (needed_table iter) (λ table.
    IsSomeAnd (first_with DT_NEEDED (entries_left iter.entries)) (λ place. LiesAt table place name)))

-- The hash tables of a dynamic segment (DT_HASH; DT_GNU_HASH of GNU binutils and glibc).

-- the bytes of the ELF standard's hash table, at the address in the entry Hash (DT_HASH)
abbrev pub hash_table_of : ElfFile → List (Dynamic ℕ) → Result (List ℕ) LinkError
hash_table_of file entries = and_then (and_then (ok_or (number_with DT_HASH entries) NoEntry) (bytes_from_of file))
    (λ bytes. unless ((nat_lt (length bytes) 12, Elf ShortData) ∷ []) bytes)

-- the bytes of GNU's hash table, at the address in the entry GnuHash (DT_GNU_HASH)
abbrev pub gnu_hash_table_of : ElfFile → List (Dynamic ℕ) → Result (List ℕ) LinkError
gnu_hash_table_of file entries = and_then (and_then (ok_or (number_with DT_GNU_HASH entries) NoEntry) (bytes_from_of file))
    (λ bytes. and_then (gnu_table_of (class_of (file_class file.header)) (file_order file.header) bytes) (λ _. Ok bytes))

-- The symbols of a dynamic segment, and their number (DT_SYMTAB, and gABI, "Hash Table", nchain; that the chain
-- count of the standard's table has precedence is this project's own).

-- the table is GNU's hash table of the entries
pub record IsGnuTableBy (file : ElfFile) (entries : List (Dynamic ℕ)) (table : GnuHashTable) : Type 0 where
  pub bytes_are : gnu_hash_table_of file entries ≡ Ok table.bytes.now
  pub class_is : table.class ≡ class_of (file_class file.header)
  pub order_is : table.order ≡ file_order file.header

-- the number of symbols: the chain count of the standard's hash table if there is an entry for it, otherwise by GNU's
pub data IsSymbolCount (file : ElfFile) (entries : List (Dynamic ℕ)) : Result ℕ LinkError → Type 0 where
  by_hash : (address : ℕ) (answer : Result ℕ LinkError) → number_with DT_HASH entries ≡ Some address
      → answer ≡ and_then (hash_table_of file entries) (λ bytes. Ok (number (file_order file.header) 4 4 bytes))
      → IsSymbolCount file entries answer
  by_gnu : (table : GnuHashTable) (answer : Result ℕ LinkError) → number_with DT_HASH entries ≡ None
      → IsGnuTableBy file entries table → IsGnuCount table answer → IsSymbolCount file entries answer
  no_table : (error : LinkError) → number_with DT_HASH entries ≡ None
      → gnu_hash_table_of file entries ≡ Err error → IsSymbolCount file entries (Err error)

-- the bytes of the symbols at the address in the entry SymTab, which have this size each, or why there are none
pub record AreSymbols (file : ElfFile) (entries : List (Dynamic ℕ)) (size : ℕ) (answer : Result (List ℕ) LinkError) : Type 0 where
  pub count : Result ℕ LinkError
  pub counted : IsSymbolCount file entries count
  pub bytes_are : answer ≡ and_then count (λ many.
      and_then (ok_or (number_with DT_SYMTAB entries) NoEntry) (λ address. bytes_at_of file address (many * size)))

-- the bytes of as many symbols as are given, which are at most 2 to the 32, or why there are none
abbrev pub counted_symbols_of : ElfFile → List (Dynamic ℕ) → ℕ → ℕ → Result (List ℕ) LinkError
counted_symbols_of file entries count size = if nat_lt (2 ^ 32) count then Err SymbolIndex
    else and_then (ok_or (number_with DT_SYMTAB entries) NoEntry) (λ address. bytes_at_of file address (count * size))

-- why there are no symbols with names: there are no symbols, or there is no string table
pub data AreSymbolsFailed (file : ElfFile) (entries : List (Dynamic ℕ)) (strings : Result (List ℕ) LinkError) (size : ℕ) : LinkError → Type 0 where
  no_records : (error : LinkError) → AreSymbols file entries size (Err error) → AreSymbolsFailed file entries strings size error
  no_names : (bytes : List ℕ) (error : LinkError) → AreSymbols file entries size (Ok bytes) → strings ≡ Err error
      → AreSymbolsFailed file entries strings size error

-- the place of the symbols, at the address in the entry SymTab
abbrev pub LieAsSymbols : ElfFile → List (Dynamic ℕ) → Bor (List ℕ) → Type 0
LieAsSymbols file entries part =
    IsSomeAnd (number_with DT_SYMTAB entries) (λ address. LiesAsLoaded file address (length part.now) part)
