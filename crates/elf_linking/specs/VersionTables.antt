-- The version tables of a file: the numbers of its symbols, its definitions and its needs (LSB, "Symbol
-- Versioning"; that a list of records ends where `next` is 0, whatever the file says of their number, as in glibc;
-- that a table extends up to the end of its segment is this project's own).
use Rattle.std.specs.Borrow.{Bor}
use Rattle.std.specs.Prelude.{◌≡◌, ◌≢◌, ℕ, zero, suc, ◌+◌, ◌-◌, ◌*◌, ◌/◌, ◌%◌, ◌^◌, ◌<◌, ◌≤◌, ◌==◌, ◌&&◌, nat_le, nat_lt, not, Bool, true, false, List, [], ◌∷◌, ◌++◌, length, map, Option, Some, None, is_none, option_map, Result, Ok, Err, if◌then◌else◌}
use Rattle.elf_base.specs.FileHeader.{file_order}
use Rattle.elf_base.specs.Number.{number}
use Rattle.elf_base.specs.FirstError.{and_then}
use Rattle.elf_base.specs.declared.bytes.Order.{Order}
use Rattle.elf_linking.specs.DynamicView.{number_with, text_in_strings}
use Rattle.elf_linking.specs.Loaded.{bytes_at_of, bytes_from_of, lent}
use Rattle.elf_linking.specs.declared.error.LinkError.{LinkError}
use Rattle.elf_linking.specs.declared.error.LinkError.TheVariants.{Address, ShortVersion, VersionCount}
use Rattle.elf_linking.specs.declared.versions.definitions.Definition.{Definition}
use Rattle.elf_linking.specs.declared.versions.definitions.Definitions.{Definitions}
use Rattle.elf_linking.specs.declared.versions.needs.Need.{Need}
use Rattle.elf_linking.specs.declared.versions.needs.Needs.{Needs}
use Rattle.elf_linking.specs.declared.versions.records.Chain.{Chain}
use Rattle.elf_linking.specs.declared.versions.records.Places.{Places}
use Rattle.elf_linking.specs.declared.versions.records.Records.{Records}
use Rattle.elf_records.specs.declared.dynamic.Dynamic.{Dynamic}
use Rattle.elf_linking.specs.declared.view.tags.TheConstants.{DT_VERDEF, DT_VERDEFNUM, DT_VERNEED, DT_VERNEEDNUM, DT_VERSYM}
use Rattle.xmas_elf.specs.declared.ElfFile.{ElfFile}

-- records of versions: the bytes from the address of the first on, of which there are none if the file has no such
-- records; how many the file says there are, if it does; their byte order, and the string table with their names. A list of records is no longer than these bytes,
-- since each lies at least one byte after the one before.
pub record VersionRecords : Type 0 where
  pub bytes : List ℕ
  pub told : Option ℕ
  pub order : Order
  pub strings : Result (List ℕ) LinkError

-- the version tables of a file: the numbers of its symbols, of two bytes each, if it has them; its definitions
-- and its needs
pub record VersionTables : Type 0 where
  pub numbers : Option (List ℕ)
  pub definitions : VersionRecords
  pub needs : VersionRecords

-- the number in `width` bytes, `offset` bytes after a place
abbrev pub field : VersionRecords → ℕ → ℕ → ℕ → ℕ
field records width place offset = number records.order width (place + offset) records.bytes

-- the record at a place, whose last four bytes, `next`, lie `offset` bytes after it, extends past the end of
-- the bytes
abbrev pub is_cut : VersionRecords → ℕ → ℕ → Bool
is_cut records offset place = nat_lt (length records.bytes) (place + offset + 4)

-- the places of some records that are whole in the bytes: the first is at `start`, and each later one `next`
-- bytes after the one before, whose `next` is not 0
pub data AreChained (records : VersionRecords) (offset : ℕ) : ℕ → List ℕ → Type 0 where
  none : (start : ℕ) → AreChained records offset start []
  last : (start : ℕ) → start + offset + 4 ≤ length records.bytes → AreChained records offset start (start ∷ [])
  more : (start : ℕ) (places : List ℕ) → start + offset + 4 ≤ length records.bytes → field records 4 start offset ≢ 0
      → AreChained records offset (start + field records 4 start offset) places
      → AreChained records offset start (start ∷ places)

-- the places of as many such records as there are, but at most `count`
pub record IsLongestList (records : VersionRecords) (offset start count : ℕ) (places : List ℕ) : Type 0 where
  pub chained : AreChained records offset start places
  pub few : length places ≤ count
  pub longest : (others : List ℕ) → AreChained records offset start others → length others ≤ count
      → length others ≤ length places

-- whether another record follows those at some places: the `next` of the last is not 0; if there is no place,
-- as `follows` says
abbrev pub goes_on : VersionRecords → ℕ → Bool → List ℕ → Bool
goes_on records offset follows [] = follows
goes_on records offset follows (place ∷ places) =
    goes_on records offset (not (field records 4 place offset == 0)) places

-- the error after the last record, if the record that follows it is cut off
abbrev pub error_at_end : Bool → List (Result ℕ LinkError)
error_at_end true = Err ShortVersion ∷ []
error_at_end false = []

-- the items are the places of the longest list of records, and an error at the end if there are fewer than
-- `count` and another one follows the last, which is cut off then
pub record ArePlaces (records : VersionRecords) (offset start count : ℕ) (items : List (Result ℕ LinkError)) : Type 0 where
  pub places : List ℕ
  pub longest : IsLongestList records offset start count places
  pub items_are : items ≡ map (λ place. Ok place) places
      ++ error_at_end (nat_lt (length places) count && goes_on records offset true places)

-- the same items as a function
unfoldable pub places_of : VersionRecords → ℕ → ℕ → ℕ → List (Result ℕ LinkError)
places_of records offset start zero = []
places_of records offset start (suc count) = let next = field records 4 start offset in
    if is_cut records offset start then Err ShortVersion ∷ []
    else Ok start ∷ (if next == 0 then [] else places_of records offset (start + next) count)

-- what is made of an item, or the error
abbrev pub result_map : {A B : Type 0} → (A → B) → Result A LinkError → Result B LinkError
result_map make (Ok item) = Ok (make item)
result_map make (Err error) = Err error

-- a definition (Verdef): 2 bytes of version, flags, number and count each, then hash, aux and next of 4; its
-- name begins at an offset in the string table
pub record DefinitionParts : Type 0 where
  pub flags : ℕ
  pub number : ℕ
  pub hash : ℕ
  pub name_offset : Result ℕ LinkError
  pub name : Result (List ℕ) LinkError

-- the offset in the string table that a record of names (Verdaux) of 8 bytes begins with
abbrev pub name_offset : VersionRecords → ℕ → Result ℕ LinkError
name_offset records place =
    if nat_lt (length records.bytes) (place + 8) then Err ShortVersion else Ok (field records 4 place 0)

-- the definition at a place; its name is in its first record of names, `aux` bytes after it
abbrev pub definition_at : VersionRecords → ℕ → DefinitionParts
definition_at records place = record {
  flags = field records 2 place 2;
  number = field records 2 place 4;
  hash = field records 4 place 8;
  name_offset = name_offset records (place + field records 4 place 12);
  name = and_then (name_offset records (place + field records 4 place 12)) (text_in_strings records.strings);
}

-- the definitions in records: those at the places of the longest list, by vd_next at 16
pub record AreDefinitions (records : VersionRecords) (items : List (Result DefinitionParts LinkError)) : Type 0 where
  pub places : List (Result ℕ LinkError)
  pub are_places : ArePlaces records 16 0 (length records.bytes) places
  pub items_are : items ≡ map (result_map (definition_at records)) places

-- the same as a function
abbrev pub definitions_in : VersionRecords → List (Result DefinitionParts LinkError)
definitions_in records = map (result_map (definition_at records)) (places_of records 16 0 (length records.bytes))

-- a part of a need (Vernaux): hash of 4 bytes, flags and other of 2, name and next of 4; the file is that of
-- its need. The names of both begin at offsets in the string table.
pub record NeedParts : Type 0 where
  pub file_offset : ℕ
  pub file : Result (List ℕ) LinkError
  pub flags : ℕ
  pub number : ℕ
  pub hidden : Bool
  pub hash : ℕ
  pub name_offset : ℕ
  pub name : Result (List ℕ) LinkError

-- the number of a version: bits 0 to 14 of a number of 16 bits
abbrev pub version_number : ℕ → ℕ
version_number raw = raw % 0x8000

-- a version is hidden: bit 15 of such a number
abbrev pub is_hidden : ℕ → Bool
is_hidden raw = nat_le 0x8000 raw

-- the part at a place, of a need whose file has its name at an offset
abbrev pub need_at : VersionRecords → ℕ → ℕ → NeedParts
need_at records file place = record {
  file_offset = file;
  file = text_in_strings records.strings file;
  flags = field records 2 place 4;
  number = version_number (field records 2 place 6);
  hidden = is_hidden (field records 2 place 6);
  hash = field records 4 place 0;
  name_offset = field records 4 place 8;
  name = text_in_strings records.strings (field records 4 place 8);
}

-- vn_file: the offset of the library's name in a need (Verneed), of 4 bytes
abbrev pub file_offset : VersionRecords → ℕ → ℕ
file_offset records place = field records 4 place 4

-- the place of the first part of a need, by vn_aux
abbrev pub first_part : VersionRecords → ℕ → ℕ
first_part records place = place + field records 4 place 8

-- the items up to the first error, which is the last, and then those of the rest if there was none
abbrev pub joined : {A : Type 0} → List (Result A LinkError) → List (Result A LinkError) → List (Result A LinkError)
joined [] rest = rest
joined (Ok item ∷ items) rest = Ok item ∷ joined items rest
joined (Err error ∷ items) rest = Err error ∷ []

-- the items are the parts of the needs at some places, in order, up to the first error: that of a need or a part (whose
-- vna_next is at 12) that is cut off
pub data AreParts (records : VersionRecords) : List (Result ℕ LinkError) → List (Result NeedParts LinkError) → Type 0 where
  ended : AreParts records [] []
  cut_off : (error : LinkError) (needs : List (Result ℕ LinkError)) → AreParts records (Err error ∷ needs) (Err error ∷ [])
  begun : (place : ℕ) (needs parts : List (Result ℕ LinkError)) (rest : List (Result NeedParts LinkError))
      → ArePlaces records 12 (first_part records place) (length records.bytes) parts → AreParts records needs rest
      → AreParts records (Ok place ∷ needs)
      (joined (map (result_map (need_at records (file_offset records place))) parts) rest)

-- the number of parts for which the bytes have room
abbrev pub room_of : VersionRecords → ℕ
room_of records = length records.bytes / 16

-- the items, if there is room for them; the error `VersionCount` in place of the first for which there is none
abbrev pub within_room : {A : Type 0} → ℕ → List (Result A LinkError) → List (Result A LinkError)
within_room room [] = []
within_room room (Err error ∷ items) = Err error ∷ []
within_room zero (Ok item ∷ items) = Err VersionCount ∷ []
within_room (suc room) (Ok item ∷ items) = Ok item ∷ within_room room items

-- the needs in records: the parts of those at the places of the longest list, by vn_next at 12, in order, as far as there
-- is room
pub record AreNeeds (records : VersionRecords) (items : List (Result NeedParts LinkError)) : Type 0 where
  pub places : List (Result ℕ LinkError)
  pub parts : List (Result NeedParts LinkError)
  pub are_places : ArePlaces records 12 0 (length records.bytes) places
  pub are_parts : AreParts records places parts
  pub items_are : items ≡ within_room (room_of records) parts

-- the parts of the need at a place, by vna_next at 12, as a function
abbrev pub parts_at : VersionRecords → ℕ → List (Result NeedParts LinkError)
parts_at records place = map (result_map (need_at records (file_offset records place)))
    (places_of records 12 (first_part records place) (length records.bytes))

-- the parts of needs
unfoldable pub parts_of : VersionRecords → List (Result ℕ LinkError) → List (Result NeedParts LinkError)
parts_of records [] = []
parts_of records (Err error ∷ needs) = Err error ∷ []
parts_of records (Ok place ∷ needs) = joined (parts_at records place) (parts_of records needs)

-- the needs in records, as a function
abbrev pub needs_in : VersionRecords → List (Result NeedParts LinkError)
needs_in records = within_room (room_of records) (parts_of records (places_of records 12 0 (length records.bytes)))

-- the address of the numbers of symbols (DT_VERSYM), of a file that defines or needs versions; as in glibc, any other
-- file has none
abbrev pub numbers_address : List (Dynamic ℕ) → Option ℕ
numbers_address entries = if is_none (number_with DT_VERDEF entries) && is_none (number_with DT_VERNEED entries) then None
    else number_with DT_VERSYM entries

-- the numbers of symbols at this address, of two bytes each, if there is one
abbrev pub numbers_at : ElfFile → Option ℕ → ℕ → Result (Option (List ℕ)) LinkError
numbers_at file None count = Ok None
numbers_at file (Some address) count = if nat_lt count (2 ^ 63)
    then and_then (bytes_at_of file address (count * 2)) (λ bytes. Ok (Some bytes)) else Err Address

-- records at an address, if there is one, with the number that the file tells
abbrev pub records_by : ElfFile → Result (List ℕ) LinkError → Option ℕ → Option ℕ → Result VersionRecords LinkError
records_by file strings None told = Ok (record { bytes = []; told = Some 0; order = file_order file.header; strings = strings })
records_by file strings (Some address) told = and_then (bytes_from_of file address)
    (λ bytes. Ok (record { bytes = bytes; told = told; order = file_order file.header; strings = strings }))

-- the tables of the entries, with the string table and the number of symbols, or the first error: of the
-- numbers, of the definitions (DT_VERDEF and DT_VERDEFNUM), of the needs (DT_VERNEED and DT_VERNEEDNUM)
unfoldable pub version_tables_of : ElfFile → List (Dynamic ℕ) → Result (List ℕ) LinkError → ℕ → Result VersionTables LinkError
version_tables_of file entries strings count =
    and_then (numbers_at file (numbers_address entries) count) (λ numbers.
    and_then (records_by file strings (number_with DT_VERDEF entries) (number_with DT_VERDEFNUM entries)) (λ definitions.
    and_then (records_by file strings (number_with DT_VERNEED entries) (number_with DT_VERNEEDNUM entries)) (λ needs.
    Ok (record { numbers = numbers; definitions = definitions; needs = needs }))))

-- the records of a value
abbrev pub records_data : Records → VersionRecords
records_data records = record {
  bytes = records.bytes.now;
  told = records.told;
  order = records.order;
  strings = lent records.strings;
}

-- the tables of the parts of a value
abbrev pub tables_with : Option (Bor (List ℕ)) → Records → Records → VersionTables
tables_with numbers definitions needs = record {
  numbers = option_map (λ numbers. numbers.now) numbers;
  definitions = records_data definitions;
  needs = records_data needs;
}

-- the fields of a definition
abbrev pub definition_parts : Definition → DefinitionParts
definition_parts d = record {
  flags = d.flags;
  number = d.number;
  hash = d.hash;
  name_offset = d.name;
  name = and_then d.name (text_in_strings (lent d.strings));
}

-- the fields of a definition, if it is one
abbrev pub definition_item : Result Definition LinkError → Result DefinitionParts LinkError
definition_item item = result_map definition_parts item

-- the fields of a need
abbrev pub need_parts : Need → NeedParts
need_parts need = record {
  file_offset = need.file;
  file = text_in_strings (lent need.strings) need.file;
  flags = need.flags;
  number = need.number;
  hidden = need.hidden;
  hash = need.hash;
  name_offset = need.name;
  name = text_in_strings (lent need.strings) need.name;
}

-- the fields of a need, if it is one
abbrev pub need_item : Result Need LinkError → Result NeedParts LinkError
need_item item = result_map need_parts item

-- the number of some records is the one that the file tells
abbrev pub is_told : Option ℕ → ℕ → Bool
is_told None count = false
is_told (Some told) count = told == count

-- the places of the needs in records
abbrev pub need_places : VersionRecords → List (Result ℕ LinkError)
need_places records = places_of records 12 0 (length records.bytes)

-- the need at a place has as many parts as it tells (vn_cnt, of 2 bytes after 2 of version)
abbrev pub has_told_parts : VersionRecords → ℕ → Bool
has_told_parts records place =
    length (places_of records 12 (first_part records place) (length records.bytes)) == field records 2 place 2

-- the needs at some places have as many parts as they tell
abbrev pub have_told_parts : VersionRecords → List (Result ℕ LinkError) → Bool
have_told_parts records [] = true
have_told_parts records (Err error ∷ needs) = have_told_parts records needs
have_told_parts records (Ok place ∷ needs) = has_told_parts records place && have_told_parts records needs

-- there are as many needs and parts of needs as the file tells
abbrev pub are_needs_told : VersionRecords → Bool
are_needs_told records = is_told records.told (length (need_places records)) && have_told_parts records (need_places records)

-- there are as many definitions, needs and parts of needs as the file tells
abbrev pub is_counted : VersionTables → Bool
is_counted tables = is_told tables.definitions.told (length (definitions_in tables.definitions))
    && are_needs_told tables.needs

-- the places that an iterator has not yet returned
abbrev pub iterator_places : Places → List (Result ℕ LinkError)
iterator_places iter = places_of (records_data iter.records) 12 iter.chain.place iter.chain.left

-- the places that a chain has not yet passed
abbrev pub places_left : VersionRecords → ℕ → Chain → List (Result ℕ LinkError)
places_left records offset chain = places_of records offset chain.place chain.left

-- the definitions that an iterator has not yet returned
abbrev pub definitions_left : Definitions → List (Result DefinitionParts LinkError)
definitions_left iter = let records = records_data iter.records in
    map (result_map (definition_at records)) (places_left records 16 iter.chain)

-- the needs that an iterator has not yet returned
abbrev pub needs_left : Needs → List (Result NeedParts LinkError)
needs_left iter = let records = records_data iter.records in
    within_room iter.room (joined (map (result_map (need_at records iter.file)) (places_left records 12 iter.parts))
    (parts_of records (places_left records 12 iter.needs)))
