-- The records of versions: their lists item by item, and that the ranges of their names lie in the input.
use Rattle.std.proofs.Common.{◌≡◌, ◌+◌, ◌^◌, ◌<◌, ◌≤◌, ℕ, Bool, false, List, length, map, slice_get, Option, None, Some, option_map, Result, Ok, Err, IfOk, sym, ap, subst, ◌∙◌, arith}
use Rattle.std.specs.List.{range_with_len}
use Rattle.std.specs.Prelude.{min}
use Rattle.std.proofs.lemmas.List.FromFn.{get_or-range_with_len, length-range_with_len}
use Rattle.std.proofs.lemmas.Option.{slice_get-get_or, slice_get-map}
use Rattle.elf_linking.specs.VersionTables.{DefinitionParts, NeedParts, VersionTables, definitions_in, needs_in}
use Rattle.elf_linking.specs.VersionList.{Defined, NamedParts, Needed}
use Rattle.elf_linking.specs.Versions.{VersionParts}
use Rattle.elf_linking.specs.declared.error.LinkError.{LinkError}
use Rattle.xmas_elf.specs.declared.ElfFile.{ElfFile}
use Rattle.elf_c.specs.Batch.{Fills}
use Rattle.elf_c.specs.Records.{LiesIn, record_in, record_or_none}
use Rattle.elf_c.specs.Versions.{AllNamesLieIn, NamesLieIn, defined_as, definition_record_at, definition_in, definition_record, definition_items, need_record_at, need_in, need_record, need_items, needed_as, strings_range_of, file_version_tables, unnamed, unreadable, version_by, version_record, version_name_range}
use Rattle.elf_c.specs.declared.names.Range.{Range}
use Rattle.elf_c.specs.declared.status.AnyError.{AnyError}
use Rattle.elf_c.specs.declared.versions.Version.{Version}
use Rattle.elf_c.proofs.StoredNames.{found_has, linked_name_lies, stored}

-- the indices from 0 on: their number, and the record of each
pub index_count : (count : ℕ) → length (range_with_len 0 count) ≡ count
index_count count = length-range_with_len 0 count

pub index_fits : (count i : ℕ) → i < length (range_with_len 0 (min count (2 ^ 32))) → i < 2 ^ 32
index_fits count i below =
    let long : length (range_with_len 0 (min count (2 ^ 32))) ≡ min count (2 ^ 32) = index_count (min count (2 ^ 32)) in
    omega (arith, long, below)

pub record_there : (value : ℕ → Version) (count i : ℕ) (one : Version) → i < length (range_with_len 0 count) → one ≡ value i → record_in value (range_with_len 0 count) i ≡ Ok one
record_there value count i one below is =
    let long : length (range_with_len 0 count) ≡ count = index_count count in
    let here : i < count = omega (arith, long, below) in
    let same : 0 + i ≡ i = omega arith in
    ap (record_or_none value) (slice_get-get_or (range_with_len 0 count) i 0 below ∙ ap Some (get_or-range_with_len 0 count i 0 here ∙ same)) ∙ ap (λ x. Ok x) (sym is)

-- the records of the items are those of the file
pub definitions_filled : (file : ElfFile) (strings : Result Range AnyError) (tables : VersionTables) (first : ℕ) (old new : List Version) (answer : Result ℕ AnyError) → file_version_tables file 0 ≡ Ok tables → strings ≡ strings_range_of file → Fills (record_in (λ one. one) (definition_items file.input.now strings (definitions_in tables.definitions))) first old answer new → Fills (definition_record_at file) first old answer new
definitions_filled file strings tables first old new answer is ranged fills =
    subst (λ found. Fills (λ index. definition_in file index found) first old answer new) (sym is)
    (subst (λ s. Fills (record_in (λ one. one) (definition_items file.input.now s (definitions_in tables.definitions))) first old answer new) ranged fills)

pub needs_filled : (file : ElfFile) (strings : Result Range AnyError) (tables : VersionTables) (first : ℕ) (old new : List Version) (answer : Result ℕ AnyError) → file_version_tables file 0 ≡ Ok tables → strings ≡ strings_range_of file → Fills (record_in (λ one. one) (need_items file.input.now strings (needs_in tables.needs))) first old answer new → Fills (need_record_at file) first old answer new
needs_filled file strings tables first old new answer is ranged fills =
    subst (λ found. Fills (λ index. need_in file index found) first old answer new) (sym is)
    (subst (λ s. Fills (record_in (λ one. one) (need_items file.input.now s (needs_in tables.needs))) first old answer new) ranged fills)

-- the ranges of the names of a record lie in the input
name_lies : (input : List ℕ) (strings : Result Range AnyError) (offset : Result ℕ LinkError) → LiesIn input (version_name_range input strings offset).range
name_lies input strings (Ok offset) = linked_name_lies input strings offset
name_lies input strings (Err error) = let none : 0 + 0 ≤ length input = omega arith in none

unnamed_lies : (input : List ℕ) (number : ℕ) (hidden : Bool) → NamesLieIn input (unnamed number hidden)
unnamed_lies input number hidden = let none : 0 + 0 ≤ length input = omega arith in (none, none)

unreadable_lies : (input : List ℕ) (error : LinkError) → NamesLieIn input (unreadable error)
unreadable_lies input error = let none : 0 + 0 ≤ length input = omega arith in (none, none)

defined_lies : (input : List ℕ) (strings : Result Range AnyError) (number : ℕ) (hidden : Bool) (d : DefinitionParts) → NamesLieIn input (defined_as input strings number hidden d)
defined_lies input strings number hidden d = let none : 0 + 0 ≤ length input = omega arith in (name_lies input strings d.name_offset, none)

needed_lies : (input : List ℕ) (strings : Result Range AnyError) (number : ℕ) (hidden : Bool) (need : NeedParts) → NamesLieIn input (needed_as input strings number hidden need)
needed_lies input strings number hidden need = (name_lies input strings (Ok need.name_offset), name_lies input strings (Ok need.file_offset))

definition_lies : (input : List ℕ) (strings : Result Range AnyError) (item : Result DefinitionParts LinkError) → NamesLieIn input (definition_record input strings item)
definition_lies input strings (Ok d) = defined_lies input strings d.number false d
definition_lies input strings (Err error) = unreadable_lies input error

need_lies : (input : List ℕ) (strings : Result Range AnyError) (item : Result NeedParts LinkError) → NamesLieIn input (need_record input strings item)
need_lies input strings (Ok need) = needed_lies input strings need.number need.hidden need
need_lies input strings (Err error) = unreadable_lies input error

named_lies : (input : List ℕ) (strings : Result Range AnyError) (number : ℕ) (hidden : Bool) (named : Option NamedParts) → NamesLieIn input (version_by input strings number hidden named)
named_lies input strings number hidden None = unnamed_lies input number hidden
named_lies input strings number hidden (Some (Defined d)) = defined_lies input strings number hidden d
named_lies input strings number hidden (Some (Needed need)) = needed_lies input strings number hidden need

version_lies : (input : List ℕ) (strings : Result Range AnyError) (item : Result (Option (VersionParts NamedParts)) LinkError) → NamesLieIn input (version_record input strings item)
version_lies input strings (Ok (Some version)) = named_lies input strings version.number version.hidden version.named
version_lies input strings (Ok None) = unnamed_lies input 0 false
version_lies input strings (Err error) = unreadable_lies input error

-- the records that are stored of a list of items
found_lies : {A : Type 0} (input : List ℕ) (value : A → Version) (items : List A) (first : ℕ) (old : List Version) (answer : Result ℕ AnyError) (new : List Version) → ((a : A) → NamesLieIn input (value a)) → Fills (record_in value items) first old answer new → IfOk answer (λ count. AllNamesLieIn input count new)
found_lies input value items first old answer new has fills =
    stored (NamesLieIn input) (record_in value items) first old answer new
    (λ i x is. found_has (NamesLieIn input) value (slice_get items i) x has is) fills

mapped_lies : {A : Type 0} (input : List ℕ) (value : A → Version) (items : List A) (first : ℕ) (old : List Version) (answer : Result ℕ AnyError) (new : List Version) → ((a : A) → NamesLieIn input (value a)) → Fills (record_in (λ one. one) (map value items)) first old answer new → IfOk answer (λ count. AllNamesLieIn input count new)
mapped_lies {A} input value items first old answer new has fills =
    stored (NamesLieIn input) (record_in (λ one. one) (map value items)) first old answer new
    (λ i x is. by_item (slice_get items i) x (sym (ap (record_or_none (λ one. one)) (slice_get-map value items i)) ∙ is)) fills
  where
    by_item : (found : Option A) (x : Version) → record_or_none (λ one. one) (option_map value found) ≡ Ok x → NamesLieIn input x
    by_item None x is = absurd (cc)
    by_item (Some a) x is = let same : value a ≡ x = cc in subst (NamesLieIn input) same (has a)

module _ (input : List ℕ) (strings : Result Range AnyError) (first : ℕ) (old : List Version) (answer : Result ℕ AnyError) (new : List Version) where
  pub stored_definitions_lie : (items : List (Result DefinitionParts LinkError)) → Fills (record_in (λ one. one) (definition_items input strings items)) first old answer new → IfOk answer (λ count. AllNamesLieIn input count new)
  stored_definitions_lie items fills = mapped_lies input (definition_record input strings) items first old answer new (definition_lies input strings) fills

  pub stored_needs_lie : (items : List (Result NeedParts LinkError)) → Fills (record_in (λ one. one) (need_items input strings items)) first old answer new → IfOk answer (λ count. AllNamesLieIn input count new)
  stored_needs_lie items fills = mapped_lies input (need_record input strings) items first old answer new (need_lies input strings) fills

  pub stored_versions_lie : (version_of : ℕ → Result (Option (VersionParts NamedParts)) LinkError) (indices : List ℕ) → Fills (record_in (λ i. version_record input strings (version_of i)) indices) first old answer new → IfOk answer (λ count. AllNamesLieIn input count new)
  stored_versions_lie version_of indices fills = found_lies input (λ i. version_record input strings (version_of i)) indices first old answer new (λ i. version_lies input strings (version_of i)) fills
