-- The entries of a dynamic segment in order (gABI, "Dynamic Section": DT_NULL).
use Rattle.std.specs.Prelude.{ℕ, ◌/◌, ◌%◌, ◌==◌, ◌||◌, is_some, false, not, Bool, List, [], ◌∷◌, length, map, filter, Option, None, Some, Result, Err, option_map, if◌then◌else◌}
use Rattle.std.specs.List.{find, last_or}
use Rattle.elf_base.specs.FirstError.{unless}
use Rattle.elf_base.specs.Table.{records, table_items, table_rest}
use Rattle.elf_base.specs.declared.bytes.Order.{Order}
use Rattle.elf_base.specs.declared.error.ElfError.TheVariants as elf_error
use Rattle.elf_linking.specs.declared.error.LinkError.{LinkError}
use Rattle.elf_linking.specs.declared.error.LinkError.TheVariants.{Elf}
use Rattle.elf_linking.specs.declared.view.entries.DynamicEntries.{DynamicEntries}
use Rattle.elf_linking.specs.declared.view.entries.Pairs.{Pairs}
use Rattle.elf_linking.specs.declared.view.entries.Pairs.TheVariants as pairs
use Rattle.elf_linking.specs.declared.view.entries.Rest.{Rest}
use Rattle.elf_linking.specs.declared.view.entries.Rest.TheVariants as rest
use Rattle.elf_linking.specs.declared.view.tags.TheConstants.{DT_FLAGS, DT_NULL, DT_SYMBOLIC}
use Rattle.elf_records.specs.Dynamic.{dynamic_32, dynamic_64, dynamic_tag, dynamic_value}
use Rattle.elf_records.specs.declared.dynamic.Dynamic.{Dynamic}

-- the records of bytes that are a whole number of records
abbrev pub whole_entries : ℕ → (List ℕ → Dynamic ℕ) → List ℕ → Result (List (Dynamic ℕ)) LinkError
whole_entries size value bytes =
    unless ((not (length bytes % size == 0), Elf elf_error.NotMultiple) ∷ []) (records size value bytes)

-- the entries in bytes of a file of this class and byte order
abbrev pub all_entries : ℕ → Order → List ℕ → Result (List (Dynamic ℕ)) LinkError
all_entries class order bytes =
    if class == 1 then whole_entries 8 (dynamic_32 order) bytes
    else (if class == 2 then whole_entries 16 (dynamic_64 order) bytes else Err (Elf elf_error.UnknownClass))

-- the entries before the first with tag Null (DT_NULL)
abbrev pub until_null : List (Dynamic ℕ) → List (Dynamic ℕ)
until_null [] = []
until_null (entry ∷ entries) = if dynamic_tag entry == DT_NULL then [] else entry ∷ until_null entries

-- the number in the first entry with a tag
abbrev pub first_with : ℕ → List (Dynamic ℕ) → Option ℕ
first_with tag entries = option_map (λ entry. dynamic_value entry) (find (λ (entry : Dynamic ℕ). dynamic_tag entry == tag) entries)

-- the number in the last entry with a tag, which is the one that glibc reads
abbrev pub number_with : ℕ → List (Dynamic ℕ) → Option ℕ
number_with tag entries =
    last_or None (map (λ entry. dynamic_value entry) (filter (λ (entry : Dynamic ℕ). dynamic_tag entry == tag) entries))

-- a number of flags, if there is one, has a flag
abbrev pub flag_in : Option ℕ → ℕ → Bool
flag_in None flag = false
flag_in (Some flags) flag = flags / flag % 2 == 1

-- references of the file are bound within it first: there is an entry DT_SYMBOLIC, or the entry DT_FLAGS has the
-- flag DF_SYMBOLIC (2)
abbrev pub is_symbolic : List (Dynamic ℕ) → Bool
is_symbolic entries = is_some (number_with DT_SYMBOLIC entries) || flag_in (number_with DT_FLAGS entries) 2

-- the entries of a table
abbrev pub pairs_of : Pairs → List (Dynamic ℕ)
pairs_of (pairs.Narrow table) = table_items table
pairs_of (pairs.Wide table) = table_items table

-- the entries that remain of a table
abbrev pub pairs_left : Rest → List (Dynamic ℕ)
pairs_left (rest.Narrow table) = table_items (table_rest table)
pairs_left (rest.Wide table) = table_items (table_rest table)

-- the entries that an iterator has not yet returned
abbrev pub entries_left : DynamicEntries → List (Dynamic ℕ)
entries_left iter = if iter.ended then [] else until_null (pairs_left iter.rest)
