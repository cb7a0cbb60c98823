-- The last number of each tag that calls ask for, found by one pass over the entries (gABI, "Dynamic Section", d_tag;
-- which tags have a slot is this project's own).
use Rattle.std.specs.Prelude.{◌≡◌, ℕ, ◌-◌, ◌==◌, ◌&&◌, nat_le, nat_lt, List, slice_index_or, slice_set, Option, Some, None, if◌then◌else◌}
use Rattle.elf_linking.specs.Entries.{number_with}
use Rattle.elf_linking.specs.declared.view.tags.TheConstants.{DT_GNU_HASH}
use Rattle.elf_records.specs.declared.dynamic.Dynamic.{Dynamic}

-- the slot of a tag: the tags below 32 have one, those from 0x6ffffff0 to 0x6fffffff, and that of GNU's hash table
abbrev pub slot_of : ℕ → Option ℕ
slot_of tag = if nat_lt tag 32 then Some tag
    else (if nat_le 0x6ffffff0 tag && nat_le tag 0x6fffffff then Some (tag - 0x6fffffd0)
    else (if tag == DT_GNU_HASH then Some 48 else None))

-- the numbers with that of one more entry in a slot
abbrev pub noted_at : Option ℕ → ℕ → List (Option ℕ) → List (Option ℕ)
noted_at None number numbers = numbers
noted_at (Some slot) number numbers = slice_set numbers slot (Some number)

-- the numbers with that of one more entry with this tag
abbrev pub noted : ℕ → ℕ → List (Option ℕ) → List (Option ℕ)
noted tag number numbers = noted_at (slot_of tag) number numbers

-- each slot holds the last number of its tag
abbrev pub AreLast : List (Option ℕ) → List (Dynamic ℕ) → Type 0
AreLast numbers entries =
    (tag slot : ℕ) → slot_of tag ≡ Some slot → slice_index_or numbers slot None ≡ number_with tag entries
