-- An entry of the dynamic section has both a value and a pointer exactly if its tag is OS-specific or
-- processor-specific.
use Rattle.std.proofs.Common.{◌≡◌, ℕ, ◌⊎◌, true, Ok, is_ok, ◌↔◌}
use Rattle.elf_records.proofs.Tags
use Rattle.elf_records.specs.Dynamic.{pointer_of, tag_of, value_of}
use Rattle.elf_records.specs.declared.dynamic.Tag.TheVariants as tag

pub value_and_pointer : (n value : ℕ) → ((is_ok (value_of n value) ≡ true) × (is_ok (pointer_of n value) ≡ true)) ↔ ((m : ℕ) × ((tag_of n ≡ Ok (tag.OsSpecific m)) ⊎ (tag_of n ≡ Ok (tag.ProcessorSpecific m))))
value_and_pointer n value = Tags.value_and_pointer n value
