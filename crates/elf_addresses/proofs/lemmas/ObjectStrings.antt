-- The string table of a file from which an object was read.
use Rattle.std.proofs.Common.{◌≡◌, ℕ, Option, Ok, ap, ◌∙◌}
use Rattle.elf_base.specs.FirstError.{and_then}
use Rattle.elf_linking.specs.DynamicObject.{IsObjectFor}
use Rattle.elf_linking.specs.DynamicView.{dynamic_strings_of, strings_by}
use Rattle.elf_linking.specs.declared.object.DynamicObject.{DynamicObject}
use Rattle.xmas_elf.specs.Types.{ElfFile}

pub strings_of_object : {E : Type 0} {r : _} (count : Option ℕ) (class size : ℕ) (file : ElfFile) (object : DynamicObject E r) → IsObjectFor count class size file object → dynamic_strings_of file ≡ Ok object.strings.now
unfolding dynamic_strings_of
strings_of_object count class size file object is = ap (λ entries. and_then entries (strings_by file)) is.entries_are ∙ is.strings_are
