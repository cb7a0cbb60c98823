-- The section with a name, which may not be UTF-8.
use Rattle.std.proofs.Common.{◌≡◌, ℕ, Bool, true, false, List, Err, refl}
use Rattle.std.specs.Str.{IsUtf8, is_utf8}
use Rattle.std.proofs.lemmas.Str.{IsUtf8-from_is_utf8, is_utf8-from_IsUtf8}
use Rattle.xmas_elf.specs.NameTable.{section_named}
use Rattle.xmas_elf.specs.declared.ElfFile.{ElfFile}
use Rattle.elf_c.specs.Records.{found_section, section_found}
use Rattle.elf_c.specs.declared.status.AnyError.TheVariants.{NotFound}

pub found_utf8 : (file : ElfFile) (name : List ℕ) → IsUtf8 name → found_section file name ≡ section_found (section_named file name)
found_utf8 file name is = rw (is_utf8-from_IsUtf8 name is) refl

not_utf8 : (name : List ℕ) (b : Bool) → is_utf8 name ≡ b → (IsUtf8 name → ⊥) → is_utf8 name ≡ false
not_utf8 name true e never = elim (never (IsUtf8-from_is_utf8 name e)) [ ]
not_utf8 name false e never = e

pub found_not_utf8 : (file : ElfFile) (name : List ℕ) → (IsUtf8 name → ⊥) → found_section file name ≡ Err NotFound
found_not_utf8 file name never = rw (not_utf8 name (is_utf8 name) refl never) refl
