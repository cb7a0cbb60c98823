-- The lent data of a section found by its name.
use Rattle.std.proofs.Common.{◌≡◌, List, ℕ, Result, Ok, Err, IsOk, ◌↔◌, Bor, refl}
use Rattle.elf_base.specs.Lent.{IfPart}
use Rattle.xmas_elf.specs.Prelude.{ElfError, ElfFile, SectionHeader, ShType}
use Rattle.xmas_elf.specs.SectionData.{HasSectionData, IsSectionData, IsTypedData}
use Rattle.xmas_elf.specs.SectionHeader.{section_type}
use Rattle.xmas_elf.specs.NameTable.{IsFirstNamed}

-- the data of the section that was found are those of the first section with the name
pub typed_data : (file : ElfFile) (name : List ℕ) (kind : ShType) (section : SectionHeader) (r : Result (Bor (List ℕ)) ElfError) → section_type section ≡ Ok kind → (index : ℕ) × IsFirstNamed file name index section → (IsOk r ↔ HasSectionData file section) → IfPart (IsSectionData file section) r → IfPart (IsTypedData file name kind) r
typed_data file name kind section (Ok lent) typed (index, first) readable lends = record {
  named = record { index = index; section = section; first = first; there = readable.0 refl; is_data = lends };
  typed = typed;
}
typed_data file name kind section (Err error) typed found readable lends = tt
