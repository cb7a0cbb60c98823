-- The symbols of a file and their names lie in the input.
use Rattle.std.proofs.Common.{◌≡◌, ℕ, List, Some, None, Result, Ok, Err, IfOk, IsOkAnd, Bor, refl}
use Rattle.elf_base.specs.declared.error.ElfError.{ElfError}
use Rattle.elf_linking.specs.DynamicView.{LieAsSymbols, LiesAsStrings, dynamic_entries_of}
use Rattle.elf_linking.specs.FileSymbols.{LieAsFileSymbols, as_section, as_segment, symbols_section_of}
use Rattle.elf_linking.specs.declared.error.LinkError.{LinkError}
use Rattle.elf_records.specs.declared.dynamic.Dynamic.{Dynamic}
use Rattle.xmas_elf.specs.Place.{LiesAsSection}
use Rattle.xmas_elf.specs.SectionHeader.{section_fields, section_of}
use Rattle.xmas_elf.specs.Types.{ElfFile, SectionHeader}

module _ (file : ElfFile) (bytes strings : Bor (List ℕ)) where
  by_linked : (section : SectionHeader) → symbols_section_of file ≡ Some section → LiesAsSection file section bytes → (linked : Result SectionHeader ElfError) → section_of file (section_fields section).link ≡ linked → IsOkAnd linked (λ one. LiesAsSection file one strings) → LieAsFileSymbols file bytes strings
  by_linked section is lies (Ok linked) at there = as_section section linked is at lies there
  by_linked section is lies (Err error) at there = absurd there

  by_entries : symbols_section_of file ≡ None → (read : Result (List (Dynamic ℕ)) LinkError) → dynamic_entries_of file ≡ read → IsOkAnd read (λ entries. LieAsSymbols file entries bytes × LiesAsStrings file entries strings) → LieAsFileSymbols file bytes strings
  by_entries none (Ok entries) at lie = as_segment entries none at lie.0 lie.1
  by_entries none (Err error) at lie = absurd lie

-- those of a section
pub in_section_lie : (file : ElfFile) (section : SectionHeader) (parts : Result (Bor (List ℕ) × Bor (List ℕ)) LinkError) → symbols_section_of file ≡ Some section → IfOk parts (λ both. LiesAsSection file section both.0 × IsOkAnd (section_of file (section_fields section).link) (λ linked. LiesAsSection file linked both.1)) → IfOk parts (λ both. LieAsFileSymbols file both.0 both.1)
in_section_lie file section (Ok both) is lie = by_linked file both.0 both.1 section is lie.0 (section_of file (section_fields section).link) refl lie.1
in_section_lie file section (Err error) is lie = tt

-- those of a dynamic segment
pub in_segment_lie : (file : ElfFile) (parts : Result (Bor (List ℕ) × Bor (List ℕ)) LinkError) → symbols_section_of file ≡ None → IfOk parts (λ both. IsOkAnd (dynamic_entries_of file) (λ entries. LieAsSymbols file entries both.0 × LiesAsStrings file entries both.1)) → IfOk parts (λ both. LieAsFileSymbols file both.0 both.1)
in_segment_lie file (Ok both) none lie = by_entries file both.0 both.1 none (dynamic_entries_of file) refl lie
in_segment_lie file (Err error) none lie = tt
