-- Whether every section header of a file can be read, and how many can.
use Rattle.std.proofs.Common.{◌≡◌, ℕ, ◌*◌, ◌≤◌, ◌<◌, length, Ok, sym, arith}
use Rattle.std.proofs.lemmas.Bool.Decides.{nat_tests}
use Rattle.elf_base.specs.FileHeader.{file_class, file_order, header_fields}
use Rattle.xmas_elf.specs.Prelude.{ElfFile, SectionHeader}
use Rattle.xmas_elf.specs.Checks.{part_class}
use Rattle.xmas_elf.specs.SectionHeader.{HasSectionEntry, section_at_place, section_count_of, section_entry, section_header_size, section_list, section_of, section_place}
use Rattle.xmas_elf.proofs.HeaderLists.{IsTable, header_list-longest, length-table, table-fits}

pub sections : (file : ElfFile) → IsTable (section_of file) (HasSectionEntry file.input.now file.header) (λ place. section_at_place (file_class file.header) (file_order file.header) place file.input.now) (header_fields file.header.pt2).sh_offset (header_fields file.header.pt2).sh_entry_size (section_header_size (file_class file.header)) (length file.input.now)
unfolding section_entry
sections file = record {
  at = λ i can. grind (arith, nat_tests);
  can = λ i h is. grind (arith, nat_tests);
  within = λ i can. can.within;
  large = λ i can. can.large;
}

-- if the table is within the input and its entries are large enough, no section header is missing
pub length-section_list : (file : ElfFile) → file_class file.header ≡ part_class file.header.pt2
    → section_place file.header (section_count_of file) ≤ length file.input.now
    → section_header_size (file_class file.header) ≤ (header_fields file.header.pt2).sh_entry_size
    → length (section_list file) ≡ section_count_of file
length-section_list file class within large =
    let count = section_count_of file in
    sym (length-table (sections file) count count (omega arith) (λ i below. grind arith) (λ more. absurd (omega arith)))

-- a section header has 40 bytes or more
pub section_list-fits : (file : ElfFile) → length (section_list file) * 40 ≤ length file.input.now
section_list-fits file = table-fits (sections file) (section_count_of file) 40 (grind (arith, nat_tests))

-- a section before one that can be read can be read, so one below the count is in the list
pub section_in_list : (file : ElfFile) (i : ℕ) (h : SectionHeader) → i < section_count_of file → section_of file i ≡ Ok h → i < length (section_list file)
section_in_list file i h counted readable =
    let list = header_list-longest (section_of file) (section_count_of file) in
    let last = length (section_list file) in
    let can = (sections file).can i h readable in
    let here : ¬ (last ≤ i) = λ past. list.longest _ (omega arith) ((sections file).at last (grind arith)) in
    omega (arith, here)
