-- Whether every program header of a file can be read, and how many can.
use Rattle.std.proofs.Common.{◌≡◌, ◌≢◌, ◌*◌, ◌≤◌, length, sym, arith}
use Rattle.std.proofs.lemmas.Bool.Decides.{nat_tests}
use Rattle.elf_base.specs.FileHeader.{file_class, file_order, header_fields}
use Rattle.xmas_elf.specs.Prelude.{ElfFile}
use Rattle.xmas_elf.specs.Checks.{part_class}
use Rattle.xmas_elf.specs.SectionHeader.{program_count_of}
use Rattle.xmas_elf.specs.ProgramHeader.{HasProgram, program_at_place, program_entry, program_header_size, program_list, program_of, program_place}
use Rattle.xmas_elf.proofs.HeaderLists.{IsTable, length-table, table-fits}

pub programs : (file : ElfFile) → IsTable (program_of file) (HasProgram file) (λ place. program_at_place (file_class file.header) (file_order file.header) place file.input.now) (header_fields file.header.pt2).ph_offset (header_fields file.header.pt2).ph_entry_size (program_header_size (file_class file.header)) (length file.input.now)
unfolding program_entry
programs file = record {
  at = λ i can. grind (arith, nat_tests);
  can = λ i h is. grind (arith, nat_tests);
  within = λ i can. can.within;
  large = λ i can. can.large;
}

-- if the table is within the input and its entries are large enough, no program header is missing
pub length-program_list : (file : ElfFile) → file_class file.header ≡ part_class file.header.pt2
    → program_place file.header (program_count_of file) ≤ length file.input.now
    → (header_fields file.header.pt2).ph_offset ≢ 0
    → program_header_size (file_class file.header) ≤ (header_fields file.header.pt2).ph_entry_size
    → length (program_list file) ≡ program_count_of file
length-program_list file class within placed large =
    let count = program_count_of file in
    sym (length-table (programs file) count count (omega arith) (λ i below. grind arith) (λ more. absurd (omega arith)))

-- a program header has 32 bytes or more
pub program_list-fits : (file : ElfFile) → length (program_list file) * 32 ≤ length file.input.now
program_list-fits file = table-fits (programs file) (program_count_of file) 32 (grind (arith, nat_tests))
