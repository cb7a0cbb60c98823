use Rattle.elf_callers.proofs.Totals.{HasAdded}
use Rattle.elf_callers.specs.StringBytes.{LiesThere, string_size}
use Rattle.xmas_elf.specs.SectionHeader.{section_list, section_rest}
use Rattle.elf_callers.proofs.callers.string_bytes_of.Given as goal

-- the string tables so far are added
abbrev pub invariant-loop-section : goal.invariant-loop-section
invariant-loop-section l = let file = l.fn.file in
    HasAdded (LiesThere file) string_size (section_list file) (section_rest l.section-iterator) l.total
