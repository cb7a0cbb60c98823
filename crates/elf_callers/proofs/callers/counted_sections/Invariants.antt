use Rattle.std.proofs.Common.{◌≡◌, ◌+◌, ◌^◌, ◌<◌, length}
use Rattle.xmas_elf.specs.SectionHeader.{section_list, section_rest}
use Rattle.elf_callers.proofs.callers.counted_sections.Given as goal

-- the count so far and what is left make up all sections
abbrev pub invariant-loop-section : goal.invariant-loop-section
invariant-loop-section l = let sections = section_list l.fn.file in
    (l.count + length (section_rest l._section-iterator) ≡ length sections) × (length sections < 2 ^ 59)
