use Rattle.std.proofs.Common.{◌≡◌}
use Rattle.std.specs.List.{find}
use Rattle.elf_linking.specs.FileSymbols.{is_of_type}
use Rattle.xmas_elf.specs.SectionHeader.{section_list, section_rest}
use Rattle.elf_linking.proofs.symbols.first_of_type.Given as goal

-- a search of the remaining sections has the result of a search of all sections
abbrev pub invariant-loop-section : goal.invariant-loop-section
invariant-loop-section l =
    find (is_of_type l.kind) (section_rest l.section-iterator) ≡ find (is_of_type l.kind) (section_list l.file)
