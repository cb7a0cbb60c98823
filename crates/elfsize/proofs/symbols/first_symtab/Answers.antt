use Rattle.std.proofs.Common.{◌≡◌, ap, length, sym, ◌∙◌}
use Rattle.elf_addresses.specs.FileClaims.{is_whole, section_parts}
use Rattle.elf_addresses.specs.Symtab.{IsSymtabSection}
use Rattle.elf_base.specs.FileHeader.{header_fields}
use Rattle.xmas_elf.specs.SectionHeader.{section_count_of, section_list}
use Rattle.elfsize.proofs.WholeTables.{in_all, in_none}
use Rattle.elfsize.proofs.symbols.first_symtab.Goals as goal

pub returns-then-count-eq0 : goal.returns-then-count-eq0
returns-then-count-eq0 c =
    let file = c.args.file.now in
    let counted = c.count.ensures ∙ ap (λ f. length (section_parts f)) c.new.ensures in
    let none : length (section_parts file) ≡ 0 = sym counted ∙ c.if-count-eq0.true in
    in_none IsSymtabSection (section_parts file) none

pub returns : goal.returns
returns c =
    let file = c.args.file.now in
    let counted = c.count.ensures ∙ ap (λ f. length (section_parts f)) c.new.ensures in
    let whole = is_whole (header_fields file.header.pt2).sh_offset (section_count_of file) (length (section_list file)) in
    in_all IsSymtabSection whole (section_list file) c.symtab_index.result (λ none. c.if-count-eq0.false (counted ∙ none)) c.symtab_index.ensures
