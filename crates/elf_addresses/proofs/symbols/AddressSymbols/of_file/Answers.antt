use Rattle.std.proofs.Common.{rules, subst}
use Rattle.elf_addresses.specs.OfFile.{by_symtab, in_symtab, other_class}
use Rattle.elf_addresses.specs.Symtab.{IsSymtabSection}
use Rattle.elf_addresses.proofs.OfFile.{dynamic_symbols}
use Rattle.elf_addresses.proofs.symbols.AddressSymbols.of_file.Goals as goal
use Rattle.xmas_elf.specs.First.{FindsFirstAt}
use Rattle.xmas_elf.specs.SectionHeader.{section_list}

pub returns-then-raw-CLASS : goal.returns-then-raw-CLASS
returns-then-raw-CLASS g c = other_class (search rules)

pub returns-in-Ok : goal.returns-in-Ok
returns-in-Ok g c =
    let file = c.args.file.now in
    let first = subst (λ o. FindsFirstAt IsSymtabSection (section_list file) o) c.in-Some.is c.symtab_index.ensures in
    in_symtab c.in-Some.index (search rules) first c.in-Ok.ensures.symbols c.in-Ok.ensures.place

pub returns-in-Err : goal.returns-in-Err
returns-in-Err g c =
    let file = c.args.file.now in
    let first = subst (λ o. FindsFirstAt IsSymtabSection (section_list file) o) c.in-Some.is c.symtab_index.ensures in
    by_symtab c.in-Some.index c.in-Err.error (search rules) first c.in-Err.ensures.symbols

pub returns-in-None : goal.returns-in-None
returns-in-None g c =
    let file = c.args.file.now in
    let none = subst (λ o. FindsFirstAt IsSymtabSection (section_list file) o) c.in-None.is c.symtab_index.ensures in
    dynamic_symbols _ _ file c.of_dynamic.result (search rules) none c.of_dynamic.ensures
