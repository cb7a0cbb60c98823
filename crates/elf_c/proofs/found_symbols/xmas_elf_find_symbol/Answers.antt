use Rattle.std.proofs.Common.{subst}
use Rattle.elf_c.specs.FoundSymbols.{IsFoundBy}
use Rattle.elf_c.proofs.found_symbols.xmas_elf_find_symbol.Goals as goal

pub returns : goal.returns
returns c = (c.search_by.result, subst (λ f. IsFoundBy f c.args.name.now c.args.version.now c.search_by.result) c.file.ensures c.search_by.ensures, c.give.ensures)
