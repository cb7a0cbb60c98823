use Rattle.std.proofs.Common.{rules}
use Rattle.xmas_elf.specs.SymbolTable.{table_symbols}
use Rattle.elf_c.proofs.Looking.{finds_name, looks_for_name}
use Rattle.elf_c.proofs.look_ups.look_up.Goals as goal

-- the test passes every symbol
pub returns : goal.returns
returns g c = (
  c.lookup_counted-found.result.0,
  c.lookup_counted-found.result.1,
  looks_for_name _ _ (λ e. search rules) _ (table_symbols c.args.symbols.now) _ _ _ (c.lookup_counted-found.ensures.answer (λ e within yes no. search rules)),
  c.lookup_counted-found.ensures.in_chains,
  c.lookup_counted-found.ensures.in_symbols,
  (λ good. finds_name _ _ (λ e. search rules) _ (table_symbols c.args.symbols.now) _ _ (c.lookup_counted-found.ensures.good (λ e within yes no. search rules) good)),
  c.said.ensures,
)
