use Rattle.std.proofs.Common.{◌≡◌, rules, subst}
use Rattle.elf_base.specs.Table.{table_bytes}
use Rattle.elf_linking.specs.FileSymbols.{LieAsFileSymbols}
use Rattle.xmas_elf.specs.SymbolTable.{carried_table}
use Rattle.elf_linking.proofs.symbols.table_of.Goals as goal

pub returns : goal.returns
returns g c = record {
  strings = c.in_ok-bytes.strings;
  strings_are = search rules;
  bytes_are = search rules;
  order_is = search rules;
  symbols_are = search rules;
  lie = subst (λ bytes. LieAsFileSymbols c.args.file.now bytes c.in_ok-bytes.strings) held c.in_ok-bytes.ensures.place;
}
  where
    held : c.in_ok-bytes.bytes ≡ table_bytes (carried_table c.with_strings.result)
    held = search rules
