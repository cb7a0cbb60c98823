use Rattle.std.proofs.Common.{◌∙◌}
use Rattle.elf_addresses.specs.SymbolAt.{claim_at}
use Rattle.elf_c.proofs.AddressIndexes.{told_is}
use Rattle.elf_c.proofs.address_index.find_one.Goals as goal

pub returns : goal.returns
returns g c = record {
  found = claim_at g.E.Entry.fields c.symbol_at.result;
  covers = c.symbol_at.ensures.covers;
  innermost = c.symbol_at.ensures.innermost;
  numbers = c.of.ensures ∙ told_is g.E.Entry.fields c.args.index.now.claims.symbols.now c.args.address c.symbol_at.result c.symbol_at.ensures.tells;
}
