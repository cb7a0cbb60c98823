use Rattle.std.proofs.Common.{None, rules, sym, ◌∙◌}
use Rattle.elf_addresses.proofs.lemmas.ObjectStrings.{strings_of_object}
use Rattle.elf_addresses.proofs.symbols.AddressSymbols.of_dynamic.Goals as goal

pub unreachable-requires : goal.unreachable-requires
unreachable-requires g c =
    let exact = c.in_default.ensures.exact in
    let strings = strings_of_object None g.E.LinkedSymbol.CLASS g.E.Record.SIZE c.args.file.now c.in_ok-object.object c.in_ok-object.ensures in
    cc

pub returns : goal.returns
returns g c = record {
  object = c.in_ok-object.object;
  is_object = c.in_ok-object.ensures;
  table = c.table.ensures ∙ c.symbols.ensures.table;
  strings = sym c.in-Ok.ensures.exact;
  strings_lie = c.in-Ok.ensures.place;
  indices = c.in-Ok-new.ensures.1;
  machine = search rules;
}
