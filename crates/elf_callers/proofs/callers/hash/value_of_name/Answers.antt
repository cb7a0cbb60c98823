use Rattle.std.proofs.Common.{rules}
use Rattle.elf_callers.specs.Linked.{unchecked, unlinked}
use Rattle.xmas_elf.specs.Table.{table_data, table_order}
use Rattle.elf_callers.proofs.callers.hash.value_of_name.Goals as goal

pub returns-in-None-clause-value : goal.returns-in-None-clause-value
returns-in-None-clause-value c = record {
  table = c.in-Some.table;
  order = table_order c.in-Some.symbols;
  bytes = table_data c.in-Some.symbols;
  linked = c.in-Some.ensures;
  good = search rules;
  value = c.in-None.ensures;
}

pub returns-in-Some-symbol_with_name-clause-value : goal.returns-in-Some-symbol_with_name-clause-value
returns-in-Some-symbol_with_name-clause-value c = record {
  table = c.in-Some.table;
  order = table_order c.in-Some.symbols;
  bytes = table_data c.in-Some.symbols;
  linked = c.in-Some.ensures;
  good = search rules;
  value = search rules;
}

pub returns-in-Err-clause-failed : goal.returns-in-Err-clause-failed
returns-in-Err-clause-failed c =
    unchecked c.in-Some.table (table_order c.in-Some.symbols) (table_data c.in-Some.symbols) c.in-Err.error c.in-Some.ensures c.in-Err.ensures.exact

pub returns-in_default-clause-failed : goal.returns-in_default-clause-failed
returns-in_default-clause-failed c = unlinked c.in_default.ensures
