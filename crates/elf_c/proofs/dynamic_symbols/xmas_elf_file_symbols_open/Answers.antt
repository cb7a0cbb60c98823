use Rattle.std.proofs.Common.{◌<◌, ◌↔◌, IsOk, subst}
use Rattle.elf_c.specs.DynamicSymbols.{IsFileTable}
use Rattle.elf_c.specs.Parsed.{file_of}
use Rattle.elf_c.specs.SymbolTables.{LieWithin, symbol_by}
use Rattle.elf_c.specs.Symbols.{symbol_record}
use Rattle.elf_c.proofs.GivenRanges.{given_in}
use Rattle.elf_c.proofs.OpenedFiles.{file_count, file_within}
use Rattle.elf_c.proofs.dynamic_symbols.xmas_elf_file_symbols_open.Goals as goal

pub returns-clause-exact : goal.returns-clause-exact
returns-clause-exact c = (c.table_of_file.result, subst (λ f. IsFileTable f c.table_of_file.result) c.file.ensures c.table_of_file.ensures, c.give.ensures)

pub returns-clause-within : goal.returns-clause-within
returns-clause-within c = λ none. given_in
    (λ f t. LieWithin f.input.now t)
    IsFileTable c.file.result (file_of c.args.input c.args.header.now) c.table_of_file.result c.args.out.now c.give.result c.give.new.out
    (λ table made. file_within c.file.result table made) c.file.ensures c.table_of_file.ensures c.give.ensures none

pub returns-clause-counted : goal.returns-clause-counted
returns-clause-counted c = λ none index. given_in
    (λ f t. IsOk (symbol_by symbol_record f.input.now t index) ↔ (index < t.count))
    IsFileTable c.file.result (file_of c.args.input c.args.header.now) c.table_of_file.result c.args.out.now c.give.result c.give.new.out
    (λ table made. file_count c.file.result table made index) c.file.ensures c.table_of_file.ensures c.give.ensures none
