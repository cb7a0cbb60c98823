use Rattle.std.proofs.Common.{◌≡◌, ◌<◌, ◌↔◌, Ok, IsOk, subst}
use Rattle.elf_c.specs.DynamicSymbols.{IsDynamicCount, IsSegmentTable, AreDynamicSymbols, dynamic_symbol_at, dynamic_symbol_name}
use Rattle.elf_c.specs.FoundSymbols.{IsFoundBy}
use Rattle.elf_c.specs.Parsed.{file_of}
use Rattle.elf_c.specs.SymbolTables.{LieWithin, symbol_name_range, symbol_by}
use Rattle.elf_c.specs.Symbols.{symbol_record}
use Rattle.elf_c.proofs.GivenRanges.{given_in}
use Rattle.elf_c.proofs.OpenedFound.{opened_found}
use Rattle.elf_c.proofs.OpenedDynamics.{opened_count, opened_names, opened_number, opened_symbols, segment_within}
use Rattle.elf_c.proofs.dynamic_symbols.xmas_elf_dynamic_symbols_open.Goals as goal

pub returns-clause-exact : goal.returns-clause-exact
returns-clause-exact c = (c.table_of_segment.result, subst (λ f. IsSegmentTable f c.table_of_segment.result) c.file.ensures c.table_of_segment.ensures, c.give.ensures)

pub returns-clause-symbols : goal.returns-clause-symbols
returns-clause-symbols c = λ none bytes are index. given_in
    (λ f t. AreDynamicSymbols f bytes → symbol_by symbol_record f.input.now t index ≡ dynamic_symbol_at symbol_record f bytes index)
    IsSegmentTable c.file.result (file_of c.args.input c.args.header.now) c.table_of_segment.result c.args.out.now c.give.result c.give.new.out
    (λ table made. λ here. opened_symbols c.file.result table made bytes here index) c.file.ensures c.table_of_segment.ensures c.give.ensures none are

pub returns-clause-names : goal.returns-clause-names
returns-clause-names c = λ none bytes are index. given_in
    (λ f t. AreDynamicSymbols f bytes → symbol_by (symbol_name_range f.input.now t) f.input.now t index ≡ dynamic_symbol_at (dynamic_symbol_name f) f bytes index)
    IsSegmentTable c.file.result (file_of c.args.input c.args.header.now) c.table_of_segment.result c.args.out.now c.give.result c.give.new.out
    (λ table made. λ here. opened_names c.file.result table made bytes here index) c.file.ensures c.table_of_segment.ensures c.give.ensures none are

pub returns-clause-found : goal.returns-clause-found
returns-clause-found c = λ none name version said is one. given_in
    (λ f t. IsFoundBy f name version (Ok said) → symbol_by symbol_record f.input.now t said.index ≡ Ok said.symbol)
    IsSegmentTable c.file.result (file_of c.args.input c.args.header.now) c.table_of_segment.result c.args.out.now c.give.result c.give.new.out
    (λ table made. λ here. opened_found c.file.result table made name version said here one) c.file.ensures c.table_of_segment.ensures c.give.ensures none is

pub returns-clause-number : goal.returns-clause-number
returns-clause-number c = λ none. given_in
    (λ f t. IsDynamicCount f (Ok t.count))
    IsSegmentTable c.file.result (file_of c.args.input c.args.header.now) c.table_of_segment.result c.args.out.now c.give.result c.give.new.out
    (λ table made. opened_number c.file.result table made) c.file.ensures c.table_of_segment.ensures c.give.ensures none

pub returns-clause-counted : goal.returns-clause-counted
returns-clause-counted c = λ none index. given_in
    (λ f t. IsOk (symbol_by symbol_record f.input.now t index) ↔ (index < t.count))
    IsSegmentTable c.file.result (file_of c.args.input c.args.header.now) c.table_of_segment.result c.args.out.now c.give.result c.give.new.out
    (λ table made. opened_count c.file.result table made index) c.file.ensures c.table_of_segment.ensures c.give.ensures none

pub returns-clause-within : goal.returns-clause-within
returns-clause-within c = λ none. given_in
    (λ f t. LieWithin f.input.now t)
    IsSegmentTable c.file.result (file_of c.args.input c.args.header.now) c.table_of_segment.result c.args.out.now c.give.result c.give.new.out
    (λ table made. segment_within c.file.result table made) c.file.ensures c.table_of_segment.ensures c.give.ensures none
