use Rattle.std.proofs.Common.{◌≡◌, ◌<◌, ◌↔◌, IsOk, sym}
use Rattle.elf_base.specs.FirstError.{and_then}
use Rattle.xmas_elf.specs.SectionContent.{section_content_of}
use Rattle.xmas_elf.specs.SectionHeader.{section_of}
use Rattle.elf_c.specs.Parsed.{file_of}
use Rattle.elf_c.specs.Status.{and_so}
use Rattle.elf_c.specs.SymbolTables.{LieWithin, symbol_name_range, symbol_by, table_of_section}
use Rattle.elf_c.specs.Symbols.{symbol_record_in, symbol_name_at, symbol_record}
use Rattle.elf_c.proofs.GivenRanges.{given_in}
use Rattle.elf_c.proofs.OpenedSymbols.{opened_count, opened_names, opened_symbols, section_within}
use Rattle.elf_c.proofs.symbol_tables.xmas_elf_symbols_open.Goals as goal

pub returns-clause-symbols : goal.returns-clause-symbols
returns-clause-symbols c = λ none index. given_in
    (λ f t. symbol_by symbol_record f.input.now t index ≡ and_so (and_then (section_of f c.args.section) (section_content_of f)) (symbol_record_in index))
    (λ f r. r ≡ table_of_section f c.args.section) c.file.result (file_of c.args.input c.args.header.now) c.table_of_section.result c.args.out.now c.give.result c.give.new.out
    (λ table made. opened_symbols c.file.result c.args.section table (sym made) index) c.file.ensures c.table_of_section.ensures c.give.ensures none

pub returns-clause-names : goal.returns-clause-names
returns-clause-names c = λ none index. given_in
    (λ f t. symbol_by (symbol_name_range f.input.now t) f.input.now t index ≡ symbol_name_at f c.args.section index)
    (λ f r. r ≡ table_of_section f c.args.section) c.file.result (file_of c.args.input c.args.header.now) c.table_of_section.result c.args.out.now c.give.result c.give.new.out
    (λ table made. opened_names c.file.result c.args.section table (sym made) index) c.file.ensures c.table_of_section.ensures c.give.ensures none

pub returns-clause-counted : goal.returns-clause-counted
returns-clause-counted c = λ none index. given_in
    (λ f t. IsOk (symbol_by symbol_record f.input.now t index) ↔ (index < t.count))
    (λ f r. r ≡ table_of_section f c.args.section) c.file.result (file_of c.args.input c.args.header.now) c.table_of_section.result c.args.out.now c.give.result c.give.new.out
    (λ table made. opened_count c.file.result c.args.section table (sym made) index) c.file.ensures c.table_of_section.ensures c.give.ensures none

pub returns-clause-within : goal.returns-clause-within
returns-clause-within c = λ none. given_in
    (λ f t. LieWithin f.input.now t)
    (λ f r. r ≡ table_of_section f c.args.section) c.file.result (file_of c.args.input c.args.header.now) c.table_of_section.result c.args.out.now c.give.result c.give.new.out
    (λ table made. section_within c.file.result c.args.section table (sym made)) c.file.ensures c.table_of_section.ensures c.give.ensures none
