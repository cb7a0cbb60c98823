use Rattle.std.proofs.Common.{◌≡◌, IsOk, sym}
use Rattle.elf_c.specs.HashTables.{ArePartsBy, LieWithinBy, opened_of}
use Rattle.elf_c.specs.Parsed.{file_of}
use Rattle.elf_c.specs.Status.{and_so}
use Rattle.elf_c.specs.SymbolTables.{symbol_by}
use Rattle.elf_c.specs.Symbols.{linked_content, symbol_record_in, symbol_record}
use Rattle.elf_c.proofs.GivenRanges.{given_in}
use Rattle.elf_c.proofs.OpenedTables.{tables_read, tables_symbols, tables_within}
use Rattle.elf_c.proofs.hash_tables.xmas_elf_hash_open.Goals as goal

pub returns-clause-within : goal.returns-clause-within
returns-clause-within c = λ none. given_in
    (λ f t. LieWithinBy f.input.now t)
    (λ f r. r ≡ opened_of f c.args.section) c.file.result (file_of c.args.input c.args.header.now) c.opened_of.result c.args.out.now c.give.result c.give.new.out
    (λ opened made. tables_within c.file.result c.args.section opened (sym made)) c.file.ensures c.opened_of.ensures c.give.ensures none

pub returns-clause-symbols : goal.returns-clause-symbols
returns-clause-symbols c = λ none index. given_in
    (λ f t. symbol_by symbol_record f.input.now t.symbols index ≡ and_so (linked_content f c.args.section) (symbol_record_in index))
    (λ f r. r ≡ opened_of f c.args.section) c.file.result (file_of c.args.input c.args.header.now) c.opened_of.result c.args.out.now c.give.result c.give.new.out
    (λ opened made. tables_symbols c.file.result c.args.section opened (sym made) index) c.file.ensures c.opened_of.ensures c.give.ensures none

pub returns-clause-reads : goal.returns-clause-reads
returns-clause-reads c = λ none found parts. given_in
    (λ f t. ArePartsBy f.input.now t found → IsOk found)
    (λ f r. r ≡ opened_of f c.args.section) c.file.result (file_of c.args.input c.args.header.now) c.opened_of.result c.args.out.now c.give.result c.give.new.out
    (λ opened made. tables_read c.file.result c.args.section opened (sym made) found) c.file.ensures c.opened_of.ensures c.give.ensures none parts
