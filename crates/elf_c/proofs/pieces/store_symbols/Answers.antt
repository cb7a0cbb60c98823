use Rattle.std.proofs.lemmas.Bool.{ltb-true}
use Rattle.std.specs.Prelude.{length, max, nat_lt}
use Rattle.elf_addresses.specs.Index.{number_count, word_count}
use Rattle.elf_addresses.specs.SymbolClaims.{claim_of_symbols, symbol_count}
use Rattle.elf_c.specs.Pieces.{AreRuns, run_record}
use Rattle.elf_c.proofs.ListedPieces.{runs, symbols_listed}
use Rattle.elf_c.proofs.pieces.store_symbols.Goals as goal

pub returns : goal.returns
returns g c =
    let symbols = c.args.symbols.now in
    let claim_of = claim_of_symbols g.E.Entry.fields symbols c.args.within in
    let count = symbol_count symbols in
    let begin = c.args.range.0 in
    let limit = max begin c.args.range.1 in
    let stored = c.store.ensures in
    symbols_listed (AreRuns claim_of limit begin) run_record (nat_lt (length c.args.words.now) (word_count claim_of count)) (nat_lt (length c.args.numbers.now) (number_count claim_of count)) count c.args.first c.args.out.now c.store.new.out c.new.result c.in_ok-pieces.pieces c.store.result c.in_ok-pieces.was c.new.ensures.many (λ below short. c.new.ensures.few below (ltb-true _ _ short)) (λ below short. c.new.ensures.few_numbers below (ltb-true _ _ short))
    (stored.0, runs g.E.Entry.fields claim_of limit begin c.in_ok-pieces.pieces stored.0 stored.1 c.in_ok-pieces.ensures.claims c.in_ok-pieces.ensures.last c.in_ok-pieces.ensures.first, stored.2, stored.3)
