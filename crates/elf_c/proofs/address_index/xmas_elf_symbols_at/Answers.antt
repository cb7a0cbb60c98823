use Rattle.elf_c.proofs.AddressIndexes.{AreThere, symbols_found}
use Rattle.elf_c.proofs.GivenRanges.{given_here}
use Rattle.elf_c.proofs.address_index.xmas_elf_symbols_at.Goals as goal

pub returns-clause-symbols : goal.returns-clause-symbols
returns-clause-symbols c = λ zero. given_here (λ done. AreThere c.args.input.now c.args.index.now c.args.addresses.now c.find_by.new.out) c.find_by.result tt c.give.result tt
    (symbols_found c.args.input.now c.args.index.now c.args.words.now c.args.numbers.now c.args.addresses.now c.args.out.now c.find_by.new.out c.find_by.result c.find_by.ensures) c.give.ensures zero
