use Rattle.std.proofs.Common.{sym, subst}
use Rattle.xmas_elf.specs.Symbol.{dyn_entry_32_fields, dyn_entry_64_fields}
use Rattle.elf_c.specs.AddressIndex.{AreStored, IsAnswerIn, addresses_in_table}
use Rattle.elf_c.proofs.AddressIndexes.{same_answers}
use Rattle.elf_c.proofs.address_index.find_in.Goals as goal

pub returns-in-Narrow : goal.returns-in-Narrow
returns-in-Narrow c = subst (λ all. AreStored (IsAnswerIn (addresses_in_table all) c.args.index.now c.args.words.now c.args.numbers.now) c.args.addresses.now c.args.out.now c.find_all.new.out) (sym c.in-Narrow.is)
    (same_answers dyn_entry_32_fields c.in-Narrow.symbols c.args.index.now c.args.words.now c.args.numbers.now c.args.addresses.now c.args.out.now c.find_all.new.out c.find_all.ensures)

pub returns-in-Wide : goal.returns-in-Wide
returns-in-Wide c = subst (λ all. AreStored (IsAnswerIn (addresses_in_table all) c.args.index.now c.args.words.now c.args.numbers.now) c.args.addresses.now c.args.out.now c.find_all-in-Wide.new.out) (sym c.in-Wide.is)
    (same_answers dyn_entry_64_fields c.in-Wide.symbols c.args.index.now c.args.words.now c.args.numbers.now c.args.addresses.now c.args.out.now c.find_all-in-Wide.new.out c.find_all-in-Wide.ensures)
