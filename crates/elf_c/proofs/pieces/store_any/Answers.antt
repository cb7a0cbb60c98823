use Rattle.std.proofs.Common.{sym, subst}
use Rattle.xmas_elf.specs.Symbol.{dyn_entry_32_fields, dyn_entry_64_fields}
use Rattle.elf_c.specs.AddressIndex.{addresses_in_table}
use Rattle.elf_c.specs.Pieces.{AreListedIn}
use Rattle.elf_c.proofs.ListedPieces.{same_listed}
use Rattle.elf_c.proofs.pieces.store_any.Goals as goal

pub returns-in-Narrow : goal.returns-in-Narrow
returns-in-Narrow c = subst (λ all. AreListedIn (addresses_in_table all) c.args.within c.args.range c.args.first c.args.words.now c.args.numbers.now c.args.out.now c.store_symbols.result c.store_symbols.new.out) (sym c.in-Narrow.is)
    (same_listed dyn_entry_32_fields c.in-Narrow.symbols c.args.within c.args.range c.args.first c.args.words.now c.args.numbers.now c.args.out.now c.store_symbols.new.out c.store_symbols.result c.store_symbols.ensures)

pub returns-in-Wide : goal.returns-in-Wide
returns-in-Wide c = subst (λ all. AreListedIn (addresses_in_table all) c.args.within c.args.range c.args.first c.args.words.now c.args.numbers.now c.args.out.now c.store_symbols-in-Wide.result c.store_symbols-in-Wide.new.out) (sym c.in-Wide.is)
    (same_listed dyn_entry_64_fields c.in-Wide.symbols c.args.within c.args.range c.args.first c.args.words.now c.args.numbers.now c.args.out.now c.store_symbols-in-Wide.new.out c.store_symbols-in-Wide.result c.store_symbols-in-Wide.ensures)
