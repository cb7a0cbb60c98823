use Rattle.std.proofs.Common.{◌≤◌, length, IfOk, sym, ap, subst, ◌∙◌}
use Rattle.xmas_elf.specs.Symbol.{dyn_entry_32_fields, dyn_entry_64_fields}
use Rattle.elf_c.specs.AddressIndex.{IsIndexIn, addresses_in_table, index_sizes_of}
use Rattle.elf_c.proofs.AddressIndexes.{same_built, same_sizes}
use Rattle.elf_c.proofs.address_index.build_in.Goals as goal

pub returns-in-Narrow-clause-exact : goal.returns-in-Narrow-clause-exact
returns-in-Narrow-clause-exact c = c.build.ensures.exact ∙ (same_sizes dyn_entry_32_fields c.in-Narrow.symbols c.args.within c.args.words.now c.args.numbers.now
    ∙ ap (λ all. index_sizes_of (addresses_in_table all) c.args.within c.args.words.now c.args.numbers.now) (sym c.in-Narrow.is))

pub returns-in-Narrow-clause-built : goal.returns-in-Narrow-clause-built
returns-in-Narrow-clause-built c = subst (λ all. IfOk c.build.result (λ sizes. sizes.words ≤ length c.args.words.now → IsIndexIn (addresses_in_table all) c.args.within sizes.sized_count sizes.open_count c.build.new.words c.build.new.numbers)) (sym c.in-Narrow.is)
    (same_built dyn_entry_32_fields c.in-Narrow.symbols c.args.within (length c.args.words.now) c.build.new.words c.build.new.numbers c.build.result c.build.ensures.built)

pub returns-in-Wide-clause-exact : goal.returns-in-Wide-clause-exact
returns-in-Wide-clause-exact c = c.build-in-Wide.ensures.exact ∙ (same_sizes dyn_entry_64_fields c.in-Wide.symbols c.args.within c.args.words.now c.args.numbers.now
    ∙ ap (λ all. index_sizes_of (addresses_in_table all) c.args.within c.args.words.now c.args.numbers.now) (sym c.in-Wide.is))

pub returns-in-Wide-clause-built : goal.returns-in-Wide-clause-built
returns-in-Wide-clause-built c = subst (λ all. IfOk c.build-in-Wide.result (λ sizes. sizes.words ≤ length c.args.words.now → IsIndexIn (addresses_in_table all) c.args.within sizes.sized_count sizes.open_count c.build-in-Wide.new.words c.build-in-Wide.new.numbers)) (sym c.in-Wide.is)
    (same_built dyn_entry_64_fields c.in-Wide.symbols c.args.within (length c.args.words.now) c.build-in-Wide.new.words c.build-in-Wide.new.numbers c.build-in-Wide.result c.build-in-Wide.ensures.built)
