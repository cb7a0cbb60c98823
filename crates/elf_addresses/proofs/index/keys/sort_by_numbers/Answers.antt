use Rattle.std.proofs.lemmas.List.Sorted.{IsPermutation-trans}
use Rattle.elf_addresses.proofs.index.keys.sort_by_numbers.Goals as goal

pub returns-clause-moved : goal.returns-clause-moved
returns-clause-moved g c =
    IsPermutation-trans c.args.words.now c.sort_by_keys.new.words c.sort_runs.new.words c.sort_by_keys.ensures.moved c.sort_runs.ensures.moved
