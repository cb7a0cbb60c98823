use Rattle.std.proofs.Common.{◌==◌, rules, tests}
use Rattle.std.proofs.lemmas.Bool.{lt-ltb}
use Rattle.std.proofs.lemmas.Iterator.{YieldsList-from_slice}
use Rattle.std.proofs.lemmas.Iterator.Search.{find_from_yields_List}
use Rattle.elf_loading.specs.Message.{load_number}
use Rattle.elf_loading.proofs.Numbers.{all_errors, found_error}
use Rattle.elf_loading.proofs.error.LoadError.with_number.Goals as goal

pub returns-clause-only : goal.returns-clause-only
returns-clause-only c = λ error is above.
    let found = find_from_yields_List (λ one. load_number one == c.args.number) _ _ c.find.result c.find.ensures.ran (YieldsList-from_slice all_errors cc) (λ x b q k. search (rules, tests)) in
    search (rules, found, found_error error c.args.number is (lt-ltb 300 c.args.number above))
