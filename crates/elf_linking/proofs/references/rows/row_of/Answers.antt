use Rattle.std.proofs.Common.{◌==◌, rules, tests}
use Rattle.std.proofs.lemmas.Iterator.{YieldsList-from_slice}
use Rattle.std.proofs.lemmas.Iterator.Search.{find_from_yields_List}
use Rattle.elf_linking.specs.declared.references.types.Row.{Row}
use Rattle.elf_linking.proofs.references.rows.row_of.Goals as goal

pub returns : goal.returns
returns c =
    let found = find_from_yields_List (λ (row : Row). row.kind == c.args.kind) _ _ c.find.result c.find.ensures.ran (YieldsList-from_slice c.rows_of.result.now cc) (λ x b q k. search (rules, tests)) in
    search (rules, found, c.rows_of.ensures)
