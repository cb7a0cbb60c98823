use Rattle.std.proofs.Common.{◌∙◌, ap, option_map, rules, unwrap_or}
use Rattle.std.proofs.lemmas.Iterator.{YieldsList-from_slice}
use Rattle.std.proofs.lemmas.Iterator.Search.{find_from_yields_List}
use Rattle.elf_linking.specs.RelocationTypes.{is_relative}
use Rattle.elf_linking.specs.declared.references.types.Row.{Row}
use Rattle.elf_linking.proofs.lemmas.RelocationTypes.{relative_number}
use Rattle.elf_linking.proofs.references.rows.relative_of.Goals as goal

pub returns-clause-exact : goal.returns-clause-exact
returns-clause-exact c =
    let found = find_from_yields_List (λ row. is_relative row.formula) _ _ c.find.result c.find.ensures.ran (YieldsList-from_slice c.rows_of.result.now cc) (λ x b q k. search rules) in
    search (rules, found, c.rows_of.ensures)

pub returns-clause-kind : goal.returns-clause-kind
returns-clause-kind c = ap (λ row. unwrap_or (option_map (λ (row : Row). row.kind) row) 8) (returns-clause-exact c) ∙ relative_number c.args.machine
