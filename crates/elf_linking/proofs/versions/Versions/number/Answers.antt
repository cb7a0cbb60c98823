use Rattle.std.proofs.Common.{◌≡◌, ◌+◌, ◌*◌, ◌<◌, ◌≤◌, Ok, Some, ap, length, rules, ◌∙◌}
use Rattle.elf_linking.specs.VersionList.{numbers_in}
use Rattle.elf_linking.specs.VersionTables.{tables_with}
use Rattle.elf_linking.specs.Versions.{version_list, version_tables}
use Rattle.elf_linking.proofs.VersionSearch.{number_missing, number_there, numbers}
use Rattle.elf_linking.proofs.versions.Versions.number.Goals as goal

pub returns-then-place-numbers : goal.returns-then-place-numbers
returns-then-place-numbers c =
    let it = c.args.self.now in
    let bytes = c.in-Some.numbers.now in
    let order = it.definitions.records.order in
    let is : numbers_in (version_tables it) ≡ Some (numbers order bytes) = ap (λ n. numbers_in (tables_with n it.definitions.records it.needs)) c.in-Some.is in
    let short : length bytes < c.args.index * 2 + 2 = search rules in
    let found = number_missing order bytes (version_tables it) (version_list it) it.list.1 is c.args.index short in
    record { tables = found.0; list = found.1 }

pub returns : goal.returns
returns c =
    let it = c.args.self.now in
    let bytes = c.in-Some.numbers.now in
    let order = it.definitions.records.order in
    let is : numbers_in (version_tables it) ≡ Some (numbers order bytes) = ap (λ n. numbers_in (tables_with n it.definitions.records it.needs)) c.in-Some.is in
    let fits : c.args.index * 2 + 2 ≤ length bytes = search rules in
    let found = number_there order bytes (version_tables it) (version_list it) it.list.1 is c.args.index fits in
    record { tables = ap (λ raw. Ok (Some raw)) c.read_u16.ensures ∙ found.0; list = ap (λ raw. Ok (Some raw)) c.read_u16.ensures ∙ found.1 }
