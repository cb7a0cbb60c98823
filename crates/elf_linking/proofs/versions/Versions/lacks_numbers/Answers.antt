use Rattle.std.proofs.Common.{◌≡◌, ◌/◌, length, nat_lt, rules, ap, ◌∙◌}
use Rattle.elf_linking.specs.VersionList.{numbers_in}
use Rattle.elf_linking.specs.VersionTables.{tables_with}
use Rattle.elf_linking.specs.Versions.{lacks_numbers, version_list}
use Rattle.elf_linking.proofs.VersionChecks.{lacks_in}
use Rattle.elf_linking.proofs.versions.Versions.lacks_numbers.Goals as goal

pub returns-in-Some : goal.returns-in-Some
returns-in-Some c =
    let it = c.args.self.now in
    let bytes = c.in-Some.numbers.now in
    let is : lacks_numbers (version_list it).numbers c.args.symbol_count ≡ nat_lt (length bytes / 2) c.args.symbol_count =
    ap (λ list. lacks_numbers list.numbers c.args.symbol_count) it.list.1
    ∙ ap (λ numbers. lacks_numbers (numbers_in (tables_with numbers it.definitions.records it.needs)) c.args.symbol_count) c.in-Some.is
    ∙ lacks_in it.definitions.records.order bytes c.args.symbol_count in
    rw is (search rules)
