use Rattle.std.proofs.Common.{rules, ◌≡◌, Err, false}
use Rattle.elf_linking.specs.Versions.{lacks_numbers, version_list, versions_error}
use Rattle.elf_linking.proofs.VersionChecks.{error_checked, error_read}
use Rattle.elf_linking.proofs.versions.Versions.check.Goals as goal

pub returns-in-Ok : goal.returns-in-Ok
returns-in-Ok c =
    let list = version_list c.args.self.now in
    let enough : lacks_numbers list.numbers c.args.symbol_count ≡ false = search rules in
    let is : c.check_counts.result ≡ versions_error list c.args.symbol_count =
    error_checked list c.args.symbol_count _ c.check_counts.result enough c.check_names.ensures (search rules) in
    record { accepts = error_read list _ _ is; exact = is }

pub returns-in-Err : goal.returns-in-Err
returns-in-Err c =
    let list = version_list c.args.self.now in
    let enough : lacks_numbers list.numbers c.args.symbol_count ≡ false = search rules in
    let is : Err c.in-Err.error ≡ versions_error list c.args.symbol_count =
    error_checked list c.args.symbol_count _ (Err c.in-Err.error) enough c.check_names.ensures (search rules) in
    record { accepts = error_read list _ _ is; exact = is }
