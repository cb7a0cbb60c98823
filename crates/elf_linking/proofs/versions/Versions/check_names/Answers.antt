use Rattle.std.proofs.Common.{rules, Err}
use Rattle.elf_linking.specs.Versions.{version_list, version_tables}
use Rattle.elf_linking.proofs.VersionChecks.{names_checked}
use Rattle.elf_linking.proofs.versions.Versions.check_names.Goals as goal

pub returns-in-Ok : goal.returns-in-Ok
returns-in-Ok c =
    names_checked (version_tables c.args.self.now) (version_list c.args.self.now) _ c.check_needs.result c.args.self.now.list.1 c.check_definitions.ensures (search rules)

pub returns-in-Err : goal.returns-in-Err
returns-in-Err c =
    names_checked (version_tables c.args.self.now) (version_list c.args.self.now) _ (Err c.in-Err.error) c.args.self.now.list.1 c.check_definitions.ensures (search rules)
