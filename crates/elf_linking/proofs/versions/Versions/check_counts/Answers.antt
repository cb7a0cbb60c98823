use Rattle.std.proofs.Common.{rules, ◌≡◌, true, false, ap, ◌∙◌}
use Rattle.elf_linking.specs.VersionTables.{is_counted}
use Rattle.elf_linking.specs.Versions.{count_error, version_list, version_tables}
use Rattle.elf_linking.proofs.VersionCounts.{counted_so}
use Rattle.elf_linking.proofs.versions.Versions.check_counts.Goals as goal

pub returns-then-not-is_counted : goal.returns-then-not-is_counted
returns-then-not-is_counted c =
    let is : false ≡ is_counted (version_tables c.args.self.now) = search rules in
    ap count_error is ∙ counted_so (version_tables c.args.self.now) (version_list c.args.self.now) c.args.self.now.list.1

pub returns : goal.returns
returns c =
    let is : true ≡ is_counted (version_tables c.args.self.now) = search rules in
    ap count_error is ∙ counted_so (version_tables c.args.self.now) (version_list c.args.self.now) c.args.self.now.list.1
