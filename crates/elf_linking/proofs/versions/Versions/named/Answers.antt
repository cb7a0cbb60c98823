use Rattle.std.proofs.Common.{rules}
use Rattle.elf_linking.specs.Versions.{version_tables}
use Rattle.elf_linking.proofs.VersionSearch.{named_so}
use Rattle.elf_linking.proofs.versions.Versions.named.Goals as goal

pub returns-in_err-definition : goal.returns-in_err-definition
returns-in_err-definition c = named_so (version_tables c.args.self.now) c.args.number _ (search rules)

pub returns-in-Some : goal.returns-in-Some
returns-in-Some c = named_so (version_tables c.args.self.now) c.args.number _ (search rules)

pub returns-in_err-need_with : goal.returns-in_err-need_with
returns-in_err-need_with c = named_so (version_tables c.args.self.now) c.args.number _ (search rules)

pub returns : goal.returns
returns c = named_so (version_tables c.args.self.now) c.args.number _ (search rules)
