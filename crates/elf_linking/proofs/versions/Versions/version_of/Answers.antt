use Rattle.std.proofs.Common.{◌≡◌, ◌∙◌}
use Rattle.elf_linking.specs.Versions.{entry_item, version_at, version_item, version_list, version_tables}
use Rattle.elf_linking.proofs.VersionSearch.{entry_at, item_entry}
use Rattle.elf_linking.proofs.VersionsRead.{version_readable}
use Rattle.elf_linking.proofs.versions.Versions.version_of.Goals as goal

pub returns : goal.returns
returns c =
    let list = version_list c.args.self.now in
    let answer = c.version_by_tables.result in
    let is : entry_item answer ≡ version_at list c.args.index =
    item_entry answer ∙ entry_at (version_tables c.args.self.now) list c.args.index (version_item answer) c.args.self.now.list.1 c.version_by_tables.ensures in
    record {
      exact = is;
      readable = λ count readable below. version_readable list c.args.index count (entry_item answer) is readable below;
      named = c.version_by_tables.ensures;
      listed = c.args.self.now.list.1;
    }
