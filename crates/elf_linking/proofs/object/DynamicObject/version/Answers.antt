use Rattle.elf_linking.specs.DynamicObject.{object_versions}
use Rattle.elf_linking.specs.Versions.{entry_item, version_list}
use Rattle.elf_linking.proofs.VersionSearch.{version_means}
use Rattle.elf_linking.proofs.object.DynamicObject.version.Goals as goal

pub returns-clause-answer : goal.returns-clause-answer
returns-clause-answer g c = version_means (version_list (object_versions c.args.self.now)) c.args.index (entry_item c.version_of.result) c.version_of.ensures.exact

pub returns-clause-readable : goal.returns-clause-readable
returns-clause-readable g c = λ readable below. c.version_of.ensures.readable _ readable below
