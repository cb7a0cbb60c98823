use Rattle.elf_linking.proofs.Finds.{found_right}
use Rattle.elf_linking.proofs.object.DynamicObject.find_bytes.Goals as goal

pub returns-clause-good : goal.returns-clause-good
returns-clause-good g c = λ good readable. found_right _ _ _ _ good readable _ c.find_hashed.ensures
