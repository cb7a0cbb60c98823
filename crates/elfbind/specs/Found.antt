-- How the program ends for a program whose libraries were found (this project's own).
use Rattle.std.specs.Prelude.{◌≡◌, Bool, List, Result, Err}
use Rattle.elf_linking.specs.declared.error.LinkError.{LinkError}
use Rattle.elfbind.specs.Answers.{IsEnd}
use Rattle.elfbind.specs.declared.Question as questions
use Rattle.linking_programs.specs.Numbers.{AreNumbersKnown}
use Rattle.linking_programs.specs.declared.Input.{Input}
use Rattle.program_ends.specs.declared.Fault.{Fault}
use Rattle.program_ends.specs.declared.Fault.TheVariants as faults
use Rattle.program_libraries.specs.Listed.{AreListed}
use Rattle.program_libraries.specs.declared.store.StoredFile.{StoredFile}
use Rattle.program_libraries.specs.declared.trees.Tree.{Tree}

-- the result of the program: that for the files of the program and its libraries, in the order in which names are looked
-- up; or there is no memory for these
pub data IsFoundEnd (narrow_record wide_record : _) (files : List StoredFile) (tree : Tree) (question : questions.Question) (end : Result Bool (Fault LinkError)) : Type 0 where
  listed : (inputs : List Input) → AreListed files tree inputs → IsEnd narrow_record wide_record inputs question end
      → IsFoundEnd narrow_record wide_record files tree question end
  short : end ≡ Err faults.Memory → IsFoundEnd narrow_record wide_record files tree question end

-- no symbol of the files of a program and its libraries has a version number past those of all versions
pub record AreFoundKnown (narrow_record wide_record : _) (files : List StoredFile) (tree : Tree) : Type 0 where
  pub inputs : List Input
  pub inputs_are : AreListed files tree inputs
  pub known : AreNumbersKnown narrow_record wide_record inputs
