-- What status 0 says of a program whose libraries were found (this project's own).
use Rattle.std.specs.Prelude.{◌≡◌, ◌⊎◌, ℕ, List, true}
use Rattle.elfload.specs.Files.{AreAllStatic, AreLoaded}
use Rattle.elfload.specs.Images.{AreImagesGood}
use Rattle.elfload.specs.Symbols.{AreSymbolsFound, is_now}
use Rattle.elfload.specs.declared.Options.{Options}
use Rattle.linking_programs.specs.Numbers.{AreNumbersKnown}
use Rattle.linking_programs.specs.declared.Input.{Input}
use Rattle.program_libraries.specs.Listed.{AreListed}
use Rattle.program_libraries.specs.declared.store.StoredFile.{StoredFile}
use Rattle.program_libraries.specs.declared.trees.Tree.{Tree}

-- a program and its libraries: each file has a plan, and, if one has a dynamic segment, the checks of the symbols and of
-- the images of all pass, no symbol has a version number past those of all versions, and each reference that isn't weak gets
-- a symbol, unless jump slots get theirs later
pub record AreTogetherGood (narrow_record wide_record : _) (options : Options) (inputs : List Input) : Type 0 where
  pub loaded : AreLoaded options.page inputs
  pub checked : AreAllStatic inputs ⊎ AreImagesGood narrow_record wide_record options.page inputs
  pub known : AreAllStatic inputs ⊎ AreNumbersKnown narrow_record wide_record inputs
  pub found : is_now options.when ≡ true → AreAllStatic inputs ⊎ AreSymbolsFound narrow_record wide_record inputs

-- the same of the files that were found, in the order in which names are looked up
pub record IsFoundGood (narrow_record wide_record : _) (options : Options) (files : List StoredFile) (tree : Tree) : Type 0 where
  pub inputs : List Input
  pub inputs_are : AreListed files tree inputs
  pub good : AreTogetherGood narrow_record wide_record options inputs

-- the same for the start of the program: the checks of the symbols and of the images of all files pass, no symbol has such a
-- version number, and each reference that isn't weak gets a symbol
pub record IsStartGood (narrow_record wide_record : _) (page : ℕ) (files : List StoredFile) (tree : Tree) : Type 0 where
  pub inputs : List Input
  pub inputs_are : AreListed files tree inputs
  pub checked : AreImagesGood narrow_record wide_record page inputs
  pub known : AreNumbersKnown narrow_record wide_record inputs
  pub found : AreSymbolsFound narrow_record wide_record inputs
