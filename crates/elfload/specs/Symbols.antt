-- Whether the references of files get symbols (this project's own).
use Rattle.std.specs.Prelude.{◌≡◌, ℕ, Bool, true, false, List, [], map}
use Rattle.elf_linking.specs.CheckedBindings.{all_unresolved}
use Rattle.elf_linking.specs.Exports.{object_parts}
use Rattle.elf_loading.specs.declared.words.Binding.TheVariants.{Lazy, Now}
use Rattle.elfload.specs.Types.{Binding, DynamicObject, Input}
use Rattle.linking_programs.specs.Files.{AreObjectsOf, is_first_narrow}
use Rattle.xmas_elf.specs.Symbol.{SymbolFields, dyn_entry_32_fields, dyn_entry_64_fields}
use Rattle.xmas_elf.specs.Types.{DynEntry32, DynEntry64}

-- they are files of this class, whose symbols have this size, of which each reference gets a symbol, unless it is weak
pub record AreInputsBound {E : Type 0} (r : _) (fields : E → SymbolFields) (class size : ℕ) (inputs : List Input) : Type 0 where
  pub objects : List (DynamicObject E r)
  pub objects_are : AreObjectsOf class size inputs objects
  pub bound : all_unresolved (map (object_parts fields) objects) ≡ []

-- the same by the class of the first. The first two arguments say how the record of a symbol of each class is read.
pub data AreSymbolsFound (narrow_record wide_record : _) (inputs : List Input) : Type 0 where
  narrow : is_first_narrow inputs ≡ true → AreInputsBound {E = DynEntry32} narrow_record dyn_entry_32_fields 1 16 inputs
      → AreSymbolsFound narrow_record wide_record inputs
  wide : is_first_narrow inputs ≡ false → AreInputsBound {E = DynEntry64} wide_record dyn_entry_64_fields 2 24 inputs
      → AreSymbolsFound narrow_record wide_record inputs

-- jump slots get their symbols before the program runs
abbrev pub is_now : Binding → Bool
is_now Now = true
is_now Lazy = false
