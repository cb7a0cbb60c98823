-- Two files, whose checks must pass (this project's own).
use Rattle.std.specs.Prelude.{Ok, Err}
use Rattle.elf_linking.specs.Checked.{AreChecked}
use Rattle.elf_linking.specs.DynamicObject.{object_dynamic_symbols}
use Rattle.elf_linking.specs.declared.error.LinkError.{LinkError}
use Rattle.elf_linking.specs.declared.object.DynamicObject.{DynamicObject}
use Rattle.xmas_elf.specs.Symbol.{SymbolFields}

-- the error of the first check that fails: of one file, or of the other if those of the first pass
pub data IsFirstError {E : Type 0} {r : _} (fields : E → SymbolFields) (one other : DynamicObject E r) : LinkError → Type 0 where
  of_one : (error : LinkError) → AreChecked (object_dynamic_symbols fields one) (Err error) → IsFirstError fields one other error
  of_other : (error : LinkError) → AreChecked (object_dynamic_symbols fields one) (Ok tt)
      → AreChecked (object_dynamic_symbols fields other) (Err error) → IsFirstError fields one other error
