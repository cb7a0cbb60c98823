-- For callers of `CheckedObject`: what an object says, by the lists that the checked object is.
use Rattle.std.proofs.Common.{◌≡◌, ℕ, Option, Some, None, Result, Ok, refl, ap, ◌∙◌, slice_get}
use Rattle.std.specs.Prelude.{option_map}
use Rattle.std.specs.Result.{result_ok}
use Rattle.elf_linking.specs.Checked.{AreChecked}
use Rattle.elf_linking.specs.CheckedScope.{asked_fields, asked_in}
use Rattle.elf_linking.specs.DynamicObject.{object_dynamic_symbols, object_symbols}
use Rattle.elf_linking.specs.Exports.{SymbolParts, object_parts, symbol_parts}
use Rattle.elf_linking.specs.Scope.{asked_of, asked_parts}
use Rattle.elf_linking.specs.VersionTables.{result_map}
use Rattle.elf_linking.specs.declared.error.LinkError.{LinkError}
use Rattle.elf_linking.specs.declared.object.DynamicObject.{DynamicObject}
use Rattle.elf_linking.specs.declared.references.Reference.{Reference}
use Rattle.elf_linking.specs.declared.scope.asking.Asked.{Asked}
use Rattle.elf_linking.proofs.ExportAsks.{asked_plain}
use Rattle.elf_linking.proofs.ExportChains.{get_symbol}
use Rattle.elf_linking.proofs.lemmas.CheckedBound.{passed_good}
use Rattle.xmas_elf.specs.Symbol.{SymbolFields}

module _ {E : Type 0} {r : _} (fields : E → SymbolFields) (object : DynamicObject E r) where
  -- what a reference asks for, in an object whose checks pass
  pub asked_by_parts : AreChecked (object_dynamic_symbols fields object) (Ok tt) → (reference : Reference) (asked : Result (Asked E) LinkError) → result_map asked_parts asked ≡ asked_of fields object reference
      → option_map (asked_fields fields) (result_ok asked) ≡ asked_in (object_parts fields object) reference
  asked_by_parts checked reference asked is = asked_plain fields object (passed_good (object_dynamic_symbols fields object) checked).1 reference asked is

  fields_of : (index : ℕ) (found : Option E) → option_map (λ (symbol : SymbolParts). symbol.fields) (option_map (symbol_parts (object_dynamic_symbols fields object) index) found) ≡ option_map fields found
  fields_of index None = refl
  fields_of index (Some symbol) = refl

  -- the fields of the symbol at an index
  pub fields_by_parts : (index : ℕ) → option_map (λ (symbol : SymbolParts). symbol.fields) (slice_get (object_parts fields object).symbols index) ≡ option_map fields (slice_get (object_symbols fields object).items index)
  fields_by_parts index = ap (option_map (λ (symbol : SymbolParts). symbol.fields)) (get_symbol (object_dynamic_symbols fields object) index) ∙ fields_of index (slice_get (object_symbols fields object).items index)
