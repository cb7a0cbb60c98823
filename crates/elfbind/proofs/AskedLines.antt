-- The line of a reference, by what it asks for and gets; and items of the objects whose parts a scope has.
use Rattle.std.proofs.Common.{◌≡◌, ◌<◌, ◌&&◌, ℕ, Bool, false, not, List, [], get_or, length, Option, Some, None, Result, Ok, Err, refl, sym, ap, ◌∙◌, subst, slice_get}
use Rattle.std.proofs.lemmas.Option.{slice_get-map, slice_get_read, slice_get_within}
use Rattle.std.specs.Borrow.{Bor}
use Rattle.std.specs.Prelude.{IsSome, IsSomeAnd, map, option_map}
use Rattle.std.proofs.KnownBytes.{Appends-nil}
use Rattle.elf_linking.specs.Checked.{AreChecked}
use Rattle.elf_linking.specs.CheckedBindings.{is_weak, item_parts}
use Rattle.elf_linking.specs.CheckedScope.{asked_fields, asked_in, bound_fields}
use Rattle.elf_linking.specs.DynamicObject.{object_dynamic_symbols, object_symbols}
use Rattle.elf_linking.specs.Exports.{ObjectParts, object_parts}
use Rattle.elf_linking.specs.Scope.{asked_of, asked_parts, wanted_parts}
use Rattle.elf_linking.specs.VersionTables.{result_map}
use Rattle.elf_linking.specs.declared.checked.bindings.CheckedBinding.{CheckedBinding}
use Rattle.elf_linking.specs.declared.error.LinkError.{LinkError}
use Rattle.elf_linking.specs.declared.find.Use as uses
use Rattle.elf_linking.specs.declared.find.Wanted.{Wanted}
use Rattle.elf_linking.specs.declared.find.Wanted.TheVariants.{Newest, Unversioned, Version}
use Rattle.elf_linking.specs.declared.object.DynamicObject.{DynamicObject}
use Rattle.elf_linking.specs.declared.references.Reference.{Reference}
use Rattle.elf_linking.specs.declared.scope.Bound.{Bound}
use Rattle.elf_linking.specs.declared.scope.asking.Asked.{Asked}
use Rattle.elf_linking.specs.declared.scope.asking.Asked.TheVariants.{Look, Own}
use Rattle.elf_linking.proofs.lemmas.CheckedParts.{asked_by_parts, fields_by_parts}
use Rattle.elfbind.specs.Bindings.{IsErrorIn, IsErrorOf, IsItemOf, is_missing, line_by, line_of, line_text, path_in, shown_text, target_of}
use Rattle.linking_programs.specs.Checks.{ArePassed}
use Rattle.elfbind.specs.declared.bindings.Style.{Style}
use Rattle.linking_programs.specs.Files.{IsOfInput}
use Rattle.linking_programs.specs.declared.Input.{Input}
use Rattle.linking_programs.specs.declared.Failed as reasons
use Rattle.program_ends.specs.Appended.{AppendsSome}
use Rattle.program_ends.specs.declared.json.Form.{Form}
use Rattle.program_ends.specs.declared.json.Form.TheVariants.{Json, Text}
use Rattle.xmas_elf.specs.Symbol.{SymbolFields}

-- of a version the bytes alone are in a line
line_alone : (form : Form) (file name : List ℕ) (wanted : Wanted) (weak : Bool) (target : Option (Bor (List ℕ) × ℕ)) → line_text form file name (wanted_parts wanted) weak target ≡ line_text form file name wanted weak target
line_alone Text file name (Version version hash hidden) weak target = refl
line_alone Json file name (Version version hash hidden) weak target = refl
line_alone form file name Unversioned weak target = refl
line_alone form file name Newest weak target = refl

module _ {E : Type 0} {r : _} (fields : E → SymbolFields) (objects : List (DynamicObject E r)) where
  abbrev parts : List ObjectParts
  parts = map (object_parts fields) objects

  -- the object of an item
  pub item_object : (from : ℕ) (found : Option (Reference × Option (Bound SymbolFields))) → IsItemOf parts (from, found)
      → (object : DynamicObject E r) × (slice_get objects from ≡ Some object) × (found ≡ None → (object_parts fields object).references ≡ None)
  item_object from found is = by_object (slice_get objects from) refl
    where
      by_object : (at : Option (DynamicObject E r)) → slice_get objects from ≡ at
          → (object : DynamicObject E r) × (slice_get objects from ≡ Some object) × (found ≡ None → (object_parts fields object).references ≡ None)
      by_object None at = absurd (subst (λ one. IsSomeAnd one (λ object. found ≡ None → object.references ≡ None)) (slice_get-map (object_parts fields) objects from ∙ ap (option_map (object_parts fields)) at) is)
      by_object (Some object) at = (object, at, subst (λ one. IsSomeAnd one (λ object. found ≡ None → object.references ≡ None)) (slice_get-map (object_parts fields) objects from ∙ ap (option_map (object_parts fields)) at) is)

  pub item_within : (from : ℕ) (found : Option (Reference × Option (Bound SymbolFields))) → IsItemOf parts (from, found) → from < length objects
  item_within from found is = let (object, at, none) = item_object from found is in slice_get_within objects from object at

  module _ (inputs : List Input) (style : Style) (from : ℕ) (object : DynamicObject E r) (at : slice_get objects from ≡ Some object) (passed : ArePassed fields objects) where
    checked : AreChecked (object_dynamic_symbols fields object) (Ok tt)
    checked = passed from (object_dynamic_symbols fields object) (ap (option_map (object_dynamic_symbols fields)) at)

    part_at : slice_get parts from ≡ Some (object_parts fields object)
    part_at = slice_get-map (object_parts fields) objects from ∙ ap (option_map (object_parts fields)) at

    module _ (reference : Reference) (bound : Option (Bound SymbolFields)) where
      -- the line of a reference that asks for this
      pub line_asked : (asked : Asked E) → result_map asked_parts (Ok asked) ≡ asked_of fields object reference
          → line_of inputs parts style (from, Some (reference, bound))
          ≡ Some (line_by inputs style from (is_weak (option_map fields (slice_get (object_symbols fields object).items reference.symbol))) bound (asked_fields fields asked))
      line_asked asked is =
          let asks : Some (asked_fields fields asked) ≡ asked_in (object_parts fields object) reference = asked_by_parts fields object checked reference (Ok asked) is in
          rw (part_at, sym asks, fields_by_parts fields object reference.symbol) refl

-- the line of an item that is a reference, or why it has none, by what the object says that the reference asks for
module _ {E : Type 0} {r : _} (fields : E → SymbolFields) (inputs : List Input) (objects : List (DynamicObject E r)) (style : Style)
    (item : Result (CheckedBinding E) ℕ) (binding : CheckedBinding E) (item_is : item ≡ Ok binding) (is : IsItemOf (map (object_parts fields) objects) (item_parts fields item)) where
  abbrev found : Option (Bound SymbolFields)
  found = bound_fields fields binding.bound

  pub from_within : binding.from < length objects
  from_within = item_within fields objects binding.from (Some (binding.reference, found)) (subst (λ one. IsItemOf (map (object_parts fields) objects) (item_parts fields one)) item_is is)

  module _ (object : DynamicObject E r) (object_is : object ≡ get_or objects binding.from object) (answer : Result (Asked E) LinkError) (asks : result_map asked_parts answer ≡ asked_of fields object binding.reference) where
    at : slice_get objects binding.from ≡ Some object
    at = slice_get_read objects (length objects) binding.from object refl from_within object_is

    line_by_asked : ArePassed fields objects → (asked : Asked E) → answer ≡ Ok asked
        → line_of inputs (map (object_parts fields) objects) style (item_parts fields item)
        ≡ Some (line_by inputs style binding.from (is_weak (option_map fields (slice_get (object_symbols fields object).items binding.reference.symbol))) found (asked_fields fields asked))
    line_by_asked passed asked answer_is =
        ap (λ one. line_of inputs (map (object_parts fields) objects) style (item_parts fields one)) item_is
        ∙ line_asked fields objects inputs style binding.from object at passed binding.reference found asked (ap (result_map asked_parts) (sym answer_is) ∙ asks)

    -- a reference that gets its own symbol has an empty line
    pub own_line : ArePassed fields objects → (symbol : E) → answer ≡ Ok (Own symbol) → (old : Option (List ℕ))
        → AppendsSome (λ text. line_of inputs (map (object_parts fields) objects) style (item_parts fields item) ≡ Some (false, text)) old old
    own_line passed symbol answer_is old = ([], line_by_asked passed (Own symbol) answer_is, Appends-nil old)

    -- a reference that is looked up has a line
    pub look_line : ArePassed fields objects → (name : Bor (List ℕ)) (wanted : Wanted) (purpose : uses.Use) (own : Option E) → answer ≡ Ok (Look name wanted purpose own)
        → (weak missing : Bool) → weak ≡ is_weak (option_map fields (slice_get (object_symbols fields object).items binding.reference.symbol)) → missing ≡ is_missing weak found
        → (text : List ℕ) → text ≡ shown_text (not (style.only_missing && not missing)) (line_text style.form (path_in (slice_get inputs binding.from)) name.now wanted weak (target_of inputs found))
        → line_of inputs (map (object_parts fields) objects) style (item_parts fields item) ≡ Some (missing, text)
    look_line passed name wanted purpose own answer_is weak missing weak_is missing_is text text_is =
        let path = path_in (slice_get inputs binding.from) in
        let weakness = is_weak (option_map fields (slice_get (object_symbols fields object).items binding.reference.symbol)) in
        line_by_asked passed (Look name wanted purpose own) answer_is
        ∙ rw (line_alone style.form path name.now wanted weakness (target_of inputs found), text_is, missing_is, weak_is) refl

    -- there is a line, whichever it is
    pub has_line : ArePassed fields objects → (asked : Asked E) → answer ≡ Ok asked → IsSome (line_of inputs (map (object_parts fields) objects) style (item_parts fields item))
    has_line passed asked answer_is = subst IsSome (sym (line_by_asked passed asked answer_is)) refl

    -- why a reference has no line
    pub asked_error : (error : LinkError) → answer ≡ Err error → (failed : reasons.Failed LinkError) → IsOfInput inputs binding.from failed × (failed.error ≡ error) → IsErrorOf fields inputs objects (item_parts fields item) failed
    asked_error error answer_is failed (path, same) =
        subst (λ one. IsErrorOf fields inputs objects (item_parts fields one) failed) (sym item_is)
        (subst (λ one. IsSomeAnd one (λ object. IsOfInput inputs binding.from failed × IsErrorIn fields object (Some (binding.reference, found)) failed.error)) (sym at)
        (path, sym asks ∙ ap (result_map asked_parts) answer_is ∙ ap (λ e. Err e) (sym same)))
