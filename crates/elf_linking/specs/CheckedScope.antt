-- Which symbol of which file a reference gets, by the exports of files whose checks passed (gABI, "Dynamic Section",
-- DT_SYMBOLIC, and "Symbol Table"; LSB, "Symbol Versioning"; the order of files, and which symbols of them serve, as
-- glibc's linker has it).
use Rattle.std.specs.Prelude.{ℕ, ◌+◌, ◌==◌, not, Bool, false, List, [], ◌∷◌, slice_get, Option, Some, None, option_map, option_and_then, if◌then◌else◌}
use Rattle.std.specs.Option.{option_or}
use Rattle.elf_linking.specs.Checked.{found_in}
use Rattle.elf_linking.specs.Exports.{NumberedVersion, ObjectParts, SymbolParts, VersionName}
use Rattle.elf_linking.specs.RelocationTypes.{row_of}
use Rattle.elf_linking.specs.Scope.{asked_parts, binds_to_itself, if_protected, is_passed_over, text_alone}
use Rattle.elf_linking.specs.Serves.{serves_others}
use Rattle.elf_linking.specs.declared.find.Use as uses
use Rattle.elf_linking.specs.declared.find.Use.TheVariants.{Defined}
use Rattle.elf_linking.specs.declared.find.Wanted.{Wanted}
use Rattle.elf_linking.specs.declared.find.Wanted.TheVariants.{Unversioned, Version}
use Rattle.elf_linking.specs.declared.references.Reference.{Reference}
use Rattle.elf_linking.specs.declared.scope.Bound.{Bound}
use Rattle.elf_linking.specs.declared.scope.asking.Asked.{Asked}
use Rattle.elf_linking.specs.declared.scope.asking.Asked.TheVariants.{Look, Own}
use Rattle.xmas_elf.specs.Symbol.{SymbolFields}

-- What a reference asks for.

-- the version that is wanted, by the version of the reference's symbol: what has its number, if that has a hash number
-- other than 0
abbrev pub wanted_name : Option VersionName → Wanted
wanted_name None = Unversioned
wanted_name (Some version) = if version.hash == 0 then Unversioned else Version (text_alone version.name) version.hash version.hidden

-- the same, if the symbol has a version
abbrev pub wanted_version : Option NumberedVersion → Wanted
wanted_version None = Unversioned
wanted_version (Some version) = wanted_name version.named

-- what a reference to a symbol asks for: the symbol itself; otherwise its name and version, with the symbol if it is
-- protected; nothing if its name can't be read
abbrev pub asked_for : uses.Use → SymbolParts → Option (Asked SymbolFields)
asked_for purpose own = if binds_to_itself own.fields then Some (Own own.fields)
    else option_map (λ name. Look (text_alone name) (wanted_version own.version) purpose (if_protected (λ fields. fields) own.fields)) own.name

-- what a reference of an object asks for: nothing if the object has no such symbol
abbrev pub asked_in : ObjectParts → Reference → Option (Asked SymbolFields)
asked_in object reference =
    option_and_then (asked_for (row_of object.machine reference.kind).use_) (slice_get object.symbols reference.symbol)

-- What the objects of a scope give.

-- the symbol that is found in an object, if it serves other files
abbrev pub serving : Option SymbolParts → Option SymbolParts
serving None = None
serving (Some symbol) = if serves_others symbol.fields then Some symbol else None

-- what the object at an index gives for a name, a version and a use: for a copy relocation the program, at index 0,
-- gives nothing
abbrev pub given_at : List ℕ → Wanted → uses.Use → ℕ → ObjectParts → Option (Bound SymbolFields)
given_at name wanted purpose at object = if is_passed_over purpose at then None
    else option_map (λ symbol. record { object = at; index = symbol.index; symbol = symbol.fields }) (serving (found_in name wanted purpose object.exports))

-- what the first of some objects gives that gives a symbol; the first of them is at an index
abbrev pub first_given : List ℕ → Wanted → uses.Use → ℕ → List ObjectParts → Option (Bound SymbolFields)
first_given name wanted purpose at [] = None
first_given name wanted purpose at (object ∷ objects) =
    option_or (given_at name wanted purpose at object) (first_given name wanted purpose (at + 1) objects)

-- what the object that asks gives before all others, if it is symbolic
abbrev pub given_first : List ℕ → Wanted → uses.Use → ℕ → ObjectParts → Option (Bound SymbolFields)
given_first name wanted purpose from asking = if asking.symbolic then given_at name wanted purpose from asking else None

-- the symbol that a look-up for the object at index `from` finds
abbrev pub looked_up : List ObjectParts → ℕ → List ℕ → Wanted → uses.Use → Option (Bound SymbolFields)
looked_up objects from name wanted purpose = option_and_then (λ asking.
    option_or (given_first name wanted purpose from asking) (first_given name wanted purpose 0 objects)) (slice_get objects from)

-- The symbol that a reference gets.

-- a symbol is in another object than a symbol
abbrev pub is_elsewhere : Bound SymbolFields → Option (Bound SymbolFields) → Bool
is_elsewhere own None = false
is_elsewhere own (Some defined) = not (defined.object == own.object)

-- of a reference to a protected symbol: nothing if nothing is found for its use; its own symbol if a defined symbol is
-- found in another object; otherwise what is found for its use
abbrev pub protected_bound : Bound SymbolFields → Option (Bound SymbolFields) → Option (Bound SymbolFields) → Option (Bound SymbolFields)
protected_bound own defined None = None
protected_bound own defined (Some found) = if is_elsewhere own defined then Some own else Some found

-- the symbol for what a reference of the object at index `from` to its symbol at `index` asks for
abbrev pub bound_for : List ObjectParts → ℕ → ℕ → Asked SymbolFields → Option (Bound SymbolFields)
bound_for objects from index (Own symbol) = Some (record { object = from; index = index; symbol = symbol })
bound_for objects from index (Look name wanted purpose None) = looked_up objects from name.now wanted purpose
bound_for objects from index (Look name wanted purpose (Some own)) = let found = looked_up objects from name.now wanted in
    protected_bound (record { object = from; index = index; symbol = own }) (found Defined) (found purpose)

-- the symbol that a reference of the object at index `from` gets
abbrev pub bound_in : List ObjectParts → ℕ → Reference → Option (Bound SymbolFields)
bound_in objects from reference = option_and_then (bound_for objects from reference.symbol)
    (option_and_then (λ asking. asked_in asking reference) (slice_get objects from))

-- The results of calls, with the fields of symbols.

-- a symbol of a scope
abbrev pub bound_fields : {E : Type 0} → (E → SymbolFields) → Option (Bound E) → Option (Bound SymbolFields)
bound_fields fields bound = option_map (λ b. record { object = b.object; index = b.index; symbol = fields b.symbol }) bound

-- what a reference asks for, with its texts alone
abbrev pub asked_fields : {E : Type 0} → (E → SymbolFields) → Asked E → Asked SymbolFields
asked_fields fields (Own symbol) = Own (fields symbol)
asked_fields fields (Look name wanted purpose own) = asked_parts (Look name wanted purpose (option_map fields own))
