-- Which symbol of which file a reference gets (gABI, "Dynamic Section", DT_SYMBOLIC, and "Symbol Table"; LSB,
-- "Symbol Versioning"; the order of files, and which symbols of them serve, as glibc's linker has it).
use Rattle.std.specs.Prelude.{◌≡◌, ◌≢◌, ℕ, ◌/◌, ◌%◌, ◌<◌, ◌==◌, ◌||◌, Bool, true, false, List, length, slice_get, Option, Some, None, option_and_then, option_map, Result, Ok, Err, MatchOption, MatchResult, IfSome, IsOk, IsOkAnd, IsSomeAnd, if◌then◌else◌}
use Rattle.std.specs.Borrow.{Bor}
use Rattle.elf_base.specs.FirstError.{and_then}
use Rattle.elf_base.specs.Table.{table_items}
use Rattle.elf_linking.specs.AnyTable.{IsGoodBy}
use Rattle.elf_linking.specs.DynamicObject.{object_dynamic_symbols, object_machine, object_name_bytes}
use Rattle.elf_linking.specs.DynamicView.{is_symbolic, view_entries}
use Rattle.elf_linking.specs.Find.{AreReadable, DynamicSymbols, FindsRight, IsFound}
use Rattle.elf_linking.specs.RelocationTypes.{row_of}
use Rattle.elf_linking.specs.Serves.{serves_others}
use Rattle.elf_linking.specs.VersionList.{VersionEntry}
use Rattle.elf_linking.specs.VersionTables.{result_map}
use Rattle.elf_linking.specs.Versions.{VersionParts, version_at, version_list}
use Rattle.elf_linking.specs.declared.error.LinkError.{LinkError}
use Rattle.elf_linking.specs.declared.error.LinkError.TheVariants.{ObjectIndex, SymbolIndex}
use Rattle.elf_linking.specs.declared.find.Use as uses
use Rattle.elf_linking.specs.declared.find.Use.TheVariants.{Copy, Defined}
use Rattle.elf_linking.specs.declared.find.Wanted.{Wanted}
use Rattle.elf_linking.specs.declared.find.Wanted.TheVariants.{Newest, Unversioned, Version}
use Rattle.elf_linking.specs.declared.object.DynamicObject.{DynamicObject}
use Rattle.elf_linking.specs.declared.references.Reference.{Reference}
use Rattle.elf_linking.specs.declared.scope.Bound.{Bound}
use Rattle.elf_linking.specs.declared.scope.Scope.{Scope}
use Rattle.elf_linking.specs.declared.scope.asking.Asked.{Asked}
use Rattle.elf_linking.specs.declared.scope.asking.Asked.TheVariants.{Look, Own}
use Rattle.xmas_elf.specs.Symbol.{SymbolFields}

-- What a reference asks for.

-- a reference to the symbol gets the symbol itself: its binding is local (STB_LOCAL, 0), or its visibility is
-- internal (STV_INTERNAL, 1) or hidden (STV_HIDDEN, 2)
abbrev pub binds_to_itself : SymbolFields → Bool
binds_to_itself e = e.info / 16 == 0 || (e.other % 4 == 1 || e.other % 4 == 2)

-- the symbol of a reference, if it is protected (STV_PROTECTED, 3)
abbrev pub if_protected : {E : Type 0} → (E → SymbolFields) → E → Option E
if_protected fields symbol = if (fields symbol).other % 4 == 3 then Some symbol else None

-- a text as it is asked for, wherever it lies
abbrev pub text_alone : List ℕ → Bor (List ℕ)
text_alone bytes = record { ref_ptr = (0, 0); now = bytes }

-- a version that is wanted, with its text alone
abbrev pub wanted_parts : Wanted → Wanted
wanted_parts (Version name hash hidden) = Version (text_alone name.now) hash hidden
wanted_parts Unversioned = Unversioned
wanted_parts Newest = Newest

-- a question with its texts alone
abbrev pub asked_parts : {E : Type 0} → Asked E → Asked E
asked_parts (Own symbol) = Own symbol
asked_parts (Look name wanted purpose own) = Look (text_alone name.now) (wanted_parts wanted) purpose own

-- the version that is wanted, by the entry of the symbol's version: that version, if it has a hash number other than 0
abbrev pub wanted_by : Option VersionEntry → Result Wanted LinkError
wanted_by None = Ok Unversioned
wanted_by (Some entry) = if entry.hash == 0 then Ok Unversioned
    else result_map (λ name. Version (text_alone name) entry.hash entry.hidden) entry.name

-- the version that is wanted, by the version of the symbol, if it has one
abbrev pub wanted_of : Option (VersionParts VersionEntry) → Result Wanted LinkError
wanted_of version = wanted_by (option_and_then (λ v. v.named) version)

-- what a reference to a symbol asks for: the symbol itself, or its name and its version for a use, with the symbol
-- if it is protected; or why these can't be read
abbrev pub asked_with : {E : Type 0} → {r : _} → (E → SymbolFields) → DynamicObject E r → Reference → Option E → Result (Asked E) LinkError
asked_with fields object reference None = Err SymbolIndex
asked_with fields object reference (Some symbol) = if binds_to_itself (fields symbol) then Ok (Own symbol)
    else and_then (object_name_bytes fields object reference.symbol) (λ name.
    and_then (version_at (version_list object.versions) reference.symbol) (λ version.
    and_then (wanted_of version) (λ wanted.
    Ok (Look (text_alone name) wanted (row_of (object_machine object) reference.kind).use_ (if_protected fields symbol)))))

-- what a reference asks for
abbrev pub asked_of : {E : Type 0} → {r : _} → (E → SymbolFields) → DynamicObject E r → Reference → Result (Asked E) LinkError
asked_of fields object reference =
    asked_with fields object reference (slice_get (table_items object.symbols) reference.symbol)

-- The order in which objects are asked, and what each gives.

-- the objects of a scope
abbrev pub scope_objects : {E : Type 0} → {r : _} → Scope E r → Bor (List (DynamicObject E r))
scope_objects scope = scope.objects

-- the object at index `one` is asked before that at index `other`: first of all the one that asks, at index `from`,
-- if it is symbolic; the others by their indices
abbrev pub ComesBefore : Bool → ℕ → ℕ → ℕ → Type 0
ComesBefore false from one other = one < other
ComesBefore true from one other = (other ≢ from) × (one ≢ from → one < other)

-- what an object gives, by what a search in it finds: that symbol if it serves references of other files, otherwise
-- nothing, even if another symbol of the object serves them; or the error of the search
pub data Gives {E : Type 0} (Finds : DynamicSymbols E → Result (Option (ℕ × E)) LinkError → Type 0) (file : DynamicSymbols E) : Result (Option (ℕ × E)) LinkError → Type 0 where
  serves : (at : ℕ × E) → Finds file (Ok (Some at)) → serves_others (file.symbols.fields at.1) ≡ true
      → Gives Finds file (Ok (Some at))
  serves_none : (at : ℕ × E) → Finds file (Ok (Some at)) → serves_others (file.symbols.fields at.1) ≡ false
      → Gives Finds file (Ok None)
  lacks : Finds file (Ok None) → Gives Finds file (Ok None)
  fails : (error : LinkError) → Finds file (Err error) → Gives Finds file (Err error)

-- a copy relocation of the program, at index 0, wants a symbol of a library
abbrev pub is_passed_over : uses.Use → ℕ → Bool
is_passed_over Copy index = index == 0
is_passed_over _ index = false

-- the dynamic symbols of the object at an index
abbrev pub symbols_at : {E : Type 0} → {r : _} → (E → SymbolFields) → List (DynamicObject E r) → ℕ → Option (DynamicSymbols E)
symbols_at fields objects index = option_map (object_dynamic_symbols fields) (slice_get objects index)

-- what the object at an index gives for a name, a version and a use, where `Finds` says what a search in an object finds:
-- nothing if it is passed over
pub data GivesAt {E : Type 0} {r : _} (Finds : DynamicSymbols E → List ℕ → Wanted → uses.Use → Result (Option (ℕ × E)) LinkError → Type 0) (fields : E → SymbolFields) (objects : List (DynamicObject E r)) (name : List ℕ) (wanted : Wanted) (purpose : uses.Use) (index : ℕ) : Result (Option (ℕ × E)) LinkError → Type 0 where
  passed_over : is_passed_over purpose index ≡ true → GivesAt Finds fields objects name wanted purpose index (Ok None)
  asked : (file : DynamicSymbols E) (answer : Result (Option (ℕ × E)) LinkError) → is_passed_over purpose index ≡ false
      → symbols_at fields objects index ≡ Some file → Gives (λ one. Finds one name wanted purpose) file answer
      → GivesAt Finds fields objects name wanted purpose index answer

-- The symbol that a reference gets.

-- the objects that are asked before the one at an index give nothing
abbrev pub NoneGivenBefore : {E : Type 0} → (ℕ → Result (Option (ℕ × E)) LinkError → Type 0) → Bool → ℕ → ℕ → Type 0
NoneGivenBefore AtIndex symbolic from index = (i : ℕ) → ComesBefore symbolic from i index → AtIndex i (Ok None)

-- what the first object gives that gives a symbol or an error; nothing if there is no such object
pub data IsFirstGiven {E : Type 0} (AtIndex : ℕ → Result (Option (ℕ × E)) LinkError → Type 0) (count : ℕ) (symbolic : Bool) (from : ℕ) : Result (Option (Bound E)) LinkError → Type 0 where
  given : (bound : Bound E) → bound.object < count → NoneGivenBefore AtIndex symbolic from bound.object
      → AtIndex bound.object (Ok (Some (bound.index, bound.symbol)))
      → IsFirstGiven AtIndex count symbolic from (Ok (Some bound))
  nowhere : ((i : ℕ) → i < count → AtIndex i (Ok None)) → IsFirstGiven AtIndex count symbolic from (Ok None)
  failed : (index : ℕ) (error : LinkError) → index < count → NoneGivenBefore AtIndex symbolic from index
      → AtIndex index (Err error) → IsFirstGiven AtIndex count symbolic from (Err error)

-- the symbol that the objects give for a name, a version and a use, where `Finds` says what a search in an object finds:
-- that of the first one for the object at index `from`, if there is such an object
abbrev pub IsBoundBy : {E : Type 0} → {r : _} → (DynamicSymbols E → List ℕ → Wanted → uses.Use → Result (Option (ℕ × E)) LinkError → Type 0) → (E → SymbolFields) → List (DynamicObject E r) → ℕ → List ℕ → Wanted → uses.Use → Result (Option (Bound E)) LinkError → Type 0
IsBoundBy Finds fields objects from name wanted purpose answer = MatchOption (slice_get objects from) (answer ≡ Err ObjectIndex)
    (λ asking. IsFirstGiven (GivesAt Finds fields objects name wanted purpose) (length objects) (is_symbolic (view_entries asking.view)) from answer)

-- the same by searches in the objects
abbrev pub IsBound : {E : Type 0} → {r : _} → (E → SymbolFields) → List (DynamicObject E r) → ℕ → List ℕ → Wanted → uses.Use → Result (Option (Bound E)) LinkError → Type 0
IsBound fields objects from = IsBoundBy IsFound fields objects from

-- look-ups in the objects find what they must, and their versions can be read
abbrev pub AreGood : {E : Type 0} → {r : _} → (E → SymbolFields) → List (DynamicObject E r) → Type 0
AreGood {E} fields objects = (i : ℕ) (file : DynamicSymbols E) → symbols_at fields objects i ≡ Some file
    → IsGoodBy file.table file.symbols × AreReadable file

-- there is no error, and the symbol is that of the first object that gives one, by the lists of symbols; nothing only
-- if no object gives one
abbrev pub BindsRight : {E : Type 0} → {r : _} → (E → SymbolFields) → List (DynamicObject E r) → ℕ → List ℕ → Wanted → uses.Use → Result (Option (Bound E)) LinkError → Type 0
BindsRight fields objects from name wanted purpose answer = IsOkAnd answer (λ bound.
    IsBoundBy FindsRight fields objects from name wanted purpose (Ok bound))

-- the symbol that a reference to a protected symbol gets, where `Finds` is what a look-up for a use finds: none, if
-- the look-up for its use finds none; otherwise its own symbol, if the look-up for a defined symbol finds one in
-- another object, and the one that was found for its use if not
pub data IsProtectedBound {E : Type 0} (Finds : uses.Use → Result (Option (Bound E)) LinkError → Type 0) (own : Bound E) (purpose : uses.Use) : Result (Option (Bound E)) LinkError → Type 0 where
  unfound : Finds purpose (Ok None) → IsProtectedBound Finds own purpose (Ok None)
  elsewhere : (found defined : Bound E) → Finds purpose (Ok (Some found)) → Finds Defined (Ok (Some defined))
      → defined.object ≢ own.object → IsProtectedBound Finds own purpose (Ok (Some own))
  at_home : (found : Bound E) (defined : Option (Bound E)) → Finds purpose (Ok (Some found)) → Finds Defined (Ok defined)
      → IfSome defined (λ at. at.object ≡ own.object) → IsProtectedBound Finds own purpose (Ok (Some found))
  unread : (error : LinkError) → Finds purpose (Err error) → IsProtectedBound Finds own purpose (Err error)
  undefined : (found : Bound E) (error : LinkError) → Finds purpose (Ok (Some found)) → Finds Defined (Err error)
      → IsProtectedBound Finds own purpose (Err error)

-- the result of what a reference of the object at index `from` asks for, by what a search in the objects finds
abbrev pub IsBoundFor : {E : Type 0} → (List ℕ → Wanted → uses.Use → Result (Option (Bound E)) LinkError → Type 0) → ℕ → ℕ → Asked E → Result (Option (Bound E)) LinkError → Type 0
IsBoundFor Finds from index (Own symbol) answer =
    answer ≡ Ok (Some (record { object = from; index = index; symbol = symbol }))
IsBoundFor Finds from index (Look name wanted purpose None) answer = Finds name.now wanted purpose answer
IsBoundFor Finds from index (Look name wanted purpose (Some own)) answer =
    IsProtectedBound (Finds name.now wanted) (record { object = from; index = index; symbol = own }) purpose answer

-- the symbol that a reference of the object at index `from` gets, or the error, where `Finds` says what a search in an
-- object finds
abbrev pub IsReferenceBoundBy : {E : Type 0} → {r : _} → (DynamicSymbols E → List ℕ → Wanted → uses.Use → Result (Option (ℕ × E)) LinkError → Type 0) → (E → SymbolFields) → List (DynamicObject E r) → ℕ → Reference → Result (Option (Bound E)) LinkError → Type 0
IsReferenceBoundBy Finds fields objects from reference answer = MatchOption (slice_get objects from)
    (answer ≡ Err ObjectIndex) (λ asking. MatchResult (asked_of fields asking reference)
    (λ question. IsBoundFor (IsBoundBy Finds fields objects from) from reference.symbol question answer)
    (λ error. answer ≡ Err error))

-- the same by searches in the objects
abbrev pub IsReferenceBound : {E : Type 0} → {r : _} → (E → SymbolFields) → List (DynamicObject E r) → ℕ → Reference → Result (Option (Bound E)) LinkError → Type 0
IsReferenceBound fields objects from reference = IsReferenceBoundBy IsFound fields objects from reference

-- there is an object at index `from`, which has the symbol of the reference, with a name that can be read if it is
-- looked up
abbrev pub HasNamedSymbol : {E : Type 0} → {r : _} → (E → SymbolFields) → List (DynamicObject E r) → ℕ → Reference → Type 0
HasNamedSymbol fields objects from reference =
    IsSomeAnd (slice_get objects from) (λ asking.
    IsSomeAnd (slice_get (table_items asking.symbols) reference.symbol) (λ symbol.
    binds_to_itself (fields symbol) ≡ false → IsOk (object_name_bytes fields asking reference.symbol)))

-- the result of what a reference asks for is no error, and is right by the lists of symbols
abbrev pub BindsRightFor : {E : Type 0} → {r : _} → (E → SymbolFields) → List (DynamicObject E r) → ℕ → ℕ → Asked E → Result (Option (Bound E)) LinkError → Type 0
BindsRightFor fields objects from index question answer = IsOkAnd answer (λ bound.
    IsBoundFor (IsBoundBy FindsRight fields objects from) from index question (Ok bound))

-- there is no error, and a reference gets the symbol that the lists of symbols say
abbrev pub BindsReference : {E : Type 0} → {r : _} → (E → SymbolFields) → List (DynamicObject E r) → ℕ → Reference → Result (Option (Bound E)) LinkError → Type 0
BindsReference fields objects from reference answer = IsOkAnd answer (λ bound.
    IsReferenceBoundBy FindsRight fields objects from reference (Ok bound))
