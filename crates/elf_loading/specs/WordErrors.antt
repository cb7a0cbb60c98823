-- Which relocation has the error of a check or of a relocation (this project's own).
use Rattle.std.specs.Prelude.{◌≡◌, ℕ, ◌^◌, ◌-◌, min, Bool, false, List, [], ◌∷◌, ◌++◌, All, map, length, slice_get, None, Some, Result, Ok, Err, IsOk, MatchResult}
use Rattle.std.specs.Borrow.{Bor}
use Rattle.elf_linking.specs.DynamicObject.{object_file, object_view}
use Rattle.elf_linking.specs.DynamicView.{view_entries}
use Rattle.elf_linking.specs.declared.error.LinkError.TheVariants.{ObjectIndex}
use Rattle.elf_loading.specs.Types.{Binding, DynamicObject, LoadError, Place, Relocated, Relocation, Segment, TableLocation, WordError}
use Rattle.elf_loading.specs.ImageTables.{asks_for_text, tables_of}
use Rattle.elf_loading.specs.ImageWords.{MatchBoth, check_words, checked_relocations, item_words}
use Rattle.elf_loading.specs.Plan.{plan_loads}
use Rattle.elf_loading.specs.Relocate.{sized_relocations, sources_of, write_item}
use Rattle.elf_loading.specs.Words.{HasWord, binds_lazily}
use Rattle.elf_loading.specs.WordsLeft.{relocation_of}
use Rattle.elf_loading.specs.declared.error.LoadError.TheVariants as error
use Rattle.elf_loading.specs.declared.plan.LoadPlan.{LoadPlan}
use Rattle.elf_loading.specs.declared.relocate.Sources.{Sources}
use Rattle.xmas_elf.specs.Symbol.{SymbolFields}

-- an error that comes before those of words
abbrev pub error_of_none : LoadError → WordError
error_of_none reason = record { error = reason; relocation = None }

-- a result with its error alone
abbrev pub error_alone : {A : Type 0} → Result A WordError → Result A LoadError
error_alone (Ok value) = Ok value
error_alone (Err found) = Err found.error

-- the error is that of the first relocation with one: the words of the relocations before it have none, and its index is the
-- number of these
pub record IsFirstError {E : Type 0} (Has : Relocated E → Type 0) (Pass : List (Relocated E) → Type 0) (Fails : List (Relocated E) → Relocated E → LoadError → Type 0) (relocations : List Relocation) (found : WordError) : Type 0 where
  pub items : List (Relocated E)
  pub item : Relocated E
  pub rest : List Relocation
  pub are : relocations ≡ map relocation_of items ++ (relocation_of item ∷ rest)
  pub have_words : All Has items
  pub has_word : Has item
  pub pass : Pass items
  pub fails : Fails items item found.error
  pub index_is : found.relocation ≡ Some (min (length items) (2 ^ 64 - 1))

-- the same in the check of words: by the loads, whether the file asks for writes where they are not writable, and the tables
abbrev pub IsFirstUnchecked : {E : Type 0} → (Relocated E → Type 0) → List Segment → Bool → List TableLocation → List Relocation → WordError → Type 0
IsFirstUnchecked Has loads text tables = IsFirstError Has (λ items. IsOk (check_words loads text tables [] (item_words items)))
    (λ items item reason. check_words loads text tables [] (item_words (items ++ (item ∷ []))) ≡ Err reason)

-- the same where words are written to an image of `len` bytes
abbrev pub IsFirstUnwritten : {E : Type 0} → {r : _} → (E → SymbolFields) → Sources E r → DynamicObject E r → Bool → ℕ → List Relocation → WordError → Type 0
IsFirstUnwritten fields sources own lazy len = IsFirstError (HasWord fields sources.objects.now (object_file own) own sources.of lazy)
    (All (λ item. IsOk (write_item fields sources own lazy len item)))
    (λ items item reason. write_item fields sources own lazy len item ≡ Err reason)

-- an error of the check of an object with its plan: of its tables, or of a relocation
abbrev pub IsCheckError : {E : Type 0} → {r : _} → ℕ → (E → SymbolFields) → List (DynamicObject E r) → ℕ → DynamicObject E r → LoadPlan → ℕ → WordError → Type 0
IsCheckError size fields objects of own plan bits found = MatchResult (checked_relocations size own plan bits)
    (λ relocations. IsFirstUnchecked (HasWord fields objects (object_file own) own of false) (plan_loads plan)
    (asks_for_text (view_entries (object_view own))) (tables_of size own) relocations found)
    (λ reason. found ≡ error_of_none reason)

-- the same of the object at an index, of which the scope may have no object or no plan
abbrev pub IsImageError : {E : Type 0} → {r : _} → ℕ → (E → SymbolFields) → List (DynamicObject E r) → List LoadPlan → ℕ → ℕ → WordError → Type 0
IsImageError size fields objects plans of bits found = MatchBoth (slice_get objects of) (slice_get plans of)
    (found ≡ error_of_none (error.Link ObjectIndex)) (λ own plan. IsCheckError size fields objects of own plan bits found)

-- an error of the relocation of an image of `len` bytes: of the sizes or of the tables, or of a relocation
abbrev pub IsRelocationError : {E : Type 0} → {r : _} → (E → SymbolFields) → Sources E r → DynamicObject E r → LoadPlan → Bool → ℕ → WordError → Type 0
IsRelocationError fields sources own plan lazy len found = MatchResult (sized_relocations sources own plan len)
    (λ relocations. IsFirstUnwritten fields sources own lazy len relocations found) (λ reason. found ≡ error_of_none reason)

-- the same of the object at an index, of which the scope may have no object or no plan
abbrev pub IsRelocationErrorIn : {E : Type 0} → {r : _} → (E → SymbolFields) → Bor (List (DynamicObject E r)) → Bor (List LoadPlan) → ℕ → Binding → Bor (List Place) → Bor (List (Bor (List ℕ))) → ℕ → WordError → Type 0
IsRelocationErrorIn fields objects plans of when places images len found = MatchBoth (slice_get objects.now of) (slice_get plans.now of)
    (found ≡ error_of_none (error.Link ObjectIndex)) (λ own plan. IsRelocationError fields (sources_of objects plans of places images own) own plan
    (binds_lazily (view_entries (object_view own)) when) len found)
