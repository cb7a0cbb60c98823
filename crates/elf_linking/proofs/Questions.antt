-- What a reference asks for: no error, if the versions of its file and the name of its symbol can be read; and the
-- same look-up, wherever the texts lie.
use Rattle.std.proofs.Common.{◌≡◌, ℕ, ◌<◌, ◌==◌, Bool, true, false, List, length, Option, Some, None, Result, Ok, Err, IfSome, IsOk, IsOkAnd, IsSomeAnd, slice_get, refl, if◌then◌else◌}
use Rattle.std.proofs.lemmas.Option.{slice_get_within}
use Rattle.elf_base.specs.FirstError.{and_then}
use Rattle.elf_base.specs.Table.{table_items}
use Rattle.elf_linking.specs.DynamicObject.{object_dynamic_symbols, object_machine, object_name_bytes, object_records, object_versions}
use Rattle.elf_linking.specs.Find.{AreReadable, DynamicSymbols, IsFound, asked_first, faulty, none_shown, one_shown, otherwise, two_shown}
use Rattle.elf_linking.specs.RelocationTypes.{row_of}
use Rattle.elf_linking.specs.Scope.{asked_of, asked_with, binds_to_itself, if_protected, text_alone, wanted_by, wanted_of, wanted_parts}
use Rattle.elf_linking.specs.VersionTables.{result_map}
use Rattle.elf_linking.specs.Versions.{VersionParts, number_of, version_at, version_list}
use Rattle.elf_linking.specs.VersionList.{VersionEntry}
use Rattle.elf_linking.specs.declared.error.LinkError.{LinkError}
use Rattle.elf_linking.specs.declared.find.Use as uses
use Rattle.elf_linking.specs.declared.find.Wanted.{Wanted}
use Rattle.elf_linking.specs.declared.find.Wanted.TheVariants.{Newest, Unversioned, Version}
use Rattle.elf_linking.specs.declared.object.DynamicObject.{DynamicObject}
use Rattle.elf_linking.specs.declared.references.Reference.{Reference}
use Rattle.elf_linking.specs.declared.scope.asking.Asked.{Asked}
use Rattle.elf_linking.specs.declared.scope.asking.Asked.TheVariants.{Look, Own}
use Rattle.elf_linking.proofs.Finds.{IsDefault}
use Rattle.elf_linking.proofs.VersionsRead.{HasName, item_ok, version_read}
use Rattle.xmas_elf.specs.Symbol.{SymbolFields}

-- the object has the symbol of a reference, and its name can be read unless the reference gets the symbol itself
abbrev pub HasNameFor : {E : Type 0} → {r : _} → (E → SymbolFields) → DynamicObject E r → Reference → Type 0
HasNameFor fields asking reference =
    IsSomeAnd (slice_get (table_items (object_records asking)) reference.symbol) (λ symbol.
    binds_to_itself (fields symbol) ≡ false → IsOk (object_name_bytes fields asking reference.symbol))

-- the version that is wanted can be read, if the name of its entry can
wanted_read : (version : Option (VersionParts VersionEntry)) → IfSome version (λ v. HasName v.named) → IsOk (wanted_of version)
wanted_read None read = refl
wanted_read (Some version) read = by_named version.named read
  where
    by_hash : (entry : VersionEntry) (none : Bool) → IsOk entry.name → IsOk (if none then Ok Unversioned else result_map (λ name. Version (text_alone name) entry.hash entry.hidden) entry.name)
    by_hash entry true has = refl
    by_hash entry false has = item_ok (λ name. Version (text_alone name) entry.hash entry.hidden) entry.name has

    by_named : (named : Option VersionEntry) → HasName named → IsOk (wanted_by named)
    by_named None has = refl
    by_named (Some entry) has = by_hash entry (entry.hash == 0) has

module _ {E : Type 0} (purpose : uses.Use) (own : Option E) where
  abbrev look : List ℕ → Wanted → Result (Asked E) LinkError
  look name wanted = Ok (Look (text_alone name) wanted purpose own)

  with_wanted : (name : List ℕ) (wanted : Result Wanted LinkError) → IsOk wanted → IsOk (and_then wanted (look name))
  with_wanted name (Ok wanted) ok = refl
  with_wanted name (Err error) ok = absurd (cc)

  looked_read : (name : Result (List ℕ) LinkError) (version : Result (Option (VersionParts VersionEntry)) LinkError) → IsOk name → IsOkAnd version (λ v. IfSome v (λ v. HasName v.named)) → IsOk (and_then name (λ name. and_then version (λ version. and_then (wanted_of version) (look name))))
  looked_read (Err error) version named read = absurd (cc)
  looked_read (Ok name) (Err error) named read = absurd read
  looked_read (Ok name) (Ok version) named read = with_wanted name (wanted_of version) (wanted_read version read)

-- what a reference asks for is no error
module _ {E : Type 0} {r : _} (fields : E → SymbolFields) (object : DynamicObject E r) (reference : Reference) (readable : AreReadable (object_dynamic_symbols fields object)) where
  by_binding : (own : Bool) (symbol : E) → reference.symbol < length (table_items (object_records object)) → (own ≡ false → IsOk (object_name_bytes fields object reference.symbol)) → IsOk (if own then Ok (Own symbol) else and_then (object_name_bytes fields object reference.symbol) (λ name. and_then (version_at (version_list (object_versions object)) reference.symbol) (λ version. and_then (wanted_of version) (λ wanted. Ok (Look (text_alone name) wanted (row_of (object_machine object) reference.kind).use_ (if_protected fields symbol))))))
  by_binding true symbol below named = refl
  by_binding false symbol below named =
      let list = version_list (object_versions object) in
      looked_read (row_of (object_machine object) reference.kind).use_ (if_protected fields symbol) (object_name_bytes fields object reference.symbol) (version_at list reference.symbol) (named refl)
      (version_read list.entries readable.entries (number_of list.numbers reference.symbol) (readable.numbers reference.symbol below))

  by_symbol : (symbol : Option E) → slice_get (table_items (object_records object)) reference.symbol ≡ symbol → IsSomeAnd symbol (λ symbol. binds_to_itself (fields symbol) ≡ false → IsOk (object_name_bytes fields object reference.symbol)) → IsOk (asked_with fields object reference symbol)
  by_symbol None none named = absurd named
  by_symbol (Some symbol) some named = by_binding (binds_to_itself (fields symbol)) symbol (slice_get_within _ _ _ some) named

  pub asked_read : HasNameFor fields object reference → IsOk (asked_of fields object reference)
  asked_read named = by_symbol (slice_get (table_items (object_records object)) reference.symbol) refl named

-- a search is one for the version's name, wherever it lies
module _ {E : Type 0} (file : DynamicSymbols E) (name : List ℕ) (purpose : uses.Use) where
  module _ (place other : ℕ × ℕ) (text : List ℕ) (hash : ℕ) (hidden : Bool) where
    abbrev At : ℕ × ℕ → Wanted
    At p = Version (record { ref_ptr = p; now = text }) hash hidden

    default_moved : (found : Option (ℕ × E)) → IsDefault file name (At place) purpose found → IsDefault file name (At other) purpose found
    default_moved _ (none_shown none) = none_shown none
    default_moved _ (one_shown at some none) = one_shown at some none
    default_moved _ (two_shown at second some more) = two_shown at second some more

    found_moved : (answer : Result (Option (ℕ × E)) LinkError) → IsFound file name (At place) purpose answer → IsFound file name (At other) purpose answer
    found_moved _ (asked_first at answer seeks is) = asked_first at answer seeks is
    found_moved _ (faulty error seeks) = faulty error seeks
    found_moved _ (otherwise found seeks default) = otherwise found seeks (default_moved found default)

  pub found_alone : (wanted : Wanted) (answer : Result (Option (ℕ × E)) LinkError) → IsFound file name wanted purpose answer → IsFound file name (wanted_parts wanted) purpose answer
  found_alone (Version text hash hidden) answer found = found_moved text.ref_ptr (0, 0) text.now hash hidden answer found
  found_alone Unversioned answer found = found
  found_alone Newest answer found = found
