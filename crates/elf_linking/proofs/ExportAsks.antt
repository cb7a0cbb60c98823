-- What a reference of a file whose checks passed asks for, by its symbols.
use Rattle.std.proofs.Common.{◌≡◌, ℕ, ◌%◌, ◌==◌, Bool, true, false, List, [], length, Option, Some, None, Result, Ok, Err, IsOk, IsOkAnd, refl, sym, ap, ◌∙◌, slice_get, if◌then◌else◌}
use Rattle.std.proofs.lemmas.Option.{slice_get_within}
use Rattle.std.specs.Prelude.{option_and_then, option_map, unwrap_or}
use Rattle.std.specs.Result.{result_ok}
use base.SetCodes.{SetCoded-set, coded}
use base.Stored.{Coded}
use mathlib.Core.Logic.{∥∥₁_elim}
use Rattle.std.specs.Coded.{codes}
use Rattle.elf_base.specs.FirstError.{and_then}
use Rattle.elf_base.specs.Text.{bytes_up_to_zero_of}
use Rattle.elf_base.specs.declared.error.ElfError.{ElfError}
use Rattle.elf_linking.specs.AnyTable.{IsGoodBy}
use Rattle.elf_linking.specs.CheckedScope.{asked_fields, asked_for, asked_in, wanted_name, wanted_version}
use Rattle.elf_linking.specs.DynamicObject.{object_dynamic_symbols, object_machine, object_name_bytes, object_strings}
use Rattle.elf_linking.specs.DynamicView.{as_link_error}
use Rattle.elf_linking.specs.Exports.{numbered_version, object_parts, symbol_parts, version_in, version_name}
use Rattle.elf_linking.specs.Find.{AreReadable, DynamicSymbols}
use Rattle.elf_linking.specs.RelocationTypes.{row_of}
use Rattle.elf_linking.specs.Scope.{asked_of, asked_parts, asked_with, binds_to_itself, if_protected, text_alone, wanted_by, wanted_of}
use Rattle.elf_linking.specs.VersionTables.{result_map}
use Rattle.elf_linking.specs.VersionList.{VersionEntry}
use Rattle.elf_linking.specs.Versions.{HasReadableName, VersionParts, version_at, versions_error}
use Rattle.elf_linking.specs.declared.error.LinkError.{LinkError}
use Rattle.elf_linking.specs.declared.find.Use as uses
use Rattle.elf_linking.specs.declared.find.Wanted.TheVariants.{Unversioned, Version}
use Rattle.elf_linking.specs.declared.object.DynamicObject.{DynamicObject}
use Rattle.elf_linking.specs.declared.references.Reference.{Reference}
use Rattle.elf_linking.specs.declared.scope.asking.Asked.{Asked}
use Rattle.elf_linking.specs.declared.scope.asking.Asked.TheVariants.{Look, Own}
use Rattle.elf_linking.proofs.ExportChains.{get_symbol}
use Rattle.elf_linking.proofs.VersionChecks.{error_read}
use Rattle.elf_linking.proofs.VersionsRead.{HasName, version_readable}
use Rattle.xmas_elf.specs.Symbol.{SymbolFields}

-- the versions of a file whose checks passed can be read
pub readable_by : {E : Type 0} (file : DynamicSymbols E) → ∥ IsGoodBy file.table file.symbols × AreReadable file ∥₁ → AreReadable file
readable_by file good =
    let count : ℕ = length file.symbols.items in
    let law = error_read file.versions count (versions_error file.versions count) refl in
    let code : Coded Bool = hlevel (codes) in
    law.0 (∥∥₁_elim good (SetCoded-set (coded code) _ _) (λ is. law.1 is.1))

-- a version that is wanted
by_hash : (named : VersionEntry) (none : Bool) (read : Result (List ℕ) LinkError) → IsOk read → (if none then Ok Unversioned else result_map (λ name. Version (text_alone name) named.hash named.hidden) read) ≡ Ok (if none then Unversioned else Version (text_alone (unwrap_or (result_ok read) [])) named.hash named.hidden)
by_hash named true read ok = refl
by_hash named false (Ok name) ok = refl
by_hash named false (Err error) ok = absurd (cc)

by_named : (named : Option VersionEntry) → HasName named → wanted_by named ≡ Ok (wanted_name (option_map version_name named))
by_named None has = refl
by_named (Some named) has = by_hash named (named.hash == 0) named.name has

wanted_is : (version : Option (VersionParts VersionEntry)) → HasReadableName version → wanted_of version ≡ Ok (wanted_version (option_map numbered_version version))
wanted_is None has = refl
wanted_is (Some version) has = by_named version.named has

module _ {E : Type 0} (fields : E → SymbolFields) where
  -- a question with the fields of its symbols
  abbrev pub own_fields : Asked E → Asked SymbolFields
  own_fields (Own symbol) = Own (fields symbol)
  own_fields (Look name wanted purpose own) = Look name wanted purpose (option_map fields own)

  fields_own : (asked : Asked E) → asked_fields fields asked ≡ own_fields (asked_parts asked)
  fields_own (Own symbol) = refl
  fields_own (Look name wanted purpose own) = refl

  fields_ok : (answer : Result (Asked E) LinkError) → option_map (asked_fields fields) (result_ok answer) ≡ result_ok (result_map own_fields (result_map asked_parts answer))
  fields_ok (Ok asked) = ap (λ a. Some a) (fields_own asked)
  fields_ok (Err error) = refl

  protected_fields : (symbol : E) → option_map fields (if_protected fields symbol) ≡ if_protected (λ f. f) (fields symbol)
  protected_fields symbol = by ((fields symbol).other % 4 == 3)
    where
      by : (is : Bool) → option_map fields (if is then Some symbol else None) ≡ (if is then Some (fields symbol) else None)
      by true = refl
      by false = refl

  module _ {r : _} (object : DynamicObject E r) (readable : AreReadable (object_dynamic_symbols fields object)) (reference : Reference) where
    abbrev file : DynamicSymbols E
    file = object_dynamic_symbols fields object

    abbrev purpose : uses.Use
    purpose = (row_of (object_machine object) reference.kind).use_

    looked : (symbol : E) (text : Result (List ℕ) ElfError) (version : Result (Option (VersionParts VersionEntry)) LinkError) → IsOkAnd version HasReadableName
        → result_ok (result_map own_fields (and_then (as_link_error text) (λ name. and_then version (λ v. and_then (wanted_of v) (λ wanted. Ok (Look (text_alone name) wanted purpose (if_protected fields symbol)))))))
        ≡ option_map (λ name. Look (text_alone name) (wanted_version (version_in version)) purpose (if_protected (λ f. f) (fields symbol))) (result_ok text)
    looked symbol (Err error) version has = refl
    looked symbol (Ok name) (Err error) has = absurd has
    looked symbol (Ok name) (Ok version) has = rw (wanted_is version has, protected_fields symbol) refl

    asked_symbol : (symbol : E) → slice_get file.symbols.items reference.symbol ≡ Some symbol → result_ok (result_map own_fields (asked_with fields object reference (Some symbol))) ≡ asked_for purpose (symbol_parts file reference.symbol symbol)
    asked_symbol symbol at = by (binds_to_itself (fields symbol))
      where
        has : IsOkAnd (version_at file.versions reference.symbol) HasReadableName
        has = version_readable file.versions reference.symbol (length file.symbols.items) (version_at file.versions reference.symbol) refl readable (slice_get_within file.symbols.items reference.symbol symbol at)

        text : Result (List ℕ) ElfError
        text = bytes_up_to_zero_of (object_strings object).now (fields symbol).name

        by : (own : Bool) → result_ok (result_map own_fields (if own then Ok (Own symbol) else and_then (object_name_bytes fields object reference.symbol) (λ name. and_then (version_at file.versions reference.symbol) (λ v. and_then (wanted_of v) (λ wanted. Ok (Look (text_alone name) wanted purpose (if_protected fields symbol)))))))
            ≡ (if own then Some (Own (fields symbol)) else option_map (λ name. Look (text_alone name) (wanted_version (version_in (version_at file.versions reference.symbol))) purpose (if_protected (λ f. f) (fields symbol))) (file.symbols.text symbol))
        by true = refl
        by false = rw (at) (looked symbol (bytes_up_to_zero_of (object_strings object).now (fields symbol).name) (version_at file.versions reference.symbol) has)

    asked_any : (at : Option E) → slice_get file.symbols.items reference.symbol ≡ at → result_ok (result_map own_fields (asked_with fields object reference at)) ≡ option_and_then (asked_for purpose) (option_map (symbol_parts file reference.symbol) at)
    asked_any None is = refl
    asked_any (Some symbol) is = asked_symbol symbol is

    -- what a reference asks for
    pub asked_plain : (answer : Result (Asked E) LinkError) → result_map asked_parts answer ≡ asked_of fields object reference → option_map (asked_fields fields) (result_ok answer) ≡ asked_in (object_parts fields object) reference
    asked_plain answer is =
        fields_ok answer ∙ ap (λ a. result_ok (result_map own_fields a)) is ∙ asked_any (slice_get file.symbols.items reference.symbol) refl
        ∙ ap (option_and_then (asked_for purpose)) (sym (get_symbol file reference.symbol))

    -- the same of what it asks for
    pub asked_own : result_ok (result_map own_fields (asked_of fields object reference)) ≡ asked_in (object_parts fields object) reference
    asked_own = asked_any (slice_get file.symbols.items reference.symbol) refl ∙ ap (option_and_then (asked_for purpose)) (sym (get_symbol file reference.symbol))
