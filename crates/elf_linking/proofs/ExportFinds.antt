-- What a search for the symbol that a reference gets finds in a file whose checks passed is what its exports say.
use Rattle.std.proofs.Common.{◌≡◌, ◌≢◌, ℕ, ◌<◌, Bool, true, false, List, [], length, Option, Some, None, Result, Ok, Err, IsOk, IsOkAnd, refl, sym, ap, subst, ◌∙◌, slice_get, if◌then◌else◌}
use Rattle.std.proofs.Math.Dec.{eqb}
use Rattle.std.proofs.lemmas.Option.{slice_get_within}
use Rattle.std.proofs.lemmas.Slice.Eq.{bytes_eq-Decides}
use Rattle.std.specs.Option.{option_or}
use Rattle.std.specs.Prelude.{◌&&◌, ◌||◌, ◌==◌, not, filter, find, option_map, unwrap_or}
use Rattle.std.specs.Result.{result_ok}
use Rattle.std.specs.Str.{bytes_eq}
use base.SetCodes.{SetCoded-set, coded}
use base.Stored.{Coded}
use mathlib.Core.Logic.{∥∥₁_elim}
use Rattle.std.specs.Coded.{codes}
use Rattle.elf_base.specs.FirstError.{and_then}
use Rattle.elf_linking.specs.AnyTable.{IsGoodBy}
use Rattle.elf_linking.specs.Checked.{accepts, default_of, found_fields, found_in, found_parts, is_candidate, is_name, is_shown, is_version_name, lacks_hash, only}
use Rattle.elf_linking.specs.Exports.{SymbolParts, exports_of, symbol_parts, version_in, version_name}
use Rattle.elf_linking.specs.Find.{AreReadable, DynamicSymbols, IsAsked, IsFound, IsShown, Seeks, accepted, accepts_version, asked_first, faulty, has_no_hash, is_below, is_by_version, is_default, is_version, none_shown, one_shown, otherwise, serves, two_shown}
use Rattle.elf_linking.specs.VersionList.{VersionEntry, VersionList}
use Rattle.elf_linking.specs.VersionTables.{is_hidden, result_map, version_number}
use Rattle.elf_linking.specs.Versions.{HasReadableName, VersionParts, item_with, number_of, version_at, version_with}
use Rattle.elf_linking.specs.declared.error.LinkError.{LinkError}
use Rattle.elf_linking.specs.declared.find.Use as uses
use Rattle.elf_linking.specs.declared.find.Wanted.{Wanted}
use Rattle.elf_linking.specs.declared.find.Wanted.TheVariants.{Newest, Unversioned, Version}
use Rattle.elf_linking.proofs.Finds.{IsDefault, found_right}
use Rattle.elf_linking.proofs.ExportChains.{IsTestOf, seeks_first}
use Rattle.elf_linking.proofs.ExportSearch.{and_true, both_true, eqb_other, eqb_same, filter-filter, find-filter, find_never, is_other, only_found, only_never}
use Rattle.elf_linking.proofs.VersionsRead.{HasName, version_readable}
use Rattle.xmas_elf.specs.Symbol.{SymbolFields}

-- What a reference accepts, by the version of a symbol that can be read.

by_text : (name : List ℕ) (same opened : Bool) (read : Result (List ℕ) LinkError) → IsOk read → result_map (λ held. held || opened) (if same then result_map (λ other. bytes_eq other name) read else Ok false) ≡ Ok ((same && bytes_eq (unwrap_or (result_ok read) []) name) || opened)
by_text name true opened (Ok text) ok = refl
by_text name true opened (Err error) ok = absurd (cc)
by_text name false opened read ok = refl

by_named : (name : List ℕ) (hash : ℕ) (visible : Bool) (named : Option VersionEntry) → HasName named → result_map (λ held. held || (has_no_hash named && visible)) (is_version name hash named) ≡ Ok (is_version_name name hash (option_map version_name named) || (lacks_hash (option_map version_name named) && visible))
by_named name hash visible None has = refl
by_named name hash visible (Some named) has = by_text name (named.hash == hash) ((named.hash == 0) && visible) named.name has

by_version : (name : List ℕ) (wanted : Wanted) (hash : ℕ) (hidden : Bool) (read : Result (Option (VersionParts VersionEntry)) LinkError) → IsOkAnd read HasReadableName → and_then read (accepts_version name hash hidden) ≡ Ok (accepts (Version (record { ref_ptr = (0, 0); now = name }) hash hidden) (version_in read))
by_version name wanted hash hidden (Ok None) has = refl
by_version name wanted hash hidden (Ok (Some version)) has = by_named name hash (not hidden && not version.hidden) version.named has
by_version name wanted hash hidden (Err error) has = absurd has

module _ (list : VersionList) where
  abbrev with_entry : Option ℕ → Result (Option (VersionParts VersionEntry)) LinkError
  with_entry = version_with (λ entry. entry.number) list.entries

  abbrev numbered : ℕ → Option VersionEntry → Option (VersionParts VersionEntry)
  numbered raw named = Some (record { number = version_number raw; hidden = is_hidden raw; named = named })

  below_3 : (read : Result (Option ℕ) LinkError) → IsOkAnd (and_then read with_entry) HasReadableName → result_map (is_below 3) read ≡ Ok (accepts Unversioned (version_in (and_then read with_entry)))
  below_3 (Ok None) has = refl
  below_3 (Ok (Some raw)) has = go (item_with (λ entry. entry.number) list.entries (version_number raw)) has
    where
      go : (named : Result (Option VersionEntry) LinkError) → IsOkAnd (result_map (numbered raw) named) HasReadableName → result_map (is_below 3) (Ok (Some raw)) ≡ Ok (accepts Unversioned (version_in (result_map (numbered raw) named)))
      go (Ok named) has = refl
      go (Err error) has = absurd has
  below_3 (Err error) has = absurd has

  below_2 : (read : Result (Option ℕ) LinkError) → IsOkAnd (and_then read with_entry) HasReadableName → result_map (is_below 2) read ≡ Ok (accepts Newest (version_in (and_then read with_entry)))
  below_2 (Ok None) has = refl
  below_2 (Ok (Some raw)) has = go (item_with (λ entry. entry.number) list.entries (version_number raw)) has
    where
      go : (named : Result (Option VersionEntry) LinkError) → IsOkAnd (result_map (numbered raw) named) HasReadableName → result_map (is_below 2) (Ok (Some raw)) ≡ Ok (accepts Newest (version_in (result_map (numbered raw) named)))
      go (Ok named) has = refl
      go (Err error) has = absurd has
  below_2 (Err error) has = absurd has

  shown_is : (read : Result (Option ℕ) LinkError) → IsOkAnd (and_then read with_entry) HasReadableName → is_default read ≡ is_shown (version_in (and_then read with_entry))
  shown_is (Ok None) has = refl
  shown_is (Ok (Some raw)) has = go (item_with (λ entry. entry.number) list.entries (version_number raw)) has
    where
      go : (named : Result (Option VersionEntry) LinkError) → IsOkAnd (result_map (numbered raw) named) HasReadableName → is_default (Ok (Some raw)) ≡ is_shown (version_in (result_map (numbered raw) named))
      go (Ok named) has = refl
      go (Err error) has = absurd has
  shown_is (Err error) has = absurd has

pub is_name_some : (name : List ℕ) (read : Option (List ℕ)) → is_name name read ≡ true → read ≡ Some name
is_name_some name None is = absurd (cc)
is_name_some name (Some other) is = ap (λ n. Some n) ((bytes_eq-Decides other name).0 is)

pub some_is_name : (name : List ℕ) (read : Option (List ℕ)) → read ≡ Some name → is_name name read ≡ true
some_is_name name None is = absurd (cc)
some_is_name name (Some other) is = let same : other ≡ name = cc in (bytes_eq-Decides other name).1 same

module _ {E : Type 0} (file : DynamicSymbols E) (readable : AreReadable file) (name : List ℕ) (wanted : Wanted) (purpose : uses.Use) where
  abbrev part : ℕ × E → SymbolParts
  part at = symbol_parts file at.0 at.1

  abbrev exports : List SymbolParts
  exports = exports_of file

  read_at : (i : ℕ) → i < length file.symbols.items → IsOkAnd (version_at file.versions i) HasReadableName
  read_at i below = version_readable file.versions i (length file.symbols.items) (version_at file.versions i) refl readable below

  accepted_is : (w : Wanted) (i : ℕ) → i < length file.symbols.items → accepted file.versions w i ≡ Ok (accepts w (version_in (version_at file.versions i)))
  accepted_is (Version text hash hidden) i below = by_version text.now wanted hash hidden (version_at file.versions i) (read_at i below)
  accepted_is Unversioned i below = below_3 file.versions (number_of file.versions.numbers i) (read_at i below)
  accepted_is Newest i below = below_2 file.versions (number_of file.versions.numbers i) (read_at i below)

  default_is : (i : ℕ) → i < length file.symbols.items → is_default (number_of file.versions.numbers i) ≡ is_shown (version_in (version_at file.versions i))
  default_is i below = shown_is file.versions (number_of file.versions.numbers i) (read_at i below)

  abbrev is_wanted : SymbolParts → Bool
  is_wanted s = is_candidate name purpose s && accepts wanted s.version

  candidate_named : (s : SymbolParts) → is_candidate name purpose s ≡ true → s.name ≡ Some name
  candidate_named s is = is_name_some name s.name (both_true (is_name name s.name) (serves purpose s.fields) is).0

  candidate_told : (i : ℕ) (e : E) → is_candidate name purpose (part (i, e)) ≡ true → (file.symbols.text e ≡ Some name) × (serves purpose (file.symbols.fields e) ≡ true)
  candidate_told i e is = (candidate_named (part (i, e)) is, (both_true (is_name name (file.symbols.text e)) (serves purpose (file.symbols.fields e)) is).1)

  candidate_tells : (i : ℕ) (e : E) → (file.symbols.text e ≡ Some name) × (serves purpose (file.symbols.fields e) ≡ true) → is_candidate name purpose (part (i, e)) ≡ true
  candidate_tells i e (named, served) = and_true (is_name name (file.symbols.text e)) (serves purpose (file.symbols.fields e)) (some_is_name name (file.symbols.text e) named) served

  not_fails : (b : Bool) (answer : Result Bool LinkError) → answer ≡ Ok b → answer ≢ Ok false → b ≡ true
  not_fails true answer is other = refl
  not_fails false answer is other = absurd (other is)

  asked_test : IsTestOf file name (IsAsked file name wanted purpose) is_wanted
  asked_test = record {
    named = λ s is. candidate_named s (both_true (is_candidate name purpose s) (accepts wanted s.version) is).0;
    tells = λ i e at asked. and_true (is_candidate name purpose (part (i, e))) (accepts wanted (part (i, e)).version) (candidate_tells i e asked.0)
        (not_fails (accepts wanted (part (i, e)).version) (accepted file.versions wanted i) (accepted_is wanted i (slice_get_within file.symbols.items i e at)) asked.1);
    told = λ i e at is. (let (candidate, accepting) = both_true (is_candidate name purpose (part (i, e))) (accepts wanted (part (i, e)).version) is in
        (candidate_told i e candidate, λ fails. (let one = accepted_is wanted i (slice_get_within file.symbols.items i e at) in cc)));
  }

  -- a candidate whose version isn't hidden, for a reference without a version
  abbrev is_default_for : Bool → SymbolParts → Bool
  is_default_for by s = not by && (is_candidate name purpose s && is_shown s.version)

  not_false : (b : Bool) → not b ≡ true → b ≡ false
  not_false true is = absurd (cc)
  not_false false is = refl

  false_not : (b : Bool) → b ≡ false → not b ≡ true
  false_not true is = absurd (cc)
  false_not false is = refl

  module _ (by : Bool) (by_is : is_by_version wanted ≡ by) where
    default_told : (i : ℕ) (e : E) → slice_get file.symbols.items i ≡ Some e → is_default_for by (part (i, e)) ≡ true → ((file.symbols.text e ≡ Some name) × (serves purpose (file.symbols.fields e) ≡ true)) × ((is_by_version wanted ≡ false) × (is_default (number_of file.versions.numbers i) ≡ true))
    default_told i e at is =
        let (other, rest) = both_true (not by) (is_candidate name purpose (part (i, e)) && is_shown (part (i, e)).version) is in
        let (candidate, shown) = both_true (is_candidate name purpose (part (i, e))) (is_shown (part (i, e)).version) rest in
        (candidate_told i e candidate, (by_is ∙ not_false by other, default_is i (slice_get_within file.symbols.items i e at) ∙ shown))

    default_tells : (i : ℕ) (e : E) → slice_get file.symbols.items i ≡ Some e → (file.symbols.text e ≡ Some name) × (serves purpose (file.symbols.fields e) ≡ true) → is_by_version wanted ≡ false → is_default (number_of file.versions.numbers i) ≡ true → is_default_for by (part (i, e)) ≡ true
    default_tells i e at candidate other shown =
        and_true (not by) (is_candidate name purpose (part (i, e)) && is_shown (part (i, e)).version) (false_not by (sym by_is ∙ other))
        (and_true (is_candidate name purpose (part (i, e))) (is_shown (part (i, e)).version) (candidate_tells i e candidate) (sym (default_is i (slice_get_within file.symbols.items i e at)) ∙ shown))

    default_named : (s : SymbolParts) → is_default_for by s ≡ true → s.name ≡ Some name
    default_named s is = candidate_named s (both_true (is_candidate name purpose s) (is_shown s.version) (both_true (not by) (is_candidate name purpose s && is_shown s.version) is).1).0

    shown_test : IsTestOf file name (IsShown file name wanted purpose None) (is_default_for by)
    shown_test = record {
      named = default_named;
      tells = λ i e at shown. default_tells i e at shown.0 shown.1.0 shown.1.1.0;
      told = λ i e at is. (let (candidate, (other, shown)) = default_told i e at is in (candidate, (other, (shown, λ same. cc))));
    }

    other_test : (one : ℕ × E) → IsTestOf file name (IsShown file name wanted purpose (Some one.0)) (λ s. is_default_for by s && is_other (part one) s)
    other_test one = record {
      named = λ s is. default_named s (both_true (is_default_for by s) (is_other (part one) s) is).0;
      tells = λ i e at shown. and_true (is_default_for by (part (i, e))) (not (eqb i one.0)) (default_tells i e at shown.0 shown.1.0 shown.1.1.0)
          (false_not (eqb i one.0) (eqb_other i one.0 (λ same. shown.1.1.1 (ap (λ k. Some k) (sym same)))));
      told = λ i e at is. (let (default, apart) = both_true (is_default_for by (part (i, e))) (not (eqb i one.0)) is in
          let (candidate, (other, shown)) = default_told i e at default in
          (candidate, (other, (shown, λ same. (let here : i ≡ one.0 = cc in let equal = not_false (eqb i one.0) apart in differ i one.0 here equal)))));
    }
      where
        differ : (a b : ℕ) → a ≡ b → eqb a b ≡ false → ⊥
        differ a b same is = (let no = subst (λ k. eqb a k ≡ false) (sym same) is in let yes = eqb_same a in cc)

  shown_first : (by : Bool) → is_by_version wanted ≡ by → (o : Option (ℕ × E)) → Seeks (IsShown file name wanted purpose None) file name (Ok o) → find (is_default_for by) exports ≡ option_map part o
  shown_first by is o seeks = seeks_first file.symbols file.versions name (IsShown file name wanted purpose None) (is_default_for by) file.table (shown_test by is) o seeks

  other_first : (by : Bool) → is_by_version wanted ≡ by → (one : ℕ × E) (o : Option (ℕ × E)) → Seeks (IsShown file name wanted purpose (Some one.0)) file name (Ok o) → find (λ s. is_default_for by s && is_other (part one) s) exports ≡ option_map part o
  other_first by is one o seeks = seeks_first file.symbols file.versions name (IsShown file name wanted purpose (Some one.0)) (λ s. is_default_for by s && is_other (part one) s) file.table (other_test by is one) o seeks

  abbrev candidates : List SymbolParts
  candidates = filter (is_candidate name purpose) exports

  abbrev default_by : Bool → Option SymbolParts
  default_by by = if by then None else only (filter (λ s. is_shown s.version) candidates)

  none_by_version : is_by_version wanted ≡ true → (found : Option (ℕ × E)) → IsDefault file name wanted purpose found → default_by true ≡ option_map part found
  none_by_version is _ (none_shown none) = refl
  none_by_version is _ (one_shown at some none) = absurd (let one = shown_first true is (Some at) some in let never = find_never (is_default_for true) exports (λ s. refl) in cc)
  none_by_version is _ (two_shown at other some more) = refl

  only_default : is_by_version wanted ≡ false → (found : Option (ℕ × E)) → IsDefault file name wanted purpose found → default_by false ≡ option_map part found
  only_default is _ (none_shown none) =
      ap only (filter-filter (λ s. is_shown s.version) (is_candidate name purpose) exports) ∙ only_never (is_default_for false) exports (shown_first false is None none)
  only_default is _ (one_shown at some none) =
      ap only (filter-filter (λ s. is_shown s.version) (is_candidate name purpose) exports)
      ∙ only_found (is_default_for false) exports (part at) None (shown_first false is (Some at) some) (other_first false is at None none)
  only_default is _ (two_shown at other some more) =
      ap only (filter-filter (λ s. is_shown s.version) (is_candidate name purpose) exports)
      ∙ only_found (is_default_for false) exports (part at) (Some (part other)) (shown_first false is (Some at) some) (other_first false is at (Some other) more)

  by_default : (found : Option (ℕ × E)) → IsDefault file name wanted purpose found → default_of wanted candidates ≡ option_map part found
  by_default found default = go (is_by_version wanted) refl
    where
      go : (by : Bool) → is_by_version wanted ≡ by → default_by by ≡ option_map part found
      go true is = none_by_version is found default
      go false is = only_default is found default

  wanted_first : (o : Option (ℕ × E)) → Seeks (IsAsked file name wanted purpose) file name (Ok o) → find (λ s. accepts wanted s.version) candidates ≡ option_map part o
  wanted_first o seeks =
      find-filter (λ s. accepts wanted s.version) (is_candidate name purpose) exports
      ∙ seeks_first file.symbols file.versions name (IsAsked file name wanted purpose) is_wanted file.table asked_test o seeks

  at_found : (at : ℕ × E) (answer : Result (Option (ℕ × E)) LinkError) (read : Result Bool LinkError) (found : Option (ℕ × E)) → answer ≡ result_map (λ _. Some at) read → answer ≡ Ok found → Some at ≡ found
  at_found at answer (Ok b) found is is_ok = cc
  at_found at answer (Err error) found is is_ok = absurd (cc)

  found_by : (answer : Result (Option (ℕ × E)) LinkError) → IsFound file name wanted purpose answer → (found : Option (ℕ × E)) → answer ≡ Ok found → found_in name wanted purpose exports ≡ option_map part found
  found_by _ (asked_first at answer seeks is) found is_ok =
      ap (λ o. option_or o (default_of wanted candidates)) (wanted_first (Some at) seeks)
      ∙ ap (option_map part) (at_found at answer (accepted file.versions wanted at.0) found is is_ok)
  found_by _ (faulty error seeks) found is_ok = absurd (cc)
  found_by _ (otherwise other seeks default) found is_ok =
      let same : other ≡ found = cc in
      ap (λ o. option_or o (default_of wanted candidates)) (wanted_first None seeks) ∙ by_default other default ∙ ap (option_map part) same

  plain : (found : Option (ℕ × E)) → found_parts (option_map part found) ≡ found_fields file.symbols.fields found
  plain None = refl
  plain (Some at) = refl

  -- what is found is what the exports say
  pub found_plain : (found : Option (ℕ × E)) → IsFound file name wanted purpose (Ok found) → found_fields file.symbols.fields found ≡ found_parts (found_in name wanted purpose exports)
  found_plain found is = sym (ap found_parts (found_by (Ok found) is found refl) ∙ plain found)

-- in a file whose checks passed, which is known without its proof, a search has no error, and finds what the exports say
module _ {E : Type 0} (file : DynamicSymbols E) (good : ∥ IsGoodBy file.table file.symbols × AreReadable file ∥₁) (name : List ℕ) (wanted : Wanted) (purpose : uses.Use) where
  pub never_fails : (error : LinkError) → IsFound file name wanted purpose (Err error) → ⊥
  never_fails error found = ∥∥₁_elim good (λ x y. absurd x) (λ is. found_right file name wanted purpose is.0 is.1 (Err error) found)

  pub finds_plain : (found : Option (ℕ × E)) → IsFound file name wanted purpose (Ok found) → found_fields file.symbols.fields found ≡ found_parts (found_in name wanted purpose (exports_of file))
  finds_plain found is = let code : Coded (Option (ℕ × SymbolFields)) = hlevel (codes) in
      ∥∥₁_elim good (SetCoded-set (coded code) _ _) (λ passed. found_plain file passed.1 name wanted purpose found is)
