-- Versions that can be read: what a reference accepts is then no error.
use Rattle.std.proofs.Common.{◌≡◌, ℕ, ◌<◌, ◌==◌, Bool, true, false, List, [], ◌∷◌, length, nat_lt, Option, Some, None, Result, Ok, Err, refl, sym, subst, All, IfSome, IsOk, IsOkAnd, if◌then◌else◌}
use Rattle.std.proofs.lemmas.List.Elements.{All-head, All-tail}
use Rattle.std.specs.Prelude.{◌||◌}
use Rattle.std.specs.Str.{bytes_eq}
use Rattle.elf_base.specs.FirstError.{and_then}
use Rattle.elf_linking.specs.Find.{AreReadable, DynamicSymbols, accepted, accepts_version, is_below, is_open, is_version}
use Rattle.elf_linking.specs.VersionTables.{is_hidden, result_map, version_number}
use Rattle.elf_linking.specs.Versions.{CanBeRead, HasReadableName, VersionParts, first_item, item_with, number_of, version_at, version_with}
use Rattle.elf_linking.specs.VersionList.{VersionEntry, VersionList}
use Rattle.elf_linking.specs.declared.error.LinkError.{LinkError}
use Rattle.elf_linking.specs.declared.find.Wanted.{Wanted}
use Rattle.elf_linking.specs.declared.find.Wanted.TheVariants.{Newest, Unversioned, Version}

pub item_ok : {A B : Type 0} (make : A → B) (answer : Result A LinkError) → IsOk answer → IsOk (result_map make answer)
item_ok make (Ok item) ok = refl
item_ok make (Err error) ok = ok

module _ {A : Type 0} (test : A → Bool) (Q : A → Type 0) where
  -- a search among items that are all there ends without an error, and what it finds is one of them
  pub first_read : (items : List (Result A LinkError)) → All (λ item. IsOkAnd item Q) items → IsOkAnd (first_item test items) (λ found. IfSome found Q)
  first_read [] all = tt
  first_read (Err error ∷ items) all = absurd (All-head (λ item. IsOkAnd item Q) (Err error) items all)
  first_read (Ok item ∷ items) all = picked (test item) (All-head (λ item. IsOkAnd item Q) (Ok item) items all) (first_read items (All-tail (λ item. IsOkAnd item Q) (Ok item) items all))
    where
      picked : (hit : Bool) → Q item → IsOkAnd (first_item test items) (λ found. IfSome found Q) → IsOkAnd (if hit then Ok (Some item) else first_item test items) (λ found. IfSome found Q)
      picked true has rest = has
      picked false has rest = rest

-- the entry of a version, if there is one, has a name
abbrev pub HasName : Option VersionEntry → Type 0
HasName named = IfSome named (λ entry. IsOk entry.name)

module _ (entries : List (Result VersionEntry LinkError)) (all : All (λ item. IsOkAnd item (λ entry. IsOk entry.name)) entries) where
  named_read : (n : ℕ) → IsOkAnd (item_with (λ entry. entry.number) entries n) HasName
  named_read n = by_number (nat_lt n 2)
    where
      by_number : (low : Bool) → IsOkAnd (if low then Ok None else first_item (λ entry. entry.number == n) entries) HasName
      by_number true = tt
      by_number false = first_read (λ entry. entry.number == n) (λ entry. IsOk entry.name) entries all

  with_name : (raw : ℕ) (answer : Result (Option VersionEntry) LinkError) → IsOkAnd answer HasName → IsOkAnd (result_map (λ named. Some (record { number = version_number raw; hidden = is_hidden raw; named = named })) answer) (λ (version : Option (VersionParts VersionEntry)). IfSome version (λ v. HasName v.named))
  with_name raw (Ok named) read = read
  with_name raw (Err error) read = absurd read

  pub version_read : (answer : Result (Option ℕ) LinkError) → IsOk answer → IsOkAnd (and_then answer (version_with (λ entry. entry.number) entries)) (λ version. IfSome version (λ v. HasName v.named))
  version_read (Ok None) read = tt
  version_read (Ok (Some raw)) read = with_name raw (item_with (λ entry. entry.number) entries (version_number raw)) (named_read (version_number raw))
  version_read (Err error) read = absurd (cc)

is_version_read : (name : List ℕ) (hash : ℕ) (named : Option VersionEntry) → HasName named → IsOk (is_version name hash named)
is_version_read name hash None has = refl
is_version_read name hash (Some entry) has = by_hash (entry.hash == hash)
  where
    by_hash : (same : Bool) → IsOk (if same then result_map (λ other. bytes_eq other name) entry.name else Ok false)
    by_hash true = item_ok (λ other. bytes_eq other name) entry.name has
    by_hash false = refl

accepts_read : (name : List ℕ) (hash : ℕ) (hidden : Bool) (answer : Result (Option (VersionParts VersionEntry)) LinkError) → IsOkAnd answer (λ version. IfSome version (λ v. HasName v.named)) → IsOk (and_then answer (accepts_version name hash hidden))
accepts_read name hash hidden (Ok None) read = refl
accepts_read name hash hidden (Ok (Some version)) read = item_ok (λ same. same || is_open hidden version) (is_version name hash version.named) (is_version_read name hash version.named read)
accepts_read name hash hidden (Err error) read = absurd read

-- in a file whose versions can be read, whether a reference accepts a symbol is no error
pub accepted_read : {E : Type 0} (file : DynamicSymbols E) → AreReadable file → (wanted : Wanted) (i : ℕ) → i < length file.symbols.items → IsOk (accepted file.versions wanted i)
accepted_read file readable (Version name hash hidden) i below =
    accepts_read name.now hash hidden (version_at file.versions i) (version_read file.versions.entries readable.entries (number_of file.versions.numbers i) (readable.numbers i below))
accepted_read file readable Unversioned i below = item_ok (is_below 3) (number_of file.versions.numbers i) (readable.numbers i below)
accepted_read file readable Newest i below = item_ok (is_below 2) (number_of file.versions.numbers i) (readable.numbers i below)

-- a result that is no error is not this one
pub not_failed : {A : Type 0} (answer : Result A LinkError) → IsOk answer → (error : LinkError) → answer ≡ Err error → ⊥
not_failed (Ok item) ok error is = cc
not_failed (Err other) ok error is = cc

-- the version of a symbol, if the versions of so many symbols can be read
pub version_readable : (list : VersionList) (index count : ℕ) (answer : Result (Option (VersionParts VersionEntry)) LinkError) → answer ≡ version_at list index → CanBeRead list count → index < count → IsOkAnd answer HasReadableName
version_readable list index count answer is readable below =
    subst (λ result. IsOkAnd result HasReadableName) (sym is) (version_read list.entries readable.entries (number_of list.numbers index) (readable.numbers index below))
