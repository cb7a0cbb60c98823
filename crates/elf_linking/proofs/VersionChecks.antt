-- Versions that can be read: the check finds no error exactly then.
use Rattle.std.proofs.Common.{◌≡◌, ◌↔◌, ◌<◌, ◌/◌, ◌++◌, ℕ, Bool, true, false, List, [], ◌∷◌, length, map, slice_get, nat_lt, Option, Some, None, Result, Ok, Err, IsOk, IsOkAnd, All, if◌then◌else◌, refl, sym, ap, subst, ◌∙◌, arith}
use Rattle.std.proofs.lemmas.Bool.{ltb-true, ltb-false}
use Rattle.std.proofs.lemmas.List.Elements.{All-cons, All-head, All-nil, All-tail}
use Rattle.std.proofs.lemmas.Option.{slice_get-get_or, slice_get_past}
use Rattle.std.specs.Prelude.{ok_or}
use Rattle.elf_base.specs.FirstError.{and_then}
use Rattle.elf_base.specs.declared.bytes.Order.{Order}
use Rattle.elf_linking.specs.VersionList.{Defined, Needed, VersionList, entry_of, named_in, versions_in}
use Rattle.elf_linking.specs.VersionTables.{VersionTables, definitions_in, needs_in, result_map}
use Rattle.elf_linking.specs.Versions.{CanBeRead, count_error, lacks_numbers, name_error, number_of, versions_error}
use Rattle.elf_linking.specs.declared.error.LinkError.{LinkError}
use Rattle.elf_linking.specs.declared.error.LinkError.TheVariants.{SymbolIndex}
use Rattle.elf_linking.proofs.VersionSearch.{number_count, numbers}

-- a result after another is no error exactly if neither is one
both_ok : {A B : Type 0} (one : Result A LinkError) (other : Result B LinkError) → IsOk (and_then one (λ _. other)) → IsOk one × IsOk other
both_ok (Ok item) other ok = (refl, ok)
both_ok (Err error) other ok = absurd (cc)

ok_both : {A B : Type 0} (one : Result A LinkError) (other : Result B LinkError) → IsOk one → IsOk other → IsOk (and_then one (λ _. other))
ok_both (Ok item) other first ok = ok
ok_both (Err error) other first ok = absurd (cc)

module _ {A : Type 0} (name : A → Result (List ℕ) LinkError) where
  pub names_end : (items : List (Result A LinkError)) → items ≡ [] → name_error name items ≡ Ok tt
  names_end items is = ap (name_error name) is

  pub names_fault : (items others : List (Result A LinkError)) (error : LinkError) → items ≡ Err error ∷ others → name_error name items ≡ Err error
  names_fault items others error is = ap (name_error name) is

  pub names_bad : (items others : List (Result A LinkError)) (item : A) (error : LinkError) → items ≡ Ok item ∷ others → name item ≡ Err error → name_error name items ≡ Err error
  names_bad items others item error is bad = ap (name_error name) is ∙ rw bad refl

  pub names_other : (items others : List (Result A LinkError)) (item : A) (text : List ℕ) → items ≡ Ok item ∷ others → name item ≡ Ok text → name_error name items ≡ name_error name others
  names_other items others item text is good = ap (name_error name) is ∙ rw good refl

  -- there is no error exactly if each item is there and has a name
  pub names_all : (items : List (Result A LinkError)) → IsOk (name_error name items) → All (λ item. IsOkAnd item (λ x. IsOk (name x))) items
  names_all [] ok = All-nil (λ item. IsOkAnd item (λ x. IsOk (name x)))
  names_all (Err error ∷ items) ok = absurd (cc)
  names_all (Ok item ∷ items) ok =
      let both = both_ok (name item) (name_error name items) ok in
      All-cons (λ item. IsOkAnd item (λ x. IsOk (name x))) (Ok item) items both.0 (names_all items both.1)

  pub all_names : (items : List (Result A LinkError)) → All (λ item. IsOkAnd item (λ x. IsOk (name x))) items → IsOk (name_error name items)
  all_names [] all = refl
  all_names (Err error ∷ items) all = absurd (All-head (λ item. IsOkAnd item (λ x. IsOk (name x))) (Err error) items all)
  all_names (Ok item ∷ items) all =
      ok_both (name item) (name_error name items) (All-head (λ item. IsOkAnd item (λ x. IsOk (name x))) (Ok item) items all) (all_names items (All-tail (λ item. IsOkAnd item (λ x. IsOk (name x))) (Ok item) items all))

  pub names_behind : (items others : List (Result A LinkError)) → name_error name (items ++ others) ≡ and_then (name_error name items) (λ _. name_error name others)
  names_behind [] others = refl
  names_behind (Err error ∷ items) others = refl
  names_behind (Ok item ∷ items) others = by (name item) (names_behind items others)
    where
      by : (read : Result (List ℕ) LinkError) → name_error name (items ++ others) ≡ and_then (name_error name items) (λ _. name_error name others)
          → and_then read (λ _. name_error name (items ++ others)) ≡ and_then (and_then read (λ _. name_error name items)) (λ _. name_error name others)
      by (Ok text) rest = rest
      by (Err error) rest = refl

module _ {A B : Type 0} (make : A → B) (name : B → Result (List ℕ) LinkError) where
  pub names_made : (items : List (Result A LinkError)) → name_error name (map (result_map make) items) ≡ name_error (λ item. name (make item)) items
  names_made [] = refl
  names_made (Err error ∷ items) = refl
  names_made (Ok item ∷ items) = ap (λ rest. and_then (name (make item)) (λ _. rest)) (names_made items)

-- the first error of a list of versions is that of the definitions, then that of the needs
pub names_listed : (tables : VersionTables) (list : VersionList) → list ≡ versions_in tables → name_error (λ entry. entry.name) list.entries
    ≡ and_then (name_error (λ d. d.name) (definitions_in tables.definitions)) (λ _. name_error (λ need. need.name) (needs_in tables.needs))
names_listed tables list is =
    ap (λ l. name_error (λ entry. entry.name) l.entries) is
    ∙ names_made entry_of (λ entry. entry.name) (named_in tables)
    ∙ names_behind (λ named. (entry_of named).name) (map (result_map Defined) (definitions_in tables.definitions)) (map (result_map Needed) (needs_in tables.needs))
    ∙ ap (λ first. and_then first (λ _. name_error (λ named. (entry_of named).name) (map (result_map Needed) (needs_in tables.needs)))) (names_made Defined (λ named. (entry_of named).name) (definitions_in tables.definitions))
    ∙ ap (λ rest. and_then (name_error (λ d. d.name) (definitions_in tables.definitions)) (λ _. rest)) (names_made Needed (λ named. (entry_of named).name) (needs_in tables.needs))

-- the result of the check of the names of both
pub names_checked : (tables : VersionTables) (list : VersionList) (one other : Result (Unit {0}) LinkError) → list ≡ versions_in tables
    → one ≡ name_error (λ d. d.name) (definitions_in tables.definitions) → and_then one (λ _. name_error (λ need. need.name) (needs_in tables.needs)) ≡ other → other ≡ name_error (λ entry. entry.name) list.entries
names_checked tables list one other listed first rest =
    sym rest ∙ ap (λ r. and_then r (λ _. name_error (λ need. need.name) (needs_in tables.needs))) first ∙ sym (names_listed tables list listed)

-- the result of the whole check, where there are enough numbers
pub error_checked : (list : VersionList) (count : ℕ) (names other : Result (Unit {0}) LinkError) → lacks_numbers list.numbers count ≡ false
    → names ≡ name_error (λ entry. entry.name) list.entries → and_then names (λ _. count_error list.counted) ≡ other → other ≡ versions_error list count
error_checked list count names other enough first rest =
    let reads : versions_error list count ≡ and_then (name_error (λ entry. entry.name) list.entries) (λ _. count_error list.counted) = rw enough refl in
    sym rest ∙ ap (λ r. and_then r (λ _. count_error list.counted)) first ∙ sym reads

-- there is no error of the count exactly if the list is counted
counted_ok : (counted : Bool) → IsOk (count_error counted) → counted ≡ true
counted_ok true ok = refl
counted_ok false ok = absurd (cc)

ok_counted : (counted : Bool) → counted ≡ true → IsOk (count_error counted)
ok_counted true is = refl
ok_counted false is = absurd (cc)

-- each of some symbols has a number exactly if there are no fewer numbers than symbols
enough : (numbers : Option (List ℕ)) (count : ℕ) → lacks_numbers numbers count ≡ false → (i : ℕ) → i < count → IsOk (number_of numbers i)
enough None count is i below = refl
enough (Some numbers) count is i below =
    let all = ltb-false (length numbers) count is in
    let there = slice_get-get_or numbers i 0 (omega (arith, all, below)) in rw there refl

too_few : (numbers : Option (List ℕ)) (count : ℕ) → lacks_numbers numbers count ≡ true → ((i : ℕ) → i < count → IsOk (number_of numbers i)) → ⊥
too_few None count is there = absurd (cc)
too_few (Some numbers) count is there =
    let few = ltb-true (length numbers) count is in
    let none : slice_get numbers (length numbers) ≡ None = slice_get_past numbers (length numbers) (omega arith) in
    let ok : IsOk (result_map Some (ok_or (slice_get numbers (length numbers)) SymbolIndex)) = there (length numbers) few in
    let bad : IsOk (result_map Some (ok_or {T = ℕ} None SymbolIndex)) = subst (λ o. IsOk (result_map Some (ok_or o SymbolIndex))) none ok in cc

module _ (list : VersionList) where
  to_read : (count : ℕ) (lacks : Bool) → lacks_numbers list.numbers count ≡ lacks → IsOk (if lacks then Err SymbolIndex else and_then (name_error (λ entry. entry.name) list.entries) (λ _. count_error list.counted)) → CanBeRead list count
  to_read count true is ok = absurd (cc)
  to_read count false is ok =
      let both = both_ok (name_error (λ entry. entry.name) list.entries) (count_error list.counted) ok in
      record { numbers = enough list.numbers count is; entries = names_all (λ entry. entry.name) list.entries both.0; counted = counted_ok list.counted both.1 }

  from_read : (count : ℕ) (lacks : Bool) → lacks_numbers list.numbers count ≡ lacks → CanBeRead list count → IsOk (if lacks then Err SymbolIndex else and_then (name_error (λ entry. entry.name) list.entries) (λ _. count_error list.counted))
  from_read count true is read = absurd (too_few list.numbers count is read.numbers)
  from_read count false is read =
      ok_both (name_error (λ entry. entry.name) list.entries) (count_error list.counted) (all_names (λ entry. entry.name) list.entries read.entries) (ok_counted list.counted read.counted)

  pub error_read : (count : ℕ) (answer : Result (Unit {0}) LinkError) → answer ≡ versions_error list count → IsOk answer ↔ CanBeRead list count
  error_read count answer is = (
    λ ok. to_read count (lacks_numbers list.numbers count) refl (subst (λ r. IsOk r) is ok),
    λ read. subst (λ r. IsOk r) (sym is) (from_read count (lacks_numbers list.numbers count) refl read),
  )

-- there are fewer numbers in bytes than symbols
pub lacks_in : (order : Order) (bytes : List ℕ) (count : ℕ) → lacks_numbers (Some (numbers order bytes)) count ≡ nat_lt (length bytes / 2) count
lacks_in order bytes count = ap (λ n. nat_lt n count) (number_count order bytes)
