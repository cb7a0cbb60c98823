-- The version of a symbol: what the tables have with its number, and the entry of the list.
use Rattle.std.proofs.Common.{◌≡◌, ℕ, ◌+◌, ◌*◌, ◌/◌, ◌%◌, ◌<◌, ◌≤◌, ◌==◌, ◌&&◌, ◌++◌, Bool, true, false, if◌then◌else◌, List, [], ◌∷◌, length, map, slice_get, Option, Some, None, Result, Ok, Err, refl, sym, ap, subst, ◌∙◌, arith}
use Rattle.std.proofs.lemmas.Bool.{eqb-true, eq-eqb, eqb-false, ne_eqb, ltb-true, ltb-false, le-ltb}
use Rattle.std.proofs.lemmas.List.{length-map}
use Rattle.std.proofs.lemmas.List.FromFn.{get_or-range_with_len, length-range_with_len}
use Rattle.std.proofs.lemmas.Option.{slice_get-get_or, slice_get-map, slice_get_past}
use Rattle.std.specs.List.{range_with_len}
use Rattle.std.specs.Prelude.{nat_lt, not, ok_or, option_map}
use Rattle.elf_base.specs.Number.{number}
use Rattle.elf_base.specs.FirstError.{and_then}
use Rattle.elf_base.specs.declared.bytes.Order.{Order}
use Rattle.elf_linking.specs.declared.error.LinkError.{LinkError}
use Rattle.elf_linking.specs.declared.error.LinkError.TheVariants.{SymbolIndex}
use Rattle.elf_linking.specs.VersionList.{Defined, NamedParts, Needed, VersionEntry, VersionList, entry_of, named_in, numbers_in, versions_in}
use Rattle.elf_linking.specs.VersionTables.{DefinitionParts, VersionTables, definitions_in, is_hidden, result_map, needs_in, version_number}
use Rattle.elf_linking.specs.Versions.{IsEntryWith, IsVersion, VersionParts, defines_number, needs_number, entry_item, first, first_item, item_with, named_at, no_number, no_numbers, number_of, reserved, unreadable, version, version_at, version_item, version_with, with_named}
use Rattle.elf_linking.specs.declared.versions.symbol.SymbolVersion.{SymbolVersion}
use Rattle.elf_linking.proofs.lemmas.FirstItems.{first_is}

-- a definition that is not the base has a number, in bits 0 to 14 of its own
abbrev pub DefinesNumber : ℕ → DefinitionParts → Type 0
DefinesNumber n d = (version_number d.number ≡ n) × (d.flags % 2 ≡ 1 → ⊥)

both_of : (one base : Bool) → (one && not base) ≡ true → (one ≡ true) × (base ≡ false)
both_of true false is = (refl, refl)
both_of true true is = cc
both_of false base is = cc

pub numbered_hits : (n : ℕ) (d : DefinitionParts) → defines_number n d ≡ true → DefinesNumber n d
numbered_hits n d is =
    let both = both_of (version_number d.number == n) (d.flags % 2 == 1) is in
    (eqb-true (version_number d.number) n both.0, λ base. let no : (d.flags % 2 == 1) ≡ true = eq-eqb (d.flags % 2) 1 base in let other = both.1 in cc)

-- a search in what is made of items, in two lists, and by a test with the same results
module _ {A B : Type 0} (make : A → B) (test : B → Bool) where
  pub first_made : (items : List (Result A LinkError)) → first_item test (map (result_map make) items) ≡ result_map (option_map make) (first_item (λ item. test (make item)) items)
  first_made [] = refl
  first_made (Err error ∷ items) = refl
  first_made (Ok item ∷ items) = by (test (make item)) (first_made items)
    where
      by : (hit : Bool) → first_item test (map (result_map make) items) ≡ result_map (option_map make) (first_item (λ item. test (make item)) items)
          → (if hit then Ok (Some (make item)) else first_item test (map (result_map make) items)) ≡ result_map (option_map make) (if hit then Ok (Some item) else first_item (λ item. test (make item)) items)
      by true rest = refl
      by false rest = rest

module _ {A : Type 0} (test : A → Bool) where
  -- what is found in one list, or else the result of another search
  abbrev pub or_else : Result (Option A) LinkError → Result (Option A) LinkError → Result (Option A) LinkError
  or_else (Ok None) other = other
  or_else (Ok (Some item)) other = Ok (Some item)
  or_else (Err error) other = Err error

  pub first_behind : (items others : List (Result A LinkError)) → first_item test (items ++ others) ≡ or_else (first_item test items) (first_item test others)
  first_behind [] others = refl
  first_behind (Err error ∷ items) others = refl
  first_behind (Ok item ∷ items) others = by (test item) (first_behind items others)
    where
      by : (hit : Bool) → first_item test (items ++ others) ≡ or_else (first_item test items) (first_item test others)
          → (if hit then Ok (Some item) else first_item test (items ++ others)) ≡ or_else (if hit then Ok (Some item) else first_item test items) (first_item test others)
      by true rest = refl
      by false rest = rest

  pub first_same : (other : A → Bool) (items : List (Result A LinkError)) → ((item : A) → test item ≡ other item) → first_item test items ≡ first_item other items
  first_same other [] same = refl
  first_same other (Err error ∷ items) same = refl
  first_same other (Ok item ∷ items) same = by (test item) (other item) (same item) (first_same other items same)
    where
      by : (one two : Bool) → one ≡ two → first_item test items ≡ first_item other items
          → (if one then Ok (Some item) else first_item test items) ≡ (if two then Ok (Some item) else first_item other items)
      by true true same rest = refl
      by true false same rest = absurd (cc)
      by false true same rest = absurd (cc)
      by false false same rest = rest

-- the number by which the tables are searched
abbrev pub number_named : NamedParts → ℕ
number_named named = (entry_of named).number

-- from 2 on, what has a number is the first definition that isn't the base, otherwise the first part of a need
module _ (tables : VersionTables) (n : ℕ) (above : 2 ≤ n) where
  same_test : (d : DefinitionParts) → (number_named (Defined d) == n) ≡ defines_number n d
  same_test d = by (d.flags % 2 == 1) (version_number d.number == n) refl
    where
      none : (0 == n) ≡ false
      none = ne_eqb 0 n (λ is. absurd (omega (arith, above, is)))

      by : (base one : Bool) → (version_number d.number == n) ≡ one → ((if base then 0 else version_number d.number) == n) ≡ (one && not base)
      by true true is = none
      by true false is = none
      by false true is = is
      by false false is = is

  defined : first_item (λ named. number_named named == n) (map (result_map Defined) (definitions_in tables.definitions)) ≡ result_map (option_map Defined) (first_item (defines_number n) (definitions_in tables.definitions))
  defined =
      first_made Defined (λ named. number_named named == n) (definitions_in tables.definitions)
      ∙ ap (result_map (option_map Defined)) (first_same (λ d. number_named (Defined d) == n) (defines_number n) (definitions_in tables.definitions) same_test)

  needed : first_item (λ named. number_named named == n) (map (result_map Needed) (needs_in tables.needs)) ≡ result_map (option_map Needed) (first_item (needs_number n) (needs_in tables.needs))
  needed = first_made Needed (λ named. number_named named == n) (needs_in tables.needs)

  searched : item_with number_named (named_in tables) n ≡ or_else (λ named. number_named named == n) (result_map (option_map Defined) (first_item (defines_number n) (definitions_in tables.definitions))) (result_map (option_map Needed) (first_item (needs_number n) (needs_in tables.needs)))
  searched =
      let high : nat_lt n 2 ≡ false = le-ltb n 2 above in
      let all : item_with number_named (named_in tables) n ≡ first_item (λ named. number_named named == n) (named_in tables) = rw high refl in
      all ∙ first_behind (λ named. number_named named == n) (map (result_map Defined) (definitions_in tables.definitions)) (map (result_map Needed) (needs_in tables.needs))
      ∙ ap (λ found. or_else (λ named. number_named named == n) found (first_item (λ named. number_named named == n) (map (result_map Needed) (needs_in tables.needs)))) defined
      ∙ ap (or_else (λ named. number_named named == n) (result_map (option_map Defined) (first_item (defines_number n) (definitions_in tables.definitions)))) needed

-- the same as a search of the definitions, and of the needs after it
abbrev or_needed : VersionTables → ℕ → Option DefinitionParts → Result (Option NamedParts) LinkError
or_needed tables n (Some d) = Ok (Some (Defined d))
or_needed tables n None = result_map (option_map Needed) (first_item (needs_number n) (needs_in tables.needs))

abbrev pub named_of : VersionTables → ℕ → Result (Option NamedParts) LinkError
named_of tables n = if nat_lt n 2 then Ok None else and_then (first_item (defines_number n) (definitions_in tables.definitions)) (or_needed tables n)

pub named_so : (tables : VersionTables) (n : ℕ) (answer : Result (Option NamedParts) LinkError) → answer ≡ named_of tables n → answer ≡ item_with number_named (named_in tables) n
named_so tables n answer is = is ∙ by (nat_lt n 2) refl
  where
    behind : (found : Result (Option DefinitionParts) LinkError) → and_then found (or_needed tables n) ≡ or_else (λ named. number_named named == n) (result_map (option_map Defined) found) (result_map (option_map Needed) (first_item (needs_number n) (needs_in tables.needs)))
    behind (Ok None) = refl
    behind (Ok (Some d)) = refl
    behind (Err error) = refl

    by : (low : Bool) → nat_lt n 2 ≡ low → (if low then Ok None else and_then (first_item (defines_number n) (definitions_in tables.definitions)) (or_needed tables n)) ≡ item_with number_named (named_in tables) n
    by true low = rw low refl
    by false high = behind (first_item (defines_number n) (definitions_in tables.definitions)) ∙ sym (searched tables n (ltb-false n 2 high))

-- the version by what is made of items
module _ {A B : Type 0} (make : A → B) (of : B → ℕ) (items : List (Result A LinkError)) where
  with_made : (n : ℕ) → item_with of (map (result_map make) items) n ≡ result_map (option_map make) (item_with (λ item. of (make item)) items n)
  with_made n = by (nat_lt n 2)
    where
      by : (low : Bool) → (if low then Ok None else first_item (λ item. of item == n) (map (result_map make) items)) ≡ result_map (option_map make) (if low then Ok None else first_item (λ item. of (make item) == n) items)
      by true = refl
      by false = first_made make (λ item. of item == n) items

  version_made : (raw : ℕ) (found : Result (Option A) LinkError) → item_with (λ item. of (make item)) items (version_number raw) ≡ found → version_with of (map (result_map make) items) (Some raw) ≡ result_map (option_map (with_named make)) (version_with (λ item. of (make item)) items (Some raw))
  version_made raw (Ok named) is = let made : item_with of (map (result_map make) items) (version_number raw) ≡ Ok (option_map make named) = with_made (version_number raw) ∙ ap (result_map (option_map make)) is in rw (made, is) refl
  version_made raw (Err error) is = let made : item_with of (map (result_map make) items) (version_number raw) ≡ Err error = with_made (version_number raw) ∙ ap (result_map (option_map make)) is in rw (made, is) refl

  pub at_made : (answer : Result (Option ℕ) LinkError) → and_then answer (version_with of (map (result_map make) items)) ≡ result_map (option_map (with_named make)) (and_then answer (version_with (λ item. of (make item)) items))
  at_made (Ok None) = refl
  at_made (Ok (Some raw)) = version_made raw (item_with (λ item. of (make item)) items (version_number raw)) refl
  at_made (Err error) = refl

-- the entry of a version in the list is that of what the tables have
pub entry_at : (tables : VersionTables) (list : VersionList) (index : ℕ) (answer : Result (Option (VersionParts NamedParts)) LinkError) → list ≡ versions_in tables → answer ≡ named_at tables index → result_map (option_map (with_named entry_of)) answer ≡ version_at list index
entry_at tables list index answer listed is =
    ap (result_map (option_map (with_named entry_of))) is
    ∙ sym (ap (λ l. version_at l index) listed ∙ at_made entry_of (λ entry. entry.number) (named_in tables) (number_of (numbers_in tables) index))

pub item_entry : (answer : Result (Option SymbolVersion) LinkError) → entry_item answer ≡ result_map (option_map (with_named entry_of)) (version_item answer)
item_entry (Ok None) = refl
item_entry (Ok (Some v)) = refl
item_entry (Err error) = refl

-- the version of a symbol, in words
module _ (list : VersionList) where
  abbrev Has : ℕ → VersionEntry → Type 0
  Has n entry = entry.number ≡ n

  misses : (n : ℕ) (entry : VersionEntry) → (entry.number == n) ≡ false → Has n entry → ⊥
  misses n entry is holds = eqb-false entry.number n is holds

  named_is : (n : ℕ) → IsEntryWith list.entries n (item_with (λ entry. entry.number) list.entries n)
  named_is n = by (nat_lt n 2) refl
    where
      by : (low : Bool) → nat_lt n 2 ≡ low → IsEntryWith list.entries n (if low then Ok None else first_item (λ entry. entry.number == n) list.entries)
      by true is = reserved (ltb-true n 2 is)
      by false is =
          first (first_item (λ entry. entry.number == n) list.entries) (ltb-false n 2 is)
          (first_is (Has n) (λ entry. entry.number == n) (λ entry same. eqb-true entry.number n same) (misses n) list.entries)

  by_named : (index raw : ℕ) (answer : Result (Option VersionEntry) LinkError) → number_of list.numbers index ≡ Ok (Some raw) → IsEntryWith list.entries (version_number raw) answer
      → IsVersion list index (result_map (λ named. Some (record { number = version_number raw; hidden = is_hidden raw; named = named })) answer)
  by_named index raw (Ok named) is has = version raw named is has
  by_named index raw (Err error) is has = unreadable raw error is has

  by_number : (index : ℕ) (answer : Result (Option ℕ) LinkError) → number_of list.numbers index ≡ answer → IsVersion list index (and_then answer (version_with (λ entry. entry.number) list.entries))
  by_number index (Ok None) is = no_numbers is
  by_number index (Ok (Some raw)) is = by_named index raw (item_with (λ entry. entry.number) list.entries (version_number raw)) is (named_is (version_number raw))
  by_number index (Err error) is = no_number error is

  pub version_means : (index : ℕ) (answer : Result (Option (VersionParts VersionEntry)) LinkError) → answer ≡ version_at list index → IsVersion list index answer
  version_means index answer is = subst (IsVersion list index) (sym is) (by_number index (number_of list.numbers index) refl)

-- the numbers of symbols in bytes
module _ (order : Order) (bytes : List ℕ) where
  abbrev pub numbers : List ℕ
  numbers = map (λ i. number order 2 (i * 2) bytes) (range_with_len 0 (length bytes / 2))

  pub number_count : length numbers ≡ length bytes / 2
  number_count = length-map (range_with_len 0 (length bytes / 2)) (λ i. number order 2 (i * 2) bytes) ∙ length-range_with_len 0 (length bytes / 2)

  -- the number at an index, by the tables and by the list
  module _ (tables : VersionTables) (list : VersionList) (listed : list ≡ versions_in tables) (is : numbers_in tables ≡ Some numbers) (index : ℕ) where
    by_numbers : (found : Option ℕ) → slice_get numbers index ≡ found → (result_map Some (ok_or found SymbolIndex) ≡ number_of (numbers_in tables) index) × (result_map Some (ok_or found SymbolIndex) ≡ number_of list.numbers index)
    by_numbers found at =
        let by_tables : result_map Some (ok_or found SymbolIndex) ≡ number_of (numbers_in tables) index =
        sym (ap (λ n. number_of n index) is ∙ ap (λ o. result_map Some (ok_or o SymbolIndex)) at) in
        (by_tables, by_tables ∙ sym (ap (λ l. number_of l.numbers index) listed))

    pub number_there : index * 2 + 2 ≤ length bytes → (Ok (Some (number order 2 (index * 2) bytes)) ≡ number_of (numbers_in tables) index) × (Ok (Some (number order 2 (index * 2) bytes)) ≡ number_of list.numbers index)
    number_there fits =
        let below : index < length bytes / 2 = omega (arith, fits) in
        let long : length (range_with_len 0 (length bytes / 2)) ≡ length bytes / 2 = length-range_with_len 0 (length bytes / 2) in
        let here : index < length (range_with_len 0 (length bytes / 2)) = omega (arith, below, long) in
        let same : 0 + index ≡ index = omega arith in
        by_numbers (Some (number order 2 (index * 2) bytes)) (slice_get-map (λ i. number order 2 (i * 2) bytes) (range_with_len 0 (length bytes / 2)) index
        ∙ ap (option_map (λ i. number order 2 (i * 2) bytes)) (slice_get-get_or (range_with_len 0 (length bytes / 2)) index 0 here ∙ ap Some (get_or-range_with_len 0 (length bytes / 2) index 0 below ∙ same)))

    pub number_missing : length bytes < index * 2 + 2 → (Err SymbolIndex ≡ number_of (numbers_in tables) index) × (Err SymbolIndex ≡ number_of list.numbers index)
    number_missing short =
        let none : length bytes / 2 ≤ index = omega (arith, short) in
        by_numbers None (slice_get_past numbers index (omega (arith, none, number_count)))
