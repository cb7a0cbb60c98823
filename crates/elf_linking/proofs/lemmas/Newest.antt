-- What `find` returns for a reference without a version, in the words of a value by its name; and what the list of
-- symbols says of it.
use Rattle.std.proofs.Common.{◌≡◌, ℕ, Bool, true, List, Option, None, Some, Result, Ok, Err, MatchResult, refl, sym, ◌∙◌}
use Rattle.std.proofs.lemmas.Bool.{and_from, and_parts}
use Rattle.std.specs.Prelude.{◌&&◌, option_map}
use Rattle.elf_linking.specs.AnyTable.{IsCheckBy, IsGoodBy}
use Rattle.elf_linking.specs.Find.{AreReadable, DynamicSymbols, FindsRight, IsAsked, IsCandidate, IsFound, IsShown, Seeks, asked_first, has_linked_type, has_place, is_below, none_shown, one_shown, otherwise, two_shown}
use Rattle.elf_linking.specs.Find as find
use Rattle.elf_linking.specs.GnuHash as gnu
use Rattle.elf_linking.specs.Serves.{if_serving}
use Rattle.elf_linking.specs.Values.{IsChecked, IsNamed, IsNewest, IsUnversioned, IsVisible, faulty, none_visible, one_visible, passed, two_visible, unchecked, unversioned}
use Rattle.elf_linking.specs.VersionTables.{result_map}
use Rattle.elf_linking.specs.Versions.{number_of}
use Rattle.elf_linking.specs.declared.any_table.AnyTable.{AnyTable}
use Rattle.elf_linking.specs.declared.any_table.AnyTable.TheVariants.{Gnu, Sysv}
use Rattle.elf_linking.specs.declared.error.LinkError.{LinkError}
use Rattle.elf_linking.specs.declared.find.Use.TheVariants.{Any}
use Rattle.elf_linking.specs.declared.find.Wanted.TheVariants.{Newest}
use Rattle.xmas_elf.specs.HashTable as gabi
use Rattle.xmas_elf.specs.Symbol.{Symbols}
use Rattle.elf_linking.proofs.Finds.{found_right}
use Rattle.elf_linking.proofs.lemmas.Looking.{looks_where_so}

-- what is made of a result twice is made of it once
twice : {A B : Type 0} (at : A) (make : B → Bool) (r : Result B LinkError) → result_map (λ _. Some at) (result_map make r) ≡ result_map (λ _. Some at) r
twice at make (Ok item) = refl
twice at make (Err error) = refl

-- a table whose check passed is one in which look-ups find what they must
pub good_by : {E : Type 0} (table : AnyTable) (symbols : Symbols E) → IsCheckBy table symbols (Ok tt) → IsGoodBy table symbols
good_by (Sysv table) symbols (gabi.good is) = is
good_by (Gnu table) symbols (gnu.good is) = is

module _ {E : Type 0} (file : DynamicSymbols E) (name : List ℕ) where
  named : (e : E) → IsCandidate file name Any e → IsNamed file name e
  named e is =
      let typed = and_parts (has_linked_type (file.symbols.fields e)) (has_place (file.symbols.fields e) && true) is.1 in
      (is.0, (typed.0, (and_parts (has_place (file.symbols.fields e)) true typed.1).0))

  candidate : (e : E) → IsNamed file name e → IsCandidate file name Any e
  candidate e is = (is.0, and_from (has_linked_type (file.symbols.fields e)) (has_place (file.symbols.fields e) && true) is.1.0 (and_from (has_place (file.symbols.fields e)) true is.1.1 refl))

  asked_to : (r : Result (Option (ℕ × E)) LinkError) → Seeks (IsAsked file name Newest Any) file name r → Seeks (IsUnversioned file name) file name r
  asked_to r (n, looks) = (n, looks_where_so (IsAsked file name Newest Any) (IsUnversioned file name) (λ at is. (named at.1 is.0, is.1)) (λ at is. (candidate at.1 is.0, is.1)) file.table file.symbols.items name r n looks)

  asked_back : (r : Result (Option (ℕ × E)) LinkError) → Seeks (IsUnversioned file name) file name r → Seeks (IsAsked file name Newest Any) file name r
  asked_back r (n, looks) = (n, looks_where_so (IsUnversioned file name) (IsAsked file name Newest Any) (λ at is. (candidate at.1 is.0, is.1)) (λ at is. (named at.1 is.0, is.1)) file.table file.symbols.items name r n looks)

  shown_to : (but : Option ℕ) (r : Result (Option (ℕ × E)) LinkError) → Seeks (IsShown file name Newest Any but) file name r → Seeks (IsVisible file name but) file name r
  shown_to but r (n, looks) = (n, looks_where_so (IsShown file name Newest Any but) (IsVisible file name but) (λ at is. (named at.1 is.0, is.1.1)) (λ at is. (candidate at.1 is.0, (refl, is.1))) file.table file.symbols.items name r n looks)

  shown_back : (but : Option ℕ) (r : Result (Option (ℕ × E)) LinkError) → Seeks (IsVisible file name but) file name r → Seeks (IsShown file name Newest Any but) file name r
  shown_back but r (n, looks) = (n, looks_where_so (IsVisible file name but) (IsShown file name Newest Any but) (λ at is. (candidate at.1 is.0, (refl, is.1))) (λ at is. (named at.1 is.0, is.1.1)) file.table file.symbols.items name r n looks)

  pub found_newest : (r : Result (Option (ℕ × E)) LinkError) → IsFound file name Newest Any r → IsNewest file name r
  found_newest _ (asked_first at answer seeks is) = unversioned at answer (asked_to (Ok (Some at)) seeks) (is ∙ twice at (is_below 2) (number_of file.versions.numbers at.0))
  found_newest _ (find.faulty error seeks) = faulty error (asked_to (Err error) seeks)
  found_newest _ (otherwise _ seeks (none_shown none)) = none_visible (asked_to (Ok None) seeks) (shown_to None (Ok None) none)
  found_newest _ (otherwise _ seeks (one_shown at some none)) = one_visible at (asked_to (Ok None) seeks) (shown_to None (Ok (Some at)) some) (shown_to (Some at.0) (Ok None) none)
  found_newest _ (otherwise _ seeks (two_shown at other some more)) = two_visible at other (asked_to (Ok None) seeks) (shown_to None (Ok (Some at)) some) (shown_to (Some at.0) (Ok (Some other)) more)

  newest_found : (r : Result (Option (ℕ × E)) LinkError) → IsNewest file name r → IsFound file name Newest Any r
  newest_found _ (unversioned at answer seeks is) = asked_first at answer (asked_back (Ok (Some at)) seeks) (is ∙ sym (twice at (is_below 2) (number_of file.versions.numbers at.0)))
  newest_found _ (faulty error seeks) = find.faulty error (asked_back (Err error) seeks)
  newest_found _ (none_visible seeks none) = otherwise None (asked_back (Ok None) seeks) (none_shown (shown_back None (Ok None) none))
  newest_found _ (one_visible at seeks some none) = otherwise (Some at) (asked_back (Ok None) seeks) (one_shown at (shown_back None (Ok (Some at)) some) (shown_back (Some at.0) (Ok None) none))
  newest_found _ (two_visible at other seeks some more) = otherwise None (asked_back (Ok None) seeks) (two_shown at other (shown_back None (Ok (Some at)) some) (shown_back (Some at.0) (Ok (Some other)) more))

  -- in a table whose check passed, and with versions that can be read, it is what the list of symbols says
  pub newest_right : IsGoodBy file.table file.symbols → AreReadable file → (r : Result (Option (ℕ × E)) LinkError) → IsNewest file name r → FindsRight file name Newest Any r
  newest_right good readable r is = found_right file name Newest Any good readable r (newest_found r is)

  -- the value of the name, by what the list of symbols says, or the error of the check
  pub value_right : AreReadable file → (answer : Result (Option ℕ) LinkError) → IsChecked name (Ok file) answer
      → MatchResult answer (λ value. (found : Option (ℕ × E)) × FindsRight file name Newest Any (Ok found) × (value ≡ option_map (λ p. (file.symbols.fields p.1).value) (if_serving file.symbols.fields found))) (λ error. IsCheckBy file.table file.symbols (Err error))
  value_right readable _ (unchecked _ error is) = is
  value_right readable answer (passed _ found _ check newest is) = by found (newest_right (good_by file.table file.symbols check) readable found newest) is
    where
      by : (found : Result (Option (ℕ × E)) LinkError) → FindsRight file name Newest Any found → answer ≡ result_map (λ at. option_map (λ p. (file.symbols.fields p.1).value) (if_serving file.symbols.fields at)) found
          → MatchResult answer (λ value. (at : Option (ℕ × E)) × FindsRight file name Newest Any (Ok at) × (value ≡ option_map (λ p. (file.symbols.fields p.1).value) (if_serving file.symbols.fields at))) (λ error. IsCheckBy file.table file.symbols (Err error))
      by (Ok at) right is = rw is (at, right, refl)
      by (Err error) right is = absurd right
