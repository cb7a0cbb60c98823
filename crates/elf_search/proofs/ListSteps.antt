-- The candidates that are left: element by element of a list, and list by list.
use Rattle.std.proofs.Common.{◌≡◌, ℕ, zero, suc, ◌+◌, ◌-◌, ◌<◌, ◌≤◌, ◌++◌, Bool, List, [], ◌∷◌, true, false, length, drop, get_or, take, map, Option, Some, None, if◌then◌else◌, is_some, nat_lt, option_map, unwrap_or, refl, ap, ◌∙◌, sym, arith}
use Rattle.std.proofs.lemmas.Bool.{ltb-false, ltb-true}
use Rattle.std.proofs.lemmas.Option.{slice_get-get_or, slice_get-map, slice_get_past}
use Rattle.std.specs.Borrow.{Bor}
use Rattle.std.specs.List.{list_any}
use Rattle.std.specs.Prelude.{codes, slice_get}
use Rattle.elf_search.specs.Elements.{elements_of}
use Rattle.elf_search.specs.Candidates.{AskedParts, AskerParts, all_candidates, asked_parts, asker_parts, candidate_at, first_how, first_rpath, has_run_path, has_slash, is_under, left_from, later_lists, list_of, lists_behind, lists_of, next_how, r_path_lists, rest_of_elements, rest_of_list}
use Rattle.elf_search.specs.Lists.{CandidateParts, ListParts, are_same, candidate_in, candidates_among, candidates_behind, candidates_of, elements_in, is_kept, is_repeated}
use Rattle.elf_search.proofs.ListItems.{any_at, any_behind, any_here, any_more, drop_last, drop_none, drop_some, front_is, none_past, take_some}
use Rattle.elf_search.specs.declared.candidates.Asker.{Asker}
use Rattle.elf_search.specs.declared.candidates.Candidates.{Candidates}
use Rattle.elf_search.specs.declared.candidates.Place.{Place}
use Rattle.elf_search.specs.declared.lists.How.{How}
use Rattle.elf_search.specs.declared.lists.How.TheVariants as how

-- Of one list.

abbrev given_of : ListParts → ℕ → List ℕ → ℕ → List CandidateParts
given_of list index element given = if is_kept list (take index (elements_in list)) element then drop given (candidates_of list element) else []

rest_at : (list : ListParts) (index given : ℕ) (element : List ℕ) → slice_get (elements_in list) index ≡ Some element → rest_of_list list (record { element = index; subdirectory = given }) ≡ given_of list index element given ++ candidates_behind list (take index (elements_in list) ++ element ∷ []) (drop (index + 1) (elements_in list))
rest_at list index given element is = ap (λ elements. rest_of_elements list (take index (elements_in list)) elements given) (drop_some (elements_in list) index element is)

rest_whole : (list : ListParts) (before elements : List (List ℕ)) → rest_of_elements list before elements 0 ≡ candidates_behind list before elements
rest_whole list before [] = refl
rest_whole list before (element ∷ elements) = refl

given_more : (kept : Bool) (all : List CandidateParts) (given : ℕ) (candidate : CandidateParts) → (if kept then slice_get all given else None) ≡ Some candidate → (if kept then drop given all else []) ≡ candidate ∷ (if kept then drop (given + 1) all else [])
given_more true all given candidate is = drop_some all given candidate is
given_more false all given candidate is = cc

given_none : (kept : Bool) (all : List CandidateParts) (given : ℕ) → (if kept then slice_get all given else None) ≡ None → (if kept then drop given all else []) ≡ []
given_none true all given is = drop_none all given is
given_none false all given is = refl

pub step_some : (list : ListParts) (place : Place) (element : List ℕ) (candidate : CandidateParts) → slice_get (elements_in list) place.element ≡ Some element → candidate_at list element place.element place.subdirectory ≡ Some candidate → rest_of_list list place ≡ candidate ∷ rest_of_list list (record { element = place.element; subdirectory = place.subdirectory + 1 })
step_some list place element candidate is found =
    let behind = candidates_behind list (take place.element (elements_in list) ++ element ∷ []) (drop (place.element + 1) (elements_in list)) in
    rest_at list place.element place.subdirectory element is
    ∙ (ap (λ given. given ++ behind) (given_more (is_kept list (take place.element (elements_in list)) element) (candidates_of list element) place.subdirectory candidate found)
    ∙ ap (λ rest. candidate ∷ rest) (sym (rest_at list place.element (place.subdirectory + 1) element is)))

step_none : (list : ListParts) (place : Place) (element : List ℕ) → slice_get (elements_in list) place.element ≡ Some element → candidate_at list element place.element place.subdirectory ≡ None → rest_of_list list place ≡ candidates_behind list (take place.element (elements_in list) ++ element ∷ []) (drop (place.element + 1) (elements_in list))
step_none list place element is found =
    let behind = candidates_behind list (take place.element (elements_in list) ++ element ∷ []) (drop (place.element + 1) (elements_in list)) in
    rest_at list place.element place.subdirectory element is
    ∙ ap (λ given. given ++ behind) (given_none (is_kept list (take place.element (elements_in list)) element) (candidates_of list element) place.subdirectory found)

pub step_more : (list : ListParts) (place : Place) (element : List ℕ) → slice_get (elements_in list) place.element ≡ Some element → candidate_at list element place.element place.subdirectory ≡ None → rest_of_list list place ≡ rest_of_list list (record { element = place.element + 1; subdirectory = 0 })
step_more list place element is found =
    step_none list place element is found
    ∙ (ap (λ before. candidates_behind list before (drop (place.element + 1) (elements_in list))) (sym (take_some (elements_in list) place.element element is))
    ∙ sym (rest_whole list (take (place.element + 1) (elements_in list)) (drop (place.element + 1) (elements_in list))))

pub step_last : (list : ListParts) (place : Place) (element : List ℕ) → slice_get (elements_in list) place.element ≡ Some element → candidate_at list element place.element place.subdirectory ≡ None → length (elements_in list) ≡ place.element + 1 → rest_of_list list place ≡ []
step_last list place element is found last =
    step_none list place element is found
    ∙ ap (candidates_behind list (take place.element (elements_in list) ++ element ∷ [])) (drop_last (elements_in list) place.element last)

pub step_end : (list : ListParts) (place : Place) → slice_get (elements_in list) place.element ≡ None → rest_of_list list place ≡ []
step_end list place is = ap (λ elements. rest_of_elements list (take place.element (elements_in list)) elements place.subdirectory) (drop_none (elements_in list) place.element is)

-- Of elements before an index that name the same directory.

module _ (list : ListParts) (place : ℕ) (element : List ℕ) where
  pub repeated_hit : (index : ℕ) (earlier : List ℕ) (rest : List (List ℕ)) → drop place (elements_in list) ≡ earlier ∷ rest → place < index → are_same list earlier element ≡ true → is_repeated list (take index (elements_in list)) element ≡ true
  repeated_hit index earlier rest is below hit = any_at (λ earlier. are_same list earlier element) (elements_in list) place index earlier (front_is (elements_in list) place earlier rest is) below hit

  pub repeated_more : (earlier : List ℕ) (rest : List (List ℕ)) → drop place (elements_in list) ≡ earlier ∷ rest → are_same list earlier element ≡ false → is_repeated list (take place (elements_in list)) element ≡ false → is_repeated list (take (place + 1) (elements_in list)) element ≡ false
  repeated_more earlier rest is miss none = any_more (λ earlier. are_same list earlier element) (elements_in list) place earlier (front_is (elements_in list) place earlier rest is) none miss

  pub repeated_end : (index : ℕ) → drop place (elements_in list) ≡ [] → place ≤ index → is_repeated list (take place (elements_in list)) element ≡ false → is_repeated list (take index (elements_in list)) element ≡ false
  repeated_end index is above none = ap (λ before. is_repeated list before element) (none_past (elements_in list) place index is above) ∙ none

-- Of items at an index.

pub subdirectory_some : (subdirectories : List (Bor (List ℕ))) (index : ℕ) (d : Bor (List ℕ)) → index < length subdirectories → slice_get (map (λ bytes. bytes.now) subdirectories) index ≡ Some (get_or subdirectories index d).now
subdirectory_some subdirectories index d below = slice_get-map (λ bytes. bytes.now) subdirectories index ∙ ap (option_map (λ bytes. bytes.now)) (slice_get-get_or subdirectories index d below)

pub subdirectory_none : (subdirectories : List (Bor (List ℕ))) (index : ℕ) → length subdirectories ≤ index → slice_get (map (λ bytes. bytes.now) subdirectories) index ≡ None
subdirectory_none subdirectories index past = slice_get-map (λ bytes. bytes.now) subdirectories index ∙ ap (option_map (λ bytes. bytes.now)) (slice_get_past subdirectories index past)

pub candidate_slot : (list : ListParts) (element : List ℕ) (index : ℕ) → slice_get (candidates_of list element) index ≡ option_map (candidate_in list element) (slice_get list.subdirectories index)
candidate_slot list element index = slice_get-map (candidate_in list element) list.subdirectories index

pub candidate_past : (list : ListParts) (element : List ℕ) (index subdirectory : ℕ) → slice_get list.subdirectories subdirectory ≡ None → candidate_at list element index subdirectory ≡ None
candidate_past list element index subdirectory past = by_kept (is_kept list (take index (elements_in list)) element)
  where
    by_kept : (kept : Bool) → (if kept then slice_get (candidates_of list element) subdirectory else None) ≡ None
    by_kept true = candidate_slot list element subdirectory ∙ ap (option_map (candidate_in list element)) past
    by_kept false = refl

pub asker_some : (chain : List Asker) (index : ℕ) (d : Asker) → index < length chain → slice_get (map asker_parts chain) index ≡ Some (asker_parts (get_or chain index d))
asker_some chain index d below = slice_get-map asker_parts chain index ∙ ap (option_map asker_parts) (slice_get-get_or chain index d below)

pub asker_none : (chain : List Asker) (index : ℕ) → length chain ≤ index → slice_get (map asker_parts chain) index ≡ None
asker_none chain index past = slice_get-map asker_parts chain index ∙ ap (option_map asker_parts) (slice_get_past chain index past)

pub asker_count : (chain : List Asker) → length (map asker_parts chain) ≡ length chain
asker_count [] = refl
asker_count (asker ∷ chain) = ap suc (asker_count chain)

-- whether some default directory is that of a path
pub under_hit : (defaults path : List ℕ) (index : ℕ) (directory : List ℕ) → slice_get (elements_of (codes ":") defaults) index ≡ Some directory → is_under path directory ≡ true → list_any (λ directory. is_under path directory) (drop index (elements_of (codes ":") defaults)) ≡ true
under_hit defaults path index directory is hit = any_here (λ directory. is_under path directory) (elements_of (codes ":") defaults) index directory is hit

pub under_more : (defaults path : List ℕ) (index : ℕ) (directory : List ℕ) → slice_get (elements_of (codes ":") defaults) index ≡ Some directory → is_under path directory ≡ false → list_any (λ directory. is_under path directory) (drop index (elements_of (codes ":") defaults)) ≡ list_any (λ directory. is_under path directory) (drop (index + 1) (elements_of (codes ":") defaults))
under_more defaults path index directory is miss = any_behind (λ directory. is_under path directory) (elements_of (codes ":") defaults) index directory is miss

pub under_end : (defaults path : List ℕ) (index : ℕ) → slice_get (elements_of (codes ":") defaults) index ≡ None → list_any (λ directory. is_under path directory) (drop index (elements_of (codes ":") defaults)) ≡ false
under_end defaults path index is = ap (list_any (λ directory. is_under path directory)) (drop_none (elements_of (codes ":") defaults) index is)

pub under_last : (defaults path : List ℕ) (index : ℕ) → length (elements_of (codes ":") defaults) ≡ index + 1 → list_any (λ directory. is_under path directory) (drop (index + 1) (elements_of (codes ":") defaults)) ≡ false
under_last defaults path index is = ap (list_any (λ directory. is_under path directory)) (drop_last (elements_of (codes ":") defaults) index is)

-- Of lists.

abbrev pub start : Place
start = record { element = 0; subdirectory = 0 }

-- the lists from one on
abbrev pub lists_from : AskedParts → Option How → List ListParts
lists_from asked None = []
lists_from asked (Some how) = list_of asked how ∷ lists_behind asked how

left_start : (asked : AskedParts) (how : Option How) → left_from asked how start ≡ candidates_among (lists_from asked how)
left_start asked None = refl
left_start asked (Some how) = ap (λ first. first ++ candidates_among (lists_behind asked how)) (rest_whole (list_of asked how) [] (elements_in (list_of asked how)))

r_path_more : (asked : AskedParts) (place count rest : ℕ) → count ≡ rest + 1 → r_path_lists asked place count ≡ list_of asked (how.Rpath place) ∷ r_path_lists asked (place + 1) rest
r_path_more asked place zero rest is = absurd (omega (arith, is))
r_path_more asked place (suc count) rest is =
    let same : count ≡ rest = omega (arith, is) in ap (λ n. list_of asked (how.Rpath place) ∷ r_path_lists asked (place + 1) n) same

r_path_none : (asked : AskedParts) (place count : ℕ) → count ≡ 0 → r_path_lists asked place count ≡ []
r_path_none asked place count is = ap (r_path_lists asked place) is

next_r_path : (asked : AskedParts) (place : ℕ) (more : Bool) → nat_lt (place + 1) (length asked.chain) ≡ more → lists_behind asked (how.Rpath place) ≡ lists_from asked (if more then Some (how.Rpath (place + 1)) else Some how.Environment)
next_r_path asked place true is =
    let below = ltb-true (place + 1) (length asked.chain) is in
    ap (λ lists. lists ++ later_lists asked) (r_path_more asked (place + 1) (length asked.chain - (place + 1)) (length asked.chain - (place + 1 + 1)) (omega (arith, below)))
next_r_path asked place false is =
    let above = ltb-false (place + 1) (length asked.chain) is in
    ap (λ lists. lists ++ later_lists asked) (r_path_none asked (place + 1) (length asked.chain - (place + 1)) (omega (arith, above)))

-- the lists behind one are those from the next on
lists_next : (asked : AskedParts) (how : How) → lists_behind asked how ≡ lists_from asked (next_how asked how)
lists_next asked how.Itself = refl
lists_next asked (how.Rpath place) = next_r_path asked place (nat_lt (place + 1) (length asked.chain)) refl
lists_next asked how.Environment = refl
lists_next asked how.Runpath = refl
lists_next asked how.Cache = refl
lists_next asked how.Conf = refl
lists_next asked how.Default = refl

pub left_next : (asked : AskedParts) (how : How) → left_from asked (next_how asked how) start ≡ candidates_among (lists_behind asked how)
left_next asked how = left_start asked (next_how asked how) ∙ ap candidates_among (sym (lists_next asked how))

-- the number of lists that are left
abbrev pub count_from : AskedParts → Option How → ℕ
count_from asked how = length (lists_from asked how)

abbrev pub lists_count : Candidates → ℕ
lists_count iter = count_from (asked_parts iter.asked) iter.how

pub count_next : (asked : AskedParts) (how : How) → count_from asked (next_how asked how) < count_from asked (Some how)
count_next asked how = let same = ap length (lists_next asked how) in omega (arith, same)

none_at_first : {X : Type 0} (xs : List X) → slice_get xs 0 ≡ None → length xs ≡ 0
none_at_first [] is = refl
none_at_first (x ∷ xs) is = cc

some_at_first : {X : Type 0} (xs : List X) (x : X) → slice_get xs 0 ≡ Some x → length xs ≡ (length xs - 1) + 1
some_at_first [] x is = cc
some_at_first (y ∷ xs) x is = omega arith

first_asker : (asked : AskedParts) (found : Option AskerParts) → slice_get asked.chain 0 ≡ found → ((if unwrap_or (option_map (λ asker. is_some asker.run_path) found) false then [] else r_path_lists asked 0 (length asked.chain)) ++ later_lists asked) ≡ lists_from asked (Some (first_rpath found))
first_asker asked None is = ap (λ lists. lists ++ later_lists asked) (r_path_none asked 0 (length asked.chain) (none_at_first asked.chain is))
first_asker asked (Some asker) is = by_run (is_some asker.run_path)
  where
    by_run : (b : Bool) → ((if b then [] else r_path_lists asked 0 (length asked.chain)) ++ later_lists asked) ≡ lists_from asked (Some (if b then how.Environment else how.Rpath 0))
    by_run true = refl
    by_run false = ap (λ lists. lists ++ later_lists asked) (r_path_more asked 0 (length asked.chain) (length asked.chain - 1) (some_at_first asked.chain asker is))

lists_first : (asked : AskedParts) → lists_of asked ≡ lists_from asked (Some (first_how asked))
lists_first asked = by_slash (has_slash asked.name)
  where
    by_slash : (b : Bool) → (if b then list_of asked how.Itself ∷ [] else ((if has_run_path asked then [] else r_path_lists asked 0 (length asked.chain)) ++ later_lists asked)) ≡ lists_from asked (Some (if b then how.Itself else first_rpath (slice_get asked.chain 0)))
    by_slash true = refl
    by_slash false = first_asker asked (slice_get asked.chain 0) refl

pub left_first : (asked : AskedParts) → left_from asked (Some (first_how asked)) start ≡ all_candidates asked
left_first asked = left_start asked (Some (first_how asked)) ∙ ap candidates_among (sym (lists_first asked))
