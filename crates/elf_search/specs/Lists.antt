-- The lists of directories in which a name is looked for, and what their elements give (`ld.so`'s manual page; which elements
-- drop out, as in glibc 2.36).
use Rattle.std.specs.Prelude.{ℕ, ◌&&◌, ◌||◌, not, nat_eq, Bool, List, [], ◌∷◌, ◌++◌, map, if◌then◌else◌}
use Rattle.std.specs.Cmp.Lexicographic.{pointwise}
use Rattle.std.specs.List.{list_any}
use Rattle.elf_search.specs.Elements.{elements_of}
use Rattle.elf_search.specs.Paths.{directory_bytes, has_directory}
use Rattle.elf_search.specs.Tokens.{Values, values_of}
use Rattle.elf_search.specs.declared.lists.Candidate.{Candidate}
use Rattle.elf_search.specs.declared.lists.How.{How}
use Rattle.elf_search.specs.declared.lists.SearchList.{SearchList}

-- a list: the text of its directories and the bytes that end one, the values of tokens, the subdirectories, and the
-- name after them; or one path, which is the text
pub record ListParts : Type 0 where
  pub how : How
  pub text : List ℕ
  pub separators : List ℕ
  pub values : Values
  pub is_path : Bool
  pub subdirectories : List (List ℕ)
  pub name : List ℕ

-- that of a value of the code
abbrev pub list_parts : SearchList → ListParts
list_parts list = record {
  how = list.how;
  text = list.text.now;
  separators = list.separators.now;
  values = values_of list.values;
  is_path = list.is_path;
  subdirectories = if list.is_plain then [] ∷ [] else map (λ subdirectory. subdirectory.now) list.subdirectories.now;
  name = list.name.now;
}

-- the elements of a list
abbrev pub elements_in : ListParts → List (List ℕ)
elements_in list = elements_of list.separators list.text

-- the directory that an element names
abbrev pub directory_in : ListParts → List ℕ → List ℕ
directory_in list element = directory_bytes list.values element

-- an element names a directory, or is a path
abbrev pub has_directory_in : ListParts → List ℕ → Bool
has_directory_in list element = list.is_path || has_directory list.values element

-- an earlier element names a directory, which is that of another
abbrev pub are_same : ListParts → List ℕ → List ℕ → Bool
are_same list earlier element = has_directory_in list earlier
    && pointwise nat_eq (directory_in list earlier) (directory_in list element)

-- one of the earlier elements names the same directory
abbrev pub is_repeated : ListParts → List (List ℕ) → List ℕ → Bool
is_repeated list before element = list_any (λ earlier. are_same list earlier element) before

-- an element gives candidates: it names a directory, and none of the earlier elements names the same
abbrev pub is_kept : ListParts → List (List ℕ) → List ℕ → Bool
is_kept list before element = has_directory_in list element && not (is_repeated list before element)

-- a candidate: how it is found, its directory, its subdirectory and the name
pub record CandidateParts : Type 0 where
  pub how : How
  pub directory : List ℕ
  pub subdirectory : List ℕ
  pub name : List ℕ

-- its path
abbrev pub candidate_path : CandidateParts → List ℕ
candidate_path candidate = candidate.directory ++ candidate.subdirectory ++ candidate.name

-- the candidate of an element in a subdirectory; a path has the path alone
abbrev pub candidate_in : ListParts → List ℕ → List ℕ → CandidateParts
candidate_in list element subdirectory = record {
  how = list.how;
  directory = if list.is_path then element else directory_in list element;
  subdirectory = if list.is_path then [] else subdirectory;
  name = if list.is_path then [] else list.name;
}

-- that of a value of the code
abbrev pub candidate_parts : Candidate → CandidateParts
candidate_parts candidate = record {
  how = candidate.how;
  directory = if candidate.is_path then candidate.element.now else directory_bytes (values_of candidate.values) candidate.element.now;
  subdirectory = if candidate.is_path then [] else candidate.subdirectory.now;
  name = if candidate.is_path then [] else candidate.name.now;
}

-- those of an element, one for each subdirectory
abbrev pub candidates_of : ListParts → List ℕ → List CandidateParts
candidates_of list element = map (candidate_in list element) list.subdirectories

-- those of some elements after others, element by element
abbrev pub candidates_behind : ListParts → List (List ℕ) → List (List ℕ) → List CandidateParts
candidates_behind list before [] = []
candidates_behind list before (element ∷ elements) = (if is_kept list before element then candidates_of list element else [])
    ++ candidates_behind list (before ++ element ∷ []) elements

-- those of a list
abbrev pub candidates_in : ListParts → List CandidateParts
candidates_in list = candidates_behind list [] (elements_in list)

-- those of lists, list by list
abbrev pub candidates_among : List ListParts → List CandidateParts
candidates_among [] = []
candidates_among (list ∷ lists) = candidates_in list ++ candidates_among lists
