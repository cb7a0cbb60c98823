-- The paths at which the loader looks for a library, in order (`ld.so`'s manual page: DT_RPATH, LD_LIBRARY_PATH, DT_RUNPATH,
-- the cache, the default directories; what each list depends on, as in glibc 2.36).
use Rattle.std.specs.Prelude.{ℕ, ◌+◌, ◌-◌, ◌==◌, ◌&&◌, true, false, nat_eq, nat_lt, Bool, List, [], ◌∷◌, ◌++◌, codes, drop, is_some, length, map, Option, None, Some, option_map, slice_get, slice_index, take, unwrap_or, if◌then◌else◌}
use Rattle.std.specs.List.{list_any, range_with_len, starts_with}
use Rattle.elf_search.specs.Elements.{elements_of}
use Rattle.elf_search.specs.Lists.{CandidateParts, ListParts, candidates_among, candidates_behind, candidates_of, elements_in, is_kept}
use Rattle.elf_search.specs.Tokens.{Values, values_of}
use Rattle.elf_search.specs.declared.candidates.Asked.{Asked}
use Rattle.elf_search.specs.declared.candidates.Asker.{Asker}
use Rattle.elf_search.specs.declared.candidates.Candidates.{Candidates}
use Rattle.elf_search.specs.declared.candidates.Place.{Place}
use Rattle.elf_search.specs.declared.candidates.Surroundings.{Surroundings}
use Rattle.elf_search.specs.declared.lists.How.{How}
use Rattle.elf_search.specs.declared.lists.How.TheVariants as how

-- what an object says about the search: its DT_RPATH and DT_RUNPATH, the values of its tokens, and whether it wants no
-- default directories
pub record AskerParts : Type 0 where
  pub r_path : Option (List ℕ)
  pub run_path : Option (List ℕ)
  pub values : Values
  pub no_default : Bool

-- that of a value of the code
abbrev pub asker_parts : Asker → AskerParts
asker_parts asker = record {
  r_path = option_map (λ text. text.now) asker.r_path;
  run_path = option_map (λ text. text.now) asker.run_path;
  values = values_of asker.values;
  no_default = asker.no_default;
}

-- what is asked for: a name, by the first object of a chain of loaders, whose last is the program; and what else the search
-- depends on
pub record AskedParts : Type 0 where
  pub name : List ℕ
  pub chain : List AskerParts
  pub environment : List ℕ
  pub program : Values
  pub cache : List ℕ
  pub conf : List ℕ
  pub defaults : List ℕ
  pub subdirectories : List (List ℕ)

-- that of values of the code
abbrev pub searched : List ℕ → List Asker → Surroundings → AskedParts
searched name chain around = record {
  name = name;
  chain = map asker_parts chain;
  environment = around.environment.now;
  program = values_of around.program;
  cache = around.cache.now;
  conf = around.conf.now;
  defaults = around.defaults.now;
  subdirectories = map (λ subdirectory. subdirectory.now) around.subdirectories.now;
}

-- what is asked for, as an iterator of the code keeps it
abbrev pub asked_parts : Asked → AskedParts
asked_parts asked = searched asked.name.now asked.chain.now asked.around

-- a name contains a slash
abbrev pub has_slash : List ℕ → Bool
has_slash name = list_any (λ byte. nat_eq byte 47) name

-- the text of an object's DT_RUNPATH; empty if it has none
abbrev pub run_path_text : AskerParts → List ℕ
run_path_text asker = unwrap_or asker.run_path []

-- the text of an object's DT_RPATH; empty if it has none, or has a DT_RUNPATH
abbrev pub r_path_text : AskerParts → List ℕ
r_path_text asker = if is_some asker.run_path then [] else unwrap_or asker.r_path []

-- the object that asks wants no default directories
abbrev pub has_no_default : AskedParts → Bool
has_no_default asked = unwrap_or (option_map (λ asker. asker.no_default) (slice_get asked.chain 0)) false

-- a path begins with a directory and a slash
abbrev pub is_under : List ℕ → List ℕ → Bool
is_under path directory = starts_with nat_eq path directory
    && (nat_lt (length directory) (length path) && slice_index path (length directory) == 47)

-- a path begins with one of the default directories and a slash
abbrev pub is_under_default : List ℕ → List ℕ → Bool
is_under_default defaults path = list_any (λ directory. is_under path directory) (elements_of (codes ":") defaults)

-- a list of directories with all subdirectories
abbrev pub directories : AskedParts → How → List ℕ → List ℕ → Values → ListParts
directories asked how text separators values = record {
  how = how;
  text = text;
  separators = separators;
  values = values;
  is_path = false;
  subdirectories = asked.subdirectories;
  name = asked.name;
}

-- a list of one path
abbrev pub one_path : AskedParts → How → List ℕ → ListParts
one_path asked how path = record {
  how = how;
  text = path;
  separators = [];
  values = asked.program;
  is_path = true;
  subdirectories = [] ∷ [];
  name = asked.name;
}

-- the list of the DT_RPATH of an object; an empty one if there is no object
abbrev pub r_path_of : AskedParts → How → Option AskerParts → ListParts
r_path_of asked how None = directories asked how [] (codes ":") asked.program
r_path_of asked how (Some asker) = directories asked how (r_path_text asker) (codes ":") asker.values

-- the list of the DT_RPATH of the object at a place in the chain
abbrev pub r_path_list : AskedParts → ℕ → ListParts
r_path_list asked place = r_path_of asked (how.Rpath place) (slice_get asked.chain place)

-- the list of the DT_RUNPATH of an object; an empty one if there is no object
abbrev pub run_path_of : AskedParts → Option AskerParts → ListParts
run_path_of asked None = directories asked how.Runpath [] (codes ":") asked.program
run_path_of asked (Some asker) = directories asked how.Runpath (run_path_text asker) (codes ":") asker.values

-- the list of the DT_RUNPATH of the object that asks: that of a loader in the chain doesn't count
abbrev pub run_path_list : AskedParts → ListParts
run_path_list asked = run_path_of asked (slice_get asked.chain 0)

-- the list of the cache: its path, but not one under a default directory for an object that wants none
abbrev pub cache_list : AskedParts → ListParts
cache_list asked = one_path asked how.Cache
    (if has_no_default asked && is_under_default asked.defaults asked.cache then [] else asked.cache)

-- the list of the directories of ld.so.conf, one in each line, which have no subdirectories
abbrev pub conf_list : AskedParts → ListParts
conf_list asked = record {
  how = how.Conf;
  text = asked.conf;
  separators = 10 ∷ [];
  values = asked.program;
  is_path = false;
  subdirectories = [] ∷ [];
  name = asked.name;
}

-- the list of the default directories
abbrev pub default_list : AskedParts → ListParts
default_list asked = directories asked how.Default
    (if has_no_default asked then [] else asked.defaults) (codes ":") asked.program

-- a list; semicolons end elements of LD_LIBRARY_PATH too
abbrev pub list_of : AskedParts → How → ListParts
list_of asked how.Itself = one_path asked how.Itself asked.name
list_of asked (how.Rpath place) = r_path_list asked place
list_of asked how.Environment = directories asked how.Environment asked.environment (codes ":;") asked.program
list_of asked how.Runpath = run_path_list asked
list_of asked how.Cache = cache_list asked
list_of asked how.Conf = conf_list asked
list_of asked how.Default = default_list asked

-- the lists after those of DT_RPATH
abbrev pub later_lists : AskedParts → List ListParts
later_lists asked = list_of asked how.Environment ∷ list_of asked how.Runpath ∷ list_of asked how.Cache
    ∷ list_of asked how.Conf ∷ list_of asked how.Default ∷ []

-- the lists of DT_RPATH of some objects of the chain, from a place on
abbrev pub r_path_lists : AskedParts → ℕ → ℕ → List ListParts
r_path_lists asked place count = map (λ j. list_of asked (how.Rpath j)) (range_with_len place count)

-- the object that asks has a DT_RUNPATH
abbrev pub has_run_path : AskedParts → Bool
has_run_path asked = unwrap_or (option_map (λ asker. is_some asker.run_path) (slice_get asked.chain 0)) false

-- all lists, in order: the name itself if it has a slash; otherwise those of DT_RPATH of each object of the chain, if the
-- object that asks has no DT_RUNPATH, and the later ones
abbrev pub lists_of : AskedParts → List ListParts
lists_of asked = if has_slash asked.name then list_of asked how.Itself ∷ [] else
    ((if has_run_path asked then [] else r_path_lists asked 0 (length asked.chain)) ++ later_lists asked)

-- all candidates, in order
abbrev pub all_candidates : AskedParts → List CandidateParts
all_candidates asked = candidates_among (lists_of asked)

-- What is left of them.

-- the first list for a name without a slash, by the object that asks
abbrev pub first_rpath : Option AskerParts → How
first_rpath None = how.Environment
first_rpath (Some asker) = if is_some asker.run_path then how.Environment else how.Rpath 0

-- the first list
abbrev pub first_how : AskedParts → How
first_how asked = if has_slash asked.name then how.Itself else first_rpath (slice_get asked.chain 0)

-- the list after one, if there is one
abbrev pub next_how : AskedParts → How → Option How
next_how asked how.Itself = None
next_how asked (how.Rpath place) = if nat_lt (place + 1) (length asked.chain) then Some (how.Rpath (place + 1)) else Some how.Environment
next_how asked how.Environment = Some how.Runpath
next_how asked how.Runpath = Some how.Cache
next_how asked how.Cache = Some how.Conf
next_how asked how.Conf = Some how.Default
next_how asked how.Default = None

-- the lists after one
abbrev pub lists_behind : AskedParts → How → List ListParts
lists_behind asked how.Itself = []
lists_behind asked (how.Rpath place) = r_path_lists asked (place + 1) (length asked.chain - (place + 1)) ++ later_lists asked
lists_behind asked how.Environment = list_of asked how.Runpath ∷ list_of asked how.Cache ∷ list_of asked how.Conf ∷ list_of asked how.Default ∷ []
lists_behind asked how.Runpath = list_of asked how.Cache ∷ list_of asked how.Conf ∷ list_of asked how.Default ∷ []
lists_behind asked how.Cache = list_of asked how.Conf ∷ list_of asked how.Default ∷ []
lists_behind asked how.Conf = list_of asked how.Default ∷ []
lists_behind asked how.Default = []

-- the candidate of an element of a list in the subdirectory at an index, if the element is kept
abbrev pub candidate_at : ListParts → List ℕ → ℕ → ℕ → Option CandidateParts
candidate_at list element index subdirectory = if is_kept list (take index (elements_in list)) element
    then slice_get (candidates_of list element) subdirectory else None

-- the candidates of some elements after others, of which the first has given some already
abbrev pub rest_of_elements : ListParts → List (List ℕ) → List (List ℕ) → ℕ → List CandidateParts
rest_of_elements list before [] given = []
rest_of_elements list before (element ∷ elements) given = (if is_kept list before element then drop given (candidates_of list element) else [])
    ++ candidates_behind list (before ++ element ∷ []) elements

-- the candidates of a list from a place on
abbrev pub rest_of_list : ListParts → Place → List CandidateParts
rest_of_list list place = rest_of_elements list (take place.element (elements_in list)) (drop place.element (elements_in list)) place.subdirectory

-- the candidates of the lists after one
abbrev pub behind_how : AskedParts → Option How → List CandidateParts
behind_how asked None = []
behind_how asked (Some how) = candidates_among (lists_behind asked how)

-- the candidates from a place of a list on
abbrev pub left_from : AskedParts → Option How → Place → List CandidateParts
left_from asked None place = []
left_from asked (Some how) place = rest_of_list (list_of asked how) place ++ candidates_among (lists_behind asked how)

-- the candidates that an iterator has not yet returned
abbrev pub candidates_left : Candidates → List CandidateParts
candidates_left iter = left_from (asked_parts iter.asked) iter.how iter.place

-- the candidates of the lists after the current one of an iterator
abbrev pub later_candidates : Candidates → List CandidateParts
later_candidates iter = behind_how (asked_parts iter.asked) iter.how
