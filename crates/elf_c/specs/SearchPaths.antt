-- The paths at which a library is looked for, and the path that a cache has for it, as numbers and bytes (`ld.so`'s manual
-- page).
use Rattle.std.specs.Prelude.{◌≡◌, ℕ, ◌==◌, nat_lt, List, [], ◌∷◌, ◌++◌, IsOk, length, map, Option, None, Some, Result, Ok, Err, if◌then◌else◌}
use Rattle.std.specs.Borrow.{Bor}
use Rattle.elf_search.specs.Cache.{IsGood, LooksUp, cache_bytes, cache_of, entry_count, header_place, looked_up, name_words, value_of}
use Rattle.elf_search.specs.Candidates.{AskedParts, AskerParts, all_candidates}
use Rattle.elf_search.specs.Lists.{CandidateParts, candidate_path}
use Rattle.elf_search.specs.Paths.{path_left}
use Rattle.elf_search.specs.Tokens.{Values, expanded, is_known}
use Rattle.elf_search.specs.declared.cache.Cache.{Cache}
use Rattle.elf_search.specs.declared.cache.Machine.{Machine}
use Rattle.elf_search.specs.declared.error.SearchError.{SearchError}
use Rattle.elf_search.specs.declared.error.SearchError.TheVariants.{EmptyToken}
use Rattle.elf_search.specs.declared.lists.How.{How}
use Rattle.elf_search.specs.declared.lists.How.TheVariants as how
use Rattle.elf_search.specs.declared.paths.PathBytes.{PathBytes}
use Rattle.elf_c.specs.Records.{record_in}
use Rattle.elf_c.specs.declared.load_objects.TheConstants.{MOST_OBJECTS}
use Rattle.elf_c.specs.declared.search_paths.CacheMachine.{CacheMachine}
use Rattle.elf_c.specs.declared.search_paths.CandidatePath.{CandidatePath}
use Rattle.elf_c.specs.declared.search_paths.SearchAsker.{SearchAsker}
use Rattle.elf_c.specs.declared.search_paths.SearchFor.{SearchFor}
use Rattle.elf_c.specs.declared.search_paths.TheConstants.{BY_CACHE, BY_CONF, BY_DEFAULT, BY_LIBRARY_PATH, BY_PATH, BY_RPATH, BY_RUNPATH}
use Rattle.elf_c.specs.declared.search_paths.Tokens.{Tokens}
use Rattle.elf_c.specs.declared.status.AnyError.{AnyError}
use Rattle.elf_c.specs.declared.status.AnyError.TheVariants.{ManyObjects, NotFound, Search}

-- the item at an index of a list, or why there is none
abbrev pub item_of : {T : Type 0} → Result (List T) AnyError → ℕ → Result T AnyError
item_of (Ok items) index = record_in (λ item. item) items index
item_of (Err why) index = Err why

-- the value of a token, if it is known: it is not empty
abbrev pub known_value : List ℕ → Option (List ℕ)
known_value bytes = if length bytes == 0 then None else Some bytes

-- the values of the dynamic string tokens that a caller gives
abbrev pub values_by : Tokens → Values
values_by tokens = record {
  origin = known_value tokens.origin.now;
  lib = known_value tokens.lib.now;
  platform = known_value tokens.platform.now;
}

-- a text with its tokens replaced, or that a value is not known
abbrev pub expanded_text : Values → List ℕ → Result (List ℕ) AnyError
expanded_text values text = if is_known values text then Ok (expanded values text) else Err (Search EmptyToken)

-- the DT_RUNPATH of an object, even an empty one
abbrev pub run_path_of : SearchAsker → Option (List ℕ)
run_path_of asker = if asker.has_run_path == 1 then Some asker.run_path.now else None

-- what an object says about the search
abbrev pub asker_of : SearchAsker → AskerParts
asker_of asker = record {
  r_path = Some asker.r_path.now;
  run_path = run_path_of asker;
  values = values_by asker.tokens;
  no_default = asker.no_default == 1;
}

-- a search, by what the objects of a chain say
abbrev pub search_of : SearchFor → List AskerParts → AskedParts
search_of search chain = record {
  name = search.name.now;
  chain = chain;
  environment = search.library_path.now;
  program = values_by search.program;
  cache = search.cache.now;
  conf = search.conf.now;
  defaults = search.defaults.now;
  subdirectories = map (λ subdirectory. subdirectory.now) search.subdirectories.now;
}

-- the candidates of a search, or that the chain is too long
abbrev pub candidates_of : SearchFor → List SearchAsker → Result (List CandidateParts) AnyError
candidates_of search askers = if nat_lt MOST_OBJECTS (length askers) then Err ManyObjects
    else Ok (all_candidates (search_of search (map asker_of askers)))

-- what is made of a list, if there is one
abbrev pub made_of : {A B : Type 0} → (List A → List B) → Result (List A) AnyError → Result (List B) AnyError
made_of make (Ok items) = Ok (make items)
made_of make (Err why) = Err why

-- the number of a list of directories
abbrev pub how_number : How → ℕ
how_number how.Itself = BY_PATH
how_number (how.Rpath place) = BY_RPATH
how_number how.Environment = BY_LIBRARY_PATH
how_number how.Runpath = BY_RUNPATH
how_number how.Cache = BY_CACHE
how_number how.Conf = BY_CONF
how_number how.Default = BY_DEFAULT

-- the index in the chain of the object whose DT_RPATH it is, or 0
abbrev pub how_asker : How → ℕ
how_asker how.Itself = 0
how_asker (how.Rpath place) = place
how_asker how.Environment = 0
how_asker how.Runpath = 0
how_asker how.Cache = 0
how_asker how.Conf = 0
how_asker how.Default = 0

-- a candidate as numbers
abbrev pub candidate_record : CandidateParts → CandidatePath
candidate_record candidate = record {
  how = how_number candidate.how;
  asker = how_asker candidate.how;
  subdirectory_size = length candidate.subdirectory;
}

-- the candidates of a search as numbers, in order, or that the chain is too long
abbrev pub candidate_rows : SearchFor → List SearchAsker → Result (List CandidatePath) AnyError
candidate_rows search askers = made_of (map candidate_record) (candidates_of search askers)

-- texts one after another, each with a zero after it
abbrev pub with_zeros : List (List ℕ) → List ℕ
with_zeros [] = []
with_zeros (text ∷ texts) = text ++ 0 ∷ with_zeros texts

-- the same of the paths of candidates
abbrev pub candidate_texts : SearchFor → List SearchAsker → Result (List ℕ) AnyError
candidate_texts search askers = made_of (λ candidates. with_zeros (map candidate_path candidates)) (candidates_of search askers)

-- what is left of a text, and texts after it
abbrev pub text_left : Option PathBytes → List (List ℕ) → List ℕ
text_left None texts = with_zeros texts
text_left (Some path) texts = path_left path ++ 0 ∷ with_zeros texts

-- the current path: what is left of one, or else the first text after it, if there is one; other texts follow it
abbrev pub IsCurrent : Option PathBytes → List (List ℕ) → Option PathBytes → Option PathBytes → List (List ℕ) → Type 0
IsCurrent old texts None new others = (text_left old texts ≡ []) × (text_left new others ≡ [])
IsCurrent old texts (Some path) new others = text_left old texts ≡ text_left (Some path) others

-- The cache.

-- the machine that a caller describes
abbrev pub machine_of : CacheMachine → Machine
machine_of machine = record {
  flags = machine.flags;
  other_flags = machine.other_flags;
  levels = machine.levels;
  bits = machine.bits;
  platform = machine.platform;
  names = machine.names;
}

-- the cache is that of these bytes
pub record IsCacheOf (bytes : List ℕ) (cache : Cache) : Type 0 where
  pub accepted : IsOk (cache_of bytes)
  pub same_bytes : cache_bytes cache ≡ bytes
  pub start : cache.start ≡ header_place bytes
  pub count : cache.count ≡ entry_count bytes
  pub words : (cache.names, cache.name_count) ≡ name_words bytes

-- the path in an entry of a cache, if one is found
abbrev pub path_in : Cache → Option ℕ → Result (List ℕ) AnyError
path_in cache None = Err NotFound
path_in cache (Some entry) = Ok (value_of cache entry)

-- the bytes of a path, or why there is none
abbrev pub path_bytes : Result (Bor (List ℕ)) AnyError → Result (List ℕ) AnyError
path_bytes (Ok path) = Ok path.now
path_bytes (Err why) = Err why

-- the path that a machine gets for a name from the cache of these bytes: that of a look-up, which in a good cache is the
-- best of all entries with the name
pub data FindsPath (bytes name : List ℕ) (machine : Machine) (path : Result (List ℕ) AnyError) : Type 0 where
  not_read : (error : SearchError) → cache_of bytes ≡ Err error → path ≡ Err (Search error) → FindsPath bytes name machine path
  looked : (cache : Cache) (entry : Option ℕ) → IsCacheOf bytes cache → LooksUp cache machine name entry → path ≡ path_in cache entry
      → (IsGood cache → path ≡ path_in cache (looked_up cache machine name)) → FindsPath bytes name machine path
