-- Versions that an object needs of libraries that lack them (LSB, "Symbol Versioning": Verneed, Vernaux, Verdef; what is said
-- of each, as in glibc 2.36).
use Rattle.std.specs.Prelude.{ℕ, ◌+◌, ◌==◌, ◌/◌, ◌%◌, nat_eq, true, false, Bool, List, [], ◌∷◌, map, Option, None, Some, option_map, Result, Ok, Err, if◌then◌else◌}
use Rattle.std.specs.Cmp.Lexicographic.{pointwise}
use Rattle.std.specs.List.{list_any}
use Rattle.std.specs.Str.{bytes_eq}
use Rattle.elf_base.specs.FirstError.{and_then}
use Rattle.elf_linking.specs.VersionTables.{DefinitionParts, NeedParts, definitions_in, need_parts, needs_left}
use Rattle.elf_linking.specs.Versions.{version_tables}
use Rattle.elf_linking.specs.declared.error.LinkError.{LinkError}
use Rattle.elf_search.specs.declared.error.SearchError.{SearchError}
use Rattle.elf_search.specs.declared.error.SearchError.TheVariants as fault
use Rattle.elf_search.specs.declared.versions.Lack.{Lack}
use Rattle.elf_search.specs.declared.versions.Lack.TheVariants.{NoInformation, Strong, Weak}
use Rattle.elf_search.specs.declared.versions.MissingVersion.{MissingVersion}
use Rattle.elf_search.specs.declared.versions.MissingVersions.{MissingVersions}
use Rattle.elf_search.specs.declared.versions.Provided as struct
use Rattle.elf_search.specs.declared.versions.Provided.TheVariants as provided
use Rattle.elf_search.specs.declared.versions.Provider.{Provider}

-- what was found for the names of an object: nothing, an object without versions, or definitions of versions
pub data ProvidedParts : Type 0 where
  NotFound : ProvidedParts
  NoVersions : ProvidedParts
  Defined : List (Result DefinitionParts LinkError) → ProvidedParts

-- that of a value of the code
abbrev pub provided_parts : struct.Provided → ProvidedParts
provided_parts provided.NotFound = NotFound
provided_parts provided.NoVersions = NoVersions
provided_parts (provided.Versions versions) = Defined (definitions_in (version_tables versions).definitions)

-- an object by the names that needs give it: its path, and those by which it was asked for
pub record ProviderParts : Type 0 where
  pub names : List (List ℕ)
  pub provided : ProvidedParts

-- that of a value of the code
abbrev pub provider_parts : Provider → ProviderParts
provider_parts provider = record { names = map (λ name. name.now) provider.names.now; provided = provided_parts provider.provided }

-- an object has a name
abbrev pub has_name : List ℕ → ProviderParts → Bool
has_name name provider = list_any (λ other. pointwise nat_eq other name) provider.names

-- a version is needed weakly (VER_FLG_WEAK)
abbrev pub is_weak : ℕ → Bool
is_weak flags = flags / 2 % 2 == 1

-- some definitions have one with this hash number and name, or an error comes before it
abbrev pub defines : ℕ → List ℕ → List (Result DefinitionParts LinkError) → Result Bool LinkError
defines hash name [] = Ok false
defines hash name (Err error ∷ items) = Err error
defines hash name (Ok definition ∷ items) = if definition.hash == hash
    then and_then definition.name (λ other. if bytes_eq other name then Ok true else defines hash name items)
    else defines hash name items

-- why a version that is not defined is missing
abbrev pub lack_without : ℕ → Bool → Option Lack
lack_without flags true = None
lack_without flags false = Some (if is_weak flags then Weak else Strong)

-- why an object lacks the version of a need, if it does
abbrev pub lack_in : ProvidedParts → NeedParts → Result (Option Lack) LinkError
lack_in NotFound need = Ok None
lack_in NoVersions need = Ok (Some NoInformation)
lack_in (Defined definitions) need = and_then need.name (λ name.
    and_then (defines need.hash name definitions) (λ found. Ok (lack_without need.flags found)))

-- a version that is missing: the place of the object that lacks it, the need, and why
pub record MissingParts : Type 0 where
  pub provider : ℕ
  pub need : NeedParts
  pub lack : Lack

-- that of a value of the code
abbrev pub missing_parts : MissingVersion → MissingParts
missing_parts missing = record { provider = missing.provider; need = need_parts missing.need; lack = missing.lack }

-- the place of the first object with a name, from a place on, and what was found for it
abbrev pub provider_with : List ℕ → ℕ → List ProviderParts → Option (ℕ × ProvidedParts)
provider_with name place [] = None
provider_with name place (provider ∷ providers) =
    if has_name name provider then Some (place, provider.provided) else provider_with name (place + 1) providers

-- those of values of the code
abbrev pub place_parts : ℕ × struct.Provided → ℕ × ProvidedParts
place_parts found = (found.0, provided_parts found.1)

-- an error of elf_linking as one of this crate
abbrev pub as_search_error : {A : Type 0} → Result A LinkError → Result A SearchError
as_search_error (Ok value) = Ok value
as_search_error (Err error) = Err (fault.Link error)

-- the version of a need, if it is missing from what was found for the file
abbrev pub missing_from : NeedParts → Option (ℕ × ProvidedParts) → Result (Option MissingParts) SearchError
missing_from need None = Err fault.NoProvider
missing_from need (Some found) = and_then (as_search_error (lack_in found.1 need)) (λ lack.
    Ok (option_map (λ why. record { provider = found.0; need = need; lack = why }) lack))

-- the version of a need, if the first object with the name of its file lacks it
abbrev pub missing_of : List ProviderParts → NeedParts → Result (Option MissingParts) SearchError
missing_of providers need = and_then (as_search_error need.file) (λ file. missing_from need (provider_with file 0 providers))

-- a version that is missing or an error, and some items after it
abbrev pub behind_missing : Result (Option MissingParts) SearchError → List (Result MissingParts SearchError) → List (Result MissingParts SearchError)
behind_missing (Ok None) items = items
behind_missing (Ok (Some missing)) items = Ok missing ∷ items
behind_missing (Err error) items = Err error ∷ items

-- the versions of some needs that are missing, in order, with the errors
abbrev pub missing_in : List ProviderParts → List (Result NeedParts LinkError) → List (Result MissingParts SearchError)
missing_in providers [] = []
missing_in providers (Err error ∷ needs) = Err (fault.Link error) ∷ missing_in providers needs
missing_in providers (Ok need ∷ needs) = behind_missing (missing_of providers need) (missing_in providers needs)

-- a version that is missing, nothing or an error, as in the code
abbrev pub item_parts : Result (Option MissingVersion) SearchError → Result (Option MissingParts) SearchError
item_parts (Ok missing) = Ok (option_map missing_parts missing)
item_parts (Err error) = Err error

-- a version that is missing or an error, as an iterator of the code returns it
abbrev pub missing_item : Result MissingVersion SearchError → Result MissingParts SearchError
missing_item (Ok missing) = Ok (missing_parts missing)
missing_item (Err error) = Err error

-- the items that an iterator has not yet returned
abbrev pub missing_left : MissingVersions → List (Result MissingParts SearchError)
missing_left iter = missing_in (map provider_parts iter.providers.now) (needs_left iter.needs)
