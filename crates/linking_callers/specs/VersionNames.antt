-- Versions by their names (LSB, "Symbol Versioning").
use Rattle.std.specs.Prelude.{◌≡◌, ◌≢◌, ℕ, ◌%◌, ◌&&◌, not, Bool, false, List, Result, Ok, Err}
use Rattle.std.specs.Str.{bytes_eq}
use Rattle.elf_linking.specs.VersionTables.{DefinitionParts}
use Rattle.elf_linking.specs.VersionList.{is_base}
use Rattle.elf_linking.specs.declared.error.LinkError.{LinkError}

-- a definition is no base, and has the name
abbrev pub Defines : List ℕ → DefinitionParts → Type 0
Defines name d = (d.flags % 2 ≢ 1) × (d.name ≡ Ok name)

-- a name that can be read is this one, as a test
abbrev pub is_name : Result (List ℕ) LinkError → List ℕ → Bool
is_name (Ok found) name = bytes_eq found name
is_name (Err error) name = false

-- a definition is no base, and has the name, as a test
abbrev pub defines : List ℕ → DefinitionParts → Bool
defines name d = not (is_base d.flags) && is_name d.name name
