-- The missing versions that are stored are those of two files.
use Rattle.std.proofs.Common.{◌≡◌, ℕ, List, [], ◌∷◌, map, Result, Ok, sym, subst}
use Rattle.elf_linking.specs.VersionTables.{VersionTables, needs_in}
use Rattle.elf_search.specs.MissingVersions.{ProvidedParts, missing_in}
use Rattle.xmas_elf.specs.declared.ElfFile.{ElfFile}
use Rattle.elf_c.specs.Batch.{Fills}
use Rattle.elf_c.specs.Records.{record_in}
use Rattle.elf_c.specs.SearchPaths.{item_of}
use Rattle.elf_c.specs.SearchVersions.{missing_between, missing_record, missing_rows, provided_of}
use Rattle.elf_c.specs.Versions.{file_version_tables, strings_range_of}
use Rattle.elf_c.specs.declared.names.Range.{Range}
use Rattle.elf_c.specs.declared.search_versions.LackedVersion.{LackedVersion}
use Rattle.elf_c.specs.declared.status.AnyError.{AnyError}

pub missing_filled : (file other : ElfFile) (name : List ℕ) (strings : Result Range AnyError) (tables : VersionTables) (provided : ProvidedParts) (first : ℕ) (old new : List LackedVersion) (answer : Result ℕ AnyError) → file_version_tables file 0 ≡ Ok tables → provided_of other ≡ Ok provided → strings ≡ strings_range_of file
    → Fills (record_in (λ one. one) (map (missing_record file.input.now strings) (missing_in (record { names = name ∷ []; provided = provided } ∷ []) (needs_in tables.needs)))) first old answer new
    → Fills (item_of (missing_rows file name other)) first old answer new
missing_filled file other name strings tables provided first old new answer is gives ranged fills =
    subst (λ found. Fills (item_of (missing_between file name found (provided_of other))) first old answer new) (sym is)
    (subst (λ found. Fills (item_of (missing_between file name (Ok tables) found)) first old answer new) (sym gives)
    (subst (λ s. Fills (record_in (λ one. one) (map (missing_record file.input.now s) (missing_in (record { names = name ∷ []; provided = provided } ∷ []) (needs_in tables.needs)))) first old answer new) ranged fills))
