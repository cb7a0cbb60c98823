-- The numbers of needs and parts that a file tells, need by need.
use Rattle.std.proofs.Common.{◌≡◌, ℕ, ◌&&◌, true, false, List, [], ◌∷◌, Result, Ok, Err, if◌then◌else◌, refl, sym, ap, ◌∙◌}
use Rattle.elf_linking.specs.VersionList.{VersionList, versions_in}
use Rattle.elf_linking.specs.VersionTables.{VersionRecords, VersionTables, has_told_parts, have_told_parts, is_counted}
use Rattle.elf_linking.specs.Versions.{count_error}
use Rattle.elf_linking.specs.declared.error.LinkError.{LinkError}

module _ (records : VersionRecords) (needs : List (Result ℕ LinkError)) where
  pub told_end : needs ≡ [] → have_told_parts records needs ≡ true
  told_end is = ap (have_told_parts records) is

  pub told_fault : (others : List (Result ℕ LinkError)) (error : LinkError) → needs ≡ Err error ∷ others → have_told_parts records needs ≡ have_told_parts records others
  told_fault others error is = ap (have_told_parts records) is

  pub told_other : (others : List (Result ℕ LinkError)) (place : ℕ) → needs ≡ Ok place ∷ others → has_told_parts records place ≡ true → have_told_parts records needs ≡ have_told_parts records others
  told_other others place is told = ap (have_told_parts records) is ∙ rw told refl

  pub told_false : (others : List (Result ℕ LinkError)) (place : ℕ) → needs ≡ Ok place ∷ others → has_told_parts records place ≡ false → have_told_parts records needs ≡ false
  told_false others place is untold = ap (have_told_parts records) is ∙ rw untold refl

-- the error of a list of versions by the tables
pub counted_so : (tables : VersionTables) (list : VersionList) → list ≡ versions_in tables → count_error (is_counted tables) ≡ count_error list.counted
counted_so tables list is = sym (ap (λ l. count_error l.counted) is)
