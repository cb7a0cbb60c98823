-- The result of a call for a path of a debug file, and that of the check of a file.
use Rattle.std.proofs.Common.{◌≡◌, ℕ, List, None, Some, Result, Ok, Err, refl, ap, subst, ◌∙◌, length}
use Rattle.std.specs.Prelude.{min, slice_get}
use Rattle.elf_debug.specs.Paths.{path_left, way_parts}
use Rattle.elf_debug.specs.declared.paths.DebugPath.{DebugPath}
use Rattle.elf_debug.specs.declared.wanted.DebugWanted.{DebugWanted}
use Rattle.xmas_elf.specs.Types.{ElfFile}
use Rattle.elf_c.specs.DebugFiles.{IsCandidate, IsSaid, IsWritten, MOST, candidate_of, how_number, ways_of}
use Rattle.elf_c.specs.Pieces.{IsRows}
use Rattle.elf_c.specs.Records.{record_or_none}
use Rattle.elf_c.specs.declared.debug_files.DebugCandidate.{DebugCandidate}
use Rattle.elf_c.specs.declared.status.AnyError.{AnyError}
use Rattle.elf_c.specs.declared.status.AnyError.TheVariants.{NoRecord}

abbrev pub numbered : ℕ → ℕ → DebugCandidate
numbered size how = record { size = size; how = how }

abbrev pub numbered_answer : ℕ → ℕ → Result DebugCandidate AnyError
numbered_answer size how = Ok (numbered size how)

module _ (file : ElfFile) (wanted : DebugWanted) (said : IsSaid file wanted) (path directory : List ℕ) (index : ℕ) where
  -- the path at the index, whose bytes were written
  pub candidate_found : (found : DebugPath) (old new : List ℕ) (size how : ℕ) → Some (way_parts found) ≡ slice_get (ways_of wanted path directory) index
      → IsRows (path_left found.path) 0 old new → size ≡ min (length (path_left found.path)) MOST → how ≡ how_number found.how
      → IsCandidate file path directory index old new (Ok (numbered size how))
  candidate_found found old new size how at stored size_is how_is = (
    wanted,
    said,
    numbers size_is how_is ∙ ap (record_or_none candidate_of) at,
    subst (λ way. IsWritten way old new) at stored,
  )
    where
      numbers : size ≡ min (length (path_left found.path)) MOST → how ≡ how_number found.how → numbered_answer size how ≡ numbered_answer (min (length (path_left found.path)) MOST) (how_number found.how)
      numbers one other = ap (λ n. numbered_answer n how) one ∙ ap (λ n. numbered_answer (min (length (path_left found.path)) MOST) n) other

  -- there are no more
  pub candidate_none : (text : List ℕ) → None ≡ slice_get (ways_of wanted path directory) index → IsCandidate file path directory index text text (Err NoRecord)
  candidate_none text at = (wanted, said, ap (record_or_none candidate_of) at, subst (λ way. IsWritten way text text) at refl)
