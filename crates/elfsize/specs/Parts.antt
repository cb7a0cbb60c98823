-- The runs of bytes that belong to the parts of a file (this project's own). A part has a number: four times its index,
-- and its kind.
use Rattle.std.specs.Prelude.{◌≡◌, ℕ, ◌+◌, ◌-◌, ◌*◌, ◌%◌, List, map}
use Rattle.elf_addresses.specs.Pieces.{ArePieces}
use Rattle.elf_addresses.specs.declared.owner.Owner.{Owner}
use Rattle.elf_addresses.specs.declared.owner.Owner.TheVariants.{ElfHeader, ProgramHeaders, SectionHeaders, Section, Segment, Between, Behind}
use Rattle.elf_addresses.specs.declared.pieces.Piece.{Piece}
use Rattle.elfsize.specs.declared.totals.Run.{Run}
use Rattle.xmas_elf.specs.Types.{ElfFile}

-- the number of a part; an index has 32 bits
abbrev pub numbered : ℕ → ℕ → ℕ
numbered kind index = 4 * (index % 0x100000000) + kind

-- the number of the part that an owner of bytes is
abbrev pub part_number : Owner → ℕ
part_number (Section index) = numbered 0 index
part_number (Segment index) = numbered 1 index
part_number ElfHeader = numbered 3 0
part_number ProgramHeaders = numbered 3 1
part_number SectionHeaders = numbered 3 2
part_number Between = numbered 3 3
part_number Behind = numbered 3 4

-- the run of a piece
abbrev pub run_of : Piece → Run
run_of piece = record { part = part_number piece.owner; size = piece.end - piece.begin }

-- the runs of a file are its pieces
pub record AreRuns (file : ElfFile) (runs : List Run) : Type 0 where
  pub pieces : List Piece
  pub are_pieces : ArePieces file 0 pieces
  pub runs_are : runs ≡ map run_of pieces
