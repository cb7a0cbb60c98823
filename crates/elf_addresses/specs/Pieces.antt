-- The pieces of a file: the longest runs of bytes with one owner (this project's own).
use Rattle.std.specs.Prelude.{◌≡◌, ℕ, ◌+◌, ◌-◌, ◌<◌, ◌≤◌, List, [], ◌∷◌, MatchOption, Option, Some, slice_get}
use Rattle.std.specs.Iterator.{Count, at_most}
use Rattle.xmas_elf.specs.Types.{ElfFile}
use Rattle.elf_addresses.specs.FileClaims.{byte_count}
use Rattle.elf_addresses.specs.Runs.{IsRun}
use Rattle.elf_addresses.specs.declared.pieces.Piece.{Piece}
use Rattle.elf_addresses.specs.declared.pieces.Pieces.{Pieces}

-- the file of the pieces
abbrev pub pieces_file : Pieces → ElfFile
pieces_file pieces = pieces.sections.file.now

-- the offset that the next piece begins at
abbrev pub pieces_place : Pieces → ℕ
pieces_place pieces = pieces.place

-- the number of bytes of the pieces that are left
abbrev pub bytes_left : Pieces → ℕ
bytes_left pieces = byte_count (pieces_file pieces) - pieces_place pieces

-- not more pieces are left than bytes
abbrev pub pieces_left : Pieces → Count
pieces_left pieces = at_most (bytes_left pieces)

-- the piece is a longest run of bytes of one owner
abbrev pub IsPiece : ElfFile → Piece → Type 0
IsPiece file piece = IsRun file piece.begin piece.end piece.owner

-- one call of `next`: a piece from the place on, up to the next place; none at the end of the file
abbrev pub PieceStep : Pieces → Option Piece → Pieces → Type 0
PieceStep old result new = (pieces_file new ≡ pieces_file old) × MatchOption result
    ((pieces_place old ≡ byte_count (pieces_file old)) × (pieces_place new ≡ byte_count (pieces_file old)))
    (λ piece. (piece.begin ≡ pieces_place old) × (piece.end ≡ pieces_place new) × IsPiece (pieces_file old) piece)

-- pieces that follow each other, from an offset up to the end of the file
abbrev pub ArePieces : ElfFile → ℕ → List Piece → Type 0
ArePieces file begin [] = begin ≡ byte_count file
ArePieces file begin (piece ∷ pieces) = (piece.begin ≡ begin) × IsPiece file piece × ArePieces file piece.end pieces

-- a byte is in the piece at an index of a list
abbrev pub IsInPiece : List Piece → ℕ → ℕ → Type 0
IsInPiece pieces byte index =
    (piece : Piece) × (slice_get pieces index ≡ Some piece) × (piece.begin ≤ byte) × (byte < piece.end)

-- the sum of the sizes of pieces
abbrev pub piece_sizes : List Piece → ℕ
piece_sizes [] = 0
piece_sizes (piece ∷ pieces) = (piece.end - piece.begin) + piece_sizes pieces
