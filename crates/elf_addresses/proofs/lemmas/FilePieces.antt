-- Of pieces that follow each other: each byte is in exactly one, and their sizes sum to the number of bytes.
use Rattle.std.proofs.Common.{◌≡◌, ℕ, zero, suc, ◌<◌, ◌≤◌, ◌+◌, ◌-◌, List, [], ◌∷◌, length, Some, slice_get, refl, ap, subst, sym, arith, inl, inr}
use Rattle.std.proofs.lemmas.Bool.{cases_lt}
use Rattle.std.proofs.lemmas.Option.{none-some, same_Some}
use Rattle.xmas_elf.specs.Types.{ElfFile}
use Rattle.elf_addresses.specs.FileClaims.{byte_count, section_parts, section_range, segment_parts, segment_range}
use Rattle.elf_addresses.specs.Owner.{IsOwner}
use Rattle.elf_addresses.specs.PartRanges.{range_within}
use Rattle.elf_addresses.specs.Pieces.{ArePieces, IsInPiece, IsPiece, PieceStep, bytes_left, piece_sizes, pieces_file, pieces_place}
use Rattle.elf_addresses.specs.declared.owner.Owner.TheVariants.{Section, Segment}
use Rattle.elf_addresses.specs.declared.pieces.Piece.{Piece}
use Rattle.elf_addresses.specs.declared.pieces.Pieces.{Pieces}

-- the owner of a byte is one of the sections, or of the segments
pub owning_section : (file : ElfFile) (byte index : ℕ) → IsOwner file byte (Section index) → index < length (section_parts file)
owning_section file byte index (out, (claim, (among, least), same)) =
    subst (λ i. i < length (section_parts file)) same (range_within section_range (byte_count file) (section_parts file) claim.index claim among.is)

pub owning_segment : (file : ElfFile) (byte index : ℕ) → IsOwner file byte (Segment index) → index < length (segment_parts file)
owning_segment file byte index (out, free, (claim, (among, least), same)) =
    subst (λ i. i < length (segment_parts file)) same (range_within segment_range (byte_count file) (segment_parts file) claim.index claim among.is)

module _ (file : ElfFile) where
  -- each byte from the first on is in a piece
  pub in_a_piece : (begin byte : ℕ) (pieces : List Piece) → ArePieces file begin pieces → begin ≤ byte → byte < byte_count file → (k : ℕ) × IsInPiece pieces byte k
  in_a_piece begin byte [] are from to = absurd (omega arith)
  in_a_piece begin byte (piece ∷ pieces) (same, run, rest) from to = elim (cases_lt byte piece.end) [
    | inl less ↦ (0, (piece, refl, omega arith, less))
    | inr more ↦ let (k, (other, at, low, high)) = in_a_piece piece.end byte pieces rest more to in (suc k, (other, at, low, high))
  ]

  -- a piece of a list begins at its first byte or behind it
  begins_from : (begin byte k : ℕ) (pieces : List Piece) → ArePieces file begin pieces → IsInPiece pieces byte k → begin ≤ byte
  begins_from begin byte k [] are (other, at, low, high) = absurd (none-some other at)
  begins_from begin byte zero (piece ∷ pieces) (same, run, rest) (other, at, low, high) =
      let eq : piece ≡ other = same_Some piece other at in
      let p : other.begin ≤ byte = low in
      let q : piece.begin ≡ other.begin = ap (λ (x : Piece). x.begin) eq in
      omega arith
  begins_from begin byte (suc k) (piece ∷ pieces) (same, run, rest) (other, at, low, high) =
      let later : piece.end ≤ byte = begins_from piece.end byte k pieces rest (other, at, low, high) in
      let some : piece.begin < piece.end = run.some in
      omega arith

  ends_before : (byte : ℕ) (piece : Piece) (pieces : List Piece) → IsInPiece (piece ∷ pieces) byte 0 → byte < piece.end
  ends_before byte piece pieces (other, at, low, high) =
      let eq : piece ≡ other = same_Some piece other at in
      let q : piece.end ≡ other.end = ap (λ (x : Piece). x.end) eq in
      let p : byte < other.end = high in
      omega arith

  -- and in no other one
  pub in_one_piece : (begin byte j k : ℕ) (pieces : List Piece) → ArePieces file begin pieces → IsInPiece pieces byte j → IsInPiece pieces byte k → j ≡ k
  in_one_piece begin byte j k [] are (other, at, low, high) that = absurd (none-some other at)
  in_one_piece begin byte zero zero (piece ∷ pieces) are this that = refl
  in_one_piece begin byte zero (suc k) (piece ∷ pieces) (same, run, rest) this that =
      let less : byte < piece.end = ends_before byte piece pieces this in
      let more : piece.end ≤ byte = begins_from piece.end byte k pieces rest that in
      absurd (omega arith)
  in_one_piece begin byte (suc j) zero (piece ∷ pieces) (same, run, rest) this that =
      let less : byte < piece.end = ends_before byte piece pieces that in
      let more : piece.end ≤ byte = begins_from piece.end byte j pieces rest this in
      absurd (omega arith)
  in_one_piece begin byte (suc j) (suc k) (piece ∷ pieces) (same, run, rest) this that = ap suc (in_one_piece piece.end byte j k pieces rest this that)

  -- its owner is that of the byte
  pub piece_owner : (begin byte k : ℕ) (piece : Piece) (pieces : List Piece) → ArePieces file begin pieces → slice_get pieces k ≡ Some piece → piece.begin ≤ byte → byte < piece.end → IsOwner file byte piece.owner
  piece_owner begin byte k piece [] are at from to = absurd (none-some piece at)
  piece_owner begin byte zero piece (first ∷ pieces) (same, run, rest) at from to =
      let eq : first ≡ piece = same_Some first piece at in
      subst (λ (x : Piece). IsOwner file byte x.owner) eq
      (run.same byte (let q : first.begin ≡ piece.begin = ap (λ (x : Piece). x.begin) eq in omega arith) (let q : first.end ≡ piece.end = ap (λ (x : Piece). x.end) eq in omega arith))
  piece_owner begin byte (suc k) piece (first ∷ pieces) (same, run, rest) at from to = piece_owner first.end byte k piece pieces rest at from to

  -- the sizes sum to the number of bytes from the first on
  pub sizes_sum : (begin : ℕ) (pieces : List Piece) → ArePieces file begin pieces → begin + piece_sizes pieces ≡ byte_count file
  sizes_sum begin [] are = omega arith
  sizes_sum begin (piece ∷ pieces) (same, run, rest) =
      let some : piece.begin < piece.end = run.some in
      let others : piece.end + piece_sizes pieces ≡ byte_count file = sizes_sum piece.end pieces rest in
      omega arith

-- a step of the iterator: its piece has the bytes that are left no more
pub counted : (old new : Pieces) (piece : Piece) (sum total : ℕ) → PieceStep old (Some piece) new → sum + bytes_left old ≡ total → (sum + (piece.end - piece.begin)) + bytes_left new ≡ total
counted old new piece sum total step before =
    let run : IsPiece (pieces_file old) piece = step.1.2 in
    let some : piece.begin < piece.end = run.some in
    let within : piece.end ≤ byte_count (pieces_file old) = run.within in
    let begins : piece.begin ≡ pieces_place old = step.1.0 in
    let ends : piece.end ≡ pieces_place new = step.1.1 in
    let same : byte_count (pieces_file new) ≡ byte_count (pieces_file old) = ap byte_count step.0 in
    omega arith

-- and it comes before the pieces that are left
pub one_more_piece : (file : ElfFile) (old new : Pieces) (piece : Piece) (rest : List Piece) → PieceStep old (Some piece) new → pieces_file old ≡ file → ArePieces file (pieces_place new) rest → ArePieces file (pieces_place old) (piece ∷ rest)
one_more_piece file old new piece rest step same are = (
  step.1.0,
  subst (λ f. IsPiece f piece) same step.1.2,
  subst (λ place. ArePieces file place rest) (sym step.1.1) are,
)
