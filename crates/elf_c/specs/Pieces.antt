-- The pieces of a file and those of its symbols, as numbers: which bytes belong to what (this project's own).
use Rattle.std.specs.Prelude.{◌≡◌, ◌<◌, ◌≤◌, ◌+◌, ◌-◌, ℕ, ◌==◌, ◌&&◌, nat_le, nat_lt, max, Bool, List, [], ◌∷◌, length, map, slice_get, slice_set, Option, None, Some, Result, Ok, Err, MatchResult, if◌then◌else◌}
use Rattle.std.specs.Bool.{MatchBool}
use Rattle.elf_addresses.specs.FileClaims.{byte_count, piece_numbers, piece_words}
use Rattle.elf_addresses.specs.Pieces.{ArePieces, IsInPiece, piece_sizes}
use Rattle.elf_addresses.specs.SymbolPieces.{IsSizedRun}
use Rattle.elf_addresses.specs.declared.claim.Claim.{Claim}
use Rattle.elf_addresses.specs.declared.error.IndexError.TheVariants.{FewWords}
use Rattle.elf_addresses.specs.declared.owner.Owner.{Owner}
use Rattle.elf_addresses.specs.declared.owner.Owner.TheVariants.{ElfHeader, ProgramHeaders, SectionHeaders, Section, Segment, Between, Behind}
use Rattle.elf_addresses.specs.declared.pieces.Piece as addresses
use Rattle.elf_addresses.specs.declared.symbol_pieces.SymbolPiece.{SymbolPiece}
use Rattle.elf_base.specs.FirstError.{and_then, unless}
use Rattle.xmas_elf.specs.Types.{ElfFile}
use Rattle.elf_c.specs.AddressIndex.{Addresses, addresses_by, claim_in_section, index_rows, within_of}
use Rattle.elf_c.specs.declared.address_index.AddressIndex.{AddressIndex}
use Rattle.elf_c.specs.declared.pieces.Piece.{Piece}
use Rattle.elf_c.specs.declared.pieces.PieceSizes.{PieceSizes}
use Rattle.elf_c.specs.declared.pieces.TheConstants.{ELF_HEADER, PROGRAM_HEADERS, SECTION_HEADERS, SECTION, SEGMENT, BETWEEN, BEHIND, IN_SYMBOL, IN_NO_SYMBOL}
use Rattle.elf_c.specs.declared.status.AnyError.{AnyError}
use Rattle.elf_c.specs.declared.status.AnyError.TheVariants.{Index}

-- the number of an owner, and the index of the section or the segment
abbrev pub owner_numbers : Owner → ℕ × ℕ
owner_numbers ElfHeader = (ELF_HEADER, 0)
owner_numbers ProgramHeaders = (PROGRAM_HEADERS, 0)
owner_numbers SectionHeaders = (SECTION_HEADERS, 0)
owner_numbers (Section index) = (SECTION, index)
owner_numbers (Segment index) = (SEGMENT, index)
owner_numbers Between = (BETWEEN, 0)
owner_numbers Behind = (BEHIND, 0)

-- the numbers of a piece of a file
abbrev pub piece_record : addresses.Piece → Piece
piece_record piece = let numbers = owner_numbers piece.owner in
    record { begin = piece.begin; end = piece.end; index = numbers.1; owner = numbers.0 }

-- the number for a symbol, or for none, and the index of the symbol
abbrev pub run_numbers : Option ℕ → ℕ × ℕ
run_numbers None = (IN_NO_SYMBOL, 0)
run_numbers (Some index) = (IN_SYMBOL, index)

-- the numbers of a piece of a range of addresses
abbrev pub run_record : SymbolPiece → Piece
run_record piece = let numbers = run_numbers piece.symbol in
    record { begin = piece.begin; end = piece.end; index = numbers.1; owner = numbers.0 }

-- a slice after the item at an index was stored, if it has a place there: the first is that of the item at `first`
abbrev pub put_from : {T : Type 0} → ℕ → ℕ → T → List T → List T
put_from first index item old =
    if nat_le first index && nat_lt (index - first) (length old) then slice_set old (index - first) item else old

-- the items from index `first` on were stored in a slice, as many as fit; the rest of it is unchanged
pub record IsRows {T : Type 0} (items : List T) (first : ℕ) (old new : List T) : Type 0 where
  pub long : length new ≡ length old
  pub each : (k : ℕ) → k < length old → first + k < length items → slice_get new k ≡ slice_get items (first + k)
  pub rest : (k : ℕ) → length items ≤ first + k → slice_get new k ≡ slice_get old k

-- the result of a call that stores the pieces of a list: their number, or an error, and nothing is stored
abbrev pub Lists : {P : Type 0} → Result (Unit {0}) AnyError → (List P → Type 0) → (P → Piece) → ℕ → List Piece → Result ℕ AnyError → List Piece → Type 0
Lists {P} failed AreAll numbers first old answer new = MatchResult failed
    (λ _. (all : List P) × AreAll all × (answer ≡ Ok (length all)) × IsRows (map numbers all) first old new)
    (λ why. (answer ≡ Err why) × (new ≡ old))

-- there are fewer words or numbers than a call takes
abbrev pub few_words : ℕ → ℕ → List ℕ → List ℕ → Result (Unit {0}) AnyError
few_words words_needed numbers_needed words numbers =
    unless ((nat_lt (length words) words_needed, Index FewWords) ∷ (nat_lt (length numbers) numbers_needed, Index FewWords) ∷ []) tt

-- all pieces of a file: each is a longest run of bytes with one owner, they follow each other from its first byte to its
-- end, each byte is in exactly one, and their sizes sum to the size of the file
pub record IsWhole (file : ElfFile) (pieces : List addresses.Piece) : Type 0 where
  pub follow : ArePieces file 0 pieces
  pub in_one : (byte : ℕ) → byte < byte_count file → (k : ℕ) × IsInPiece pieces byte k
  pub in_no_other : (byte j k : ℕ) → IsInPiece pieces byte j → IsInPiece pieces byte k → j ≡ k
  pub sum : piece_sizes pieces ≡ byte_count file

-- only the number of words is asked for: there are none, and the call takes some
abbrev pub asks_words : ElfFile → List ℕ → Bool
asks_words file words = length words == 0 && nat_lt 0 (piece_words file)

-- the sizes of the pieces of a file
abbrev pub piece_sizes_of : ElfFile → ℕ → PieceSizes
piece_sizes_of file count = record { words = piece_words file; numbers = piece_numbers file; count = count }

-- the result of a call for the pieces of a file: their number and those of the words and the numbers, or an error
abbrev pub AreCounted : ElfFile → ℕ → List ℕ → List ℕ → List Piece → Result PieceSizes AnyError → List Piece → Type 0
AreCounted file first words numbers old answer new = MatchBool (asks_words file words)
    ((answer ≡ Ok (piece_sizes_of file 0)) × (new ≡ old))
    ((counted : Result ℕ AnyError) × Lists (few_words (piece_words file) (piece_numbers file) words numbers) (IsWhole file) piece_record first old counted new
    × (answer ≡ and_then counted (λ count. Ok (piece_sizes_of file count))))

-- pieces that follow each other, from an address up to a limit, each a longest run of addresses in one symbol or in none
abbrev pub AreRuns : (ℕ → Option Claim) → ℕ → ℕ → List SymbolPiece → Type 0
AreRuns claim_of limit begin [] = begin ≡ limit
AreRuns claim_of limit begin (piece ∷ pieces) =
    (piece.begin ≡ begin) × IsSizedRun claim_of limit piece.begin piece.end piece.symbol × AreRuns claim_of limit piece.end pieces

-- why an index of symbols can't be built in words and numbers
abbrev pub runs_failed : (ℕ → Option Claim) → ℕ → List ℕ → List ℕ → Result (Unit {0}) AnyError
runs_failed claim_of count words numbers = unless (index_rows claim_of count words numbers) tt

-- the result of a call for the pieces of a range of addresses by symbols
abbrev pub AreListedIn : Addresses → Option ℕ → ℕ × ℕ → ℕ → List ℕ → List ℕ → List Piece → Result ℕ AnyError → List Piece → Type 0
AreListedIn all within range first words numbers old answer new = let claim_of = claim_in_section all within in
    Lists (runs_failed claim_of (length all.items) words numbers) (AreRuns claim_of (max range.0 range.1) range.0) run_record first old answer new

-- the same by the symbols of a record
abbrev pub AreListed : List ℕ → AddressIndex → ℕ × ℕ → ℕ → List ℕ → List ℕ → List Piece → Result ℕ AnyError → List Piece → Type 0
AreListed input index range first words numbers old answer new =
    MatchResult (addresses_by input index.table index.indices index.machine)
    (λ all. AreListedIn all (within_of index.within) range first words numbers old answer new)
    (λ why. (answer ≡ Err why) × (new ≡ old))
