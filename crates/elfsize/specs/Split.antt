-- The runs of a file with the bytes of sections by symbol (this project's own): those of a section belong to the symbol
-- that owns their address, or else to the section.
use Rattle.std.specs.Prelude.{◌≡◌, ℕ, ◌+◌, ◌-◌, ◌%◌, ◌<◌, ◌++◌, ◌==◌, All, List, [], ◌∷◌, Option, None, Some, Result, Ok, Err, if◌then◌else◌, map, max, min}
use Rattle.std.specs.List.{AllZip}
use Rattle.elf_addresses.specs.Pieces.{ArePieces}
use Rattle.elf_addresses.specs.SymbolClaims.{claim_of_symbols}
use Rattle.elf_addresses.specs.SymbolPieces.{IsSizedRun}
use Rattle.elf_addresses.specs.declared.claim.Claim.{Claim}
use Rattle.elf_addresses.specs.declared.owner.Owner.{Owner}
use Rattle.elf_addresses.specs.declared.owner.Owner.TheVariants.{ElfHeader, ProgramHeaders, SectionHeaders, Section, Segment, Between, Behind}
use Rattle.elf_addresses.specs.declared.pieces.Piece.{Piece}
use Rattle.elf_addresses.specs.declared.symbol_pieces.SymbolPiece.{SymbolPiece}
use Rattle.elf_addresses.specs.declared.symbols.AddressSymbols.{AddressSymbols}
use Rattle.elf_base.specs.FileHeader.{header_fields, type_number}
use Rattle.elfsize.specs.Parts.{numbered, run_of}
use Rattle.elfsize.specs.Totals.{all_bytes, listed}
use Rattle.elfsize.specs.declared.totals.Run.{Run}
use Rattle.xmas_elf.specs.SectionHeader.{section_fields, section_of}
use Rattle.xmas_elf.specs.Symbol.{SymbolFields}
use Rattle.xmas_elf.specs.Types.{ElfError, ElfFile, SectionHeader}

-- the claims of the symbols of a section, whose index has 32 bits
abbrev pub section_claims : {E : Type 0} → {r : _} → (E → SymbolFields) → AddressSymbols E r → ℕ → ℕ → Option Claim
section_claims fields symbols index = claim_of_symbols fields symbols (Some (index % 0x100000000))

-- the offset of a section in the file, and the address of its first byte: 0 in an object file (ET_REL, 1), where symbols
-- have offsets in sections
abbrev pub first_address : ElfFile → SectionHeader → ℕ
first_address file section =
    if type_number (header_fields file.header.pt2).type_ == 1 then 0 else (section_fields section).address

-- the same of a section that may be unreadable, which has neither
abbrev pub place_or_zero : ElfFile → Result SectionHeader ElfError → ℕ × ℕ
place_or_zero file (Ok section) = ((section_fields section).offset, first_address file section)
place_or_zero file (Err error) = (0, 0)

-- the offset of the section at an index of a file, and the address of its first byte
abbrev pub section_place : ElfFile → ℕ → ℕ × ℕ
section_place file index = place_or_zero file (section_of file index)

-- the address of a byte of a section; bytes from the last address on have no symbol
abbrev pub address_at : ℕ × ℕ → ℕ → ℕ
address_at place offset = min (place.1 + (offset - place.0)) 0xffffffffffffffff

-- the part of a run of addresses in a section: the symbol that owns them, or else the section
abbrev pub symbol_part : ℕ → Option ℕ → ℕ
symbol_part index None = numbered 0 index
symbol_part index (Some symbol) = numbered 2 symbol

-- a run of addresses in the section at an index, as a part with as many bytes
abbrev pub symbol_run : ℕ → SymbolPiece → Run
symbol_run index piece = record { part = symbol_part index piece.symbol; size = piece.end - piece.begin }

-- runs of addresses that follow each other, from `begin` up to the limit, each of one symbol or of none
abbrev pub AreInner : (ℕ → Option Claim) → ℕ → ℕ → List SymbolPiece → Type 0
AreInner claim_of limit begin [] = begin ≡ limit
AreInner claim_of limit begin (piece ∷ pieces) =
    (piece.begin ≡ begin) × IsSizedRun claim_of limit piece.begin piece.end piece.symbol × AreInner claim_of limit piece.end pieces

-- the runs of addresses, as runs of parts
pub record AreInnerRuns (claim_of : ℕ → Option Claim) (index begin limit : ℕ) (runs : List Run) : Type 0 where
  pub inner : List SymbolPiece
  pub are_inner : AreInner claim_of limit begin inner
  pub runs_are : runs ≡ map (symbol_run index) inner

-- the number of bytes of a piece that have no address
abbrev pub rest_of : Piece → ℕ → ℕ → ℕ
rest_of piece begin end = (piece.end - piece.begin) - (end - begin)

-- the runs of a piece of a section: those of its addresses, and the bytes that have none
pub record AreSectionRuns (claim_of : ℕ → Option Claim) (place : ℕ × ℕ) (index : ℕ) (piece : Piece) (runs : List Run) : Type 0 where
  pub inner : List Run
  pub are_inner : AreInnerRuns claim_of index (address_at place piece.begin) (max (address_at place piece.begin) (address_at place piece.end)) inner
  pub runs_are : runs ≡ inner ++ listed (numbered 0 index) (rest_of piece (address_at place piece.begin) (address_at place piece.end))

-- the section of an owner, if it is one
abbrev pub owner_section : Owner → Option ℕ
owner_section (Section index) = Some index
owner_section (Segment index) = None
owner_section ElfHeader = None
owner_section ProgramHeaders = None
owner_section SectionHeaders = None
owner_section Between = None
owner_section Behind = None

-- the runs of a piece: of a section those above, otherwise one
abbrev pub AreRunsIn : (ℕ → ℕ → Option Claim) → ElfFile → Piece → Option ℕ → List Run → Type 0
AreRunsIn claims file piece None runs = runs ≡ run_of piece ∷ []
AreRunsIn claims file piece (Some index) runs = AreSectionRuns (claims index) (section_place file index) index piece runs

-- the runs of a piece, which sum to its size
pub record ArePieceRuns (claims : ℕ → ℕ → Option Claim) (file : ElfFile) (piece : Piece) (runs : List Run) : Type 0 where
  pub runs_are : AreRunsIn claims file piece (owner_section piece.owner) runs
  pub sum : all_bytes runs ≡ piece.end - piece.begin

-- runs in a row
abbrev pub joined_runs : List (List Run) → List Run
joined_runs [] = []
joined_runs (part ∷ parts) = part ++ joined_runs parts

-- the runs of a file are those of its pieces
pub record AreSplit (claims : ℕ → ℕ → Option Claim) (file : ElfFile) (runs : List Run) : Type 0 where
  pub pieces : List Piece
  pub are_pieces : ArePieces file 0 pieces
  pub parts : List (List Run)
  pub each : AllZip (λ piece part. ArePieceRuns claims file piece part) pieces parts
  pub runs_are : runs ≡ joined_runs parts

-- What is added to runs.

-- each part has a number of 40 bits
abbrev pub AreSmall : List Run → Type 0
AreSmall runs = All (λ run. run.part < 0x10000000000) runs

-- runs of the addresses from `begin` up to the limit, as many as the addresses
pub record AddsInner (claim_of : ℕ → Option Claim) (index begin limit : ℕ) (old new : List Run) : Type 0 where
  pub more : List Run
  pub are_more : AreInnerRuns claim_of index begin limit more
  pub sum : all_bytes more ≡ limit - begin
  pub small : AreSmall more
  pub grown : new ≡ old ++ more

-- the runs of a piece
pub record AddsPiece (claims : ℕ → ℕ → Option Claim) (file : ElfFile) (piece : Piece) (old new : List Run) : Type 0 where
  pub more : List Run
  pub are_more : ArePieceRuns claims file piece more
  pub small : AreSmall more
  pub grown : new ≡ old ++ more
