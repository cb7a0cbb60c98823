-- The part of a file that a byte belongs to (this project's own): the ELF header, the tables of headers, the
-- innermost section, the innermost segment, or none.
use Rattle.std.specs.Prelude.{◌≡◌, ℕ, ◌+◌, ◌<◌, ◌≤◌, ◌⊎◌, ◌==◌, ◌&&◌, not, nat_lt, Bool, false, Option, None, Some}
use Rattle.xmas_elf.specs.Types.{ElfFile}
use Rattle.elf_addresses.specs.Claims.{Among, IsInnermost}
use Rattle.elf_addresses.specs.Index.{IsKind}
use Rattle.elf_addresses.specs.FileClaims.{elf_header, program_headers, section_claim, section_headers, segment_claim}
use Rattle.elf_addresses.specs.declared.claim.Claim.{Claim}
use Rattle.elf_addresses.specs.declared.owner.Owner.{Owner}
use Rattle.elf_addresses.specs.declared.owner.Owner.TheVariants.{ElfHeader, ProgramHeaders, SectionHeaders, Section, Segment, Between, Behind}

-- a byte is in a range
abbrev pub IsIn : ℕ × ℕ → ℕ → Type 0
IsIn range byte = (range.0 ≤ byte) × (byte < range.0 + range.1)

-- a byte is neither in the ELF header nor in a table of headers
pub record OutsideHeaders (file : ElfFile) (byte : ℕ) : Type 0 where
  pub elf_header : IsIn (elf_header file) byte → ⊥
  pub program_headers : IsIn (program_headers file) byte → ⊥
  pub section_headers : IsIn (section_headers file) byte → ⊥

-- no claim covers a byte
abbrev pub IsUncovered : (ℕ → Option Claim) → ℕ → Type 0
IsUncovered claim_of byte = IsInnermost claim_of byte None

-- the claim at an index is the innermost that covers a byte
abbrev pub IsInnermostAt : (ℕ → Option Claim) → ℕ → ℕ → Type 0
IsInnermostAt claim_of byte index = (claim : Claim) × IsInnermost claim_of byte (Some claim) × (claim.index ≡ index)

-- no part covers a byte
pub record IsFree (file : ElfFile) (byte : ℕ) : Type 0 where
  pub headers : OutsideHeaders file byte
  pub sections : IsUncovered (section_claim file) byte
  pub segments : IsUncovered (segment_claim file) byte

-- a range that is not empty begins at a byte
abbrev pub RangeBegins : ℕ × ℕ → ℕ → Type 0
RangeBegins range byte = (range.0 ≡ byte) × (0 < range.1)

-- a claim that is not empty begins at a byte
abbrev pub ClaimBegins : (ℕ → Option Claim) → ℕ → Type 0
ClaimBegins claim_of byte = (claim : Claim) × Among claim_of (λ k. IsKind false k × (k.begin ≡ byte)) claim

-- whether there is a claim that is not empty and begins after a byte
abbrev pub is_claim_behind : Option Claim → ℕ → Bool
is_claim_behind None byte = false
is_claim_behind (Some claim) byte = not (claim.size == 0) && nat_lt byte claim.begin

-- a table of headers begins at a byte
abbrev pub TableBegins : ElfFile → ℕ → Type 0
TableBegins file byte = RangeBegins (program_headers file) byte ⊎ RangeBegins (section_headers file) byte

-- a table of headers or a section begins at a byte
abbrev pub SectionBegins : ElfFile → ℕ → Type 0
SectionBegins file byte = TableBegins file byte ⊎ ClaimBegins (section_claim file) byte

-- a table of headers, a section or a segment begins at a byte
abbrev pub PartBegins : ElfFile → ℕ → Type 0
PartBegins file byte = SectionBegins file byte ⊎ ClaimBegins (segment_claim file) byte

-- a part begins after a byte; for a byte that no part covers this is: a part ends after it
abbrev pub HasPartBehind : ElfFile → ℕ → Type 0
HasPartBehind file byte = (begin : ℕ) × (byte < begin) × PartBegins file begin

-- the owner of a byte: of the parts that cover it, the first by kind, and of sections and segments the innermost
abbrev pub IsOwner : ElfFile → ℕ → Owner → Type 0
IsOwner file byte ElfHeader = IsIn (elf_header file) byte
IsOwner file byte ProgramHeaders = (IsIn (elf_header file) byte → ⊥) × IsIn (program_headers file) byte
IsOwner file byte SectionHeaders =
    (IsIn (elf_header file) byte → ⊥) × (IsIn (program_headers file) byte → ⊥) × IsIn (section_headers file) byte
IsOwner file byte (Section index) = OutsideHeaders file byte × IsInnermostAt (section_claim file) byte index
IsOwner file byte (Segment index) =
    OutsideHeaders file byte × IsUncovered (section_claim file) byte × IsInnermostAt (segment_claim file) byte index
IsOwner file byte Between = IsFree file byte × HasPartBehind file byte
IsOwner file byte Behind = IsFree file byte × (HasPartBehind file byte → ⊥)
