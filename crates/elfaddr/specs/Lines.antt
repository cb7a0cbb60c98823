-- What the program writes of an address (this project's own): the symbol or the section that it is in, and the
-- offset there.
use Rattle.std.specs.Prelude.{◌≡◌, ℕ, ◌-◌, ◌++◌, false, [], ◌∷◌, List, Option, None, Some, Result, Ok, Err, codes, length, slice_get}
use Rattle.std.specs.Fmt.{digits}
use Rattle.std.specs.List.{AllZip, concat}
use Rattle.elf_addresses.specs.Claims.{IsInnermost}
use Rattle.elf_addresses.specs.SectionAt.{HoldsAddress}
use Rattle.elf_addresses.specs.declared.claim.Claim.{Claim}
use Rattle.elf_base.specs.Text.{bytes_up_to_zero_of}
use Rattle.program_ends.specs.Json.{json_line, member, name_value}
use Rattle.program_ends.specs.Names.{escaped}
use Rattle.program_ends.specs.declared.json.Form.{Form}
use Rattle.program_ends.specs.declared.json.Form.TheVariants as forms
use Rattle.program_ends.specs.declared.json.Value.TheVariants.{Null, Number}
use Rattle.xmas_elf.specs.First.{IsFirstAt, NoneBelow}
use Rattle.xmas_elf.specs.NameTable.{shstr_bytes_of}
use Rattle.xmas_elf.specs.SectionHeader.{section_fields, section_list}
use Rattle.xmas_elf.specs.Symbol.{SymbolFields}
use Rattle.xmas_elf.specs.Types.{ElfError, ElfFile, SectionHeader}

-- the bytes of a name, or `?` if it can't be read
abbrev pub or_mark : Result (List ℕ) ElfError → List ℕ
or_mark (Ok name) = name
or_mark (Err error) = codes "?"

-- the name of a symbol in a string table
abbrev pub symbol_name : {E : Type 0} → (E → SymbolFields) → List ℕ → Option E → List ℕ
symbol_name fields strings None = codes "?"
symbol_name fields strings (Some symbol) = or_mark (bytes_up_to_zero_of strings (fields symbol).name)

-- the name of the symbol at an index
abbrev pub name_in : {E : Type 0} → (E → SymbolFields) → List E → List ℕ → ℕ → List ℕ
name_in fields symbols strings index = symbol_name fields strings (slice_get symbols index)

-- an offset in hexadecimal, and the end of its line
abbrev pub offset_text : ℕ → List ℕ
offset_text offset = codes "+0x" ++ (digits 16 false offset ++ codes "\n")

-- a line: a name with its control characters escaped, and an offset
abbrev pub place_text : List ℕ → ℕ → List ℕ
place_text name offset = escaped name ++ offset_text offset

-- the same as JSON: the address, the name as it is, under a key that says what it names, and the offset
abbrev pub place_record : ℕ → List ℕ → List ℕ → ℕ → List ℕ
place_record address key name offset =
    json_line (member (codes "address") (Number address) ∷ member key (name_value name) ∷ member (codes "offset") (Number offset) ∷ [])

-- the line of an address in a symbol or a section
abbrev pub place_line : Form → ℕ → List ℕ → List ℕ → ℕ → List ℕ
place_line forms.Text address key name offset = place_text name offset
place_line forms.Json address key name offset = place_record address key name offset

-- the line of an address that is in none
abbrev pub nowhere_line : Form → ℕ → List ℕ
nowhere_line forms.Text address = codes "?\n"
nowhere_line forms.Json address =
    json_line (member (codes "address") (Number address) ∷ member (codes "symbol") Null ∷ member (codes "section") Null ∷ [])

-- the line of an address that no symbol covers: the first section that contains it, and the offset there, or `?`
pub data IsSectionLine (form : Form) (file : ElfFile) (address : ℕ) : List ℕ → Type 0 where
  in_section : (index : ℕ) (section : SectionHeader)
      → IsFirstAt (λ one. HoldsAddress (section_fields one) address) (section_list file) index
      → slice_get (section_list file) index ≡ Some section
      → IsSectionLine form file address (place_line form address (codes "section") (or_mark (shstr_bytes_of file (section_fields section).name)) (address - (section_fields section).address))
  nowhere : NoneBelow (λ one. HoldsAddress (section_fields one) address) (section_list file) (length (section_list file))
      → IsSectionLine form file address (nowhere_line form address)

-- the line of an address: the innermost symbol that covers it, and the offset there, or else the section
pub data IsLine (form : Form) (claim_of : ℕ → Option Claim) (name_of : ℕ → List ℕ) (file : ElfFile) (address : ℕ) : List ℕ → Type 0 where
  in_symbol : (claim : Claim) → IsInnermost claim_of address (Some claim)
      → IsLine form claim_of name_of file address (place_line form address (codes "symbol") (name_of claim.index) (address - claim.begin))
  in_no_symbol : (line : List ℕ) → IsInnermost claim_of address None → IsSectionLine form file address line
      → IsLine form claim_of name_of file address line

-- the text is a line for each address, in order
pub record AreLines (form : Form) (claim_of : ℕ → Option Claim) (name_of : ℕ → List ℕ) (file : ElfFile) (addresses : List ℕ) (text : List ℕ) : Type 0 where
  pub lines : List (List ℕ)
  pub each : AllZip (λ address line. IsLine form claim_of name_of file address line) addresses lines
  pub text_is : text ≡ concat lines
