-- How the program ends (this project's own).
use Rattle.std.specs.Prelude.{◌≡◌, ℕ, List, Option, Result, Err}
use Rattle.std.specs.Borrow.{Bor}
use Rattle.elf_base.specs.FileHeader.{header_of}
use Rattle.elf_linking.specs.declared.error.LinkError.{LinkError}
use Rattle.elf_linking.specs.declared.error.LinkError.TheVariants.{Elf}
use Rattle.elfaddr.specs.Asked.{AreLinesBy, AreOfFile, AreFailedOfFile, AreThere}
use Rattle.elfaddr.specs.Debug.{ByNaming}
use Rattle.elfaddr.specs.declared.Options.{Options}
use Rattle.elfaddr.specs.declared.Source.{Source}
use Rattle.linking_programs.specs.Files.{OfHeader}
use Rattle.program_ends.specs.Ends as ends
use Rattle.program_ends.specs.declared.Fault.{Fault}
use Rattle.program_ends.specs.declared.json.Form.{Form}
use Rattle.xmas_elf.specs.Types.{ElfError}

-- a line for each address, by the symbols of an input that are asked for
abbrev pub AreInputLines : Form → Source → List ℕ → Bor (List ℕ) → List ℕ → Type 0
AreInputLines form source addresses input text = OfHeader input (λ file. AreLinesBy form (AreOfFile file source) file addresses text)

-- there are such symbols
abbrev pub AreInputThere : Source → Bor (List ℕ) → Type 0
AreInputThere source input = OfHeader input (λ file. AreThere (AreOfFile file source))

-- why there are none: an error of the header of an input, or of the file
pub data AreInputFailed (source : Source) (input : Bor (List ℕ)) : LinkError → Type 0 where
  no_header : (error : ElfError) → header_of input.now ≡ Err error → AreInputFailed source input (Elf error)
  no_symbols : (error : LinkError) → OfHeader input (λ file. AreFailedOfFile file source error)
      → AreInputFailed source input error

-- the same by the bytes that name the addresses of an input
abbrev pub AreNamedLines : Options → List ℕ → Bor (List ℕ) → List ℕ → Type 0
AreNamedLines options addresses input text = ByNaming options input (λ bytes. AreInputLines options.form options.source addresses bytes text)

-- the symbols that are asked for are there, in the file that names the addresses of an input
abbrev pub AreNamedThere : Options → Bor (List ℕ) → Type 0
AreNamedThere options input = ByNaming options input (AreInputThere options.source)

-- why they are not
abbrev pub IsNamedError : Options → Bor (List ℕ) → LinkError → Type 0
IsNamedError options input error = ByNaming options input (λ bytes. AreInputFailed options.source bytes error)

-- how the program ends for the file at a path: there is a text of its lines, or the fault
abbrev pub IsEnd : {R : Type 0} → Bor (List ℕ) → Options → List ℕ → (R → Option (List ℕ)) → Option R → Result (Unit {0}) (Fault LinkError) → Type 0
IsEnd path options addresses remaining file =
    ends.IsEnd path remaining file (AreNamedLines options addresses) (IsNamedError options) (AreNamedThere options)
