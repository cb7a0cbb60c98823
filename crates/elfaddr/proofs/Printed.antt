-- What is said of how lines are written, where that implies more.
use Rattle.std.proofs.Common.{◌≡◌, ℕ, List, Option, Result, Ok, Err}
use Rattle.std.specs.Borrow.{Bor}
use Rattle.std.specs.Prelude.{MatchResult, ⊤}
use Rattle.elf_addresses.specs.declared.claim.Claim.{Claim}
use Rattle.elf_base.specs.FileHeader.{header_of}
use Rattle.elf_linking.specs.declared.error.LinkError.{LinkError}
use Rattle.elfaddr.specs.Asked.{AreLinesBy, AreOfFile, AreFailedOfFile, AreThere}
use Rattle.elfaddr.specs.Debug.{AreNaming}
use Rattle.elfaddr.specs.Ends.{AreInputLines, AreInputFailed, AreInputThere, AreNamedLines, AreNamedThere, IsNamedError, no_symbols}
use Rattle.elfaddr.specs.Lines.{AreLines}
use Rattle.elfaddr.specs.declared.Options.{Options}
use Rattle.elfaddr.specs.declared.Source.{Source}
use Rattle.linking_programs.proofs.Objects.{of_header}
use Rattle.program_ends.proofs.Ends.{fault_so}
use Rattle.program_ends.specs.Appended.{AppendsSome}
use Rattle.program_ends.specs.Ends.{IsFault, fault_of}
use Rattle.program_ends.specs.Stops.{IsStop}
use Rattle.program_ends.specs.declared.Fault.{Fault}
use Rattle.program_ends.specs.declared.Stop as stops
use Rattle.program_ends.specs.declared.json.Form.{Form}
use Rattle.program_ends.specs.declared.Stop.TheVariants as stops_are
use Rattle.xmas_elf.specs.Types.{ElfFile}

-- lines have no error of their own
pub lines_fault : (path : Bor (List ℕ)) (Written : Type 0) (stop : stops.Stop LinkError) → IsStop (λ error. ⊥) Written ⊤ stop → IsFault path (λ error. ⊥) ⊤ (fault_of path stop)
lines_fault path Written (stops_are.Failed error) never = absurd never
lines_fault path Written stops_are.Write why = tt
lines_fault path Written stops_are.Memory why = tt

module _ {W : Type 0} (contents : W → Option (List ℕ)) (path : Bor (List ℕ)) (form : Form) (addresses : List ℕ) (old : Option (List ℕ)) where
  -- lines by symbols that are asked for
  pub printed_by : (file : ElfFile) (Asked : (ℕ → Option Claim) → (ℕ → List ℕ) → Type 0) (Is : LinkError → Type 0) (claim_of : ℕ → Option Claim) (name_of : ℕ → List ℕ) (result : Result W (Fault LinkError)) → Asked claim_of name_of
      → MatchResult result (λ back. AppendsSome (AreLines form claim_of name_of file addresses) old (contents back)) (IsFault path (λ error. ⊥) ⊤)
      → MatchResult result (λ back. AppendsSome (AreLinesBy form Asked file addresses) old (contents back)) (IsFault path Is (AreThere Asked))
  printed_by file Asked Is claim_of name_of (Ok back) asked (text, lines, grown) = (text, record { claim_of = claim_of; name_of = name_of; asked = asked; lines = lines }, grown)
  printed_by file Asked Is claim_of name_of (Err fault) asked why = fault_so path (λ error. ⊥) Is ⊤ (AreThere Asked) fault (λ error never. absurd never) (λ done. record { claim_of = claim_of; name_of = name_of; asked = asked }) why

  -- lines by symbols that are asked for in another way too
  pub printed_so : (file : ElfFile) (Asked Wanted : (ℕ → Option Claim) → (ℕ → List ℕ) → Type 0) (Was Is : LinkError → Type 0) (result : Result W (Fault LinkError)) → ((claim_of : ℕ → Option Claim) (name_of : ℕ → List ℕ) → Asked claim_of name_of → Wanted claim_of name_of) → ((error : LinkError) → Was error → Is error)
      → MatchResult result (λ back. AppendsSome (AreLinesBy form Asked file addresses) old (contents back)) (IsFault path Was (AreThere Asked))
      → MatchResult result (λ back. AppendsSome (AreLinesBy form Wanted file addresses) old (contents back)) (IsFault path Is (AreThere Wanted))
  printed_so file Asked Wanted Was Is (Ok back) so failed (text, are, grown) = (text, record { claim_of = are.claim_of; name_of = are.name_of; asked = so are.claim_of are.name_of are.asked; lines = are.lines }, grown)
  printed_so file Asked Wanted Was Is (Err fault) so failed why = fault_so path Was Is (AreThere Asked) (AreThere Wanted) fault failed (λ there. record { claim_of = there.claim_of; name_of = there.name_of; asked = so there.claim_of there.name_of there.asked }) why

  -- lines by a file are those by its input
  pub printed_input : (source : Source) (input : Bor (List ℕ)) (file : ElfFile) (result : Result W (Fault LinkError)) → file.input ≡ input → header_of input.now ≡ Ok file.header
      → MatchResult result (λ back. AppendsSome (AreLinesBy form (AreOfFile file source) file addresses) old (contents back)) (IsFault path (AreFailedOfFile file source) (AreThere (AreOfFile file source)))
      → MatchResult result (λ back. AppendsSome (AreInputLines form source addresses input) old (contents back)) (IsFault path (AreInputFailed source input) (AreInputThere source input))
  printed_input source input file (Ok back) same header (text, are, grown) = (text, of_header (λ f. AreLinesBy form (AreOfFile f source) f addresses text) input file same header are, grown)
  printed_input source input file (Err fault) same header why = fault_so path (AreFailedOfFile file source) (AreInputFailed source input) (AreThere (AreOfFile file source)) (AreInputThere source input) fault
      (λ error failed. no_symbols error (of_header (λ f. AreFailedOfFile f source error) input file same header failed))
      (λ there. of_header (λ f. AreThere (AreOfFile f source)) input file same header there) why

  -- lines by the bytes that name the addresses of an input
  pub printed_named : (options : Options) (input bytes : Bor (List ℕ)) (result : Result W (Fault LinkError)) → AreNaming options input bytes
      → MatchResult result (λ back. AppendsSome (AreInputLines options.form options.source addresses bytes) old (contents back)) (IsFault path (AreInputFailed options.source bytes) (AreInputThere options.source bytes))
      → MatchResult result (λ back. AppendsSome (AreNamedLines options addresses input) old (contents back)) (IsFault path (IsNamedError options input) (AreNamedThere options input))
  printed_named options input bytes (Ok back) naming (text, are, grown) = (text, (bytes, naming, are), grown)
  printed_named options input bytes (Err fault) naming why = fault_so path (AreInputFailed options.source bytes) (IsNamedError options input) (AreInputThere options.source bytes) (AreNamedThere options input) fault
      (λ error failed. (bytes, naming, failed)) (λ there. (bytes, naming, there)) why
