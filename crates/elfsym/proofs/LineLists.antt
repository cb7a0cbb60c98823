-- The lines for an input.
use Rattle.std.proofs.Common.{◌≡◌, ℕ, List, Result, Ok, subst, sym}
use Rattle.std.specs.Borrow.{Bor}
use Rattle.std.specs.Prelude.{IsOkAnd}
use Rattle.elf_base.specs.FileHeader.{header_of}
use Rattle.elfsym.specs.Lines.{AreFileLines, AreInputLines}
use Rattle.program_ends.specs.declared.json.Form.{Form}
use Rattle.xmas_elf.specs.Types.{ElfError, ElfFile, Header}

-- the lines for a file are those for its input
pub for_input : {S : Type 0} (form : Form) (text_of : S → List ℕ) (input : Bor (List ℕ)) (file : ElfFile) (references : List S) (text : List ℕ) → file.input ≡ input → header_of input.now ≡ Ok file.header → AreFileLines form text_of file references text → AreInputLines form text_of input references text
for_input form text_of input file references text same header are =
    subst (λ (r : Result Header ElfError). IsOkAnd r (λ h. AreFileLines form text_of (record { input = input; header = h }) references text)) (sym header)
    (subst (λ (i : Bor (List ℕ)). AreFileLines form text_of (record { input = i; header = file.header }) references text) same are)
