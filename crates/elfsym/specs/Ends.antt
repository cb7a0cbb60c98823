-- How the program ends (this project's own).
use Rattle.std.specs.Prelude.{ℕ, List, Option, Result}
use Rattle.std.specs.Borrow.{Bor}
use Rattle.elf_linking.specs.declared.error.LinkError.{LinkError}
use Rattle.elfsym.specs.Libraries.{AreInputLibraries, AreInputLibrariesBegun, AreInputLibrariesFailed}
use Rattle.elfsym.specs.Lines.{AreInputLines, AreInputLinesBegun, AreInputLinesFailed}
use Rattle.elfsym.specs.declared.Question as questions
use Rattle.elfsym.specs.declared.Question.TheVariants.{Needed, Symbols}
use Rattle.program_ends.specs.Appended.{AppendsSome}
use Rattle.program_ends.specs.Ends as ends
use Rattle.program_ends.specs.Stops.{HasBegun}
use Rattle.program_ends.specs.declared.Fault.{Fault}
use Rattle.program_ends.specs.declared.json.Form.{Form}

-- what is written of an input, by the question
abbrev pub IsAnswer : {S : Type 0} → Form → (S → List ℕ) → questions.Question S → Bor (List ℕ) → List ℕ → Type 0
IsAnswer form text_of Needed input text = AreInputLibraries form input text
IsAnswer form text_of (Symbols references) input text = AreInputLines form text_of input references.now text

-- why nothing is: the error of the input for this question
abbrev pub IsFailed : {S : Type 0} → Form → (S → List ℕ) → questions.Question S → Bor (List ℕ) → LinkError → Type 0
IsFailed form text_of Needed input error = AreInputLibrariesFailed form input error
IsFailed form text_of (Symbols references) input error = AreInputLinesFailed form text_of input references.now error

-- how far the program has come for this question when a write fails: the input can be read, and lines of it may be written
abbrev pub IsBegun : {S : Type 0} → Form → (S → List ℕ) → questions.Question S → Bor (List ℕ) → Type 0
IsBegun form text_of Needed input = HasBegun (AreInputLibrariesBegun input) (AppendsSome (AreInputLibraries form input))
IsBegun form text_of (Symbols references) input = HasBegun (AreInputLinesBegun form text_of input references.now)
    (AppendsSome (AreInputLines form text_of input references.now))

-- how a question about the file at a path ends: there is a text for it, or the fault
abbrev pub IsEnd : {S R : Type 0} → Form → (S → List ℕ) → Bor (List ℕ) → questions.Question S → (R → Option (List ℕ)) → Option R → Result (Unit {0}) (Fault LinkError) → Type 0
IsEnd form text_of path question remaining file =
    ends.IsEnd path remaining file (IsAnswer form text_of question) (IsFailed form text_of question) (IsBegun form text_of question)
