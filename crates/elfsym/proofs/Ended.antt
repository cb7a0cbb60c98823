-- An answer of which is known what was written is one to the question.
use Rattle.std.proofs.Common.{◌≡◌, List, ℕ, Option, Some, None, sym, subst}
use Rattle.elfsym.specs.Ends.{IsAnswer}
use Rattle.elfsym.specs.declared.Question as questions
use Rattle.program_ends.specs.Appended.{AppendsSome}
use Rattle.program_ends.specs.Ends.{OfFile}
use Rattle.program_ends.specs.declared.json.Form.{Form}

pub answered : {S R : Type 0} (form : Form) (text_of : S → List ℕ) (remaining : R → Option (List ℕ)) (file : Option R) (question asked : questions.Question S) (old new : Option (List ℕ)) → question ≡ asked → OfFile remaining file (λ input. AppendsSome (IsAnswer form text_of asked input) old new) → OfFile remaining file (λ input. (text : List ℕ) × IsAnswer form text_of question input text)
answered form text_of remaining None question asked old new same never = absurd never
answered form text_of remaining (Some reader) question asked old new same (input, known, written) =
    (input, known, (written.0, subst (λ q. IsAnswer form text_of q input written.0) (sym same) written.1))
