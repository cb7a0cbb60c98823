-- How the program ends for files of one class.
use Rattle.std.proofs.Common.{◌≡◌, ℕ, Bool, List, Result, Ok, Err, sym, subst}
use Rattle.std.specs.Prelude.{IfErr, IfOk, MatchResult, ⊤}
use Rattle.elf_linking.specs.declared.error.LinkError.{LinkError}
use Rattle.elf_linking.specs.declared.object.DynamicObject.{DynamicObject}
use Rattle.elfbind.specs.Answers.{AreFilesFailed, AreFilesWritten, IsAnswer, IsEndOf, answered, stopped}
use Rattle.linking_programs.specs.Files.{AreObjectsOf, failed_fault_of}
use Rattle.program_ends.specs.declared.Fault.{Fault}
use Rattle.elfbind.specs.declared.Question as questions
use Rattle.linking_programs.specs.declared.Input.{Input}
use Rattle.linking_programs.specs.declared.Failed as reasons
use Rattle.program_ends.specs.Stops.{IsStop}
use Rattle.program_ends.specs.declared.Stop.{Stop}
use Rattle.xmas_elf.specs.Symbol.{SymbolFields}

pub end_of : {E W : Type 0} (r : _) (fields : E → SymbolFields) (class size : ℕ) (inputs : List Input) (question : questions.Question) (printed : Result (W × Bool) (Stop (reasons.Failed LinkError))) (Written : W × Bool → Type 0) (ended : Result Bool (Fault LinkError))
    → IfOk printed Written
    → ((back : W × Bool) → Written back → (objects : List (DynamicObject E r)) × AreObjectsOf class size inputs objects × (text : List ℕ) × IsAnswer fields inputs objects question back.1 text)
    → IfErr printed (IsStop (AreFilesFailed r fields class size inputs question) (AreFilesWritten r fields class size inputs question) ⊤)
    → MatchResult printed (λ back. ended ≡ Ok back.1) (λ stop. ended ≡ Err (failed_fault_of stop)) → IsEndOf r fields class size inputs question ended
end_of r fields class size inputs question (Ok back) Written ended written so none is =
    let (objects, are, text, answer) = so back written in
    subst (IsEndOf r fields class size inputs question) (sym is) (answered back.1 (record { objects = objects; objects_are = are; text = text; answer = answer }))
end_of r fields class size inputs question (Err stop) Written ended none so why is =
    subst (IsEndOf r fields class size inputs question) (sym is) (stopped stop why)
