use Rattle.std.proofs.Common.{◌≡◌, ℕ, List, Option, Result, Ok, Err, IfErr, IsOkAnd, Bor, sym, subst, ◌∙◌}
use Rattle.std.proofs.lemmas.Result.{on_ok_weaker}
use Rattle.elf_base.specs.FileHeader.{header_of}
use Rattle.elf_base.specs.declared.header.Header.{Header}
use Rattle.xmas_elf.specs.Report.{AppendsReport, FailsExactly, WritesReport}
use Rattle.xmas_elf.specs.declared.ElfFile.{ElfFile}
use Rattle.xmas_elf.specs.declared.report.ReportFault.{ReportFault}
use Rattle.xmas_elf.specs.declared.report.ReportFault.TheVariants.{Write}
use Rattle.xmas_elf.proofs.report.report_with.Goals as goal

failed_by : (bytes : List ℕ) (header : Header) (answer : Result (Unit {0}) ReportFault) → header_of bytes ≡ Ok header → IfErr answer (λ fault. fault ≡ Write) → FailsExactly bytes answer
failed_by bytes header (Ok _) accepted faults error = (λ is. cc, λ is. (let both : Ok header ≡ Err error = sym accepted ∙ is in cc))
failed_by bytes header (Err fault) accepted faults error = (λ is. cc, λ is. (let both : Ok header ≡ Err error = sym accepted ∙ is in cc))

pub returns-in-Ok-clause-failed : goal.returns-in-Ok-clause-failed
returns-in-Ok-clause-failed g c = failed_by c.args.input.now c.in-Ok.file.header c.write_file.result c.in-Ok.ensures.header c.write_file.ensures.fault

-- the report of the input's file is that of the input
of_input : (input : Bor (List ℕ)) (file : ElfFile) (old new : Option (List ℕ)) → file.input ≡ input → header_of input.now ≡ Ok file.header → AppendsReport file old new → WritesReport input old new
of_input input file old new is accepted appended =
    let whole : AppendsReport (record { input = input; header = file.header }) old new = subst (λ part. AppendsReport (record { input = part; header = file.header }) old new) is appended in
    subst (λ r. IsOkAnd r (λ header. AppendsReport (record { input = input; header = header }) old new)) (sym accepted) whole

pub returns-in-Ok-clause-written : goal.returns-in-Ok-clause-written
returns-in-Ok-clause-written g c = on_ok_weaker c.write_file.result (of_input c.args.input c.in-Ok.file _ _ c.in-Ok.ensures.input c.in-Ok.ensures.header) c.write_file.ensures.written
