use Rattle.std.proofs.Common.{◌≡◌, Err, ap}
use Rattle.xmas_elf.specs.declared.report.ReportFault.TheVariants.{Elf}
use Rattle.elfinfo.proofs.ReportOutput.write_to.Goals as goal

pub returns-in-Err-Elf : goal.returns-in-Err-Elf
returns-in-Err-Elf g c =
    let is = c.in-Err-Elf.field-0-is in
    let same : c.in-Err-Elf.field-0 ≡ Elf c.in-Err-Elf.error = cc in
    (c.in-Err-Elf.ensures.failed c.in-Err-Elf.error).0 (ap (λ x. Err x) same)

pub returns : goal.returns
returns g c = λ error failed. let given = (c.in-Err-Write.ensures.failed error).1 failed in cc
