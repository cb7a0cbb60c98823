-- A flush after a report, which keeps the bytes that are known, removes nothing from it.
use Rattle.std.proofs.Common.{List, Option, None, Some, Result, Ok, Err, IsOkAnd, ℕ, ◌∙◌}
use Rattle.std.specs.Borrow.{Bor}
use Rattle.std.specs.Io.KnownBytes.{Appends, Keeps}
use Rattle.elf_base.specs.FileHeader.{header_of}
use Rattle.xmas_elf.specs.Prelude.{ElfError, Header}
use Rattle.xmas_elf.specs.Report.{AppendsReport, WritesReport}

kept_behind : (old new kept : Option (List ℕ)) (bytes : List ℕ) → Appends old new bytes → Keeps new kept → Appends old kept bytes
kept_behind None new kept bytes grown keeps = tt
kept_behind (Some a) None kept bytes grown keeps = absurd grown
kept_behind (Some a) (Some b) None bytes grown keeps = absurd keeps
kept_behind (Some a) (Some b) (Some c) bytes grown keeps = keeps ∙ grown

report_kept : (input : Bor (List ℕ)) (old new kept : Option (List ℕ)) (header : Result Header ElfError) → IsOkAnd header (λ h. AppendsReport (record { input = input; header = h }) old new) → Keeps new kept → IsOkAnd header (λ h. AppendsReport (record { input = input; header = h }) old kept)
report_kept input old new kept (Ok h) (verdict, is, grown) keeps = (verdict, is, kept_behind old new kept _ grown keeps)
report_kept input old new kept (Err error) written keeps = absurd written

pub report_flushed : (input : Bor (List ℕ)) (old new kept : Option (List ℕ)) → WritesReport input old new → Keeps new kept → WritesReport input old kept
report_flushed input old new kept written keeps = report_kept input old new kept (header_of input.now) written keeps
