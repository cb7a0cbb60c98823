use Rattle.std.proofs.Common.{subst, sym}
use Rattle.elf_addresses.specs.Symtab.{IsSymtabFailed, no_parts, not_whole}
use Rattle.elf_addresses.proofs.symtab.symtab_at.Goals as goal

pub returns-in-Err-clause-symbols : goal.returns-in-Err-clause-symbols
returns-in-Err-clause-symbols g c = no_parts c.in-Err.error c.in-Err.ensures.parts

pub returns-in-Err-new-clause-symbols : goal.returns-in-Err-new-clause-symbols
returns-in-Err-new-clause-symbols g c =
    subst (λ e. IsSymtabFailed g.E.Record.SIZE c.args.file.now c.args.index e) (sym c.in-Err-new.ensures.1)
    (not_whole (c.in-Ok.parts.0.now, c.in-Ok.parts.1.now) c.in-Ok.ensures.parts c.in-Err-new.ensures.0)
