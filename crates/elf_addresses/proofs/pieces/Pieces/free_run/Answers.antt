use Rattle.std.proofs.Common.{subst}
use Rattle.elf_addresses.specs.Owner.{PartBegins}
use Rattle.elf_addresses.specs.Runs.{IsNext}
use Rattle.elf_addresses.proofs.Runs.{free_piece}
use Rattle.elf_addresses.proofs.pieces.Pieces.free_run.Goals as goal

pub returns : goal.returns
returns c =
    let file = c.args.self.now.sections.file.now in
    let next = c.next_part-end.result in
    let begins = subst (λ n. IsNext (PartBegins file) c.args.byte n next) c.len-len.ensures c.next_part-end.ensures in
    rw (c.between_or_behind.ensures, c.len-len.ensures) (free_piece file c.args.byte next c.requires.headers c.requires.sections c.requires.segments c.requires.within begins)
