use Rattle.std.proofs.Common.{subst, arith}
use Rattle.elf_addresses.specs.Owner.{IsOwner}
use Rattle.elf_addresses.proofs.Runs.{run_owner}
use Rattle.elf_addresses.proofs.owner.owner_of.Goals as goal

pub returns-in-Some : goal.returns-in-Some
returns-in-Some c = (omega arith, subst (λ f. IsOwner f c.args.offset c.in-Some.owner) c.new-headers.ensures (run_owner _ _ _ _ c.in-Some.ensures))

pub returns : goal.returns
returns c = (omega arith, subst (λ f. IsOwner f c.args.offset c.part_owner.result) c.new-headers.ensures c.part_owner.ensures)
