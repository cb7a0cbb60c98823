use Rattle.std.proofs.Common.{◌∙◌, None, sym, subst}
use Rattle.std.specs.List.{AllByRecursion}
use Rattle.elf_loading.specs.Bytes.{IsByteOf}
use Rattle.elf_loading.specs.Mappings.{IsMapped, mappings_of}
use Rattle.elf_loading.specs.Segments.{loads_of}
use Rattle.elf_loading.proofs.LoadBytes.{byte_of_file, byte_of_mapping, byte_of_zeros}
use Rattle.elf_loading.proofs.plan.LoadPlan.byte_at.Goals as goal
use Rattle.elf_loading.specs.Plan.{plan_file}

pub returns-clause-file : goal.returns-clause-file
returns-clause-file c = λ load has from to.
    let plan = c.args.self.now in
    c.find_byte.ensures ∙ byte_of_file (plan_file plan) plan.page plan.limit plan.end c.args.by c.args.address plan.paged plan.checked load has from to

pub returns-clause-zeros : goal.returns-clause-zeros
returns-clause-zeros c = λ load has from to.
    let plan = c.args.self.now in
    c.find_byte.ensures ∙ byte_of_zeros (plan_file plan) plan.page plan.limit plan.end c.args.by c.args.address plan.paged plan.checked load has from to

pub returns-clause-mapped : goal.returns-clause-mapped
returns-clause-mapped c =
    let plan = c.args.self.now in
    subst (λ byte. AllByRecursion (λ mapping. IsMapped c.args.address mapping → IsByteOf mapping c.args.address byte) (mappings_of plan.page c.args.by None (loads_of (plan_file plan)))) (sym c.find_byte.ensures)
    (byte_of_mapping (plan_file plan) plan.page plan.limit plan.end c.args.by c.args.address plan.paged plan.checked)
