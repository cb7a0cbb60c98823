use Rattle.std.proofs.Common.{◌∙◌}
use Rattle.elf_loading.proofs.KernelChecks.{kernel_maps}
use Rattle.elf_loading.proofs.plan.LoadPlan.check_load_by.Goals as goal

pub returns-in-Kernel-clause-programs : goal.returns-in-Kernel-clause-programs
returns-in-Kernel-clause-programs c = λ is ok room.
    c.check_program.ensures ∙ kernel_maps c.args.file.now c.args.page c.args.limit c.requires ok room
