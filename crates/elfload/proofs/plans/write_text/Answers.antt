use Rattle.std.proofs.KnownBytes.{Appends-trans}
use Rattle.elfload.proofs.Written.{on_ok_so, plan_written}
use Rattle.elfload.proofs.plans.write_text.Goals as goal
use Rattle.elf_loading.specs.Plan.{plan_file}

pub returns : goal.returns
returns g c =
    let plan = c.args.plan.now in
    let (interpreter, named, written) = c.in_ok-write_interpreter.ensures in
    let head = Appends-trans _ _ _ _ _ c.in_ok-write.ensures.bytes written in
    let kernel = Appends-trans _ _ _ _ _ (Appends-trans _ _ _ _ _ head c.in_ok-write_all.ensures.bytes) c.in_ok-write_mappings.ensures in
    let glibc = Appends-trans _ _ _ _ _ kernel c.in_ok-write_all-2.ensures.bytes in
    on_ok_so c.write_mappings-2.result _ _ (λ more.
    plan_written plan.page c.args.path (plan_file plan) c.args.file.now c.head_of.result interpreter _ _ _ _ c.requires c.head_of.ensures named
    c.mappings.ensures.all c.mappings-2.ensures.all (Appends-trans _ _ _ _ _ glibc more)) c.write_mappings-2.ensures
