use Rattle.std.proofs.KnownBytes.{Appends-trans}
use Rattle.std.specs.Borrow.{Bor}
use Rattle.std.specs.Prelude.{List, ℕ, option_map}
use Rattle.elfload.proofs.Written.{interpreter_known, on_ok_so, records_written}
use Rattle.elfload.proofs.plans.write_records.Goals as goal
use Rattle.elf_loading.specs.Plan.{plan_file}

pub returns : goal.returns
returns g c =
    let plan = c.args.plan.now in
    let known = interpreter_known (plan_file plan) c.interpreter.result _ c.interpreter.ensures.missing c.interpreter.ensures.found in
    let rest = Appends-trans _ _ _ _ _ c.in_ok-write_head.ensures c.in_ok-write_rest.ensures in
    let kernel = Appends-trans _ _ _ _ _ rest c.in_ok-write_mapping_records.ensures in
    on_ok_so c.write_mapping_records-2.result _ _ (λ more.
    records_written plan.page c.args.path (plan_file plan) c.args.file.now c.head_of-head.result (option_map (λ (path : Bor (List ℕ)). path.now) c.interpreter.result) _ _ _ _ c.requires c.head_of-head.ensures known
    c.mappings.ensures.all c.mappings-2.ensures.all (Appends-trans _ _ _ _ _ kernel more)) c.write_mapping_records-2.ensures
