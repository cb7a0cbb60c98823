use Rattle.std.proofs.Common.{Err, ap, ◌∙◌}
use Rattle.std.specs.Prelude.{option_map}
use Rattle.elf_debug.specs.Wanted.{checked}
use Rattle.elf_c.specs.DebugFiles.{IsSaid, check_answer}
use Rattle.elf_c.proofs.debug_files.check.Goals as goal

pub returns-in-Ok : goal.returns-in-Ok
returns-in-Ok c =
    let wanted = c.of-wanted.result in
    let said : IsSaid c.args.file.now wanted = record { id = c.of-wanted.ensures.id; link = c.of-wanted.ensures.link; only = c.of-wanted.ensures.only } in
    let way = ap (λ how. checked how (option_map (λ id. id.now) wanted.build_id) (option_map (λ link. link.1) wanted.link) c.args.debug.now) c.how_of.ensures in
    (wanted, said, ap check_answer (c.in-Ok.ensures ∙ way))

pub returns-in-Err : goal.returns-in-Err
returns-in-Err c =
    let wanted = c.of-wanted.result in
    let said : IsSaid c.args.file.now wanted = record { id = c.of-wanted.ensures.id; link = c.of-wanted.ensures.link; only = c.of-wanted.ensures.only } in
    let way = ap (λ how. checked how (option_map (λ id. id.now) wanted.build_id) (option_map (λ link. link.1) wanted.link) c.args.debug.now) c.how_of.ensures in
    (wanted, said, ap Err c.mismatch_error.ensures ∙ ap check_answer (c.in-Err.ensures ∙ way))
