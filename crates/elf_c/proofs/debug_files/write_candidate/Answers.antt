use Rattle.std.proofs.Common.{◌≡◌, None, Some, ap, slice_get, ◌∙◌}
use Rattle.elf_debug.specs.Paths.{way_parts}
use Rattle.elf_c.specs.DebugFiles.{IsSaid, ways_of}
use Rattle.elf_c.proofs.DebugAnswers.{candidate_found, candidate_none}
use Rattle.elf_c.proofs.debug_files.write_candidate.Goals as goal

pub returns-in-Some : goal.returns-in-Some
returns-in-Some c =
    let wanted = c.of-wanted.result in
    let said : IsSaid c.args.file.now wanted = record { id = c.of-wanted.ensures.id; link = c.of-wanted.ensures.link; only = c.of-wanted.ensures.only } in
    let at : Some (way_parts c.in-Some.found) ≡ slice_get (ways_of wanted c.args.path.now c.args.directory.now) c.args.index =
    c.in-Some.ensures ∙ ap (λ l. slice_get l c.args.index) c.paths.ensures in
    candidate_found c.args.file.now wanted said c.args.path.now c.args.directory.now c.args.index c.in-Some.found c.args.text.now c.write_bytes.new.text c.write_bytes.result c.how_number.result
    at c.write_bytes.ensures.text c.write_bytes.ensures.size c.how_number.ensures

pub returns-in-None : goal.returns-in-None
returns-in-None c =
    let wanted = c.of-wanted.result in
    let said : IsSaid c.args.file.now wanted = record { id = c.of-wanted.ensures.id; link = c.of-wanted.ensures.link; only = c.of-wanted.ensures.only } in
    let at : None ≡ slice_get (ways_of wanted c.args.path.now c.args.directory.now) c.args.index =
    c.in-None.ensures ∙ ap (λ l. slice_get l c.args.index) c.paths.ensures in
    candidate_none c.args.file.now wanted said c.args.path.now c.args.directory.now c.args.index c.args.text.now at
