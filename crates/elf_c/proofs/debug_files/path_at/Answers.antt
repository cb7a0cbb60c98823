use Rattle.std.proofs.Common.{◌≡◌, ◌<◌, ◌∷◌, ap, subst, sym, ◌∙◌, slice_get, arith}
use Rattle.std.specs.Iterator.{YieldsFirstBy}
use Rattle.elf_debug.specs.Paths.{paths_left, way_parts}
use Rattle.elf_c.proofs.DebugTexts.{one_on}
use Rattle.elf_c.proofs.debug_files.path_at.Goals as goal

pub ways-preserved : goal.ways-preserved
ways-preserved c =
    let step : paths_left c.ways.rest ≡ way_parts c.in-Some.found ∷ paths_left c.next.new.self =
    subst (λ r. YieldsFirstBy way_parts paths_left c.ways.rest r c.next.new.self) c.in-Some.is c.next.ensures.steps in
    let some : 0 < c.ways.left = omega arith in
    one_on (way_parts c.in-Some.found) (paths_left c.next.new.self) c.ways.left some ∙ ap (λ l. slice_get l c.ways.left) (sym step) ∙ c.ways.invariant
