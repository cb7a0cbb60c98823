use Rattle.std.proofs.Common.{◌≡◌, ◌≤◌, [], ◌∷◌, length, subst, arith}
use Rattle.std.specs.Iterator.{YieldsFirst}
use Rattle.elf_debug.specs.Paths.{path_left}
use Rattle.elf_c.specs.DebugFiles.{MOST}
use Rattle.elf_c.proofs.DebugTexts.{all_written, nothing_written, written_more}
use Rattle.elf_c.proofs.debug_files.write_bytes.Goals as goal

pub bytes-init : goal.bytes-init
bytes-init c = nothing_written (path_left c.args.path) c.args.text.now

pub bytes-preserved : goal.bytes-preserved
bytes-preserved c =
    let so_far = c.bytes.invariant in
    let long = so_far.stored.long in
    let step : path_left c.bytes.rest ≡ c.in-Some.byte ∷ path_left c.next.new.self =
    subst (λ r. YieldsFirst path_left c.bytes.rest r c.next.new.self) c.in-Some.is c.next.ensures.steps in
    let fits : length c.bytes.text ≤ MOST = omega (arith, long) in
    written_more (path_left c.args.path) (path_left c.bytes.rest) (path_left c.next.new.self) c.in-Some.byte c.bytes.count c.saturating_add-count.result c.args.text.now c.bytes.text c.put.new.out
    so_far step fits c.saturating_add-count.ensures c.put.ensures

pub returns-clause-text : goal.returns-clause-text
returns-clause-text c =
    let ended = subst (λ r. YieldsFirst path_left c.bytes.rest r c.next.new.self) c.in_default.is c.next.ensures.steps in
    (all_written (path_left c.args.path) (path_left c.bytes.rest) c.bytes.count c.args.text.now c.bytes.text c.bytes.invariant ended.0).0

pub returns-clause-size : goal.returns-clause-size
returns-clause-size c =
    let ended = subst (λ r. YieldsFirst path_left c.bytes.rest r c.next.new.self) c.in_default.is c.next.ensures.steps in
    (all_written (path_left c.args.path) (path_left c.bytes.rest) c.bytes.count c.args.text.now c.bytes.text c.bytes.invariant ended.0).1
