use Rattle.std.proofs.Common.{◌≡◌, [], ◌∷◌, sym}
use Rattle.elf_loading.specs.Loads.{loads_left}
use Rattle.elf_loading.proofs.LoadPasses.{none_passed, error_passed, rest_passed}
use Rattle.elf_loading.proofs.load_pass.pass_loads.Goals as goal

pub loop-load-preserved : goal.loop-load-preserved
loop-load-preserved c =
    let gives : loads_left c.loop-load.load-iterator ≡ c.in-Some.load ∷ loads_left c.next.new.self = c.in-Some.ensures.steps in
    rest_passed c.args.page c.args.limit c.args.len c.args.wanted.now (loads_left c.args.loads) c.loop-load.pass c.keep.new.self _ _ c.in-Some.load c.in-Ok.end gives (sym c.in-Ok.ensures.value) c.keep.ensures c.loop-load.invariant

pub returns-in-Err-clause-checked : goal.returns-in-Err-clause-checked
returns-in-Err-clause-checked c =
    let gives : loads_left c.loop-load.load-iterator ≡ c.in-Some.load ∷ loads_left c.next.new.self = c.in-Some.ensures.steps in
    error_passed c.args.page c.args.limit _ c.args.wanted.now _ c.loop-load.pass _ _ c.in-Some.load c.in-Err.error gives (sym c.in-Err.ensures.value) c.loop-load.invariant

pub returns-clause-checked : goal.returns-clause-checked
returns-clause-checked c =
    let gives : loads_left c.loop-load.load-iterator ≡ [] = c.in-None.ensures.steps.0 in
    (none_passed c.args.page c.args.limit c.args.len c.args.wanted.now (loads_left c.args.loads) c.loop-load.pass _ gives c.loop-load.invariant).0

pub returns-clause-found : goal.returns-clause-found
returns-clause-found c =
    let gives : loads_left c.loop-load.load-iterator ≡ [] = c.in-None.ensures.steps.0 in
    (none_passed c.args.page c.args.limit c.args.len c.args.wanted.now (loads_left c.args.loads) c.loop-load.pass _ gives c.loop-load.invariant).1
