use Rattle.std.proofs.Common.{◌≤◌, length, arith}
use Rattle.elf_addresses.proofs.Keys.{sorted_more}
use Rattle.elf_addresses.proofs.index.keys.sort_runs.Goals as goal

pub loop-start-preserved : goal.loop-start-preserved
loop-start-preserved g c =
    let claims = c.args.claims.now in
    let run = c.run_end-end in
    let bound : run.result ≤ length c.loop-start.words = omega (arith, run.ensures.bound, c.loop-start.invariant.are.count) in
    sorted_more (g.C.Claims.claim_of claims) (g.C.Claims.range_of claims) c.args.keys.now c.args.words.now c.loop-start.words c.sort_run.new.words c.loop-start.start run.result run.ensures.after bound c.sort_run.auto.words c.requires.rising run.ensures.run run.ensures.other
    c.sort_run.ensures.moved c.sort_run.ensures.outside c.sort_run.ensures.inside c.sort_run.ensures.sorted c.loop-start.invariant
