use Rattle.std.proofs.Common.{◌≡◌, length, refl, subst, ◌∙◌, arith}
use Rattle.std.proofs.lemmas.List.{length-set}
use Rattle.std.proofs.lemmas.Option.{slice_get-get_or}
use Rattle.elf_c.specs.LoadObjects.{AreFirstMade}
use Rattle.elf_c.proofs.LoadObjects.{all_made, one_more_made}
use Rattle.elf_c.proofs.SearchPaths.{IsAsker, made_maps}
use Rattle.elf_c.proofs.search_paths.chain_of.Goals as goal

pub loop-index-init : goal.loop-index-init
loop-index-init c = record { long = refl; first = λ index asker below at. absurd (omega (arith, below)) }

pub loop-index-preserved : goal.loop-index-preserved
loop-index-preserved c =
    let long = c.loop-index.invariant.long in
    let fit = c.requires in
    let below = c.loop-index-test.true in record {
      long = length-set c.loop-index.chain c.loop-index.index c.asker_of.result ∙ long;
      first = one_more_made IsAsker c.args.askers.now c.loop-index.chain c.loop-index.index _ c.asker_of.result (omega (arith, below, long, fit))
          (slice_get-get_or c.args.askers.now c.loop-index.index _ below) c.asker_of.ensures c.loop-index.invariant.first;
    }

pub returns : goal.returns
returns c =
    let most = c.loop-index.auto.index-end in
    let past = c.loop-index-test.false in
    let end : c.loop-index.index ≡ length c.args.askers.now = omega (arith, most, past) in
    made_maps c.args.askers.now _ (all_made IsAsker c.args.askers.now c.loop-index.chain c.loop-index.invariant.long c.requires
    (subst (λ count. AreFirstMade IsAsker c.args.askers.now count c.loop-index.chain) end c.loop-index.invariant.first))
