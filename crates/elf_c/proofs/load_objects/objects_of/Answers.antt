use Rattle.std.proofs.Common.{◌≡◌, [], length, refl, subst, ◌∙◌, arith}
use Rattle.std.proofs.lemmas.List.{length-set}
use Rattle.std.proofs.lemmas.Option.{slice_get-get_or}
use Rattle.elf_c.specs.LoadObjects.{AreFirstMade, IsObjectOf}
use Rattle.elf_linking.specs.DynamicObject.{IsObjectErrorOf}
use Rattle.elf_c.proofs.LoadObjects.{all_made, first_made, one_more_made, unmade_first}
use Rattle.elf_c.proofs.load_objects.objects_of.Goals as goal

pub returns-in-Err : goal.returns-in-Err
returns-in-Err g c = record {
  failed = unmade_first (IsObjectOf g.E.LinkedSymbol.CLASS g.E.Record.SIZE) c.args.loads.now (λ load. IsObjectErrorOf g.E.LinkedSymbol.CLASS g.E.Record.SIZE load.file.now) 0 _ [] c.in-Err.error
      (slice_get-get_or c.args.loads.now 0 _ c.requires.some) (λ index load below is. absurd (omega (arith, below))) c.in-Err.ensures.exact;
}

pub loop-index-init : goal.loop-index-init
loop-index-init g c = record {
  long = refl;
  first = first_made (IsObjectOf g.E.LinkedSymbol.CLASS g.E.Record.SIZE) c.args.loads.now _ c.in-Ok.first (slice_get-get_or c.args.loads.now 0 _ c.requires.some) c.in-Ok.ensures.exact;
}

pub returns-in-Err-of_bytes : goal.returns-in-Err-of_bytes
returns-in-Err-of_bytes g c = record {
  failed = unmade_first (IsObjectOf g.E.LinkedSymbol.CLASS g.E.Record.SIZE) c.args.loads.now (λ load. IsObjectErrorOf g.E.LinkedSymbol.CLASS g.E.Record.SIZE load.file.now) c.loop-index.index _ c.loop-index.objects c.in-Err-of_bytes.error
      (slice_get-get_or c.args.loads.now c.loop-index.index _ c.loop-index-test.true) c.loop-index.invariant.first c.in-Err-of_bytes.ensures.exact;
}

pub loop-index-preserved : goal.loop-index-preserved
loop-index-preserved g c =
    let long = c.loop-index.invariant.long in
    let fit = c.requires.fit in
    let below = c.loop-index-test.true in record {
      long = length-set c.loop-index.objects c.loop-index.index c.in-Ok-of_bytes.object ∙ long;
      first = one_more_made (IsObjectOf g.E.LinkedSymbol.CLASS g.E.Record.SIZE) c.args.loads.now c.loop-index.objects c.loop-index.index _ c.in-Ok-of_bytes.object (omega (arith, below, long, fit))
          (slice_get-get_or c.args.loads.now c.loop-index.index _ below) c.in-Ok-of_bytes.ensures.exact c.loop-index.invariant.first;
    }

pub returns : goal.returns
returns g c =
    let most = c.loop-index.auto.index-end c.requires.some in
    let past = c.loop-index-test.false in
    let end : c.loop-index.index ≡ length c.args.loads.now = omega (arith, most, past) in
    all_made (IsObjectOf g.E.LinkedSymbol.CLASS g.E.Record.SIZE) c.args.loads.now c.loop-index.objects c.loop-index.invariant.long c.requires.fit
    (subst (λ count. AreFirstMade (IsObjectOf g.E.LinkedSymbol.CLASS g.E.Record.SIZE) c.args.loads.now count c.loop-index.objects) end c.loop-index.invariant.first)
