use Rattle.std.proofs.Common.{◌≡◌, ◌<◌, Some, get_or, length, refl, ap, sym, ◌∙◌, arith}
use Rattle.std.specs.Prelude.{slice_get}
use Rattle.std.proofs.lemmas.Option.{slice_get_read}
use Rattle.linking_programs.specs.declared.Input.{Input}
use Rattle.elfload.proofs.StartParts.{of_part}
use Rattle.elfload.proofs.starts.read_at.Goals as goal

pub returns : goal.returns
returns g c =
    let objects = c.args.objects.now in
    let inputs = c.args.inputs.now in
    let of = c.args.of in
    let object = c.index-objects-of.result in
    let input = c.index-inputs-of.result in
    let path = (get_or inputs of input).path in
    let below : of < length inputs = omega (arith, c.requires.below, c.requires.same) in
    let there : slice_get objects of ≡ Some object = slice_get_read objects (length objects) of object refl c.requires.below c.index-objects-of.is in
    let given : slice_get inputs of ≡ Some input = slice_get_read inputs (length inputs) of input refl below c.index-inputs-of.is in
    of_part g.E.Entry.fields inputs objects c.args.step (λ starts. starts.items) object input path c.read_part.result
    (ap (slice_get objects) c.requires.own ∙ there) (ap (slice_get inputs) c.requires.own ∙ given) (ap (λ (one : Input). one.path) (sym c.index-inputs-of.is)) c.read_part.ensures
