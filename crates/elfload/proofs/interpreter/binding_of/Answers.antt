use Rattle.std.proofs.Common.{length, refl, sym, ◌∙◌, true, false}
use Rattle.std.proofs.lemmas.Option.{slice_get_read}
use Rattle.elfload.proofs.Interpreters.{binding_found}
use Rattle.elfload.proofs.interpreter.binding_of.Goals as goal

pub returns-then-is_interpreter : goal.returns-then-is_interpreter
returns-then-is_interpreter g c =
    let objects = c.args.objects.now in
    let object = c.index-objects-of.result in
    binding_found objects c.args.when c.args.of object (slice_get_read objects (length objects) c.args.of object refl c.requires c.index-objects-of.is) _ c.program_path.ensures
    true _ (sym c.if-is_interpreter.true ∙ c.is_interpreter.ensures) refl

pub returns-else-is_interpreter : goal.returns-else-is_interpreter
returns-else-is_interpreter g c =
    let objects = c.args.objects.now in
    let object = c.index-objects-of.result in
    binding_found objects c.args.when c.args.of object (slice_get_read objects (length objects) c.args.of object refl c.requires c.index-objects-of.is) _ c.program_path.ensures
    false _ (sym c.if-is_interpreter.false ∙ c.is_interpreter.ensures) refl
