use Rattle.std.proofs.Common.{◌≡◌, ◌<◌, get_or, length, refl, sym, subst, arith, Ok, Err, ap, ◌∙◌}
use Rattle.std.specs.Prelude.{slice_get, ⊤}
use Rattle.std.proofs.lemmas.Option.{slice_get_read}
use Rattle.elf_base.specs.FileHeader.{machine_number}
use Rattle.elf_linking.specs.References.{file_machine}
use Rattle.elf_loading.specs.WordsLeft.{AreWordsOf, relocations_left, own_relocations}
use Rattle.elf_loading.specs.declared.error.LoadError.TheVariants.{Link}
use Rattle.elfload.specs.Interpreter.{binding_of}
use Rattle.elfload.specs.Words.{IsTextError, by_relocations}
use Rattle.linking_programs.specs.declared.Input.{Input}
use Rattle.elfload.proofs.ObjectWords.{object_ends_asked}
use Rattle.linking_programs.proofs.Objects.{at_index}
use Rattle.elfload.proofs.Stops.{error_stops}
use Rattle.elfload.proofs.words.write_object.Goals as goal

pub returns-in-Ok : goal.returns-in-Ok
returns-in-Ok g c =
    let objects = c.args.objects.now in
    let inputs = c.args.inputs.now in
    let of = c.args.of in
    let object = c.index-objects-of.result in
    let own = c.binding_of-own.result in
    let path = (get_or inputs of c.index-inputs-of.result).path in
    let there = slice_get_read objects (length objects) of object refl c.requires.below c.index-objects-of.is in
    let below : of < length inputs = omega (arith, c.requires.below, c.requires.same) in
    object_ends_asked g.E.Entry.fields c.args.form own inputs objects c.args.objects refl of c.raw-machine.result object c.in-Ok.words path _ _ there
    (c.raw-machine.ensures ∙ ap machine_number c.machine.ensures ∙ ap file_machine c.file.ensures)
    (subst (λ lent. AreWordsOf lent of own c.in-Ok.words) c.new.ensures c.in-Ok.ensures.begun)
    (subst (λ lent. own_relocations (slice_get lent.now of) ≡ Ok (relocations_left c.in-Ok.words)) c.new.ensures c.in-Ok.ensures.exact)
    (at_index (λ (input : Input). path ≡ input.path) inputs of c.index-inputs-of.result below c.index-inputs-of.is (ap (λ (input : Input). input.path) (sym c.index-inputs-of.is)))
    c.in_ok-write_heading.ensures (binding_of objects c.args.when of) c.binding_of-own.ensures _ c.write_items.result c.write_items.ensures

pub returns-in-Err : goal.returns-in-Err
returns-in-Err g c =
    let of = c.args.of in
    error_stops c.args.inputs.now of (IsTextError g.E.Entry.fields (binding_of c.args.objects.now c.args.when of) c.args.objects.now of) ⊤ ⊥ (Link c.in-Err.error) c.failure_at.result
    (by_relocations c.in-Err.error (subst (λ lent. own_relocations (slice_get lent.now of) ≡ Err c.in-Err.error) c.new.ensures c.in-Err.ensures.exact)) c.failure_at.ensures
