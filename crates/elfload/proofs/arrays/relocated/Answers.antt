use Rattle.std.proofs.Common.{◌≡◌, Ok, Err, refl, subst}
use Rattle.std.specs.Prelude.{slice_get}
use Rattle.elf_loading.specs.WordsLeft.{AreWordsOf, own_relocations, relocations_left}
use Rattle.elf_loading.specs.declared.error.LoadError.TheVariants.{Link}
use Rattle.elf_loading.specs.declared.words.Binding.TheVariants.{Now}
use Rattle.elfload.specs.Words.{IsTextError, by_relocations}
use Rattle.elfload.proofs.StartValues.{relocated_ends, stops_at}
use Rattle.elfload.proofs.arrays.relocated.Goals as goal

pub returns-in-Ok : goal.returns-in-Ok
returns-in-Ok g c =
    let of = c.args.of in
    let are = subst (λ lent. AreWordsOf lent of Now c.in-Ok.words) c.new.ensures c.in-Ok.ensures.begun in
    let left = subst (λ lent. own_relocations (slice_get lent.now of) ≡ Ok (relocations_left c.in-Ok.words)) c.new.ensures c.in-Ok.ensures.exact in
    relocated_ends g.E.Entry.fields c.args.objects.now c.args.objects refl of c.args.slots.now c.args.values.items c.in-Ok.words c.args.path are left (λ after. after.items) c.set_words.result c.set_words.ensures

pub returns-in-Err : goal.returns-in-Err
returns-in-Err g c =
    let of = c.args.of in
    stops_at (IsTextError g.E.Entry.fields Now c.args.objects.now of) c.args.path (Link c.in-Err.error) c.failure.result
    (by_relocations c.in-Err.error (subst (λ lent. own_relocations (slice_get lent.now of) ≡ Err c.in-Err.error) c.new.ensures c.in-Err.ensures.exact)) c.failure.ensures
