use Rattle.std.proofs.Common.{◌≡◌, [], ◌∷◌, Ok, sym, ◌∙◌, rules}
use Rattle.elf_linking.specs.VersionTables.{places_left, records_data}
use Rattle.elf_linking.proofs.VersionItems.{left_entered}
use Rattle.elf_linking.proofs.versions.needs.NeedsIterator.next.Goals as goal

-- a need whose parts come next leaves the same items
pub loop-place-preserved : goal.loop-place-preserved
loop-place-preserved c =
    let old = c.loop-place.self in
    let records = records_data old.records in
    let bare : places_left records 12 old.parts ≡ [] = search rules in
    let begins : places_left records 12 old.needs ≡ Ok c.in-Ok.place ∷ places_left records 12 c.next-in-loop-place.new.self = search rules in
    c.enter.ensures.entered ∙ sym (left_entered records old.file old.room c.in-Ok.place _ _ _ bare begins) ∙ c.loop-place.invariant
