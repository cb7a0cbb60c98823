use Rattle.std.proofs.Common.{rules, ◌≡◌, ◌<◌, ◌+◌, ◌++◌, ◌∷◌, [], List, get_or, length, subst, sym}
use Rattle.std.proofs.lemmas.List.{get_or_default}
use Rattle.elf_addresses.specs.declared.difference.SizedPart.{SizedPart}
use Rattle.elfsize.specs.declared.totals.Run.{Run}
use Rattle.elfsize.proofs.Compared.{ArePartsTo, part_step}
use Rattle.elfsize.proofs.changes.named_parts.Goals as goal

pub loop-one-preserved : goal.loop-one-preserved
loop-one-preserved c =
    let side = c.args.side.now in
    let sizes = c.args.sizes.now in
    let index = c.loop-one.one-index in
    let none : Run = record { part = 0; size = 0 } in
    let item = get_or sizes index none in
    let parts = c.loop-one.parts.items in
    let part = c.named_part.result in
    let below : index < length sizes = c.loop-one-test.true in
    let pushed : c.push.new.self.items ≡ parts ++ (part ∷ []) = search rules in
    subst (λ (all : List SizedPart). ArePartsTo side.file side.symbols sizes (index + 1) all) (sym pushed)
    (part_step side.file side.symbols sizes index item part parts below (get_or_default sizes index none item below) c.named_part.ensures c.loop-one.invariant)
