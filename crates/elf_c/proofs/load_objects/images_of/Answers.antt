use Rattle.std.proofs.Common.{rules, of_calls}
use Rattle.elf_c.proofs.LoadObjects.{images_by}
use Rattle.elf_c.proofs.load_objects.images_of.Goals as goal

pub returns : goal.returns
returns c = images_by c.args.loads.now c.padded.result c.requires.fit c.padded.ensures _ c.map.result c.map.ensures.items.long c.map.ensures.items.at
    (λ a made f f' called. search (rules, of_calls))
