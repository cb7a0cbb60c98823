use Rattle.std.proofs.Common.{refl}
use Rattle.elfsize.specs.Lines.{sizes_text}
use Rattle.elfsize.proofs.lines.write_all_of.Goals as goal

pub returns-in-Ok : goal.returns-in-Ok
returns-in-Ok g c =
    let lines = c.args.lines.now in
    let side = lines.side.now in
    (sizes_text lines.form lines.path.now side.file side.symbols c.args.sizes.now, (c.args.sizes.now, c.requires, refl), c.in-Ok.ensures)
