use Rattle.std.proofs.Common.{map, ap, ◌∙◌}
use Rattle.std.specs.Prelude.{unwrap_or}
use Rattle.std.proofs.lemmas.Option.{unwrap_or-slice_get}
use Rattle.elf_c.specs.SizeChanges.{sized}
use Rattle.elf_c.proofs.size_changes.part_or.Goals as goal

pub returns-in-None : goal.returns-in-None
returns-in-None c = ap (λ x. unwrap_or x c.args.none) c.in-None.ensures ∙ unwrap_or-slice_get (map sized c.args.parts.now) c.args.index c.args.none
