use Rattle.std.proofs.Common.{◌≡◌, Ok, subst, sym, true}
use Rattle.std.specs.Str.{bytes_eq}
use Rattle.elf_linking.specs.DynamicView.{text_in_strings}
use Rattle.elf_linking.specs.Loaded.{lent}
use Rattle.elf_linking.specs.VersionTables.{result_map}
use Rattle.elf_linking.proofs.TextsInPlace.{text_stands}
use Rattle.elf_linking.proofs.view.needed.is_text_by.Goals as goal

pub returns-then-is_found_at : goal.returns-then-is_found_at
returns-then-is_found_at c =
    subst (λ strings. Ok true ≡ result_map (λ text. bytes_eq text c.args.wanted.now) (text_in_strings (lent strings) c.args.place)) (sym c.in-Ok.is)
    (text_stands c.in-Ok.table.now c.args.place c.args.wanted.now _ c.is_found_at.ensures c.if-is_found_at.true)
