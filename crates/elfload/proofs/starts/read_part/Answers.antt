use Rattle.std.proofs.Common.{Some, ap, ◌∙◌}
use Rattle.elf_base.specs.FileHeader.{header_fields}
use Rattle.elf_linking.specs.DynamicView.{number_with, view_entries}
use Rattle.elf_linking.specs.declared.view.tags.TheConstants.{DT_INIT}
use Rattle.elfload.specs.Starts.{single}
use Rattle.elfload.proofs.StartParts.{memory_only}
use Rattle.elfload.proofs.starts.read_part.Goals as goal

pub returns-in-Preinit : goal.returns-in-Preinit
returns-in-Preinit g c = rw (c.in-Preinit.is) c.read_array.ensures

pub returns-in-Init : goal.returns-in-Init
returns-in-Init g c = rw (c.in-Init.is) (memory_only _ _ _ c.single.result
    (λ starts is. is ∙ ap (single c.args.path c.args.step) (c.entry.ensures ∙ ap (λ view. number_with DT_INIT (view_entries view)) c.view.ensures)) c.single.ensures)

pub returns-in-InitArray : goal.returns-in-InitArray
returns-in-InitArray g c = rw (c.in-InitArray.is) c.read_array-in-InitArray.ensures

pub returns-in-Entry : goal.returns-in-Entry
returns-in-Entry g c = rw (c.in-Entry.is) (memory_only _ _ _ c.single-in-Entry.result
    (λ starts is. is ∙ ap (λ entry. single c.args.path c.args.step (Some entry)) (c.entry_point-entry.ensures ∙ ap (λ file. (header_fields file.header.pt2).entry_point) c.file.ensures)) c.single-in-Entry.ensures)
