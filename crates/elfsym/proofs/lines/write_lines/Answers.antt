use Rattle.std.proofs.Common.{sym, ◌∙◌}
use Rattle.elf_linking.proofs.lemmas.Objects.{class_same, versions_of_object}
use Rattle.elf_linking.specs.DynamicObject.{object_dynamic_symbols}
use Rattle.xmas_elf.specs.Symbol.{dyn_entry_32_fields, dyn_entry_64_fields}
use Rattle.elfsym.specs.Lines.{by_symbols, narrow, narrow_begun, narrow_file, wide, wide_begun, wide_file}
use Rattle.elfsym.proofs.lines.write_lines.Goals as goal
use Rattle.program_ends.proofs.Ends.{ends_so}

pub returns-in-Ok : goal.returns-in-Ok
returns-in-Ok g c =
    let object = c.in-Ok.object in
    let all = object_dynamic_symbols dyn_entry_32_fields object in
    let are = versions_of_object object 1 dyn_entry_32_fields c.args.file.now c.in-Ok.ensures in
    ends_so _ _ _ _ _ _ _ c.write_checked.result _ _ (λ done text lines. narrow all are lines)
    (λ error why. narrow_file (class_same 1 _ _ _ _ are.symbols.bytes_are) (by_symbols all are why))
    (λ begun. narrow_begun all are begun) c.write_checked.ensures

pub returns-in-Ok-read : goal.returns-in-Ok-read
returns-in-Ok-read g c =
    let object = c.in-Ok-read.object in
    let all = object_dynamic_symbols dyn_entry_64_fields object in
    let are = versions_of_object object 2 dyn_entry_64_fields c.args.file.now c.in-Ok-read.ensures in
    ends_so _ _ _ _ _ _ _ c.write_checked-in-Ok-read.result _ _ (λ done text lines. wide all are lines)
    (λ error why. wide_file (λ narrow_class. absurd (let never = sym (class_same 2 _ _ _ _ are.symbols.bytes_are) ∙ narrow_class in cc)) (by_symbols all are why))
    (λ begun. wide_begun all are begun) c.write_checked-in-Ok-read.ensures
