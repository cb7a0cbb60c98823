use Rattle.std.proofs.Common.{◌≡◌, ℕ, Option, Some, None, Err, refl, sym, ap, ◌∙◌, subst}
use Rattle.std.specs.Prelude.{IsSomeAnd}
use Rattle.elf_linking.specs.DynamicView.{number_with, view_entries}
use Rattle.elf_linking.specs.LinkedSections.{IsRelr, relr_at}
use Rattle.elf_linking.specs.declared.view.tags.TheConstants.{DT_RELR, DT_RELRSZ}
use Rattle.elf_c.specs.Batch.{FillsBy}
use Rattle.elf_c.specs.PackedRelocations.{address_among, address_by, dynamic_packed_address, entries_address}
use Rattle.elf_c.specs.declared.status.AnyError.TheVariants.{Link}
use Rattle.elf_c.proofs.packed_relocations.fill_from_segment.Goals as goal

pub returns-in-Some-Err : goal.returns-in-Some-Err
returns-in-Some-Err c =
    let file = c.args.file.now in
    let entries = view_entries c.in_ok-read.field-0 in
    let error = c.in-Some-Err.error in
    let none : IsRelr file entries (Some (Err error)) = subst (IsRelr file entries) (c.in-Some-Err.is ∙ ap (λ r. Some r) c.in-Some-Err.field-0-is) c.relr.ensures in
    subst (λ found. FillsBy (dynamic_packed_address file) c.args.first c.args.out.now found (Err (Link error)) c.args.out.now)
    (sym (ap (entries_address file c.args.first) c.in_ok-read.ensures.exact.0 ∙ by_start (number_with DT_RELR entries) none)) (refl, refl)
  where
    by_start : (start : Option ℕ) → IsSomeAnd start (λ address. relr_at c.args.file.now (number_with DT_RELRSZ (view_entries c.in_ok-read.field-0)) address ≡ Err c.in-Some-Err.error)
        → address_by c.args.file.now c.args.first (number_with DT_RELRSZ (view_entries c.in_ok-read.field-0)) start ≡ Err (Link c.in-Some-Err.error)
    by_start None never = absurd never
    by_start (Some address) is = ap (address_among c.args.first) is
