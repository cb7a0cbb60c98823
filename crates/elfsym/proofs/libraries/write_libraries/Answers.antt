use Rattle.std.proofs.Common.{subst}
use Rattle.elf_linking.specs.DynamicView.{needed_bytes_in, view_entries}
use Rattle.elfsym.specs.Libraries.{AreLibraryLines, HasFirstLibrary, IsNameError, by_name}
use Rattle.elfsym.proofs.libraries.write_libraries.Goals as goal
use Rattle.program_ends.proofs.Ends.{ends_so}

pub returns-in-Ok : goal.returns-in-Ok
returns-in-Ok g c =
    let entries = view_entries c.in-Ok.view in
    let strings_are = c.in-Ok.ensures.exact.1 in
    ends_so _ _ _ _ _ _ _ c.write_needed.result _ _
    (λ done text lines. record {
      entries = entries;
      entries_are = c.in-Ok.ensures.exact.0;
      lines = subst (λ strings. AreLibraryLines c.args.form (needed_bytes_in strings entries) text) strings_are lines;
    })
    (λ error why. by_name entries c.in-Ok.ensures.exact.0 (subst (λ strings. IsNameError c.args.form (needed_bytes_in strings entries) error) strings_are why))
    (λ begun. record {
      entries = entries;
      entries_are = c.in-Ok.ensures.exact.0;
      first = subst (λ strings. HasFirstLibrary (needed_bytes_in strings entries)) strings_are begun;
    }) c.write_needed.ensures
