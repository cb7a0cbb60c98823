use Rattle.std.proofs.Common.{is_some, Some, None, refl, ap, subst, sym, ◌∙◌}
use Rattle.elf_linking.specs.Versions.{version_tables}
use Rattle.program_libraries.specs.NeededNames.{IsViewOf}
use Rattle.program_libraries.specs.NeededVersions.{defined, without}
use Rattle.program_libraries.proofs.needed_versions.provided_by.Goals as goal

pub returns-in_default : goal.returns-in_default
returns-in_default c = without None (subst (IsViewOf c.args.bytes.now) c.in_default.is c.in_ok-view.ensures) refl

pub returns-then-is_none : goal.returns-then-is_none
returns-then-is_none c = without (Some c.in-Some.view) (subst (IsViewOf c.args.bytes.now) c.in-Some.is c.in_ok-view.ensures)
    (ap is_some (sym c.entry.ensures) ∙ c.if-is_none.ensures)

pub returns : goal.returns
returns c = defined c.in-Some.view (version_tables c.in_ok-versions_by.field-0) (subst (IsViewOf c.args.bytes.now) c.in-Some.is c.in_ok-view.ensures) c.in_ok-versions_by.ensures
