use Rattle.std.proofs.Common.{Err, Ok, refl, sym, subst}
use Rattle.linking_callers.specs.SecondFile.{IsChecked, faulty, passed, unread, unversioned}
use Rattle.linking_callers.proofs.callers.second_file.checked.Goals as goal

pub returns-in-Err : goal.returns-in-Err
returns-in-Err g c = subst (λ read. IsChecked g.E.Entry.fields read (Err c.in-Err.error)) (sym c.in-Err.is) (unread c.in-Err.error)

pub returns-in-Ok-check_versions : goal.returns-in-Ok-check_versions
returns-in-Ok-check_versions g c = subst (λ read. IsChecked g.E.Entry.fields read (Ok c.in-Ok.object)) (sym c.in-Ok.is) (passed c.in-Ok.object (c.in-Ok-check.ensures.accepts.0 refl) (c.in-Ok-check_versions.ensures.accepts.0 refl))

pub returns-in-Err-check_versions : goal.returns-in-Err-check_versions
returns-in-Err-check_versions g c = subst (λ read. IsChecked g.E.Entry.fields read (Err c.in-Err-check_versions.error)) (sym c.in-Ok.is) (unversioned c.in-Ok.object c.in-Err-check_versions.error (c.in-Ok-check.ensures.accepts.0 refl) (sym c.in-Err-check_versions.ensures.exact))

pub returns-in-Err-check : goal.returns-in-Err-check
returns-in-Err-check g c = subst (λ read. IsChecked g.E.Entry.fields read (Err c.in-Err-check.error)) (sym c.in-Ok.is) (faulty c.in-Ok.object c.in-Err-check.error c.in-Err-check.ensures.exact)
