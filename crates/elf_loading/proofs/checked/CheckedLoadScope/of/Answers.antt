use Rattle.std.proofs.Common.{Ok, subst}
use Rattle.elf_loading.specs.CheckedLoads.{AreAllChecked}
use Rattle.elf_loading.specs.LoadScope.{loaded_objects}
use Rattle.elf_loading.proofs.CheckedScopes.{known_good}
use Rattle.elf_loading.proofs.checked.CheckedLoadScope.of.Goals as goal

pub invariant_of-result : goal.invariant_of-result
invariant_of-result g c =
    let fields = g.E.Entry.fields in
    let checked = subst (AreAllChecked fields c.objects.result.now) c.in-Ok.is c.check_objects.ensures in
    record { good = known_good fields (loaded_objects c.args.loads).now (subst (λ objects. AreAllChecked fields objects.now (Ok tt)) c.objects.ensures checked) }
