-- A scope with the plans of its objects.
use Rattle.std.specs.Prelude.{List}
use Rattle.std.specs.Borrow.{Bor}
use Rattle.elf_linking.specs.Scope.{scope_objects}
use Rattle.elf_linking.specs.declared.object.DynamicObject.{DynamicObject}
use Rattle.elf_loading.specs.declared.load_scope.LoadScope.{LoadScope}
use Rattle.elf_loading.specs.declared.plan.LoadPlan.{LoadPlan}

-- its objects
abbrev pub loaded_objects : {E : Type 0} → {r : _} → LoadScope E r → Bor (List (DynamicObject E r))
loaded_objects loads = scope_objects loads.scope

-- its plans
abbrev pub loaded_plans : {E : Type 0} → {r : _} → LoadScope E r → Bor (List LoadPlan)
loaded_plans loads = loads.plans
