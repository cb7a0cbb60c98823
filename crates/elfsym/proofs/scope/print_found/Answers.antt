use Rattle.std.proofs.Common.{◌≡◌, true, false, List, ◌∙◌, refl, sym, subst}
use Rattle.elfsym.specs.Scope.{narrow_scope, short, wide_scope}
use Rattle.elfsym.proofs.Scopes.{end_stopped, end_written}
use Rattle.elfsym.proofs.scope.print_found.Goals as goal
use Rattle.linking_programs.specs.Files.{is_first_narrow}
use Rattle.linking_programs.specs.declared.Input.{Input}
use Rattle.xmas_elf.specs.Symbol.{dyn_entry_32_fields, dyn_entry_64_fields}

pub returns-in_default : goal.returns-in_default
returns-in_default g c = short refl

pub returns-in-Ok : goal.returns-in-Ok
returns-in-Ok g c = narrow_scope c.in-Some.inputs.items c.in-Some.ensures (subst (λ (xs : List Input). is_first_narrow xs ≡ true) c.deref.ensures.value (sym c.is_first_narrow.ensures ∙ c.if-is_first_narrow.true))
    (end_written _ dyn_entry_32_fields 1 16 c.args.form g.S.AsStr.text c.deref-then-is_first_narrow.result.now c.in-Some.inputs.items c.args.references.now _ _ c.deref-then-is_first_narrow.ensures.value c.in-Ok.ensures.written)

pub returns-then-is_first_narrow : goal.returns-then-is_first_narrow
returns-then-is_first_narrow g c = narrow_scope c.in-Some.inputs.items c.in-Some.ensures (subst (λ (xs : List Input). is_first_narrow xs ≡ true) c.deref.ensures.value (sym c.is_first_narrow.ensures ∙ c.if-is_first_narrow.true))
    (end_stopped _ dyn_entry_32_fields 1 16 c.args.form g.S.AsStr.text c.deref-then-is_first_narrow.result.now c.in-Some.inputs.items c.args.references.now c.in-Err.fault c.deref-then-is_first_narrow.ensures.value c.in-Err.ensures.fault)

pub returns-in-Ok-print_scope : goal.returns-in-Ok-print_scope
returns-in-Ok-print_scope g c = wide_scope c.in-Some.inputs.items c.in-Some.ensures (subst (λ (xs : List Input). is_first_narrow xs ≡ false) c.deref.ensures.value (sym c.is_first_narrow.ensures ∙ c.if-is_first_narrow.false))
    (end_written _ dyn_entry_64_fields 2 24 c.args.form g.S.AsStr.text c.deref-else-is_first_narrow.result.now c.in-Some.inputs.items c.args.references.now _ _ c.deref-else-is_first_narrow.ensures.value c.in-Ok-print_scope.ensures.written)

pub returns : goal.returns
returns g c = wide_scope c.in-Some.inputs.items c.in-Some.ensures (subst (λ (xs : List Input). is_first_narrow xs ≡ false) c.deref.ensures.value (sym c.is_first_narrow.ensures ∙ c.if-is_first_narrow.false))
    (end_stopped _ dyn_entry_64_fields 2 24 c.args.form g.S.AsStr.text c.deref-else-is_first_narrow.result.now c.in-Some.inputs.items c.args.references.now c.in-Err-print_scope.fault c.deref-else-is_first_narrow.ensures.value c.in-Err-print_scope.ensures.fault)
