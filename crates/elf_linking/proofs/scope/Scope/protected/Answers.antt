use Rattle.std.proofs.Common.{Ok, Some, None, ◌≡◌, ap, ◌∙◌, subst, rules}
use Rattle.elf_linking.specs.Scope.{IsBound, at_home, elsewhere, scope_objects, undefined, unfound, unread}
use Rattle.elf_linking.specs.declared.find.Use.TheVariants.{Defined}
use Rattle.elf_linking.proofs.scope.Scope.protected.Goals as goal

pub returns-in-Ok-None : goal.returns-in-Ok-None
returns-in-Ok-None g c =
    let finds = IsBound g.E.Entry.fields (scope_objects c.args.self.now).now c.args.own.object c.args.name.now c.args.wanted.now in
    unfound (subst (finds c.args.use_) (c.in-Ok-None.is ∙ ap (λ x. Ok x) c.in-Ok-None.field-0-is) c.find_bytes.ensures.answer)

pub returns-in-Err : goal.returns-in-Err
returns-in-Err g c =
    let finds = IsBound g.E.Entry.fields (scope_objects c.args.self.now).now c.args.own.object c.args.name.now c.args.wanted.now in
    unread c.in-Err.error (subst (finds c.args.use_) c.in-Err.is c.find_bytes.ensures.answer)

pub returns-then-defined-own : goal.returns-then-defined-own
returns-then-defined-own g c =
    let finds = IsBound g.E.Entry.fields (scope_objects c.args.self.now).now c.args.own.object c.args.name.now c.args.wanted.now in
    let found = subst (finds c.args.use_) (c.in-Ok-Some.is ∙ ap (λ x. Ok x) c.in-Ok-Some.field-0-is) c.find_bytes.ensures.answer in
    let defined = subst (finds Defined) (c.in-Ok-Some-find_bytes.is ∙ ap (λ x. Ok x) c.in-Ok-Some-find_bytes.field-0-is) c.find_bytes-2.ensures.answer in
    let home : c.in-Ok-Some-find_bytes.defined.object ≡ c.args.own.object = search rules in
    at_home c.in-Ok-Some.found (Some c.in-Ok-Some-find_bytes.defined) found defined home

pub returns-else-defined-own : goal.returns-else-defined-own
returns-else-defined-own g c =
    let finds = IsBound g.E.Entry.fields (scope_objects c.args.self.now).now c.args.own.object c.args.name.now c.args.wanted.now in
    let found = subst (finds c.args.use_) (c.in-Ok-Some.is ∙ ap (λ x. Ok x) c.in-Ok-Some.field-0-is) c.find_bytes.ensures.answer in
    let defined = subst (finds Defined) (c.in-Ok-Some-find_bytes.is ∙ ap (λ x. Ok x) c.in-Ok-Some-find_bytes.field-0-is) c.find_bytes-2.ensures.answer in
    elsewhere c.in-Ok-Some.found c.in-Ok-Some-find_bytes.defined found defined c.if-defined-own.false

pub returns-in-Ok-None-find_bytes : goal.returns-in-Ok-None-find_bytes
returns-in-Ok-None-find_bytes g c =
    let finds = IsBound g.E.Entry.fields (scope_objects c.args.self.now).now c.args.own.object c.args.name.now c.args.wanted.now in
    let found = subst (finds c.args.use_) (c.in-Ok-Some.is ∙ ap (λ x. Ok x) c.in-Ok-Some.field-0-is) c.find_bytes.ensures.answer in
    at_home c.in-Ok-Some.found None found (subst (finds Defined) (c.in-Ok-None-find_bytes.is ∙ ap (λ x. Ok x) c.in-Ok-None-find_bytes.field-0-is) c.find_bytes-2.ensures.answer) tt

pub returns-in-Err-find_bytes : goal.returns-in-Err-find_bytes
returns-in-Err-find_bytes g c =
    let finds = IsBound g.E.Entry.fields (scope_objects c.args.self.now).now c.args.own.object c.args.name.now c.args.wanted.now in
    let found = subst (finds c.args.use_) (c.in-Ok-Some.is ∙ ap (λ x. Ok x) c.in-Ok-Some.field-0-is) c.find_bytes.ensures.answer in
    undefined c.in-Ok-Some.found c.in-Err-find_bytes.error found (subst (finds Defined) c.in-Err-find_bytes.is c.find_bytes-2.ensures.answer)
