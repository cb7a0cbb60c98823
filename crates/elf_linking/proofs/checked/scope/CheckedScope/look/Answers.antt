use Rattle.std.proofs.Common.{Option, sym, ap, ◌∙◌}
use Rattle.elf_linking.specs.CheckedScope.{asked_fields, bound_for}
use Rattle.elf_linking.specs.declared.scope.asking.Asked.TheVariants.{Look}
use Rattle.elf_linking.proofs.CheckedScopes.{bound_for_look, bound_for_protected}
use Rattle.elf_linking.proofs.checked.scope.CheckedScope.look.Goals as goal

pub returns-in-None : goal.returns-in-None
returns-in-None g c =
    c.find_bytes.ensures ∙ sym (bound_for_look g.E.Entry.fields c.args.self.now c.args.from c.args.index c.args.name c.args.use_ c.args.wanted.now)
    ∙ ap (λ (own : Option g.row.E.Denot). bound_for c.args.self.now c.args.from c.args.index (asked_fields g.E.Entry.fields (Look c.args.name c.args.wanted.now c.args.use_ own))) (sym c.in-None.is)

pub returns-in-Some : goal.returns-in-Some
returns-in-Some g c =
    c.protected.ensures ∙ sym (bound_for_protected g.E.Entry.fields c.args.self.now c.args.from c.args.index c.args.name c.args.use_ c.args.wanted.now c.in-Some.symbol)
    ∙ ap (λ (own : Option g.row.E.Denot). bound_for c.args.self.now c.args.from c.args.index (asked_fields g.E.Entry.fields (Look c.args.name c.args.wanted.now c.args.use_ own))) (sym c.in-Some.is)
