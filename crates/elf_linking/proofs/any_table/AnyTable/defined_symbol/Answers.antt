use Rattle.std.proofs.Common.{rules, ◌≡◌, ◌≢◌, None, Ok, Some, ap, refl, subst, ◌∙◌}
use Rattle.elf_linking.specs.AnyTable.{HasDefinedName, LooksBy}
use Rattle.elf_linking.proofs.AnyTables.{none_by, zero_or}
use Rattle.elf_linking.proofs.lemmas.Looking.{looks_with}
use Rattle.xmas_elf.specs.SymbolTable.{table_symbols}
use Rattle.elf_linking.proofs.any_table.AnyTable.defined_symbol.Goals as goal

-- the test passes each symbol that some section defines
pub returns-in-Ok-None-clause-found : goal.returns-in-Ok-None-clause-found
returns-in-Ok-None-clause-found g c = λ i e is_for.
    zero_or _ (none_by _ _ (λ e. (g.E.Entry.fields e).shndx ≢ 0) (λ e defined. search rules) _ _ _ _
    (c.in-Ok-None.is ∙ ap (λ x. Ok x) c.in-Ok-None.field-0-is)
    (c.lookup.ensures.good (λ e within yes no. search rules) (c.in_ok-check.ensures.accepts.0 refl)) i e is_for)

-- a look-up by the test is one for a defined symbol with the name
pub returns-in-Ok-None-clause-answer : goal.returns-in-Ok-None-clause-answer
returns-in-Ok-None-clause-answer g c =
    let all = table_symbols c.args.symbols.now in
    let is : c.lookup.result ≡ Ok None = c.in-Ok-None.is ∙ ap (λ x. Ok x) c.in-Ok-None.field-0-is in
    let looks = c.lookup.ensures.answer (λ e within yes no. search rules) in (
      looks.0,
      subst (λ r. LooksBy (HasDefinedName all c.args.name.now) c.args.self.now all.items c.args.name.now r looks.0) is
          (looks_with _ _ (λ e. (g.E.Entry.fields e).shndx ≢ 0) (λ e defined. search rules) (λ e returned. search rules) c.args.self.now all c.args.name.now _ looks.0 looks.1),
    )

-- a look-up by the test is one for a defined symbol with the name
pub returns-in-Ok-Some-clause-answer : goal.returns-in-Ok-Some-clause-answer
returns-in-Ok-Some-clause-answer g c =
    let all = table_symbols c.args.symbols.now in
    let is : c.lookup.result ≡ Ok (Some c.in-Ok-Some.found) = c.in-Ok-Some.is ∙ ap (λ x. Ok x) c.in-Ok-Some.field-0-is in
    let looks = c.lookup.ensures.answer (λ e within yes no. search rules) in (
      looks.0,
      subst (λ r. LooksBy (HasDefinedName all c.args.name.now) c.args.self.now all.items c.args.name.now r looks.0) is
          (looks_with _ _ (λ e. (g.E.Entry.fields e).shndx ≢ 0) (λ e defined. search rules) (λ e returned. search rules) c.args.self.now all c.args.name.now _ looks.0 looks.1),
    )
