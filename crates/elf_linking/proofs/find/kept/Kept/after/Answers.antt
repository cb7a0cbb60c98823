use Rattle.std.proofs.Common.{◌≡◌, None, Some, Ok, Err, true, false, sym, ap, subst, ◌∙◌, slice_get}
use Rattle.elf_linking.specs.Find.{IsCandidate, accepted, dynamic_symbols}
use Rattle.elf_linking.specs.Kept.{GoesOn, keeps, passed}
use Rattle.elf_linking.specs.VersionTables.{result_map}
use Rattle.elf_linking.specs.Versions.{version_list}
use Rattle.xmas_elf.specs.SymbolTable.{table_symbols}
use Rattle.elf_linking.proofs.find.kept.Kept.after.Goals as goal

pub returns-in_default : goal.returns-in_default
returns-in_default g c = λ table.
    let none : slice_get (table_symbols c.args.symbols.now).items c.args.index ≡ None = sym c.get.ensures ∙ c.in_default.is in
    passed (λ e at. absurd (cc))

pub returns-then-not-is_candidate : goal.returns-then-not-is_candidate
returns-then-not-is_candidate g c = λ table.
    let versions = version_list c.args.versions.now in
    let file = dynamic_symbols table (table_symbols c.args.symbols.now) versions in
    let symbol : slice_get file.symbols.items c.args.index ≡ Some c.in-Some.symbol = sym c.get.ensures ∙ c.in-Some.is in
    let lacks : IsCandidate file c.args.name.now c.args.use_ c.in-Some.symbol → c.is_candidate.result ≡ true = (c.is_candidate.ensures table versions).1 in
    passed (λ e at. (
    let same : e ≡ c.in-Some.symbol = cc in
    let no : IsCandidate file c.args.name.now c.args.use_ e → ⊥ = λ has. (let so = lacks (subst (IsCandidate file c.args.name.now c.args.use_) same has) in let not = c.if-not-is_candidate.true in cc) in
    (λ asked. no asked.0, λ shown. no shown.0)))

pub returns-in-Ok-true : goal.returns-in-Ok-true
returns-in-Ok-true g c = λ table.
    let versions = version_list c.args.versions.now in
    let is : accepted versions c.args.wanted.now c.args.index ≡ Ok true = sym c.accepts.ensures.exact ∙ c.in-Ok-true.is ∙ ap (λ b. Ok b) c.in-Ok-true.field-0-test in
    record {
      entry = c.in-Some.symbol;
      symbol = sym c.get.ensures ∙ c.in-Some.is;
      asked = ((c.is_candidate.ensures table versions).0 c.if-not-is_candidate.false, λ no. cc);
      is_answer = sym (ap (result_map (λ _. Some (c.args.index, c.in-Some.symbol))) is);
    }

pub returns-then-is_shown : goal.returns-then-is_shown
returns-then-is_shown g c = λ table.
    let versions = version_list c.args.versions.now in
    let file = dynamic_symbols table (table_symbols c.args.symbols.now) versions in
    let is : accepted versions c.args.wanted.now c.args.index ≡ Ok false = sym c.accepts.ensures.exact ∙ c.in-Ok-false.is ∙ ap (λ b. Ok b) c.in-Ok-false.field-0-test in
    let candidate = (c.is_candidate.ensures table versions).0 c.if-not-is_candidate.false in
    let shown = c.is_shown.ensures.0 c.if-is_shown.true in
    subst (GoesOn file c.args.name.now c.args.wanted.now c.args.use_ c.args.self c.args.index) (sym c.with.ensures)
    (keeps c.in-Some.symbol (sym c.get.ensures ∙ c.in-Some.is) (λ asked. asked.1 is) (candidate, (shown.0, (shown.1, λ same. cc))))

pub returns-else-is_shown : goal.returns-else-is_shown
returns-else-is_shown g c = λ table.
    let is : accepted (version_list c.args.versions.now) c.args.wanted.now c.args.index ≡ Ok false = sym c.accepts.ensures.exact ∙ c.in-Ok-false.is ∙ ap (λ b. Ok b) c.in-Ok-false.field-0-test in
    let hidden = c.if-is_shown.false in
    passed (λ e at. (λ asked. asked.1 is, λ shown. (let so = c.is_shown.ensures.1 (shown.1.0, shown.1.1.0) in cc)))

pub returns-in-Err : goal.returns-in-Err
returns-in-Err g c = λ table.
    let versions = version_list c.args.versions.now in
    let is : accepted versions c.args.wanted.now c.args.index ≡ Err c.in-Err.error = sym c.accepts.ensures.exact ∙ c.in-Err.is in
    record {
      entry = c.in-Some.symbol;
      symbol = sym c.get.ensures ∙ c.in-Some.is;
      asked = ((c.is_candidate.ensures table versions).0 c.if-not-is_candidate.false, λ no. cc);
      is_answer = sym (ap (result_map (λ _. Some (c.args.index, c.in-Some.symbol))) is);
    }
