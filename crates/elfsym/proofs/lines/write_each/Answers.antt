use Rattle.std.proofs.Common.{◌≡◌, ◌+◌, ◌<◌, [], ◌∷◌, ◌++◌, List, ℕ, length, take, subst, sym, ◌∙◌, ap, arith}
use Rattle.std.proofs.KnownBytes.{Appends-nil, Appends-trans}
use Rattle.std.proofs.lemmas.List.{take_more}
use Rattle.std.specs.Io.KnownBytes.{Appends}
use Rattle.std.specs.List.{AllZip}
use Rattle.elf_linking.specs.DynamicObject.{object_dynamic_symbols}
use Rattle.elfsym.specs.Lines.{IsLine, IsSearchError}
use Rattle.program_ends.proofs.LineLists.{concat_one_more, zip_one_more}
use Rattle.elfsym.proofs.Stops.{stop_at}
use Rattle.elfsym.proofs.lines.write_each.Goals as goal
use Rattle.program_ends.specs.Stops.{IsStop}

pub loop-reference-init : goal.loop-reference-init
loop-reference-init g c = ([], tt, Appends-nil _)

pub loop-reference-preserved : goal.loop-reference-preserved
loop-reference-preserved g c =
    let file = object_dynamic_symbols g.E.Entry.fields c.args.object.now in
    let references = c.args.references.now in
    let index = c.loop-reference.reference-index in
    let item = c.reference-item.result in
    let (lines, each, grown) = c.loop-reference.invariant in
    let (line, is_line, more) = c.in-Ok.ensures in
    let below : index < length references = omega (arith, c.loop-reference-test.true) in
    let longer : take (index + 1) references ≡ take index references ++ (item ∷ []) =
    take_more references index item below ∙ ap (λ x. take index references ++ (x ∷ [])) (sym c.reference-item.is) in
    let own : IsLine c.args.form file (g.S.AsStr.text item) line = subst (λ (t : List ℕ). IsLine c.args.form file t line) c.as_str.ensures is_line in (
      lines ++ (line ∷ []),
      subst (λ xs. AllZip (λ reference one. IsLine c.args.form file (g.S.AsStr.text reference) one) xs (lines ++ (line ∷ []))) (sym longer)
          (zip_one_more (λ reference one. IsLine c.args.form file (g.S.AsStr.text reference) one) (take index references) lines item line each own),
      subst (λ (t : List ℕ). Appends (g.W.Write.contents c.args.out.now) (g.W.Write.contents c.write_line.new.out) t) (sym (concat_one_more lines line))
          (Appends-trans _ _ _ _ _ grown more),
    )

pub returns-in-Err : goal.returns-in-Err
returns-in-Err g c =
    let file = object_dynamic_symbols g.E.Entry.fields c.args.object.now in
    let references = c.args.references.now in
    let index = c.loop-reference.reference-index in
    let item = c.reference-item.result in
    let stop = c.in-Err.stop in
    let (lines, each, grown) = c.loop-reference.invariant in
    let below : index < length references = omega (arith, c.loop-reference-test.true) in
    let why = subst (λ (t : List ℕ). IsStop (IsSearchError file t) ((line : List ℕ) × IsLine c.args.form file t line) ⊥ stop) c.as_str.ensures c.in-Err.ensures in
    stop_at c.args.form g.S.AsStr.text file references index item lines stop below c.reference-item.is each why
