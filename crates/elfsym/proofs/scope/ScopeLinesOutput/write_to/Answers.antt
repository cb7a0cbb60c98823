use Rattle.std.proofs.Common.{◌≡◌, ◌+◌, ◌<◌, [], ◌∷◌, ◌++◌, List, ℕ, length, take, subst, sym, ◌∙◌, ap, arith}
use Rattle.std.proofs.KnownBytes.{Appends-nil, Appends-trans}
use Rattle.std.proofs.lemmas.List.{take_more}
use Rattle.std.specs.Io.KnownBytes.{Appends}
use Rattle.std.specs.List.{AllZip}
use Rattle.elfsym.specs.Scope.{IsScopeLine}
use Rattle.program_ends.proofs.LineLists.{concat_one_more, zip_one_more}
use Rattle.elfsym.proofs.scope.ScopeLinesOutput.write_to.Goals as goal

pub loop-reference-init : goal.loop-reference-init
loop-reference-init g c = ([], tt, Appends-nil _)

pub loop-reference-preserved : goal.loop-reference-preserved
loop-reference-preserved g c =
    let all = c.args.self.now in
    let references = all.references.now in
    let Is = IsScopeLine all.form all.inputs.now all.objects.now in
    let index = c.loop-reference.reference-index in
    let item = c.reference-item.result in
    let (lines, each, grown) = c.loop-reference.invariant in
    let (line, is_line, more) = c.in-Ok.ensures in
    let below : index < length references = omega (arith, c.loop-reference-test.true) in
    let longer : take (index + 1) references ≡ take index references ++ (item ∷ []) =
    take_more references index item below ∙ ap (λ x. take index references ++ (x ∷ [])) (sym c.reference-item.is) in
    let own : Is (g.S.AsStr.text item) line = subst (λ (t : List ℕ). Is t line) c.as_str.ensures is_line in (
      lines ++ (line ∷ []),
      subst (λ xs. AllZip (λ reference one. Is (g.S.AsStr.text reference) one) xs (lines ++ (line ∷ []))) (sym longer)
          (zip_one_more (λ reference one. Is (g.S.AsStr.text reference) one) (take index references) lines item line each own),
      subst (λ (t : List ℕ). Appends (g.W.Write.contents c.args.out.now) (g.W.Write.contents c.write_line.new.out) t) (sym (concat_one_more lines line))
          (Appends-trans _ _ _ _ _ grown more),
    )
