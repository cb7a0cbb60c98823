use Rattle.std.proofs.Common.{Some, None, subst, sym}
use Rattle.std.specs.Prelude.{codes}
use Rattle.std.proofs.lemmas.Result.{on_ok_weaker}
use Rattle.elf_addresses.specs.Claims.{IsInnermost}
use Rattle.elfaddr.specs.Lines.{IsLine, in_no_symbol, in_symbol, place_line}
use Rattle.elfaddr.proofs.lines.write_line.Goals as goal

pub returns-in-Some : goal.returns-in-Some
returns-in-Some g c =
    let claims = c.args.lines.now.claims.now in
    let file = c.args.lines.now.file.now in
    let claim = c.in-Some.claim in
    let form = c.args.lines.now.form in
    let text = place_line form c.args.address (codes "symbol") in
    let name = c.name-name.result.now in
    let offset = c.offset_from-offset.result in
    let inner : IsInnermost (g.C.Claims.claim_of claims) c.args.address (Some claim) = subst (λ o. IsInnermost (g.C.Claims.claim_of claims) c.args.address o) c.in-Some.is c.requires in
    let line : IsLine form (g.C.Claims.claim_of claims) (g.C.Named.name_of claims) file c.args.address (text name offset) =
    subst (λ n. IsLine form (g.C.Claims.claim_of claims) (g.C.Named.name_of claims) file c.args.address (text n offset)) (sym c.name-name.ensures)
    (subst (λ o. IsLine form (g.C.Claims.claim_of claims) (g.C.Named.name_of claims) file c.args.address (text (g.C.Named.name_of claims claim.index) o)) (sym c.offset_from-offset.ensures) (in_symbol claim inner)) in
    on_ok_weaker c.write_place.result (λ grown. (text name offset, line, grown)) c.write_place.ensures

pub returns-in-None : goal.returns-in-None
returns-in-None g c =
    let claims = c.args.lines.now.claims.now in
    let inner : IsInnermost (g.C.Claims.claim_of claims) c.args.address None = subst (λ o. IsInnermost (g.C.Claims.claim_of claims) c.args.address o) c.in-None.is c.requires in
    on_ok_weaker c.write_section.result (λ written. (written.0, in_no_symbol written.0 inner written.1, written.2)) c.write_section.ensures
