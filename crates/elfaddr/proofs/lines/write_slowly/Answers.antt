use Rattle.std.proofs.Common.{◌≡◌, ◌+◌, ◌<◌, [], ◌∷◌, ◌++◌, List, ℕ, length, get_or, take, subst, sym, arith}
use Rattle.std.proofs.KnownBytes.{Appends-nil, Appends-trans}
use Rattle.std.proofs.lemmas.List.{take_more}
use Rattle.std.specs.Io.KnownBytes.{Appends}
use Rattle.std.specs.List.{AllZip}
use Rattle.elfaddr.specs.Lines.{IsLine}
use Rattle.program_ends.proofs.LineLists.{concat_one_more, zip_one_more}
use Rattle.elfaddr.proofs.lines.write_slowly.Goals as goal

pub loop-address-init : goal.loop-address-init
loop-address-init g c = ([], tt, Appends-nil _)

pub loop-address-preserved : goal.loop-address-preserved
loop-address-preserved g c =
    let claims = c.args.lines.now.claims.now in
    let file = c.args.lines.now.file.now in
    let addresses = c.args.lines.now.addresses.now in
    let index = c.loop-address.address-index in
    let item = get_or addresses index 0 in
    let (lines, each, grown) = c.loop-address.invariant in
    let (line, is_line, more) = c.in_ok-write_line.ensures in
    let below : index < length addresses = omega (arith, c.loop-address-test.true) in
    let longer : take (index + 1) addresses ≡ take index addresses ++ (item ∷ []) =
    take_more addresses index 0 below in (
      lines ++ (line ∷ []),
      subst (λ xs. AllZip (λ address text. IsLine c.args.lines.now.form (g.C.Claims.claim_of claims) (g.C.Named.name_of claims) file address text) xs (lines ++ (line ∷ []))) (sym longer)
          (zip_one_more (λ address text. IsLine c.args.lines.now.form (g.C.Claims.claim_of claims) (g.C.Named.name_of claims) file address text) (take index addresses) lines item line each is_line),
      subst (λ (t : List ℕ). Appends (g.W.Write.contents c.args.out.now) (g.W.Write.contents c.write_line.new.out) t) (sym (concat_one_more lines line))
          (Appends-trans _ _ _ _ _ grown more),
    )
