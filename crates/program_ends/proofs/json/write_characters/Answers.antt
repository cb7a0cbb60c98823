use Rattle.std.proofs.Common.{◌≡◌, ◌++◌, take, get_or, None, Some, sym, ap, ◌∙◌, subst}
use Rattle.std.proofs.KnownBytes.{Appends-trans}
use Rattle.std.proofs.lemmas.Result.{on_ok_weaker}
use Rattle.std.specs.Io.KnownBytes.{Appends}
use Rattle.std.specs.List.{flat_map}
use Rattle.program_ends.specs.Json.{is_escaped, string_byte}
use Rattle.program_ends.proofs.JsonTexts.{unescaped}
use Rattle.program_ends.proofs.Runs.{first_found, one_more}
use Rattle.program_ends.proofs.json.write_characters.Goals as goal

pub runs-preserved : goal.runs-preserved
runs-preserved g c =
    let (text, so_far, grown) = c.runs.invariant in
    let rest = c.runs.rest.now in
    let place = c.in-Some.place in
    let first = first_found is_escaped string_byte unescaped rest (Some place) c.in-Some.ensures.value in (
      (text ++ take place rest) ++ string_byte (get_or rest place 0),
      one_more is_escaped string_byte unescaped c.args.text.now rest text place first so_far,
      Appends-trans _ _ _ _ _ (Appends-trans _ _ _ _ _ grown c.in_ok-write_all.ensures.bytes) c.in_ok-write_byte.ensures,
    )

pub returns : goal.returns
returns g c =
    let (text, so_far, grown) = c.runs.invariant in
    let plain = first_found is_escaped string_byte unescaped c.runs.rest.now None c.in_default.ensures.value in
    let whole : text ++ c.runs.rest.now ≡ flat_map string_byte c.args.text.now = ap (λ rest. text ++ rest) (sym plain) ∙ so_far in
    on_ok_weaker c.write_all-2.result (λ last. subst (Appends (g.W.Write.contents c.args.out.now) (g.W.Write.contents c.write_all-2.new.self)) whole (Appends-trans _ _ _ _ _ grown last)) c.write_all-2.ensures.bytes
