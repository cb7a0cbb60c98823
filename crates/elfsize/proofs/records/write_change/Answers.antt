use Rattle.std.proofs.Common.{Bor, List, ℕ, [], ◌∷◌, ap, codes, option_map, refl, subst}
use Rattle.std.proofs.lemmas.Result.{on_ok_weaker}
use Rattle.std.specs.Io.KnownBytes.{Appends}
use Rattle.elfsize.specs.Json.{change_record, less}
use Rattle.elfsize.proofs.records.write_change.Goals as goal
use Rattle.program_ends.proofs.JsonAlike.{line_so, member_so}
use Rattle.program_ends.specs.Json.{json_value, key_end, member, name_or_null, number_or_null, text_or_null, text_value}
use Rattle.program_ends.specs.declared.json.Member.{Member}
use Rattle.program_ends.specs.declared.json.Value.{Value}
use Rattle.program_ends.specs.declared.json.Value.TheVariants as values

pub returns : goal.returns
unfolding change_record
returns g c =
    let change = c.args.change.now in
    let kind : Value = text_value change.kind.now in
    let index : Value = number_or_null change.index in
    let name : Value = name_or_null (option_map (λ (name : Bor (List ℕ)). name.now) change.name) in
    let state : Value = text_or_null (option_map (λ (state : Bor (List ℕ)). state.now) change.state) in
    let difference : Value = less change.new change.old in
    let size : Value = values.Number change.new in
    let total : Value = values.Bool change.total in
    let members : List Member = c.member.result ∷ c.member-2.result ∷ c.member-3.result ∷ c.member-4.result ∷ c.member-5.result ∷ c.member-6.result ∷ c.member-7.result ∷ [] in
    let wanted : List Member = member (codes "kind") kind ∷ member (codes "index") index ∷ member (codes "name") name ∷ member (codes "state") state ∷ member (codes "difference") difference ∷ member (codes "size") size ∷ member (codes "total") total ∷ [] in
    on_ok_weaker c.write_json.result (λ grown.
    subst (λ (text : List ℕ). Appends (g.W.Write.contents c.args.out.now) (g.W.Write.contents c.write_json.new.out) text)
    (line_so members wanted (member_so c.member.result _ _ kind c.member.ensures.key c.member.ensures.value refl refl, (member_so c.member-2.result _ _ index c.member-2.ensures.key c.member-2.ensures.value (ap key_end c.number_or_null.ensures) (ap json_value c.number_or_null.ensures), (member_so c.member-3.result _ _ name c.member-3.ensures.key c.member-3.ensures.value c.name_or_null.ensures.key c.name_or_null.ensures.value, (member_so c.member-4.result _ _ state c.member-4.ensures.key c.member-4.ensures.value c.text_or_null.ensures.key c.text_or_null.ensures.value, (member_so c.member-5.result _ _ difference c.member-5.ensures.key c.member-5.ensures.value (ap key_end c.less.ensures) (ap json_value c.less.ensures), (member_so c.member-6.result _ _ size c.member-6.ensures.key c.member-6.ensures.value refl refl, (member_so c.member-7.result _ _ total c.member-7.ensures.key c.member-7.ensures.value refl refl, tt)))))))) grown) c.write_json.ensures
