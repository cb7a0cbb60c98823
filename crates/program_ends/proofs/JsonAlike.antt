-- JSON lines of members that are written alike.
use Rattle.std.proofs.Common.{◌≡◌, List, [], ◌∷◌, ◌++◌, codes, ℕ, refl, ap, ◌∙◌}
use Rattle.std.specs.Borrow.{Bor}
use Rattle.std.specs.List.{AllZip, flat_map}
use Rattle.program_ends.specs.Json.{json_line, json_member, json_string, json_value, key_end, member}
use Rattle.program_ends.specs.declared.json.Member.{Member}
use Rattle.program_ends.specs.declared.json.Value.{Value}

-- a member with a value that is written as another one
pub member_so : (m : Member) (key : Bor (List ℕ)) (value wanted : Value) → m.key ≡ key → m.value ≡ value → key_end value ≡ key_end wanted → json_value value ≡ json_value wanted → json_member m ≡ json_member (member key.now wanted)
member_so m key value wanted key_is value_is ends is =
    ap (λ (k : Bor (List ℕ)). json_string (k.now ++ key_end m.value) ++ 58 ∷ json_value m.value) key_is
    ∙ (ap (λ (v : Value). json_string (key.now ++ key_end v) ++ 58 ∷ json_value v) value_is
    ∙ (ap (λ (e : List ℕ). json_string (key.now ++ e) ++ 58 ∷ json_value value) ends
    ∙ ap (λ (t : List ℕ). json_string (key.now ++ key_end wanted) ++ 58 ∷ t) is))

others_so : (members wanted : List Member) → AllZip (λ m n. json_member m ≡ json_member n) members wanted → flat_map (λ m. codes "," ++ json_member m) members ≡ flat_map (λ m. codes "," ++ json_member m) wanted
others_so [] [] all = refl
others_so [] (n ∷ wanted) all = absurd all
others_so (m ∷ members) [] all = absurd all
others_so (m ∷ members) (n ∷ wanted) all =
    ap (λ (t : List ℕ). (codes "," ++ t) ++ flat_map (λ m. codes "," ++ json_member m) members) all.0
    ∙ ap (λ (t : List ℕ). (codes "," ++ json_member n) ++ t) (others_so members wanted all.1)

pub line_so : (members wanted : List Member) → AllZip (λ m n. json_member m ≡ json_member n) members wanted → json_line members ≡ json_line wanted
line_so [] [] all = refl
line_so [] (n ∷ wanted) all = absurd all
line_so (m ∷ members) [] all = absurd all
line_so (m ∷ members) (n ∷ wanted) all =
    ap (λ (t : List ℕ). codes "{" ++ ((t ++ flat_map (λ m. codes "," ++ json_member m) members) ++ codes "}\n")) all.0
    ∙ ap (λ (t : List ℕ). codes "{" ++ ((json_member n ++ t) ++ codes "}\n")) (others_so members wanted all.1)
