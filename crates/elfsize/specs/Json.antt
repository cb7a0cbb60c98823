-- The lines for other programs (this project's own): a JSON object on each, as `write_json` writes it.
use Rattle.std.specs.Prelude.{ℕ, ◌-◌, ◌^◌, Bool, List, [], ◌∷◌, Option, codes, if◌then◌else◌, min, nat_lt}
use Rattle.program_ends.specs.Json.{json_line, member, name_or_null, number_or_null, text_or_null, text_value}
use Rattle.program_ends.specs.declared.json.Value.{Value}
use Rattle.program_ends.specs.declared.json.Value.TheVariants as values

-- a number less another one
abbrev pub less : ℕ → ℕ → Value
less new old = if nat_lt new old then values.Negative (old - new) else values.Number (new - old)

-- a number of 64 bits, or the greatest
abbrev pub capped : ℕ → ℕ
capped number = min number (2 ^ 64 - 1)

-- the size of a part of a file, or of all parts of a kind
unfoldable pub size_record : Option (List ℕ) → List ℕ → Option ℕ → Option (List ℕ) → ℕ → Option ℕ → List ℕ
size_record file kind index name size share = json_line (
    member (codes "file") (text_or_null file) ∷ member (codes "kind") (text_value kind)
    ∷ member (codes "index") (number_or_null index) ∷ member (codes "name") (name_or_null name)
    ∷ member (codes "size") (values.Number size) ∷ member (codes "share") (number_or_null share) ∷ [])

-- a change of a size
unfoldable pub change_record : List ℕ → Option ℕ → Option (List ℕ) → Option (List ℕ) → ℕ → ℕ → Bool → List ℕ
change_record kind index name state old new total = json_line (
    member (codes "kind") (text_value kind) ∷ member (codes "index") (number_or_null index)
    ∷ member (codes "name") (name_or_null name) ∷ member (codes "state") (text_or_null state)
    ∷ member (codes "difference") (less new old) ∷ member (codes "size") (values.Number new)
    ∷ member (codes "total") (values.Bool total) ∷ [])
