-- Whether a call finds anything, if it returns exactly the values with a property.
use Rattle.std.proofs.Common.{◌≡◌, ◌↔◌, Bool, true, Option, None, Some, IfSome, IsSomeAnd, is_some}

-- a result with one part, such as a build id
pub found_one : {L V : Type 0} (P : V → Type 0) (part : L → V) (r : Option L) (b : Bool) → IfSome r (λ x. P (part x)) → ((v : V) → P v → IsSomeAnd r (λ x. part x ≡ v)) → b ≡ is_some r → (b ≡ true) ↔ ((v : V) × P v)
found_one P part None b found only is = (λ t. absurd (cc), λ held. absurd (only held.0 held.1))
found_one P part (Some x) b found only is = (λ t. (part x, found), λ held. is)

-- a result with two parts, such as a debug link
pub found_two : {L V W : Type 0} (P : V → W → Type 0) (first : L → V) (second : L → W) (r : Option L) (b : Bool) → IfSome r (λ x. P (first x) (second x)) → ((v : V) (w : W) → P v w → IsSomeAnd r (λ x. (first x ≡ v) × (second x ≡ w))) → b ≡ is_some r → (b ≡ true) ↔ ((v : V) × (w : W) × P v w)
found_two P first second None b found only is = (λ t. absurd (cc), λ held. absurd (only held.0 held.1 held.2))
found_two P first second (Some x) b found only is = (λ t. (first x, second x, found), λ held. is)
