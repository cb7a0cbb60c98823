-- The first section with a property where the section header table is whole, and where it is cut off.
use Rattle.std.proofs.Common.{◌≡◌, ℕ, Bool, true, false, List, [], length, Option, None, if◌then◌else◌, refl, subst, sym, arith}
use Rattle.xmas_elf.specs.First.{FindsFirstAt}

pub in_none : {H : Type 0} (P : H → Type 0) (parts : List H) → length parts ≡ 0 → FindsFirstAt P parts None
in_none P parts none = λ k d low below. absurd (omega (arith, none))

all_of : {H : Type 0} (whole : Bool) (all : List H) → (length (if whole then all else []) ≡ 0 → ⊥) → (if whole then all else []) ≡ all
all_of true all some = refl
all_of false all some = absurd (some refl)

pub in_all : {H : Type 0} (P : H → Type 0) (whole : Bool) (all : List H) (found : Option ℕ) → (length (if whole then all else []) ≡ 0 → ⊥) → FindsFirstAt P all found → FindsFirstAt P (if whole then all else []) found
in_all P whole all found some first = subst (λ items. FindsFirstAt P items found) (sym (all_of whole all some)) first
