-- Searches for a version by its name.
use Rattle.std.proofs.Common.{◌≡◌, ℕ, ◌%◌, ◌==◌, ◌&&◌, Bool, true, false, List, Option, Result, Ok, Err, refl, ap, ◌∙◌, sym, subst}
use Rattle.std.specs.Prelude.{not}
use Rattle.std.proofs.lemmas.Bool.{eq-eqb, ne_eqb}
use Rattle.std.proofs.lemmas.Slice.Eq.{bytes_eq-Decides}
use Rattle.elf_linking.specs.VersionTables.{DefinitionParts}
use Rattle.elf_linking.specs.Versions.{IsFirst, first_item}
use Rattle.elf_linking.specs.declared.error.LinkError.{LinkError}
use Rattle.elf_linking.proofs.lemmas.FirstItems.{first_is}
use Rattle.linking_callers.specs.VersionNames.{Defines, defines, is_name}

name_hits : (found : Result (List ℕ) LinkError) (name : List ℕ) → is_name found name ≡ true → found ≡ Ok name
name_hits (Ok text) name is = ap (λ t. Ok t) ((bytes_eq-Decides text name).0 is)
name_hits (Err error) name is = cc

name_passes : (found : Result (List ℕ) LinkError) (name : List ℕ) → found ≡ Ok name → is_name found name ≡ true
name_passes found name is = ap (λ other. is_name other name) is ∙ (bytes_eq-Decides name name).1 refl

name_misses : (found : Result (List ℕ) LinkError) (name : List ℕ) → is_name found name ≡ false → found ≡ Ok name → ⊥
name_misses found name is same = let passes = name_passes found name same in cc

both_of : (base named : Bool) → (not base && named) ≡ true → (base ≡ false) × (named ≡ true)
both_of false true is = (refl, refl)
both_of false false is = cc
both_of true named is = cc

defines_hits : (name : List ℕ) (d : DefinitionParts) → defines name d ≡ true → Defines name d
defines_hits name d is =
    let both = both_of (d.flags % 2 == 1) (is_name d.name name) is in
    (λ base. let no : (d.flags % 2 == 1) ≡ true = eq-eqb (d.flags % 2) 1 base in let other = both.0 in cc, name_hits d.name name both.1)

defines_misses : (name : List ℕ) (d : DefinitionParts) → defines name d ≡ false → Defines name d → ⊥
defines_misses name d is holds =
    let other : (d.flags % 2 == 1) ≡ false = ne_eqb (d.flags % 2) 1 holds.0 in
    let named : is_name d.name name ≡ true = name_passes d.name name holds.1 in
    let passes : defines name d ≡ true = rw (other, named) refl in cc

pub defined_first : (name : List ℕ) (items : List (Result DefinitionParts LinkError)) (answer : Result (Option DefinitionParts) LinkError) → answer ≡ first_item (defines name) items → IsFirst (Defines name) items answer
defined_first name items answer is = subst (IsFirst (Defines name) items) (sym is) (first_is (Defines name) (defines name) (defines_hits name) (defines_misses name) items)
