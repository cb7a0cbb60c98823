-- Names and what they found, one after the other.
use Rattle.std.proofs.Common.{◌≡◌, ◌&&◌, ℕ, List, [], ◌∷◌, true, false, ap, ◌∙◌}
use Rattle.elf_search.specs.Names.{NameParts}
use Rattle.program_libraries.specs.NeededNames.{after_first, are_found, is_found}

pub found_end : (count : ℕ) (names : List NameParts) (edges : List ℕ) → names ≡ [] → are_found count names edges ≡ true
found_end count names edges is = ap (λ some. are_found count some edges) is

pub found_more : (count : ℕ) (names others : List NameParts) (name : NameParts) (edges : List ℕ) → names ≡ name ∷ others → is_found count name.kind edges ≡ true → are_found count names edges ≡ are_found count others (after_first edges)
found_more count names others name edges is found = ap (λ some. are_found count some edges) is ∙ ap (λ b. b && are_found count others (after_first edges)) found

pub found_miss : (count : ℕ) (names others : List NameParts) (name : NameParts) (edges : List ℕ) → names ≡ name ∷ others → is_found count name.kind edges ≡ false → are_found count names edges ≡ false
found_miss count names others name edges is missed = ap (λ some. are_found count some edges) is ∙ ap (λ b. b && are_found count others (after_first edges)) missed
