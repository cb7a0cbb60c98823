-- Directories and paths, byte by byte.
use Rattle.std.proofs.Common.{◌≡◌, ◌≢◌, ℕ, ◌==◌, ◌&&◌, Bool, List, [], ◌∷◌, true, false, if◌then◌else◌, nat_eq, refl, ap, ◌∙◌, sym}
use Rattle.std.proofs.lemmas.Bool.{eq-eqb, ne_eqb}
use Rattle.std.specs.Cmp.Lexicographic.{pointwise}
use Rattle.elf_search.specs.Paths.{are_slashes, as_directory, is_empty, with_slash}

pub slashes_end : (bytes : List ℕ) → bytes ≡ [] → are_slashes bytes ≡ true
slashes_end bytes is = ap are_slashes is

pub slashes_slash : (bytes others : List ℕ) (byte : ℕ) → bytes ≡ byte ∷ others → byte ≡ 47 → are_slashes bytes ≡ are_slashes others
slashes_slash bytes others byte is slash = ap are_slashes is ∙ rw (eq-eqb byte 47 slash) refl

pub slashes_other : (bytes others : List ℕ) (byte : ℕ) → bytes ≡ byte ∷ others → byte ≢ 47 → are_slashes bytes ≡ false
slashes_other bytes others byte is other = ap are_slashes is ∙ rw (ne_eqb byte 47 other) refl

pub first_end : (bytes : List ℕ) → bytes ≡ [] → as_directory bytes ≡ []
first_end bytes is = ap as_directory is

pub first_step : (bytes others : List ℕ) (byte : ℕ) → bytes ≡ byte ∷ others → as_directory bytes ≡ byte ∷ (if byte == 47 && are_slashes others then [] else with_slash others)
first_step bytes others byte is = ap as_directory is

pub first_root : (bytes others : List ℕ) (byte : ℕ) → bytes ≡ byte ∷ others → byte ≡ 47 → are_slashes others ≡ true → as_directory bytes ≡ byte ∷ []
first_root bytes others byte is slash lone = ap as_directory is ∙ rw (eq-eqb byte 47 slash, lone) refl

pub first_lone : (bytes others : List ℕ) (byte : ℕ) → bytes ≡ byte ∷ others → are_slashes others ≡ false → as_directory bytes ≡ byte ∷ with_slash others
first_lone bytes others byte is more = ap as_directory is ∙ (rw more (by_first (byte == 47)))
  where
    by_first : (b : Bool) → byte ∷ (if b && false then [] else with_slash others) ≡ byte ∷ with_slash others
    by_first true = refl
    by_first false = refl

pub first_byte : (bytes others : List ℕ) (byte : ℕ) → bytes ≡ byte ∷ others → byte ≢ 47 → as_directory bytes ≡ byte ∷ with_slash others
first_byte bytes others byte is other = ap as_directory is ∙ rw (ne_eqb byte 47 other) refl

later_by : (byte : ℕ) (others : List ℕ) (b : Bool) → are_slashes (byte ∷ others) ≡ b → with_slash (byte ∷ others) ≡ (if b then 47 ∷ [] else byte ∷ with_slash others)
later_by byte others b is = ap (λ c. if c then 47 ∷ [] else byte ∷ with_slash others) is

pub later_end : (bytes : List ℕ) → are_slashes bytes ≡ true → with_slash bytes ≡ 47 ∷ []
later_end [] is = refl
later_end (byte ∷ others) is = later_by byte others true is

pub later_byte : (bytes others : List ℕ) (byte : ℕ) → bytes ≡ byte ∷ others → are_slashes bytes ≡ false → with_slash bytes ≡ byte ∷ with_slash others
later_byte bytes others byte is more = ap with_slash is ∙ later_by byte others false (sym (ap are_slashes is) ∙ more)

pub some_end : (bytes : List ℕ) → bytes ≡ [] → is_empty bytes ≡ true
some_end bytes is = ap is_empty is

pub some_byte : (bytes others : List ℕ) (byte : ℕ) → bytes ≡ byte ∷ others → is_empty bytes ≡ false
some_byte bytes others byte is = ap is_empty is

-- two lists are compared item by item
pub same_end : (left right : List ℕ) → left ≡ [] → right ≡ [] → pointwise nat_eq left right ≡ true
same_end left right is are = rw (is, are) refl

pub same_shorter : (left right others : List ℕ) (byte : ℕ) → left ≡ [] → right ≡ byte ∷ others → pointwise nat_eq left right ≡ false
same_shorter left right others byte is are = rw (is, are) refl

pub same_longer : (left right others : List ℕ) (byte : ℕ) → left ≡ byte ∷ others → right ≡ [] → pointwise nat_eq left right ≡ false
same_longer left right others byte is are = rw (is, are) refl

pub same_other : (left right lefts rights : List ℕ) (byte other : ℕ) → left ≡ byte ∷ lefts → right ≡ other ∷ rights → byte ≢ other → pointwise nat_eq left right ≡ false
same_other left right lefts rights byte other is are differ = rw (is, are) (rw (ne_eqb byte other differ) refl)

pub same_byte : (left right lefts rights : List ℕ) (byte other : ℕ) → left ≡ byte ∷ lefts → right ≡ other ∷ rights → byte ≡ other → pointwise nat_eq left right ≡ pointwise nat_eq lefts rights
same_byte left right lefts rights byte other is are same = rw (is, are) (rw (eq-eqb byte other same) refl)
