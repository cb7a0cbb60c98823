-- The numbers of relocations, table by table.
use Rattle.std.proofs.Common.{◌≡◌, ◌++◌, ◌∷◌, [], List, map, ap}

pub first_of : {A B : Type 0} (f : A → B) (old new : List A) (x : A) (others : List B) → old ≡ x ∷ new → map f old ++ others ≡ f x ∷ (map f new ++ others)
first_of f old new x others is = ap (λ xs. map f xs ++ others) is

pub none_of : {A B : Type 0} (f : A → B) (items : List A) (others : List B) → items ≡ [] → map f items ++ others ≡ others
none_of f items others is = ap (λ xs. map f xs ++ others) is

pub last_of : {A B : Type 0} (f : A → B) (old new : List A) (x : A) → old ≡ x ∷ new → map f old ≡ f x ∷ map f new
last_of f old new x is = ap (map f) is

pub no_last : {A B : Type 0} (f : A → B) (items : List A) → items ≡ [] → map f items ≡ []
no_last f items is = ap (map f) is
