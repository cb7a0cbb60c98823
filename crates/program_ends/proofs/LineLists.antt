-- One more item behind those so far.
use Rattle.std.proofs.Common.{◌≡◌, ℕ, List, [], ◌∷◌, ◌++◌, ap, ◌∙◌, append-nil}
use Rattle.std.specs.List.{AllZip, concat}
use Rattle.std.proofs.lemmas.List.Folds.{concat-append}

pub zip_one_more : {A B : Type 0} (R : A → B → Type 0) (xs : List A) (ys : List B) (x : A) (y : B) → AllZip R xs ys → R x y → AllZip R (xs ++ (x ∷ [])) (ys ++ (y ∷ []))
zip_one_more R [] [] x y all one = (one, tt)
zip_one_more R [] (b ∷ ys) x y all one = absurd all
zip_one_more R (a ∷ xs) [] x y all one = absurd all
zip_one_more R (a ∷ xs) (b ∷ ys) x y all one = (all.0, zip_one_more R xs ys x y all.1 one)

pub concat_one_more : (lines : List (List ℕ)) (line : List ℕ) → concat (lines ++ (line ∷ [])) ≡ concat lines ++ line
concat_one_more lines line = concat-append lines (line ∷ []) ∙ ap (λ l. concat lines ++ l) (append-nil line)
