-- The objects of files, their places and their images, in a slice of an array.
use Rattle.std.proofs.Common.{◌≡◌, ◌≢◌, ◌<◌, ◌≤◌, ◌+◌, ℕ, zero, suc, ◌⊎◌, ⊎_elim, inl, inr, List, [], ◌∷◌, get_or, length, take, Option, None, Some, refl, sym, ap, subst, ◌∙◌, arith}
use Rattle.std.specs.Borrow.{Bor}
use Rattle.std.specs.Fn.{Called, Mut}
use Rattle.std.specs.Prelude.{IsSomeAnd, replicate, slice_get, slice_set}
use Rattle.std.proofs.lemmas.Bool.{cases_order}
use Rattle.std.proofs.lemmas.List.{length-replicate, length-set, length-take-le}
use Rattle.std.proofs.lemmas.Option.{get_or_from_slice_get, slice_get_within}
use Rattle.elf_loading.specs.declared.relocate.Place.{Place}
use Rattle.elf_c.proofs.Batches.{put_elsewhere, put_there}
use Rattle.elf_c.specs.LoadObjects.{AreFirstMade, AreImagesOf, AreMade, ArePadded, ArePlacesOf, IsFirstUnmade, IsFirstUnmadeAt, load_place}
use Rattle.elf_c.specs.declared.load_objects.LoadObject.{LoadObject}
use Rattle.elf_c.specs.declared.load_objects.TheConstants.{MOST_OBJECTS}

-- an item of a list that is long enough, by what is said of it with any other in its place where there is none
pub some_at : {T : Type 0} (P : T → Type 0) (xs : List T) (i : ℕ) → i < length xs → ((other : T) → P (get_or xs i other)) → IsSomeAnd (slice_get xs i) P
some_at P [] i below at = absurd (omega (arith, below))
some_at P (x ∷ xs) zero below at = at x
some_at P (x ∷ xs) (suc i) below at = some_at P xs i (omega (arith, below)) at

some_same : {T : Type 0} (x y : T) → Some x ≡ Some y → x ≡ y
some_same x y is = cc

pub some_is : {T : Type 0} (found : Option T) (x : T) → IsSomeAnd found (λ y. y ≡ x) → found ≡ Some x
some_is None x is = absurd is
some_is (Some y) x is = ap (λ z. Some z) is

pub take_get : {T : Type 0} (xs : List T) (n i : ℕ) → i < n → slice_get (take n xs) i ≡ slice_get xs i
take_get xs zero i below = absurd (omega (arith, below))
take_get [] (suc n) i below = refl
take_get (x ∷ xs) (suc n) zero below = refl
take_get (x ∷ xs) (suc n) (suc i) below = take_get xs n i (omega (arith, below))

pub repeated : {T : Type 0} (n i : ℕ) (x y : T) → slice_get (replicate n x) i ≡ Some y → x ≡ y
repeated zero i x y is = absurd (cc)
repeated (suc n) zero x y is = some_same x y is
repeated (suc n) (suc i) x y is = repeated n i x y is

-- The objects of the first files.

replicated : {T : Type 0} (n i : ℕ) (x : T) → i < n → slice_get (replicate n x) i ≡ Some x
replicated zero i x below = absurd (omega (arith, below))
replicated (suc n) zero x below = refl
replicated (suc n) (suc i) x below = replicated n i x (omega (arith, below))

module _ {A B : Type 0} (Is : A → B → Type 0) (from : List A) where
  -- of one item
  pub first_made : (item : A) (one : B) → slice_get from 0 ≡ Some item → Is item one → AreFirstMade Is from 1 (replicate MOST_OBJECTS one)
  first_made item one there is index other below at =
      let none : index ≡ 0 = omega (arith, below) in
      let same : item ≡ other = some_same item other (sym there ∙ ap (λ i. slice_get from i) (sym none) ∙ at) in
      subst (λ found. IsSomeAnd found (Is other)) (sym (replicated MOST_OBJECTS index one (omega (arith, none)))) (subst (λ x. Is x one) same is)

  -- of one more
  pub one_more_made : (made : List B) (place : ℕ) (item : A) (one : B) → place < length made → slice_get from place ≡ Some item → Is item one
      → AreFirstMade Is from place made → AreFirstMade Is from (place + 1) (slice_set made place one)
  one_more_made made place item one within there is before index other below at = by (cases_order index place)
    where
      by : ((index ≡ place) ⊎ ((index < place) ⊎ (place < index))) → IsSomeAnd (slice_get (slice_set made place one) index) (Is other)
      by (inl same) =
          let own : item ≡ other = some_same item other (sym there ∙ ap (λ i. slice_get from i) (sym same) ∙ at) in
          let found : slice_get (slice_set made place one) index ≡ Some one = ap (λ i. slice_get (slice_set made place one) i) same ∙ put_there made place one within in
          subst (λ some. IsSomeAnd some (Is other)) (sym found) (subst (λ x. Is x one) own is)
      by (inr (inl less)) =
          let found : slice_get (slice_set made place one) index ≡ slice_get made index = put_elsewhere made place index one (λ same. absurd (omega (arith, less, same))) in
          subst (λ some. IsSomeAnd some (Is other)) (sym found) (before index other less at)
      by (inr (inr more)) = absurd (omega (arith, more, below))

  -- of all
  pub all_made : (made : List B) → length made ≡ MOST_OBJECTS → length from ≤ MOST_OBJECTS → AreFirstMade Is from (length from) made → AreMade Is from (take (length from) made)
  all_made made long fit first = record {
    same_count = length-take-le (length from) made (omega (arith, fit, long));
    each = λ index item is. let below = slice_get_within from index item is in
        subst (λ found. IsSomeAnd found (Is item)) (sym (take_get made (length from) index below)) (first index item below is);
  }

  -- not of the next
  pub unmade_at : {C : Type 0} (Fails : A → C → Type 0) (index : ℕ) (item : A) (made : List B) (error : C) → slice_get from index ≡ Some item → AreFirstMade Is from index made
      → Fails item error → IsFirstUnmade Is Fails from error
  unmade_at Fails index item made error is before why = record { index = index; item = item; item_is = is; made = made; before = before; why = why }

-- the first of which none is made, with its index
pub unmade_first : {A B C : Type 0} (Is : A → B → Type 0) (from : List A) (Fails : A → C → Type 0) (index : ℕ) (item : A) (made : List B) (error : C) → slice_get from index ≡ Some item → AreFirstMade Is from index made
    → Fails item error → IsFirstUnmadeAt Is Fails from index error
unfolding unmade_at
unmade_first Is from Fails index item made error is before why = record { first = unmade_at Is from Fails index item made error is before why; index_is = refl }

-- one of them in each place
pub padded_none : (loads : List LoadObject) (spare : LoadObject) → (place : ℕ) × (slice_get loads place ≡ Some spare) → ArePadded loads (replicate MOST_OBJECTS spare) 0
padded_none loads spare (place, is) = record {
  long = length-replicate MOST_OBJECTS spare;
  own = λ index below. absurd (omega (arith, below));
  one = λ index load there. (place, is ∙ ap (λ x. Some x) (repeated MOST_OBJECTS index spare load there));
}

-- one more in its place
pub padded_more : (loads all : List LoadObject) (place : ℕ) (load : LoadObject) → place < length all → slice_get loads place ≡ Some load → ArePadded loads all place → ArePadded loads (slice_set all place load) (place + 1)
padded_more loads all place load below is padded = record {
  long = length-set all place load ∙ padded.long;
  own = λ index here. own index (order index here);
  one = λ index other there. one index other there (cases_order index place);
}
  where
    order : (index : ℕ) → index < place + 1 → (index < place) ⊎ (index ≡ place)
    order index here = ⊎_elim (λ same. inr same) (λ apart. ⊎_elim (λ before. inl before) (λ behind. absurd (omega (arith, here, behind))) apart) (cases_order index place)

    own : (index : ℕ) → ((index < place) ⊎ (index ≡ place)) → slice_get (slice_set all place load) index ≡ slice_get loads index
    own index (inl before) = put_elsewhere all place index load (λ same. absurd (omega (arith, before, same))) ∙ padded.own index before
    own index (inr same) = ap (λ i. slice_get (slice_set all place load) i) same ∙ put_there all place load below ∙ sym is ∙ ap (λ i. slice_get loads i) (sym same)

    away : (index : ℕ) (other : LoadObject) → index ≢ place → slice_get (slice_set all place load) index ≡ Some other → (from : ℕ) × (slice_get loads from ≡ Some other)
    away index other apart there = padded.one index other (sym (put_elsewhere all place index load apart) ∙ there)

    one : (index : ℕ) (other : LoadObject) → slice_get (slice_set all place load) index ≡ Some other → ((index ≡ place) ⊎ ((index < place) ⊎ (place < index))) → (from : ℕ) × (slice_get loads from ≡ Some other)
    one index other there (inl same) = (place, is ∙ sym (put_there all place load below) ∙ ap (λ i. slice_get (slice_set all place load) i) (sym same) ∙ there)
    one index other there (inr (inl before)) = away index other (λ same. absurd (omega (arith, before, same))) there
    one index other there (inr (inr behind)) = away index other (λ same. absurd (omega (arith, behind, same))) there

-- What is made of each of all, one by one, is made of each of these.
module _ (loads all : List LoadObject) (fit : length loads ≤ MOST_OBJECTS) (padded : ArePadded loads all (length loads)) where
  -- what holds of the item that was made of an object
  made : {T : Type 0} (P : LoadObject → T → Type 0) (results : List T) → length results ≡ MOST_OBJECTS → ((i : ℕ) (d : LoadObject) (e : T) → i < MOST_OBJECTS → P (get_or all i d) (get_or results i e))
      → (index : ℕ) (load : LoadObject) → slice_get loads index ≡ Some load → IsSomeAnd (slice_get (take (length loads) results) index) (P load)
  made P results long at index load is =
      let below : index < length loads = slice_get_within loads index load is in
      let within : index < MOST_OBJECTS = omega (arith, below, fit) in
      let same : get_or all index load ≡ load = get_or_from_slice_get all index load load (padded.own index below ∙ is) in
      subst (λ found. IsSomeAnd found (P load)) (sym (take_get results (length loads) index below))
      (some_at (P load) results index (omega (arith, within, long))
      (λ other. subst (λ x. P x (get_or results index other)) same (at index load other within)))

  counted : {T : Type 0} (results : List T) → length results ≡ MOST_OBJECTS → length (take (length loads) results) ≡ length loads
  counted results long = length-take-le (length loads) results (omega (arith, fit, long))

  places_are : (places : List Place) → length places ≡ MOST_OBJECTS → ((i : ℕ) (d : LoadObject) (e : Place) → i < MOST_OBJECTS → get_or places i e ≡ load_place (get_or all i d)) → ArePlacesOf loads (take (length loads) places)
  places_are places long at = record {
    same_count = counted places long;
    each = λ index load is. some_is (slice_get (take (length loads) places) index) (load_place load) (made (λ one place. place ≡ load_place one) places long at index load is);
  }

  images_are : (images : List (Bor (List ℕ))) → length images ≡ MOST_OBJECTS → ((i : ℕ) (d : LoadObject) (e : Bor (List ℕ)) → i < MOST_OBJECTS → get_or images i e ≡ (get_or all i d).image) → AreImagesOf loads (take (length loads) images)
  images_are images long at = record {
    same_count = counted images long;
    each = λ index load is. some_is (slice_get (take (length loads) images) index) load.image (made (λ one image. image ≡ one.image) images long at index load is);
  }

  pub places_by : {F : Type 0} (g : Mut F (LoadObject × Unit {0}) Place) (places : List Place) → length places ≡ MOST_OBJECTS
      → ((i : ℕ) (d : LoadObject) (e : Place) → i < MOST_OBJECTS → (f : F) × (f' : F) × Called g f (get_or all i d, tt) (get_or places i e) f')
      → ((a : LoadObject × Unit {0}) (place : Place) (f f' : F) → Called g f a place f' → place ≡ load_place a.0)
      → ArePlacesOf loads (take (length loads) places)
  places_by g places long at each = places_are places long
      (λ i d e below. let call = at i d e below in each (get_or all i d, tt) (get_or places i e) call.0 call.1 call.2)

  pub images_by : {F : Type 0} (g : Mut F (LoadObject × Unit {0}) (Bor (List ℕ))) (images : List (Bor (List ℕ))) → length images ≡ MOST_OBJECTS
      → ((i : ℕ) (d : LoadObject) (e : Bor (List ℕ)) → i < MOST_OBJECTS → (f : F) × (f' : F) × Called g f (get_or all i d, tt) (get_or images i e) f')
      → ((a : LoadObject × Unit {0}) (image : Bor (List ℕ)) (f f' : F) → Called g f a image f' → image ≡ a.0.image)
      → AreImagesOf loads (take (length loads) images)
  images_by g images long at each = images_are images long
      (λ i d e below. let call = at i d e below in each (get_or all i d, tt) (get_or images i e) call.0 call.1 call.2)
