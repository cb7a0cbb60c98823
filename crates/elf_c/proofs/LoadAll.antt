-- The images of all objects, one after another in memory.
use Rattle.std.proofs.Common.{◌≡◌, ◌≢◌, ◌<◌, ◌≤◌, ◌+◌, ◌-◌, ◌^◌, ℕ, zero, suc, ◌⊎◌, inl, inr, List, [], ◌∷◌, ◌++◌, length, take, drop, Option, Some, Result, Ok, refl, sym, ap, subst, ◌∙◌, arith}
use Rattle.std.proofs.lemmas.Bool.{cases_order}
use Rattle.std.proofs.lemmas.List.{drop-drop, length-take-le}
use Rattle.std.proofs.lemmas.Option.{slice_get_within}
use Rattle.std.specs.Borrow.{Bor}
use Rattle.std.specs.Prelude.{IfErr, IfOk, min, replicate, slice_get, slice_set}
use Rattle.elf_linking.specs.declared.object.DynamicObject.{DynamicObject}
use Rattle.elf_loading.specs.OneWord.{HasErrorLeft, IsByOneWordIn}
use Rattle.elf_loading.specs.Plan.{plan_size}
use Rattle.elf_loading.specs.Relocate.{IsRelocationIn}
use Rattle.elf_loading.specs.WordErrors.{IsRelocationErrorIn, error_alone}
use Rattle.elf_loading.specs.declared.word_error.WordError.{WordError}
use Rattle.elf_loading.specs.declared.plan.LoadPlan.{LoadPlan}
use Rattle.elf_loading.specs.declared.relocate.Place.{Place}
use Rattle.elf_loading.specs.declared.words.Binding.{Binding}
use Rattle.xmas_elf.specs.Symbol.{SymbolFields}
use Rattle.elf_c.proofs.Batches.{put_elsewhere, put_there}
use Rattle.elf_c.proofs.LoadObjects.{repeated, take_get}
use Rattle.elf_c.specs.LoadAll.{AreRelocated, AreShown, IsImageRelocated, RelocatesAllAs, RelocatesEach, all_relocated, begin_at, image_behind, none_relocated, one_relocated, size_at, size_in, total_size}
use Rattle.elf_c.specs.LoadObjects.{AreObjectsOf, ArePlacesOf, ArePlansOf}
use Rattle.elf_c.specs.declared.load_objects.Failure.{Failure}
use Rattle.elf_c.specs.declared.load_objects.LoadObject.{LoadObject}

some_same : {T : Type 0} (one other : T) → Some one ≡ Some other → one ≡ other
some_same one other is = cc

-- The begins of images.

pub begin_none : (plans : List LoadPlan) → begin_at plans 0 ≡ 0
unfolding total_size
begin_none plans = refl

begin_step : (plans : List LoadPlan) (index : ℕ) (plan : LoadPlan) → slice_get plans index ≡ Some plan → begin_at plans (suc index) ≡ begin_at plans index + plan_size plan
unfolding total_size
begin_step [] index plan is = absurd (cc)
begin_step (first ∷ plans) zero plan is =
    let same : plan_size first ≡ plan_size plan = ap plan_size (some_same first plan is) in
    let own : begin_at (first ∷ plans) (suc zero) ≡ plan_size first + 0 = refl in
    let none : begin_at (first ∷ plans) zero ≡ 0 = refl in
    omega (arith, same, own, none)
begin_step (first ∷ plans) (suc index) plan is =
    let rest = begin_step plans index plan is in
    let own : begin_at (first ∷ plans) (suc (suc index)) ≡ plan_size first + begin_at plans (suc index) = refl in
    let mine : begin_at (first ∷ plans) (suc index) ≡ plan_size first + begin_at plans index = refl in
    omega (arith, rest, own, mine)

-- the image after the one at an index begins where that ends
begin_more : (plans : List LoadPlan) (index : ℕ) (plan : LoadPlan) → slice_get plans index ≡ Some plan → begin_at plans (index + 1) ≡ begin_at plans index + plan_size plan
begin_more plans index plan is =
    let same : index + 1 ≡ suc index = omega arith in
    ap (λ n. begin_at plans n) same ∙ begin_step plans index plan is

size_next : (plans : List LoadPlan) (index : ℕ) (plan : LoadPlan) → slice_get plans index ≡ Some plan → size_at plans index ≡ plan_size plan
size_next plans index plan is = ap size_in is

-- each image begins in memory
pub begin_within : (plans : List LoadPlan) (index : ℕ) → begin_at plans index ≤ total_size plans
unfolding total_size
begin_within [] zero = omega arith
begin_within [] (suc index) = omega arith
begin_within (first ∷ plans) zero = omega arith
begin_within (first ∷ plans) (suc index) = let rest = begin_within plans index in omega (arith, rest)

-- the end of all
pub begin_all : (plans : List LoadPlan) → begin_at plans (length plans) ≡ total_size plans
unfolding total_size
begin_all [] = refl
begin_all (first ∷ plans) = ap (λ rest. plan_size first + rest) (begin_all plans)

-- the same past all
pub begin_past : (plans : List LoadPlan) (index : ℕ) → length plans ≤ index → begin_at plans index ≡ total_size plans
unfolding total_size
begin_past [] zero past = refl
begin_past [] (suc index) past = refl
begin_past (first ∷ plans) zero past = absurd (omega (arith, past))
begin_past (first ∷ plans) (suc index) past = ap (λ rest. plan_size first + rest) (begin_past plans index (omega (arith, past)))

-- Whether memory has the size of all.

pub whole_step : (plans : List LoadPlan) (index rest memory size : ℕ) (plan : LoadPlan) → slice_get plans index ≡ Some plan → rest + begin_at plans index ≡ memory → size ≡ plan_size plan
    → size ≤ rest → (rest - size) + begin_at plans (index + 1) ≡ memory
whole_step plans index rest memory size plan below left is fits =
    let next = begin_more plans index plan below in omega (arith, next, left, is, fits)

pub not_whole : (plans : List LoadPlan) (index rest memory size : ℕ) (plan : LoadPlan) → slice_get plans index ≡ Some plan → rest + begin_at plans index ≡ memory → size ≡ plan_size plan
    → rest < size → total_size plans ≡ memory → ⊥
not_whole plans index rest memory size plan below left is less same =
    let next = begin_more plans index plan below in
    let within = begin_within plans (index + 1) in omega (arith, next, within, left, is, less, same)

-- The images after one.

-- those before another are shown
pub record AreShownTo (plans : List LoadPlan) (of : ℕ) (behind : List ℕ) (to : ℕ) (images : List (Bor (List ℕ))) : Type 0 where
  pub empty : (index : ℕ) (image : Bor (List ℕ)) → index ≤ of → slice_get images index ≡ Some image → image.now ≡ []
  pub shown : (index : ℕ) (image : Bor (List ℕ)) → of < index → index < to → slice_get images index ≡ Some image
      → image.now ≡ image_behind plans of behind index

pub shown_none : (plans : List LoadPlan) (of : ℕ) (behind : List ℕ) (count : ℕ) (none : Bor (List ℕ)) → none.now ≡ [] → AreShownTo plans of behind (of + 1) (replicate count none)
shown_none plans of behind count none is = record {
  empty = λ index image below there. ap (λ lent. lent.now) (sym (repeated count index none image there)) ∙ is;
  shown = λ index image above below there. absurd (omega (arith, above, below));
}

pub shown_more : (plans : List LoadPlan) (of : ℕ) (behind : List ℕ) (place : ℕ) (images : List (Bor (List ℕ))) (one : Bor (List ℕ)) → place < length images → of < place → one.now ≡ image_behind plans of behind place
    → AreShownTo plans of behind place images → AreShownTo plans of behind (place + 1) (slice_set images place one)
shown_more plans of behind place images one within above is before = record {
  empty = λ index image below there. before.empty index image below (sym (put_elsewhere images place index one (λ same. absurd (omega (arith, below, above, same)))) ∙ there);
  shown = λ index image after below there. by index image after below there (cases_order index place);
}
  where
    by : (index : ℕ) (image : Bor (List ℕ)) → of < index → index < place + 1 → slice_get (slice_set images place one) index ≡ Some image → ((index ≡ place) ⊎ ((index < place) ⊎ (place < index)))
        → image.now ≡ image_behind plans of behind index
    by index image after below there (inl same) =
        let own : one ≡ image = some_same one image (sym (put_there images place one within) ∙ ap (λ i. slice_get (slice_set images place one) i) (sym same) ∙ there) in
        ap (λ lent. lent.now) (sym own) ∙ is ∙ ap (λ i. image_behind plans of behind i) (sym same)
    by index image after below there (inr (inl less)) =
        before.shown index image after less (sym (put_elsewhere images place index one (λ same. absurd (omega (arith, less, same)))) ∙ there)
    by index image after below there (inr (inr more)) = absurd (omega (arith, more, below))

pub shown_all : (plans : List LoadPlan) (of : ℕ) (behind : List ℕ) (to : ℕ) (images : List (Bor (List ℕ))) → length plans ≤ length images → to ≡ length plans → AreShownTo plans of behind to images
    → AreShown plans of behind (take (length plans) images)
shown_all plans of behind to images fit end all = record {
  same_count = long;
  empty = λ index image below there. all.empty index image below (at index image there);
  shown = λ index image after there. all.shown index image after (let less = within index image there in omega (arith, less, end)) (at index image there);
}
  where
    long : length (take (length plans) images) ≡ length plans
    long = length-take-le (length plans) images fit

    within : (index : ℕ) (image : Bor (List ℕ)) → slice_get (take (length plans) images) index ≡ Some image → index < length plans
    within index image there = let less = slice_get_within (take (length plans) images) index image there in omega (arith, less, long)

    at : (index : ℕ) (image : Bor (List ℕ)) → slice_get (take (length plans) images) index ≡ Some image → slice_get images index ≡ Some image
    at index image there = sym (take_get images (length plans) index (within index image there)) ∙ there

-- what is behind is that from the begin of an image on
pub behind_none : (plans : List LoadPlan) (of : ℕ) (behind : List ℕ) → behind ≡ drop (begin_at plans (of + 1) - begin_at plans (of + 1)) behind
behind_none plans of behind = ap (λ n. drop n behind) (let same : 0 ≡ begin_at plans (of + 1) - begin_at plans (of + 1) = omega arith in same)

pub behind_more : (plans : List LoadPlan) (of index size : ℕ) (behind rest : List ℕ) (plan : LoadPlan) → slice_get plans index ≡ Some plan → begin_at plans (of + 1) ≤ begin_at plans index → size ≡ plan_size plan
    → rest ≡ drop (begin_at plans index - begin_at plans (of + 1)) behind → drop size rest ≡ drop (begin_at plans (index + 1) - begin_at plans (of + 1)) behind
behind_more plans of index size behind rest plan below order is here =
    let next = begin_more plans index plan below in
    let sum : (begin_at plans index - begin_at plans (of + 1)) + size ≡ begin_at plans (index + 1) - begin_at plans (of + 1) = omega (arith, next, order, is) in
    ap (λ xs. drop size xs) here ∙ drop-drop size (begin_at plans index - begin_at plans (of + 1)) behind ∙ ap (λ n. drop n behind) sum

pub behind_fits : (plans : List LoadPlan) (index size rest : ℕ) (plan : LoadPlan) → slice_get plans index ≡ Some plan → size ≡ plan_size plan → begin_at plans index + rest ≡ total_size plans → size ≤ rest
behind_fits plans index size rest plan below is sum =
    let next = begin_more plans index plan below in
    let within = begin_within plans (index + 1) in omega (arith, next, within, is, sum)

pub behind_image : (plans : List LoadPlan) (of index size : ℕ) (behind rest : List ℕ) (plan : LoadPlan) → slice_get plans index ≡ Some plan → size ≡ plan_size plan
    → rest ≡ drop (begin_at plans index - begin_at plans (of + 1)) behind → take size rest ≡ image_behind plans of behind index
behind_image plans of index size behind rest plan below is here =
    ap (λ n. take n rest) (is ∙ sym (size_next plans index plan below)) ∙ ap (λ xs. take (size_at plans index) xs) here

pub order_more : (plans : List LoadPlan) (of index size : ℕ) (plan : LoadPlan) → slice_get plans index ≡ Some plan → size ≡ plan_size plan → begin_at plans (of + 1) ≤ begin_at plans index
    → begin_at plans (of + 1) ≤ begin_at plans (index + 1)
order_more plans of index size plan below is order = let next = begin_more plans index plan below in omega (arith, next, order)

pub sum_more : (plans : List LoadPlan) (index size rest others : ℕ) (plan : LoadPlan) → slice_get plans index ≡ Some plan → size ≡ plan_size plan → begin_at plans index + rest ≡ total_size plans
    → others + size ≡ rest → begin_at plans (index + 1) + others ≡ total_size plans
sum_more plans index size rest others plan below is sum parts = let next = begin_more plans index plan below in omega (arith, next, is, sum, parts)

-- One image.

pub image_fits : (plans : List LoadPlan) (of size begin back memory : ℕ) (plan : LoadPlan) → slice_get plans of ≡ Some plan → size ≡ plan_size plan → begin ≡ begin_at plans of → total_size plans ≡ memory
    → back + begin ≡ memory → size ≤ back
image_fits plans of size begin back memory plan below is here whole parts =
    let next = begin_more plans of plan below in
    let within = begin_within plans (of + 1) in omega (arith, next, within, is, here, whole, parts)

pub image_rest : (plans : List LoadPlan) (of size begin back rest memory : ℕ) (plan : LoadPlan) → slice_get plans of ≡ Some plan → size ≡ plan_size plan → begin ≡ begin_at plans of → total_size plans ≡ memory
    → back + begin ≡ memory → rest + size ≡ back → begin_at plans (of + 1) + rest ≡ total_size plans
image_rest plans of size begin back rest memory plan below is here whole parts inner =
    let next = begin_more plans of plan below in omega (arith, next, is, here, whole, parts, inner)

pub image_size : (plans : List LoadPlan) (of size long : ℕ) (plan : LoadPlan) → slice_get plans of ≡ Some plan → size ≡ plan_size plan → long ≡ size → long ≡ size_at plans of
image_size plans of size long plan below is same = same ∙ is ∙ sym (size_next plans of plan below)

pub image_relocated : {E : Type 0} {r : _} (fields : E → SymbolFields) (objects : Bor (List (DynamicObject E r))) (plans : Bor (List LoadPlan)) (when : Binding) (of : ℕ) (lent : Bor (List Place)) (images : Bor (List (Bor (List ℕ)))) (memory front back image written behind : List ℕ) (answer : Result ℕ WordError) (all : List (Bor (List ℕ)))
    → memory ≡ front ++ back → back ≡ image ++ behind → length front ≡ begin_at plans.now of → length image ≡ size_at plans.now of
    → IsRelocationIn fields objects plans of when lent images image written (error_alone answer)
    → IfOk (error_alone answer) (λ count. IsByOneWordIn fields objects plans of when lent images image written)
    → IfErr (error_alone answer) (HasErrorLeft fields objects.now plans.now of when)
    → IfErr answer (IsRelocationErrorIn fields objects plans of when lent images (length image)) → AreShown plans.now of behind all → images.now ≡ all
    → IsImageRelocated fields objects plans when lent.now of memory (front ++ (written ++ behind)) answer
image_relocated fields objects plans when of lent images memory front back image written behind answer all whole parts begin size relocation once errors first shown same = record {
  lent = lent;
  places_are = refl;
  images = images;
  front = front;
  image = image;
  written = written;
  behind = behind;
  before_is = whole ∙ ap (λ rest. front ++ rest) parts;
  after_is = refl;
  begin_is = begin;
  size_is = size;
  images_are = subst (AreShown plans.now of behind) (sym same) shown;
  relocation = relocation;
  once = once;
  errors = errors;
  first = first;
}

-- The relocation of all objects.

pub begin_last : (plans : List LoadPlan) (size : ℕ) → total_size plans ≡ size → size ≡ begin_at plans (length plans - 0)
begin_last plans size is =
    let same : length plans ≡ length plans - 0 = omega arith in
    sym is ∙ sym (begin_all plans) ∙ ap (λ n. begin_at plans n) same

-- the place of the next image before those that are done, which ends where they begin
pub begin_before : (plans : List LoadPlan) (done begin size : ℕ) (plan : LoadPlan) → done < length plans → slice_get plans (length plans - 1 - done) ≡ Some plan → begin ≡ begin_at plans (length plans - done)
    → size ≡ plan_size plan → begin ≡ begin_at plans (length plans - 1 - done) + size
begin_before plans done begin size plan below there here is =
    let same : length plans - done ≡ (length plans - 1 - done) + 1 = omega (arith, below) in
    let next = begin_more plans (length plans - 1 - done) plan there in
    let own : begin ≡ begin_at plans ((length plans - 1 - done) + 1) = here ∙ ap (λ n. begin_at plans n) same in
    omega (arith, own, next, is)

pub fits_before : (plans : List LoadPlan) (done begin size : ℕ) (plan : LoadPlan) → done < length plans → slice_get plans (length plans - 1 - done) ≡ Some plan → begin ≡ begin_at plans (length plans - done)
    → size ≡ plan_size plan → size ≤ begin
fits_before plans done begin size plan below there here is = let sum = begin_before plans done begin size plan below there here is in omega (arith, sum)

pub begins_before : (plans : List LoadPlan) (done begin size : ℕ) (plan : LoadPlan) → done < length plans → slice_get plans (length plans - 1 - done) ≡ Some plan → begin ≡ begin_at plans (length plans - done)
    → size ≡ plan_size plan → begin - size ≡ begin_at plans (length plans - 1 - done)
begins_before plans done begin size plan below there here is = let sum = begin_before plans done begin size plan below there here is in omega (arith, sum)

pub begins_next : (plans : List LoadPlan) (done begin size : ℕ) (plan : LoadPlan) → done < length plans → slice_get plans (length plans - 1 - done) ≡ Some plan → begin ≡ begin_at plans (length plans - done)
    → size ≡ plan_size plan → begin - size ≡ begin_at plans (length plans - (done + 1))
begins_next plans done begin size plan below there here is =
    let same : length plans - 1 - done ≡ length plans - (done + 1) = omega arith in
    begins_before plans done begin size plan below there here is ∙ ap (λ n. begin_at plans n) same

module _ {E : Type 0} {r : _} (fields : E → SymbolFields) (objects : Bor (List (DynamicObject E r))) (plans : Bor (List LoadPlan)) (when : Binding) (places : List Place) (before : List ℕ) where
  pub each_none : AreRelocated fields objects plans when places before (length plans.now - 0) before 0
  each_none = none_relocated (length plans.now - 0) before 0 (omega arith) refl refl

  pub each_more : (done of : ℕ) (middle after : List ℕ) (others count left : ℕ) → done < length plans.now → of ≡ length plans.now - 1 - done
      → AreRelocated fields objects plans when places before (length plans.now - done) middle others
      → IsImageRelocated fields objects plans when places of middle after (Ok count) → left ≡ min (others + count) (2 ^ 64 - 1)
      → AreRelocated fields objects plans when places before (length plans.now - (done + 1)) after left
  each_more done of middle after others count left below place made own is =
      let next : length plans.now - done ≡ (length plans.now - (done + 1)) + 1 = omega (arith, below) in
      let here : of ≡ length plans.now - (done + 1) = omega (arith, place) in
      one_relocated (length plans.now - (done + 1)) middle after others count left (omega (arith, below))
      (subst (λ n. AreRelocated fields objects plans when places before n middle others) next made)
      (subst (λ n. IsImageRelocated fields objects plans when places n middle after (Ok count)) here own) is

  pub each_done : (done : ℕ) (after : List ℕ) (left : ℕ) → length plans.now ≤ done → AreRelocated fields objects plans when places before (length plans.now - done) after left
      → AreRelocated fields objects plans when places before 0 after left
  each_done done after left end made =
      let none : length plans.now - done ≡ 0 = omega (arith, end) in
      subst (λ n. AreRelocated fields objects plans when places before n after left) none made

  pub each_before : (done of : ℕ) (middle : List ℕ) (left : ℕ) → done < length plans.now → of ≡ length plans.now - 1 - done
      → AreRelocated fields objects plans when places before (length plans.now - done) middle left
      → AreRelocated fields objects plans when places before (of + 1) middle left
  each_before done of middle left below place made =
      let next : length plans.now - done ≡ of + 1 = omega (arith, below, place) in
      subst (λ n. AreRelocated fields objects plans when places before n middle left) next made

-- The result of the call for files of one class.

pub all_by : {E : Type 0} {r : _} (class size : ℕ) (fields : E → SymbolFields) (loads : List LoadObject) (when : Binding) (page limit : ℕ) (objects : Bor (List (DynamicObject E r))) (plans : Bor (List LoadPlan)) (places : List Place) (all : List (DynamicObject E r)) (planned : List LoadPlan) (before after : List ℕ) (result : Result ℕ Failure)
    → RelocatesEach fields objects plans when places before after result → total_size plans.now ≡ length before
    → AreObjectsOf class size loads all → objects.now ≡ all → ArePlansOf page limit all planned → plans.now ≡ planned → ArePlacesOf loads places
    → RelocatesAllAs r class size fields loads when page limit before after result
all_by class size fields loads when page limit objects plans places all planned before after result each whole are same are_planned plans_same at =
    all_relocated objects plans places (subst (AreObjectsOf class size loads) (sym same) are)
    (subst (λ os. ArePlansOf page limit os plans.now) (sym same) (subst (ArePlansOf page limit all) (sym plans_same) are_planned)) at whole each
