-- The first of the objects of a scope that gives a symbol, object by object; and what is looked up, wherever its texts lie.
use Rattle.std.proofs.Common.{◌≡◌, ℕ, ◌+◌, ◌<◌, ◌≤◌, List, [], ◌∷◌, length, drop, Option, Some, None, refl, sym, ap, ◌∙◌, inl, inr, arith, add-one, slice_get}
use Rattle.std.proofs.Math.ListN.{drop_of_length-le}
use Rattle.std.proofs.Math.Seq.{drop-cons}
use Rattle.std.proofs.lemmas.Option.{slice_get_cases}
use Rattle.std.specs.Option.{option_or}
use Rattle.std.specs.Prelude.{option_and_then}
use Rattle.std.specs.Borrow.{Bor}
use Rattle.elf_linking.specs.CheckedScope.{bound_for, asked_fields, first_given, given_at, looked_up, protected_bound}
use Rattle.elf_linking.specs.Exports.{ObjectParts}
use Rattle.elf_linking.specs.declared.find.Use as uses
use Rattle.elf_linking.specs.declared.find.Use.TheVariants.{Defined}
use Rattle.elf_linking.specs.declared.find.Wanted.{Wanted}
use Rattle.elf_linking.specs.declared.find.Wanted.TheVariants.{Newest, Unversioned, Version}
use Rattle.elf_linking.specs.declared.scope.asking.Asked.TheVariants.{Look}
use Rattle.elf_linking.specs.declared.scope.Bound.{Bound}
use Rattle.xmas_elf.specs.Symbol.{SymbolFields}

module _ (name : List ℕ) (wanted : Wanted) (purpose : uses.Use) (objects : List ObjectParts) where
  -- what the object at an index gives
  abbrev pub Given : ℕ → Option (Bound SymbolFields)
  Given at = option_and_then (given_at name wanted purpose at) (slice_get objects at)

  -- what the first of the objects from an index on gives
  abbrev pub first_from : ℕ → Option (Bound SymbolFields)
  first_from at = first_given name wanted purpose at (drop at objects)

  drop_none : (all : List ObjectParts) → drop 0 all ≡ all
  drop_none [] = refl
  drop_none (object ∷ all) = refl

  pub from_first : first_from 0 ≡ first_given name wanted purpose 0 objects
  from_first = ap (first_given name wanted purpose 0) (drop_none objects)

  one_more : (at : ℕ) → at < length objects → first_from at ≡ option_or (Given at) (first_from (at + 1))
  one_more at below = elim (slice_get_cases objects at).1 [
    | inl (object, _, is, here) ↦ (
        let split : drop at objects ≡ object ∷ drop (at + 1) objects = drop-cons objects at object below ∙ rw (here, add-one) refl in
        ap (first_given name wanted purpose at) split ∙ sym (ap (λ o. option_or (option_and_then (given_at name wanted purpose at) o) (first_from (at + 1))) is))
    | inr past ↦ absurd (let beyond = past.0 in omega arith)
  ]

  pub none_here : (at : ℕ) → at < length objects → Given at ≡ None → first_from at ≡ first_from (at + 1)
  none_here at below none = one_more at below ∙ ap (λ o. option_or o (first_from (at + 1))) none

  pub some_here : (at : ℕ) (bound : Bound SymbolFields) → at < length objects → Given at ≡ Some bound → first_from at ≡ Some bound
  some_here at bound below some = one_more at below ∙ ap (λ o. option_or o (first_from (at + 1))) some

  pub none_left : (at : ℕ) → length objects ≤ at → first_from at ≡ None
  none_left at past = ap (first_given name wanted purpose at) (drop_of_length-le objects past)

module _ {E : Type 0} (fields : E → SymbolFields) (objects : List ObjectParts) (from index : ℕ) (name : Bor (List ℕ)) (purpose : uses.Use) where
  pub bound_for_look : (wanted : Wanted) → bound_for objects from index (asked_fields fields (Look name wanted purpose None)) ≡ looked_up objects from name.now wanted purpose
  bound_for_look (Version text hash hidden) = refl
  bound_for_look Unversioned = refl
  bound_for_look Newest = refl

  pub bound_for_protected : (wanted : Wanted) (symbol : E) → bound_for objects from index (asked_fields fields (Look name wanted purpose (Some symbol)))
      ≡ protected_bound (record { object = from; index = index; symbol = fields symbol }) (looked_up objects from name.now wanted Defined) (looked_up objects from name.now wanted purpose)
  bound_for_protected (Version text hash hidden) symbol = refl
  bound_for_protected Unversioned symbol = refl
  bound_for_protected Newest symbol = refl
