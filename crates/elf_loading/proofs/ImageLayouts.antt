-- The byte order of a checked object, and the first address of its image, by the scope that it is in.
use Rattle.std.proofs.Common.{◌≡◌, ℕ, List, Option, Some, slice_get, refl, subst}
use Rattle.std.proofs.lemmas.Option.{slice_get-map}
use Rattle.elf_base.specs.FileHeader.{file_order}
use Rattle.elf_linking.specs.DynamicObject.{object_file}
use Rattle.elf_loading.specs.CheckedImage.{ImageParts, image_at_index, image_parts, start_in}
use Rattle.elf_loading.specs.Plan.{plan_span}
use Rattle.elf_loading.specs.Types.{DynamicObject, Order}
use Rattle.elf_loading.specs.declared.plan.LoadPlan.{LoadPlan}
use Rattle.xmas_elf.specs.Symbol.{SymbolFields}

module _ {E : Type 0} {r : _} (fields : E → SymbolFields) (objects : List (DynamicObject E r)) (plans : List LoadPlan) (index : ℕ) (parts : ImageParts)
    (there : image_at_index fields objects plans index ≡ Some parts) where
  pub layout_is : (own : DynamicObject E r) (plan : LoadPlan) → slice_get objects index ≡ Some own → slice_get plans index ≡ Some plan
      → ◌≡◌ {A = Option (Order × ℕ)} (Some (file_order (object_file own).header, (plan_span plan).start)) (Some (parts.order, start_in parts index))
  layout_is own plan own_there plan_there =
      let found : ◌≡◌ {A = Option ImageParts} (Some (image_parts fields objects plans index own plan)) (Some parts) = rw (own_there, plan_there) at there in
      let same : image_parts fields objects plans index own plan ≡ parts = cc in
      let start = slice_get-map (λ (p : LoadPlan). (plan_span p).start) plans index in
      subst (λ p. ◌≡◌ {A = Option (Order × ℕ)} (Some (file_order (object_file own).header, (plan_span plan).start)) (Some (p.order, start_in p index))) same
      (rw (start, plan_there) refl)
