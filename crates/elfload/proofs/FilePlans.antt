-- The plan of the file of an object.
use Rattle.std.proofs.Common.{◌≡◌, ℕ, Some, None, Result, Ok, Err, refl, sym, ap, subst, ◌∙◌}
use Rattle.std.specs.Prelude.{IsSomeAnd, MatchOption, MatchResult}
use Rattle.elf_linking.specs.DynamicObject.{object_file}
use Rattle.elfload.specs.Types.{DynamicObject, LoadError, LoadPlan}
use Rattle.elf_loading.specs.FileCheck.{check_file}
use Rattle.elf_loading.specs.Plan.{IsPlanOf}
use Rattle.elf_loading.specs.declared.error.LoadError.TheVariants.{Machine}
use Rattle.elfload.specs.Images.{IsPlanFor, LacksPlan}
use Rattle.elfload.specs.Plans.{header_limit}
use Rattle.xmas_elf.specs.Types.{ElfFile}

module _ {E : Type 0} {r : _} (page : ℕ) (object : DynamicObject E r) (file : ElfFile) where
  pub planned : (limit : ℕ) (result : Result LoadPlan LoadError) → file ≡ object_file object → header_limit file.header ≡ Some limit → MatchResult result (IsPlanOf file page limit) (λ error. check_file file page limit ≡ Err error)
      → MatchResult result (IsPlanFor page object) (LacksPlan page (object_file object))
  planned limit result same limited checked = by_result result (subst (λ (one : ElfFile). MatchResult result (IsPlanOf one page limit) (λ error. check_file one page limit ≡ Err error)) same checked)
    where
      known : header_limit (object_file object).header ≡ Some limit
      known = ap (λ (one : ElfFile). header_limit one.header) (sym same) ∙ limited

      by_result : (found : Result LoadPlan LoadError) → MatchResult found (IsPlanOf (object_file object) page limit) (λ error. check_file (object_file object) page limit ≡ Err error)
          → MatchResult found (IsPlanFor page object) (LacksPlan page (object_file object))
      by_result (Ok plan) is = subst (λ found. IsSomeAnd found (λ limit. IsPlanOf (object_file object) page limit plan)) (sym known) is
      by_result (Err error) is = subst (λ found. MatchOption found (error ≡ Machine) (λ limit. check_file (object_file object) page limit ≡ Err error)) (sym known) is

  pub unlimited : file ≡ object_file object → header_limit file.header ≡ None → LacksPlan page (object_file object) Machine
  unlimited same none =
      let known : header_limit (object_file object).header ≡ None = ap (λ (one : ElfFile). header_limit one.header) (sym same) ∙ none in
      subst (λ found. MatchOption found (Machine ≡ Machine) (λ limit. check_file (object_file object) page limit ≡ Err Machine)) (sym known) refl
