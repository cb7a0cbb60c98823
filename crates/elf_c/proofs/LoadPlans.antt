-- The plan of a load and its mappings, as numbers.
use Rattle.std.proofs.Common.{◌≡◌, ◌+◌, ◌≤◌, ℕ, List, length, map, Option, None, Some, MatchOption, option_map, Result, sym, ap, subst, ◌∙◌, arith}
use Rattle.std.specs.Borrow.{Bor}
use Rattle.elf_base.proofs.Texts.{bytes-ended, zero_within}
use Rattle.elf_base.specs.Lent.{LiesAt}
use Rattle.elf_base.specs.Text.{EndsInZero}
use Rattle.elf_loading.specs.Mappings.{mappings_of}
use Rattle.elf_loading.specs.Plan.{IsPlanOf, plan_loads}
use Rattle.elf_loading.specs.Segments.{loads_of}
use Rattle.elf_loading.specs.declared.mapping.Loader.{Loader}
use Rattle.elf_loading.specs.declared.mapping.Mapping.{Mapping}
use Rattle.elf_loading.specs.declared.plan.LoadPlan.{LoadPlan}
use Rattle.xmas_elf.specs.Types.{ElfFile}
use Rattle.elf_linking.specs.declared.segments.Segment.{Segment}
use Rattle.elf_c.specs.Batch.{Fills}
use Rattle.elf_c.specs.LoadPlans.{if_checked, mapping_at, mapping_record, mapping_records, path_range, path_size}
use Rattle.elf_c.specs.Records.{record_in, range_at}
use Rattle.elf_c.specs.declared.load_plans.LoadMapping.{LoadMapping}
use Rattle.elf_c.specs.declared.status.AnyError.{AnyError}

-- what a plan says of the path that it returns
abbrev pub IsPath : Bor (List ℕ) → Option Segment → Bor (List ℕ) → Type 0
IsPath input found path = MatchOption found ⊥ (λ segment. EndsInZero input.now segment.offset path.now × LiesAt input segment.offset path)

some_same : (a b : ℕ) → Some a ≡ Some b → a ≡ b
some_same a b is = cc

-- the range of this path
pub path_is : (input : Bor (List ℕ)) (found : Option Segment) (offset : ℕ) (path : Bor (List ℕ)) → Some offset ≡ option_map (λ segment. segment.offset) found → IsPath input found path → path_range input.now found ≡ range_at offset (length path.now)
path_is input None offset path there ends = absurd ends
path_is input (Some segment) offset path there ends =
    ap (λ r. range_at segment.offset (path_size r)) (bytes-ended input.now segment.offset path.now ends.0)
    ∙ ap (λ o. range_at o (length path.now)) (some_same segment.offset offset (sym there))

pub path_lies : (input : Bor (List ℕ)) (found : Option Segment) (offset : ℕ) (path : Bor (List ℕ)) → Some offset ≡ option_map (λ segment. segment.offset) found → IsPath input found path → offset + length path.now ≤ length input.now
path_lies input None offset path there ends = absurd ends
path_lies input (Some segment) offset path there ends =
    let within = zero_within input.now segment.offset path.now ends.0 in
    let same : segment.offset ≡ offset = some_same segment.offset offset (sym there) in
    omega (arith, within, same)

-- the mappings that are stored are those of the file
pub mappings_filled : (file : ElfFile) (page limit : ℕ) (by : Loader) (plan : LoadPlan) (mappings : List Mapping) (first : ℕ) (old new : List LoadMapping) (answer : Result ℕ AnyError) → IsPlanOf file page limit plan → mappings ≡ mappings_of plan.page by None (plan_loads plan) → Fills (record_in (λ one. one) (map mapping_record mappings)) first old answer new → Fills (mapping_at file page limit by) first old answer new
mappings_filled file page limit by plan mappings first old new answer is are fills =
    let same : mappings_of plan.page by None (plan_loads plan) ≡ mappings_of page by None (loads_of file) =
    ap (λ p. mappings_of p by None (plan_loads plan)) is.page_is ∙ ap (λ f. mappings_of page by None (loads_of f)) is.of_file in
    subst (λ r. Fills (λ index. if_checked r (record_in (λ one. one) (mapping_records file page by) index)) first old answer new) (sym is.checked)
    (subst (λ ms. Fills (record_in (λ one. one) (map mapping_record ms)) first old answer new) (are ∙ same) fills)
