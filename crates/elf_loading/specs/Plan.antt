-- The plan of a load, by what its calls return.
use Rattle.std.specs.Prelude.{◌≡◌, ◌<◌, ◌+◌, ◌-◌, ℕ, List, Ok, Option, length, option_map, slice_index}
use Rattle.xmas_elf.specs.Types.{ElfFile}
use Rattle.elf_loading.specs.Types.{Loader, Segment, Span}
use Rattle.elf_loading.specs.Bytes.{byte_number, byte_of}
use Rattle.elf_loading.specs.FileCheck.{check_file}
use Rattle.elf_loading.specs.Segments.{loads_of, relro_of}
use Rattle.elf_loading.specs.Spans.{relro_span, span_of}
use Rattle.elf_loading.specs.declared.plan.LoadPlan.{LoadPlan}

-- the file of a plan
abbrev pub plan_file : LoadPlan → ElfFile
plan_file plan = record { input = plan.input; header = plan.header }

-- the plan is of this file, with this page size, and the check of the file has ended
pub record IsPlanOf (file : ElfFile) (page limit : ℕ) (plan : LoadPlan) : Type 0 where
  pub checked : check_file file page limit ≡ Ok plan.end
  pub of_file : ◌≡◌ {A = ElfFile} (record { input = plan.input; header = plan.header }) file
  pub page_is : plan.page ≡ page
  pub limit_is : plan.limit ≡ limit

-- the loads of a plan
abbrev pub plan_loads : LoadPlan → List Segment
plan_loads plan = loads_of (record { input = plan.input; header = plan.header })

-- the addresses that a plan covers
abbrev pub plan_span : LoadPlan → Span
plan_span plan = span_of plan.page (plan_loads plan)

-- the number of them
abbrev pub plan_size : LoadPlan → ℕ
plan_size plan = (plan_span plan).end - (plan_span plan).start

-- the page size of a plan
abbrev pub plan_page : LoadPlan → ℕ
plan_page plan = plan.page

-- the pages of a plan that are read-only after relocation
abbrev pub plan_relro : LoadPlan → Option Span
plan_relro plan = option_map (relro_span plan.page) (relro_of (plan_file plan))

-- the bytes of the span of a plan, as a loader maps them: byte `i` is that at the start of the span plus `i`
pub record IsImageBy (by : Loader) (plan : LoadPlan) (image : List ℕ) : Type 0 where
  pub size : length image ≡ plan_size plan
  pub bytes : (i : ℕ) → i < length image → slice_index image i ≡ byte_number plan.input.now
      (byte_of plan.page by (length plan.input.now) ((plan_span plan).start + i) (plan_loads plan))
