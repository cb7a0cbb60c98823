-- The parts of the text of a plan, written one after another.
use Rattle.std.proofs.Common.{◌≡◌, ℕ, List, ◌++◌, codes, Option, None, Some, Result, Ok, Err, append_assoc, ◌∙◌, subst}
use Rattle.std.specs.Borrow.{Bor}
use Rattle.std.specs.Io.KnownBytes.{Appends}
use Rattle.std.specs.Prelude.{IfNone, IfSome, IsSomeAnd, MatchOption, OnOk, option_map}
use Rattle.elf_base.specs.Text.{EndsInZero}
use Rattle.elf_loading.specs.Mappings.{mappings_of}
use Rattle.elf_linking.specs.declared.segments.Segment.{Segment}
use Rattle.elf_loading.specs.Segments.{interpreter_of, loads_of}
use Rattle.elf_loading.specs.declared.mapping.Loader.TheVariants.{Glibc, Kernel}
use Rattle.elf_loading.specs.declared.mapping.Mapping.{Mapping}
use Rattle.elfload.specs.PlanRecords.{head_record, mapping_records, rest_record}
use Rattle.elfload.specs.Plans.{IsInterpreter, IsInterpreterText, IsPlanRecords, IsPlanText, head_of}
use Rattle.elfload.specs.Texts.{head_text, mappings_text}
use Rattle.elfload.specs.declared.plans.Head.{Head}
use Rattle.program_ends.specs.Appended.{AppendsSome}
use Rattle.xmas_elf.specs.Types.{ElfFile}

pub on_ok_so : {A E : Type 0} (result : Result A E) (P Q : Type 0) → (P → Q) → OnOk result P → OnOk result Q
on_ok_so (Ok value) P Q so is = so is
on_ok_so (Err error) P Q so is = tt

-- six parts, the first first
regroup : (a b c d e f : List ℕ) → ((((a ++ b) ++ c) ++ d) ++ e) ++ f ≡ a ++ (b ++ (c ++ (d ++ (e ++ f))))
regroup a b c d e f =
    append_assoc (((a ++ b) ++ c) ++ d) e f
    ∙ append_assoc ((a ++ b) ++ c) d (e ++ f)
    ∙ append_assoc (a ++ b) c (d ++ (e ++ f))
    ∙ append_assoc a b (c ++ (d ++ (e ++ f)))

module _ (page : ℕ) (path : Bor (List ℕ)) (file given : ElfFile) (head : Head) (interpreter : List ℕ) (kernel glibc : List Mapping) (old new : Option (List ℕ)) where
  -- the text of a plan, when all its parts are written
  pub plan_written : file ≡ given → head ≡ head_of page path file → IsInterpreterText file interpreter → kernel ≡ mappings_of page Kernel None (loads_of file) → glibc ≡ mappings_of page Glibc None (loads_of file)
      → Appends old new (((((head_text head ++ interpreter) ++ codes "\nkernel\n") ++ mappings_text kernel) ++ codes "glibc\n") ++ mappings_text glibc) → AppendsSome (IsPlanText page path given) old new
  plan_written same head_is named kernel_is glibc_is grown = (
    ((((head_text head ++ interpreter) ++ codes "\nkernel\n") ++ mappings_text kernel) ++ codes "glibc\n") ++ mappings_text glibc,
    subst (λ f. IsPlanText page path f (((((head_text head ++ interpreter) ++ codes "\nkernel\n") ++ mappings_text kernel) ++ codes "glibc\n") ++ mappings_text glibc)) same (record {
      interpreter = interpreter;
      interpreter_is = named;
      text_is = rw (head_is, kernel_is, glibc_is) (regroup (head_text (head_of page path file)) interpreter (codes "\nkernel\n") (mappings_text (mappings_of page Kernel None (loads_of file))) (codes "glibc\n") (mappings_text (mappings_of page Glibc None (loads_of file))));
    }),
    grown,
  )

-- four parts, the first first
four : (a b c d : List ℕ) → ((a ++ b) ++ c) ++ d ≡ a ++ (b ++ (c ++ d))
four a b c d = append_assoc (a ++ b) c d ∙ append_assoc a b (c ++ d)

-- the same as JSON
module _ (page : ℕ) (path : Bor (List ℕ)) (file given : ElfFile) (head : Head) (interpreter : Option (List ℕ)) (kernel glibc : List Mapping) (old new : Option (List ℕ)) where
  pub records_written : file ≡ given → head ≡ head_of page path file → IsInterpreter file interpreter → kernel ≡ mappings_of page Kernel None (loads_of file) → glibc ≡ mappings_of page Glibc None (loads_of file)
      → Appends old new (((head_record head ++ rest_record head interpreter) ++ mapping_records path.now (codes "kernel") kernel) ++ mapping_records path.now (codes "glibc") glibc) → AppendsSome (IsPlanRecords page path given) old new
  records_written same head_is known kernel_is glibc_is grown = (
    ((head_record head ++ rest_record head interpreter) ++ mapping_records path.now (codes "kernel") kernel) ++ mapping_records path.now (codes "glibc") glibc,
    subst (λ f. IsPlanRecords page path f (((head_record head ++ rest_record head interpreter) ++ mapping_records path.now (codes "kernel") kernel) ++ mapping_records path.now (codes "glibc") glibc)) same (record {
      interpreter = interpreter;
      interpreter_is = known;
      text_is = rw (head_is, kernel_is, glibc_is) (four (head_record (head_of page path file)) (rest_record (head_of page path file) interpreter) (mapping_records path.now (codes "kernel") (mappings_of page Kernel None (loads_of file))) (mapping_records path.now (codes "glibc") (mappings_of page Glibc None (loads_of file))));
    }),
    grown,
  )

there : {A : Type 0} (found : Option A) (P Q : A → Type 0) → MatchOption found ⊥ (λ one. P one × Q one) → IsSomeAnd found P
there None P Q never = never
there (Some one) P Q is = is.0

-- the path of the interpreter, as a plan gives it
pub interpreter_known : (file : ElfFile) (found : Option (Bor (List ℕ))) (Lies : Bor (List ℕ) → Segment → Type 0) → IfNone found (interpreter_of file ≡ None)
    → IfSome found (λ path. MatchOption (interpreter_of file) ⊥ (λ segment. EndsInZero file.input.now segment.offset path.now × Lies path segment)) → IsInterpreter file (option_map (λ (path : Bor (List ℕ)). path.now) found)
interpreter_known file None Lies none named = none
interpreter_known file (Some path) Lies none named = there (interpreter_of file) (λ segment. EndsInZero file.input.now segment.offset path.now) (Lies path) named
