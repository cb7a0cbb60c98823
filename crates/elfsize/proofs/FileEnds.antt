-- The status and the sums of files, one after the other.
use Rattle.std.proofs.Common.{◌≡◌, ◌<◌, ◌+◌, ◌-◌, ◌^◌, ◌∷◌, ◌++◌, [], ℕ, List, Option, Result, Ok, Err, Bool, true, false, ap, arith, get_or, length, min, max, refl, sym, subst, take, ◌∙◌}
use Rattle.std.specs.Prelude.{◌||◌, if◌then◌else◌, is_err}
use Rattle.std.specs.List.{list_any, sum_by}
use Rattle.std.proofs.lemmas.List.{take_more}
use Rattle.std.proofs.lemmas.List.Folds.{list_any-append}
use Rattle.std.proofs.lemmas.List.Sums.{sum_by_push}
use Rattle.elfsize.specs.Ends.{AreEnds, IsEndAt, printed, printed_by_all, status_of_all, sums_after, sums_of_all}
use Rattle.elfsize.specs.declared.lines.AnyError.{AnyError}
use Rattle.elfsize.specs.declared.sums.Sums.{Sums}
use Rattle.elfsize.specs.declared.view.Options.{Options}
use Rattle.program_ends.specs.Ends.{status_of}
use Rattle.program_ends.specs.declared.Fault.{Fault}
use Rattle.program_ends.proofs.LineLists.{zip_one_more}

-- the status of one more file is the greater one
either : (before : Bool) (end : Result Sums (Fault AnyError)) → (if before || (is_err end || false) then 1 else 0) ≡ max (status_of end) (if before then 1 else 0)
either true (Ok sums) = refl
either true (Err fault) = refl
either false (Ok sums) = refl
either false (Err fault) = refl

status_push : (ends : List (Result Sums (Fault AnyError))) (end : Result Sums (Fault AnyError)) → status_of_all (ends ++ (end ∷ [])) ≡ max (status_of end) (status_of_all ends)
status_push ends end =
    let as_status : Bool → ℕ = λ b. if b then 1 else 0 in
    ap as_status (list_any-append is_err ends (end ∷ [])) ∙ either (list_any is_err ends) end

capped : (sum one most : ℕ) → min (sum + one) most ≡ min (min sum most + one) most
capped sum one most = omega arith

uncapped : (sum most : ℕ) → min (min sum most + 0) most ≡ min sum most
uncapped sum most = omega arith

-- the bytes of a kind of one more file
kind_push : (kind : Sums → ℕ) (ends : List (Result Sums (Fault AnyError))) (end : Result Sums (Fault AnyError)) → printed_by_all kind (ends ++ (end ∷ [])) ≡ min (printed_by_all kind ends + printed kind end) (2 ^ 128 - 1)
kind_push kind ends end =
    ap (λ n. min n (2 ^ 128 - 1)) (sum_by_push (printed kind) ends end)
    ∙ capped (sum_by (printed kind) ends) (printed kind end) (2 ^ 128 - 1)

none_more : (kind : Sums → ℕ) (ends : List (Result Sums (Fault AnyError))) (fault : Fault AnyError) → printed_by_all kind (ends ++ (Err fault ∷ [])) ≡ printed_by_all kind ends
none_more kind ends fault = kind_push kind ends (Err fault) ∙ uncapped (sum_by (printed kind) ends) (2 ^ 128 - 1)

abbrev sums_with : ℕ → ℕ → ℕ → ℕ → ℕ → ℕ → ℕ → Sums
sums_with a1 a2 a3 a4 a5 a6 a7 = record {
  sections = a1;
  segments = a2;
  elf_headers = a3;
  program_headers = a4;
  section_headers = a5;
  between = a6;
  after = a7;
}

same_sums : (a1 a2 a3 a4 a5 a6 a7 b1 b2 b3 b4 b5 b6 b7 : ℕ) → a1 ≡ b1 → a2 ≡ b2 → a3 ≡ b3 → a4 ≡ b4 → a5 ≡ b5 → a6 ≡ b6 → a7 ≡ b7 → sums_with a1 a2 a3 a4 a5 a6 a7 ≡ sums_with b1 b2 b3 b4 b5 b6 b7
same_sums a1 a2 a3 a4 a5 a6 a7 b1 b2 b3 b4 b5 b6 b7 e1 e2 e3 e4 e5 e6 e7 =
    ap (λ (x : ℕ). sums_with x a2 a3 a4 a5 a6 a7) e1
    ∙ (ap (λ (x : ℕ). sums_with b1 x a3 a4 a5 a6 a7) e2
    ∙ (ap (λ (x : ℕ). sums_with b1 b2 x a4 a5 a6 a7) e3
    ∙ (ap (λ (x : ℕ). sums_with b1 b2 b3 x a5 a6 a7) e4
    ∙ (ap (λ (x : ℕ). sums_with b1 b2 b3 b4 x a6 a7) e5
    ∙ (ap (λ (x : ℕ). sums_with b1 b2 b3 b4 b5 x a7) e6
    ∙ (ap (λ (x : ℕ). sums_with b1 b2 b3 b4 b5 b6 x) e7))))))

sums_push : (ends : List (Result Sums (Fault AnyError))) (end : Result Sums (Fault AnyError)) → sums_of_all (ends ++ (end ∷ [])) ≡ sums_after (sums_of_all ends) end
sums_push ends (Ok sums) = same_sums _ _ _ _ _ _ _ _ _ _ _ _ _ _
    (kind_push (λ (s : Sums). s.sections) ends (Ok sums))
    (kind_push (λ (s : Sums). s.segments) ends (Ok sums))
    (kind_push (λ (s : Sums). s.elf_headers) ends (Ok sums))
    (kind_push (λ (s : Sums). s.program_headers) ends (Ok sums))
    (kind_push (λ (s : Sums). s.section_headers) ends (Ok sums))
    (kind_push (λ (s : Sums). s.between) ends (Ok sums))
    (kind_push (λ (s : Sums). s.after) ends (Ok sums))
sums_push ends (Err fault) = same_sums _ _ _ _ _ _ _ _ _ _ _ _ _ _
    (none_more (λ (s : Sums). s.sections) ends fault)
    (none_more (λ (s : Sums). s.segments) ends fault)
    (none_more (λ (s : Sums). s.elf_headers) ends fault)
    (none_more (λ (s : Sums). s.program_headers) ends fault)
    (none_more (λ (s : Sums). s.section_headers) ends fault)
    (none_more (λ (s : Sums). s.between) ends fault)
    (none_more (λ (s : Sums). s.after) ends fault)

-- one more file ends
pub one_more_end : {R S : Type 0} (options : Options) (remaining : R → Option (List ℕ)) (text : S → List ℕ) (paths : List S) (index : ℕ) (path : S) (status own more : ℕ) (old new : Sums) (end : Result Sums (Fault AnyError)) → index < length paths → path ≡ get_or paths index path → AreEnds options remaining text (take index paths) status old → IsEndAt options remaining (text path) end → own ≡ status_of end → more ≡ max own status → new ≡ sums_after old end → AreEnds options remaining text (take (index + 1) paths) more new
one_more_end {R} {S} options remaining text paths index path status own more old new end below path_is so_far ended own_is more_is new_is =
    subst (λ (l : List S). AreEnds options remaining text l more new) (sym (take_more paths index path below ∙ ap (λ x. take index paths ++ (x ∷ [])) (sym path_is))) (record {
      ends = so_far.ends ++ (end ∷ []);
      are = zip_one_more (λ one other. IsEndAt options remaining (text one) other) (take index paths) so_far.ends path end so_far.are ended;
      status_is = more_is ∙ (ap (λ n. max n status) own_is ∙ (ap (λ n. max (status_of end) n) so_far.status_is ∙ sym (status_push so_far.ends end)));
      sums_are = new_is ∙ (ap (λ sums. sums_after sums end) so_far.sums_are ∙ sym (sums_push so_far.ends end));
    })

-- no file has ended
pub none_ended : {R S : Type 0} (options : Options) (remaining : R → Option (List ℕ)) (text : S → List ℕ) (sums : Sums) → sums ≡ sums_of_all [] → AreEnds options remaining text [] 0 sums
none_ended options remaining text sums none = record { ends = []; are = tt; status_is = refl; sums_are = none }
