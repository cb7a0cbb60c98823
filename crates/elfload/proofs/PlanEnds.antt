-- The status of the plans of files, one after the other, and of the program.
use Rattle.std.proofs.Common.{◌≡◌, ◌≢◌, ◌<◌, ◌≤◌, ◌+◌, ◌∷◌, ◌++◌, [], ℕ, Bool, List, Result, Ok, Err, true, false, ap, arith, get_or, length, max, refl, sym, subst, take, ◌∙◌}
use Rattle.std.specs.Prelude.{◌||◌, if◌then◌else◌, is_err}
use Rattle.std.specs.List.{list_any}
use Rattle.std.proofs.lemmas.List.{take_more}
use Rattle.std.proofs.lemmas.List.Folds.{list_any-append}
use Rattle.elfload.proofs.Quiet.{quiet_open}
use Rattle.elfload.specs.Ends.{IsWordsEnd}
use Rattle.elfload.specs.Files.{AreAllStatic, HasDynamic}
use Rattle.elfload.specs.Statuses.{ArePlanEnds, IsPlanEnd, IsRunStatus, status_of_all, unplanned, with_words, without_words}
use Rattle.elfload.specs.Types.{Fault, Input}
use Rattle.elfload.specs.declared.Options.{Options}
use Rattle.elfload.specs.declared.plans.AnyError.{AnyError}
use Rattle.program_ends.proofs.LineLists.{zip_one_more}
use Rattle.program_ends.specs.Ends.{quiet_status_of, status_of}
use Rattle.program_ends.specs.declared.TheConstants.{CLOSED}
use Rattle.program_ends.specs.declared.json.Form.{Form}

-- the status of one more file is the greater one
either : (before : Bool) (end : Result (Unit {0}) (Fault AnyError)) → (if before || (is_err end || false) then 1 else 0) ≡ max (status_of end) (if before then 1 else 0)
either true (Ok done) = refl
either true (Err fault) = refl
either false (Ok done) = refl
either false (Err fault) = refl

status_push : (ends : List (Result (Unit {0}) (Fault AnyError))) (end : Result (Unit {0}) (Fault AnyError)) → status_of_all (ends ++ (end ∷ [])) ≡ max (status_of end) (status_of_all ends)
status_push ends end =
    let as_status : Bool → ℕ = λ b. if b then 1 else 0 in
    ap as_status (list_any-append is_err ends (end ∷ [])) ∙ either (list_any is_err ends) end

module _ (form : Form) (page : ℕ) where
  -- no plan has ended
  pub plans_none : ArePlanEnds form page [] 0
  plans_none = record { ends = []; are = tt; status_is = refl }

  -- one more plan ends, by the status of an output that somebody reads
  pub plans_more : (inputs : List Input) (index : ℕ) (input : Input) (status own more : ℕ) (end : Result (Unit {0}) (Fault AnyError)) (closed : Bool) → index < length inputs → input ≡ get_or inputs index input → ArePlanEnds form page (take index inputs) status
      → IsPlanEnd form page input end → own ≡ quiet_status_of end closed → own ≢ CLOSED → more ≡ max own status → ArePlanEnds form page (take (index + 1) inputs) more
  plans_more inputs index input status own more end closed below input_is so_far ended own_is unshut more_is =
      let own_status : own ≡ status_of end = own_is ∙ quiet_open end closed (λ same. unshut (own_is ∙ same)) in
      subst (λ (those : List Input). ArePlanEnds form page those more) (sym (take_more inputs index input below ∙ ap (λ one. take index inputs ++ (one ∷ [])) (sym input_is))) (record {
        ends = so_far.ends ++ (end ∷ []);
        are = zip_one_more (IsPlanEnd form page) (take index inputs) so_far.ends input end so_far.are ended;
        status_is = more_is ∙ (ap (λ n. max n status) own_status ∙ (ap (λ n. max (status_of end) n) so_far.status_is ∙ sym (status_push so_far.ends end)));
      })

-- the status without a fault is not that of a closed output
zero_unshut : (status : ℕ) → status ≡ 0 → status ≢ CLOSED
zero_unshut status zero is = let never : 0 ≡ 141 = sym zero ∙ is in omega (arith, never)

-- the plans have no fault
planned : (options : Options) (inputs : List Input) (status : ℕ) → (status ≢ CLOSED → ArePlanEnds options.form options.page inputs status) → status ≡ 0 → ArePlanEnds options.form options.page inputs 0
planned options inputs status ends zero = subst (ArePlanEnds options.form options.page inputs) zero (ends (zero_unshut status zero))

-- the status of the program
module _ (narrow_record wide_record : _) (options : Options) (inputs : List Input) (status : ℕ) (ends : status ≢ CLOSED → ArePlanEnds options.form options.page inputs status) where
  pub run_unplanned : status ≢ 0 → status ≢ CLOSED → status ≤ 1 → IsRunStatus narrow_record wide_record options inputs status
  run_unplanned other unshut bound =
      let one : status ≡ 1 = omega (arith, bound, other) in
      subst (IsRunStatus narrow_record wide_record options inputs) (sym one) (unplanned (subst (ArePlanEnds options.form options.page inputs) one (ends unshut)))

  pub run_planned : status ≡ 0 → AreAllStatic inputs → IsRunStatus narrow_record wide_record options inputs 0
  run_planned zero lacks = without_words (planned options inputs status ends zero) lacks

  pub run_worded : status ≡ 0 → HasDynamic inputs → (own : ℕ) (end : Result (Unit {0}) (Fault AnyError)) (closed : Bool) → IsWordsEnd narrow_record wide_record options inputs end
      → own ≡ quiet_status_of end closed → own ≢ CLOSED → IsRunStatus narrow_record wide_record options inputs own
  run_worded zero dynamic own end closed ended own_is unshut =
      subst (IsRunStatus narrow_record wide_record options inputs) (sym (own_is ∙ quiet_open end closed (λ same. unshut (own_is ∙ same))))
      (with_words end (planned options inputs status ends zero) dynamic ended)
