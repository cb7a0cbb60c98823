use Rattle.std.proofs.Common.{◌≡◌, ◌∙◌, ◌||◌, List, Err, ap, refl, sym, subst}
use Rattle.elfbind.specs.Answers.{IsEnd}
use Rattle.elfbind.specs.Found.{listed, short}
use Rattle.elfbind.proofs.Missing.{first_false, missing_failed, missing_twice}
use Rattle.elfbind.proofs.run_found.Goals as goal
use Rattle.linking_programs.specs.Numbers.{AreNumbersKnown}
use Rattle.linking_programs.specs.declared.Input.{Input}
use Rattle.program_ends.specs.declared.Fault.TheVariants as faults
use Rattle.program_libraries.specs.Complete.{with_missing}

-- the version numbers of the same inputs
same_known : (narrow_record wide_record : _) (one other : List Input) → one ≡ other → AreNumbersKnown narrow_record wide_record one → AreNumbersKnown narrow_record wide_record other
same_known narrow_record wide_record one other same is = subst (λ (inputs : List Input). AreNumbersKnown narrow_record wide_record inputs) same is

pub returns-in-Some-clause-bound : goal.returns-in-Some-clause-bound
returns-in-Some-clause-bound g c = c.with_missing.ensures.bound c.run.ensures.bound

pub returns-in-Some-clause-complete : goal.returns-in-Some-clause-complete
returns-in-Some-clause-complete g c = λ zero. c.say_missing-missing.ensures (c.with_missing.ensures.whole zero)

pub returns-in-Some-clause-numbers : goal.returns-in-Some-clause-numbers
returns-in-Some-clause-numbers g c = λ zero. record {
  inputs = c.in-Some.inputs.items;
  inputs_are = c.in-Some.ensures;
  known = same_known _ _ _ _ c.deref.ensures.value (c.run.ensures.known (c.with_missing.ensures.kept zero));
}

pub returns-in-Some-clause-ends : goal.returns-in-Some-clause-ends
returns-in-Some-clause-ends g c =
    let (wrong, end, is, status) = c.run.ensures.ends in (
      c.say_missing-missing.result || wrong,
      end,
      λ none. c.say_missing-missing.ensures (first_false c.say_missing-missing.result wrong none),
      listed c.in-Some.inputs.items c.in-Some.ensures (subst (λ (inputs : List Input). IsEnd _ _ inputs c.args.question end) c.deref.ensures.value is),
      c.with_missing.ensures.value ∙ ap (with_missing c.say_missing-missing.result) status ∙ missing_twice c.say_missing-missing.result wrong _,
    )

pub returns-in-None-clause-ends : goal.returns-in-None-clause-ends
returns-in-None-clause-ends g c = (
  c.say_missing-missing.result,
  Err faults.Memory,
  λ none. c.say_missing-missing.ensures none,
  short refl,
  c.say.ensures ∙ sym (missing_failed c.say_missing-missing.result),
)
