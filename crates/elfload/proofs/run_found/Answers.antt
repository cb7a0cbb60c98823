use Rattle.std.proofs.Common.{◌≡◌, List, subst}
use Rattle.elfload.specs.Found.{AreTogetherGood}
use Rattle.elfload.specs.declared.Options.{Options}
use Rattle.elfload.proofs.run_found.Goals as goal
use Rattle.linking_programs.specs.declared.Input.{Input}

-- what holds of the same inputs
same_good : (narrow_record wide_record : _) (options : Options) (one other : List Input) → one ≡ other → AreTogetherGood narrow_record wide_record options one → AreTogetherGood narrow_record wide_record options other
same_good narrow_record wide_record options one other same is = subst (λ (inputs : List Input). AreTogetherGood narrow_record wide_record options inputs) same is

pub returns-in-Some-clause-complete : goal.returns-in-Some-clause-complete
returns-in-Some-clause-complete g c = λ zero. c.say_missing-missing.ensures (c.run_together.ensures.whole zero)

pub returns-in-Some-clause-good : goal.returns-in-Some-clause-good
returns-in-Some-clause-good g c = λ zero. record {
  inputs = c.in-Some.inputs.items;
  inputs_are = c.in-Some.ensures;
  good = same_good _ _ c.args.asked _ _ c.deref.ensures.value (c.run_together.ensures.good zero);
}
