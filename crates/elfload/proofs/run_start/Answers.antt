use Rattle.std.proofs.Common.{◌≡◌, ℕ, List, refl, subst}
use Rattle.elfload.specs.Images.{AreImagesGood}
use Rattle.elfload.specs.Symbols.{AreSymbolsFound}
use Rattle.elfload.proofs.run_start.Goals as goal
use Rattle.linking_programs.specs.Numbers.{AreNumbersKnown}
use Rattle.linking_programs.specs.declared.Input.{Input}

-- the checks of the same inputs, and their symbols
same_good : (narrow_record wide_record : _) (page : ℕ) (one other : List Input) → one ≡ other → AreImagesGood narrow_record wide_record page one → AreImagesGood narrow_record wide_record page other
same_good narrow_record wide_record page one other same is = subst (λ (inputs : List Input). AreImagesGood narrow_record wide_record page inputs) same is

same_found : (narrow_record wide_record : _) (one other : List Input) → one ≡ other → AreSymbolsFound narrow_record wide_record one → AreSymbolsFound narrow_record wide_record other
same_found narrow_record wide_record one other same is = subst (λ (inputs : List Input). AreSymbolsFound narrow_record wide_record inputs) same is

same_known : (narrow_record wide_record : _) (one other : List Input) → one ≡ other → AreNumbersKnown narrow_record wide_record one → AreNumbersKnown narrow_record wide_record other
same_known narrow_record wide_record one other same is = subst (λ (inputs : List Input). AreNumbersKnown narrow_record wide_record inputs) same is

pub returns-in-Some-clause-bound : goal.returns-in-Some-clause-bound
returns-in-Some-clause-bound g c = c.with_references.ensures.bound c.run_steps-status.ensures.bound

pub returns-in-Some-clause-closed : goal.returns-in-Some-clause-closed
returns-in-Some-clause-closed g c = λ is. c.run_steps-status.ensures.closed (c.with_references.ensures.closed is)

pub returns-in-Some-clause-complete : goal.returns-in-Some-clause-complete
returns-in-Some-clause-complete g c = λ zero. c.say_missing-missing.ensures (c.with_references.ensures.whole zero)

pub returns-in-Some-clause-good : goal.returns-in-Some-clause-good
returns-in-Some-clause-good g c = λ zero.
    record {
      inputs = c.in-Some.inputs.items;
      inputs_are = c.in-Some.ensures;
      checked = same_good _ _ c.args.page _ _ c.deref.ensures.value (c.run_steps-status.ensures.checked (c.with_references.ensures.kept zero));
      known = same_known _ _ _ _ c.deref-in-Some.ensures.value (c.with_references.ensures.known zero);
      found = same_found _ _ _ _ c.deref-in-Some.ensures.value (c.with_references.ensures.found zero refl);
    }
