use Rattle.std.proofs.Common.{◌≡◌, ℕ, ◌<◌, Bool, true, false, List, length, None, bit_and, rules}
use Rattle.std.proofs.lemmas.Iterator.{cases_from_all}
use Rattle.std.proofs.lemmas.Iterator.Consumers.{YieldsList-from_first}
use Rattle.std.proofs.lemmas.Iterator.Search.{true_from_All}
use Rattle.std.proofs.lemmas.List.Elements.{All-from_all_within}
use Rattle.std.specs.Bool.{MatchBool}
use Rattle.std.specs.List.{All, AllWithin, HoldsAt}
use borrow.Author.Tests.{tests}
use Rattle.elf_loading.specs.Mappings.{mappings_of}
use Rattle.elf_loading.specs.MappingsLeft.{mappings_left}
use Rattle.elf_loading.specs.Plan.{plan_loads, plan_page}
use Rattle.elf_loading.specs.declared.mapping.Mapping.{Mapping}
use Rattle.loading_tests.proofs.callers.never_writable_and_executable.Goals as goal

all_from : {X : Type 0} (P Q : X → Type 0) (r : Bool) (xs : List X) → MatchBool r (AllWithin P xs 0 (length xs)) ((k : ℕ) × (k < length xs) × HoldsAt Q xs k) → r ≡ true → All P xs
all_from P Q true xs found is = All-from_all_within P xs found
all_from P Q false xs found is = absurd (cc)

abbrev IsBoth : Mapping → Type 0
IsBoth mapping = bit_and mapping.flags.0 3 ≡ 3

pub returns : goal.returns
returns c =
    let list = mappings_of (plan_page c.args.plan.now) c.args.by None (plan_loads c.args.plan.now) in
    let found = cases_from_all _ _ c.all.result (λ mapping. ¬ IsBoth mapping) IsBoth c.all.ensures.ran
    (YieldsList-from_first (λ mapping. mapping) mappings_left list c.mappings.ensures.all)
    (λ x q k. search (rules, tests)) (λ x q k. search (rules, tests)) in (
      all_from (λ mapping. ¬ IsBoth mapping) IsBoth c.all.result list found,
      true_from_All (λ mapping. ¬ IsBoth mapping) IsBoth c.all.result list (λ mapping no both. no both) found,
    )
