use Rattle.std.proofs.Common.{◌≡◌, ◌∷◌, ◌∙◌, Some, arith, drop, length, rules}
use Rattle.std.proofs.lemmas.Grind.{common_steps}
use Rattle.elf_search.specs.Tokens.{token_at, token_parts, value_of, values_of}
use Rattle.elf_search.proofs.TokenSteps.{step_token}
use Rattle.elf_search.proofs.tokens.ExpandedIterator.next.Goals as goal

pub loop-byte-preserved : goal.loop-byte-preserved
loop-byte-preserved c =
    let none : length c.loop-byte.self.value.now ≡ 0 = first_of (search rules, grind (arith, common_steps)) in
    let is : c.loop-byte.self.text.now ≡ c.in_ok-byte.byte.now ∷ c.in_ok-byte.others.now = first_of (search rules, grind (arith, common_steps)) in
    let dollar : c.in_ok-byte.byte.now ≡ 36 = first_of (search rules, grind (arith, common_steps)) in
    let some : token_at (values_of c.loop-byte.self.values) c.in_ok-byte.others.now ≡ Some (token_parts c.in-Some-token_at.token) = first_of (search rules, grind (arith, common_steps)) in
    let value_is : c.value_or_none-self.result.now ≡ value_of (token_parts c.in-Some-token_at.token).value = first_of (search rules, grind (arith, common_steps)) in
    let behind_is : c.split_at.result.1.now ≡ drop (token_parts c.in-Some-token_at.token).length c.in_ok-byte.others.now = first_of (search rules, grind (arith, common_steps)) in
    step_token (values_of c.loop-byte.self.values) c.loop-byte.self.value.now c.loop-byte.self.text.now c.in_ok-byte.others.now c.in_ok-byte.byte.now (token_parts c.in-Some-token_at.token) c.value_or_none-self.result.now c.split_at.result.1.now none is dollar some value_is behind_is
    ∙ c.loop-byte.invariant
