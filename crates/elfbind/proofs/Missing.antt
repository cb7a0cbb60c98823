-- The status where something is missing or wrong.
use Rattle.std.proofs.Common.{◌≡◌, ◌||◌, ◌∙◌, ℕ, Bool, true, false, ap, refl, sym}
use Rattle.std.specs.Prelude.{◌==◌, IsFalse, cond}
use Rattle.program_libraries.specs.Complete.{with_missing}

-- where there is no memory
pub missing_failed : (missing : Bool) → with_missing missing 1 ≡ 1
missing_failed false = refl
missing_failed true = refl

-- where the same is said twice
missing_again : (status : ℕ) (none : Bool) → (status == 0) ≡ none → with_missing true (with_missing true status) ≡ with_missing true status
missing_again status true is = ap (with_missing true) (ap (λ b. cond b 1 status) is) ∙ sym (ap (λ b. cond b 1 status) is)
missing_again status false is = ap (with_missing true) (ap (λ b. cond b 1 status) is)

-- where two things are said
pub missing_twice : (one other : Bool) (status : ℕ) → with_missing one (with_missing other status) ≡ with_missing (one || other) status
missing_twice false other status = refl
missing_twice true false status = refl
missing_twice true true status = missing_again status (status == 0) refl

-- where neither of two things is so, the first isn't
pub first_false : (one other : Bool) → IsFalse (one || other) → IsFalse one
first_false false other neither = refl
first_false true other neither = neither
