-- The status of a program whose output may be closed.
use Rattle.std.proofs.Common.{◌≡◌, ◌≢◌, ◌≤◌, Bool, true, false, Result, Ok, Err, refl, arith}
use Rattle.std.specs.Prelude.{IsTrue}
use Rattle.program_ends.specs.Ends.{quiet_status_of, status_of}
use Rattle.program_ends.specs.declared.Fault.{Fault}
use Rattle.program_ends.specs.declared.Fault.TheVariants as faults
use Rattle.program_ends.specs.declared.TheConstants.{CLOSED}

module _ {A E : Type 0} where
  -- it is 0 only without a fault
  pub quiet_zero : (end : Result A (Fault E)) (closed : Bool) → quiet_status_of end closed ≡ 0 → status_of end ≡ 0
  quiet_zero (Ok done) closed is = refl
  quiet_zero (Err (faults.Read path)) closed is = is
  quiet_zero (Err (faults.Failed path error)) closed is = is
  quiet_zero (Err faults.Write) true is = let never : 141 ≡ 0 = is in absurd (omega (arith, never))
  quiet_zero (Err faults.Write) false is = is
  quiet_zero (Err faults.Memory) closed is = is

  -- it is that of a closed output only if that is closed
  pub quiet_closed : (end : Result A (Fault E)) (closed : Bool) → quiet_status_of end closed ≡ CLOSED → IsTrue closed
  quiet_closed (Ok done) closed is = let never : 0 ≡ 141 = is in absurd (omega (arith, never))
  quiet_closed (Err (faults.Read path)) closed is = let never : 1 ≡ 141 = is in absurd (omega (arith, never))
  quiet_closed (Err (faults.Failed path error)) closed is = let never : 1 ≡ 141 = is in absurd (omega (arith, never))
  quiet_closed (Err faults.Write) true is = refl
  quiet_closed (Err faults.Write) false is = let never : 1 ≡ 141 = is in absurd (omega (arith, never))
  quiet_closed (Err faults.Memory) closed is = let never : 1 ≡ 141 = is in absurd (omega (arith, never))

  -- otherwise it is that of any output
  pub quiet_open : (end : Result A (Fault E)) (closed : Bool) → quiet_status_of end closed ≢ CLOSED → quiet_status_of end closed ≡ status_of end
  quiet_open (Ok done) closed other = refl
  quiet_open (Err (faults.Read path)) closed other = refl
  quiet_open (Err (faults.Failed path error)) closed other = refl
  quiet_open (Err faults.Write) true other = absurd (other refl)
  quiet_open (Err faults.Write) false other = refl
  quiet_open (Err faults.Memory) closed other = refl

  pub quiet_bound : (end : Result A (Fault E)) (closed : Bool) → quiet_status_of end closed ≢ CLOSED → quiet_status_of end closed ≤ 1
  quiet_bound (Ok done) closed other = omega arith
  quiet_bound (Err (faults.Read path)) closed other = omega arith
  quiet_bound (Err (faults.Failed path error)) closed other = omega arith
  quiet_bound (Err faults.Write) true other = absurd (other refl)
  quiet_bound (Err faults.Write) false other = omega arith
  quiet_bound (Err faults.Memory) closed other = omega arith
