use Rattle.std.proofs.Common.{◌≡◌, ℕ, List, Some, refl, subst, sym}
use Rattle.std.specs.Prelude.{IfSome}
use Rattle.elfaddr.specs.Debug.{IsAskedDebug}
use Rattle.elfaddr.proofs.Printed.{printed_named}
use Rattle.elfaddr.proofs.print_named.Goals as goal
use Rattle.program_debug.specs.Debug.{of_debug, own}

pub returns-in-Ok-Some : goal.returns-in-Ok-Some
returns-in-Ok-Some g c =
    let options = c.args.options in
    let found = c.in-Ok-Some.field-0-is in
    let same : c.in-Ok-Some.field-0 ≡ Some c.in-Ok-Some.debug = cc in
    let taken = subst (λ found. IfSome found (λ bytes. IsAskedDebug options c.args.input.now bytes.items)) same c.in-Ok-Some.ensures in
    let asked = subst (λ (bytes : List ℕ). IsAskedDebug options c.args.input.now bytes) (sym c.deref.ensures.value) taken in
    printed_named g.W.Write.contents c.args.path options.form c.args.addresses.now _ options c.args.input c.deref.result c.print_input.result (of_debug asked.0 asked.1) c.print_input.ensures

pub returns-in-Ok-None : goal.returns-in-Ok-None
returns-in-Ok-None g c =
    printed_named g.W.Write.contents c.args.path c.args.options.form c.args.addresses.now _ c.args.options c.args.input c.args.input c.print_input-in-Ok-None.result (own refl) c.print_input-in-Ok-None.ensures
