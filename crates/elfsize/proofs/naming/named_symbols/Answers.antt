use Rattle.std.proofs.Common.{◌≡◌, Some}
use Rattle.elfsize.proofs.Inputs.{by_debug}
use Rattle.elfsize.proofs.naming.named_symbols.Goals as goal

pub returns-in-Some-clause-symbols : goal.returns-in-Some-clause-symbols
returns-in-Some-clause-symbols c =
    let is = c.in-Some.is in
    let same : c.args.found.now ≡ Some c.in-Some.debug = cc in
    by_debug c.args.options c.args.input c.deref.result c.args.found.now c.in-Some.debug c.requires same c.deref.ensures.value c.symbols_by.result c.symbols_by.ensures.symbols
