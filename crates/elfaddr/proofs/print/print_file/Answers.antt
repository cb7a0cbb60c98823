use Rattle.std.proofs.Common.{◌≡◌, ◌≢◌, sym, ◌∙◌}
use Rattle.elf_base.specs.FileHeader.{file_class}
use Rattle.elfaddr.specs.Asked.{AreOfFile, AreFailedOfFile, narrow, narrow_failed, wide, wide_failed}
use Rattle.elfaddr.proofs.Printed.{printed_so}
use Rattle.elfaddr.proofs.print.print_file.Goals as goal

pub returns-then-raw-eq1 : goal.returns-then-raw-eq1
returns-then-raw-eq1 g c =
    let file = c.args.file.now in
    let source = c.args.source in
    let is : file_class file.header ≡ 1 = sym c.raw.ensures ∙ c.if-raw-eq1.true in
    printed_so g.W.Write.contents c.args.path c.args.form c.args.addresses.now _ file _ (AreOfFile file source) _ (AreFailedOfFile file source) c.print_by.result
    (λ claim_of name_of asked. narrow is asked) (λ error why. narrow_failed is why) c.print_by.ensures

pub returns : goal.returns
returns g c =
    let file = c.args.file.now in
    let source = c.args.source in
    let other : file_class file.header ≢ 1 = λ same. c.if-raw-eq1.false (c.raw.ensures ∙ same) in
    printed_so g.W.Write.contents c.args.path c.args.form c.args.addresses.now _ file _ (AreOfFile file source) _ (AreFailedOfFile file source) c.print_by-2.result
    (λ claim_of name_of asked. wide other asked) (λ error why. wide_failed other why) c.print_by-2.ensures
