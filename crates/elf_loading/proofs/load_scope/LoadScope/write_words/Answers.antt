use Rattle.std.proofs.Common.{◌≡◌, length, ap, ◌∙◌}
use Rattle.elf_base.specs.FileHeader.{file_order}
use Rattle.elf_linking.specs.DynamicObject.{object_file}
use Rattle.xmas_elf.specs.Types.{ElfFile}
use Rattle.elf_loading.specs.LoadScope.{loaded_objects, loaded_plans}
use Rattle.elf_loading.specs.WordErrors.{error_alone}
use Rattle.elf_loading.proofs.OneWords.{error_in, kept_in, once_in}
use Rattle.elf_loading.proofs.WordErrors.{relocation_error}
use Rattle.elf_loading.proofs.Written.{is_relocated, item_is}
use Rattle.elf_loading.proofs.load_scope.LoadScope.write_words.Goals as goal

pub returns-clause-exact : goal.returns-clause-exact
returns-clause-exact g c =
    let loads = c.args.self.now in
    let own = c.in-Some.own in
    let plan = c.in-Some-get.plan in
    let lent = c.objects-objects.result in
    let order : c.byte_order.result ≡ file_order (object_file own.now).header = c.byte_order.ensures ∙ ap (λ (file : ElfFile). file_order file.header) c.file.ensures in
    is_relocated g.E.Entry.fields (loaded_objects loads) (loaded_plans loads) c.args.of c.args.when c.args.places c.args.others c.args.image.now c.relocate.new.image own.now plan.now (error_alone c.relocate.result)
    lent c.byte_order.result c.objects-objects.ensures (item_is lent.now c.args.of c.get.result own c.get.ensures.lookup c.in-Some.is)
    (item_is loads.plans.now c.args.of c.get-2.result plan c.get-2.ensures.lookup c.in-Some-get.is) order c.relocate.ensures.words

pub returns-clause-once : goal.returns-clause-once
returns-clause-once g c =
    once_in g.E.Entry.fields (loaded_objects c.args.self.now) (loaded_plans c.args.self.now) c.args.of c.args.when c.args.places c.args.others c.args.image.now c.relocate.new.image (error_alone c.relocate.result) (returns-clause-exact g c)

pub returns-clause-len : goal.returns-clause-len
returns-clause-len g c =
    kept_in g.E.Entry.fields (loaded_objects c.args.self.now) (loaded_plans c.args.self.now) c.args.of c.args.when c.args.places c.args.others c.args.image.now c.relocate.new.image (error_alone c.relocate.result) (returns-clause-exact g c)

pub returns-clause-errors : goal.returns-clause-errors
returns-clause-errors g c =
    error_in g.E.Entry.fields (loaded_objects c.args.self.now) (loaded_plans c.args.self.now) c.args.of c.args.when c.args.places c.args.others c.args.image.now c.relocate.new.image (error_alone c.relocate.result) (returns-clause-exact g c)

pub returns-clause-first : goal.returns-clause-first
returns-clause-first g c =
    let loads = c.args.self.now in
    let own = c.in-Some.own in
    let plan = c.in-Some-get.plan in
    let lent = c.objects-objects.result in
    let order : c.byte_order.result ≡ file_order (object_file own.now).header = c.byte_order.ensures ∙ ap (λ (file : ElfFile). file_order file.header) c.file.ensures in
    relocation_error g.E.Entry.fields (loaded_objects loads) (loaded_plans loads) c.args.of c.args.when c.args.places c.args.others (length c.args.image.now) own.now plan.now c.relocate.result
    lent c.byte_order.result c.objects-objects.ensures (item_is lent.now c.args.of c.get.result own c.get.ensures.lookup c.in-Some.is)
    (item_is loads.plans.now c.args.of c.get-2.result plan c.get-2.ensures.lookup c.in-Some-get.is) order c.relocate.ensures.first
