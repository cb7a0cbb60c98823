use Rattle.std.proofs.Common.{rules, ◌≡◌, ◌<◌, ◌+◌, length, take, refl, sym, subst, ◌∙◌, arith}
use Rattle.std.proofs.lemmas.Option.{slice_get_read}
use Rattle.elf_loading.specs.LoadScope.{loaded_objects, loaded_plans}
use Rattle.elf_c.specs.LoadAll.{AreShown, begin_at, size_at, total_size}
use Rattle.elf_c.proofs.LoadAll.{begin_within, image_fits, image_relocated, image_rest, image_size}
use Rattle.elf_c.proofs.load_all.relocate_image.Goals as goal

pub split_at_mut-front-requires : goal.split_at_mut-front-requires
split_at_mut-front-requires g c =
    let within = begin_within (loaded_plans c.args.planned.now).now c.args.of in
    let begin = c.requires.begin in
    let whole = c.requires.whole in omega (arith, within, begin, whole)

pub split_at_mut-image-requires : goal.split_at_mut-image-requires
split_at_mut-image-requires g c =
    let same = sym c.plans-plans.ensures in
    let there = slice_get_read c.plans-plans.result.now (length c.plans-plans.result.now) c.args.of c.index-plans-of.result refl (subst (λ lent. c.args.of < length lent.now) same c.requires.below) c.index-plans-of.is in
    image_fits c.plans-plans.result.now c.args.of c.size_of-size.result c.args.begin (length c.split_at_mut-front.result.1.now) (length c.args.memory.now) c.index-plans-of.result there c.size_of-size.ensures
    (subst (λ lent. c.args.begin ≡ begin_at lent.now c.args.of) same c.requires.begin) (subst (λ lent. total_size lent.now ≡ length c.args.memory.now) same c.requires.whole)
    c.split_at_mut-front.ensures.back_len

pub shown-images-requires-clause-whole : goal.shown-images-requires-clause-whole
shown-images-requires-clause-whole g c =
    let same = sym c.plans-plans.ensures in
    let there = slice_get_read c.plans-plans.result.now (length c.plans-plans.result.now) c.args.of c.index-plans-of.result refl (subst (λ lent. c.args.of < length lent.now) same c.requires.below) c.index-plans-of.is in
    image_rest c.plans-plans.result.now c.args.of c.size_of-size.result c.args.begin (length c.split_at_mut-front.result.1.now) (length c.split_at_mut-image.result.1.now) (length c.args.memory.now) c.index-plans-of.result there c.size_of-size.ensures
    (subst (λ lent. c.args.begin ≡ begin_at lent.now c.args.of) same c.requires.begin) (subst (λ lent. total_size lent.now ≡ length c.args.memory.now) same c.requires.whole)
    c.split_at_mut-front.ensures.back_len c.split_at_mut-image.ensures.back_len

pub returns-clause-exact : goal.returns-clause-exact
returns-clause-exact g c =
    let same = sym c.plans-plans.ensures in
    let there = slice_get_read c.plans-plans.result.now (length c.plans-plans.result.now) c.args.of c.index-plans-of.result refl (subst (λ lent. c.args.of < length lent.now) same c.requires.below) c.index-plans-of.is in
    let size = image_size c.plans-plans.result.now c.args.of c.size_of-size.result (length c.split_at_mut-image.result.0.now) c.index-plans-of.result there c.size_of-size.ensures c.split_at_mut-image.ensures.front_len in
    image_relocated g.E.Entry.fields (loaded_objects c.args.planned.now) (loaded_plans c.args.planned.now) c.args.when c.args.of c.args.places _ c.args.memory.now c.split_at_mut-front.result.0.now c.split_at_mut-front.result.1.now
    c.split_at_mut-image.result.0.now c.write_words.new.image c.split_at_mut-image.result.1.now c.write_words.result (take (length c.plans-plans.result.now) c.shown-images.result)
    c.split_at_mut-front.ensures.value c.split_at_mut-image.ensures.value (c.split_at_mut-front.ensures.front_len ∙ c.requires.begin)
    (subst (λ lent. length c.split_at_mut-image.result.0.now ≡ size_at lent.now c.args.of) c.plans-plans.ensures size) c.write_words.ensures.exact c.write_words.ensures.once c.write_words.ensures.errors c.write_words.ensures.first
    (subst (λ lent. AreShown lent.now c.args.of c.split_at_mut-image.result.1.now (take (length c.plans-plans.result.now) c.shown-images.result)) c.plans-plans.ensures c.shown-images.ensures)
    (search rules)
