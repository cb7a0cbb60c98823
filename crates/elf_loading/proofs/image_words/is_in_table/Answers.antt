use Rattle.std.proofs.Common.{rules, ◌≡◌, ap, arith, drop, length, sym, take, ◌∙◌}
use Rattle.std.proofs.lemmas.List.{length-drop, take_all}
use Rattle.elf_loading.specs.ImageWords.{touch_one}
use Rattle.elf_loading.proofs.ImageLoads.{free_load}
use Rattle.elf_loading.proofs.image_words.is_in_table.Goals as goal

pub returns-then-holder : goal.returns-then-holder
returns-then-holder c =
    let room = c.args.room.now in
    let word = c.args.word.now in
    let nine : length room.tables ≡ 9 = search rules in
    let last : take 1 (drop 8 room.tables) ≡ drop 8 room.tables = take_all 1 (drop 8 room.tables) (omega (arith, length-drop 8 room.tables, nine)) in
    c.touches_one.ensures ∙ ap (touch_one word.address word.width) last
    ∙ sym (free_load room.plan.now room.tables word c.args.holder.now c.requires.known c.requires.found c.if-holder.true)
