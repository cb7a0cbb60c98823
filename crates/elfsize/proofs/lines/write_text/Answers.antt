use Rattle.std.proofs.Common.{ℕ, List, codes, append_assoc, subst}
use Rattle.std.proofs.KnownBytes.{Appends-trans}
use Rattle.std.proofs.lemmas.Result.{on_ok_weaker}
use Rattle.std.specs.Io.KnownBytes.{Appends}
use Rattle.program_ends.specs.Names.{escaped}
use Rattle.elf_addresses.specs.FileClaims.{byte_count}
use Rattle.elfsize.specs.Lines.{part_name, start_text}
use Rattle.elfsize.proofs.lines.write_text.Goals as goal

pub returns : goal.returns
returns g c =
    let file = c.args.file.now in
    let one = c.args.one.now in
    let named = subst (λ (name : List ℕ). Appends (g.W.Write.contents c.write.new.self) (g.W.Write.contents c.write_name.new.out) (escaped name)) c.part_name.ensures c.in_ok-write_name.ensures in
    on_ok_weaker c.write_all.result (λ grown.
    subst (λ (text : List ℕ). Appends (g.W.Write.contents c.args.out.now) (g.W.Write.contents c.write_all.new.self) text)
    (append_assoc (start_text (byte_count file) one.size one.part) (escaped (part_name file c.args.symbols.now one.part)) (codes "\n"))
    (Appends-trans _ _ _ _ _ (Appends-trans _ _ _ _ _ c.in_ok-write.ensures.bytes named) grown)) c.write_all.ensures.bytes
