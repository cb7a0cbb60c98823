use Rattle.std.proofs.KnownBytes.{Appends-trans}
use Rattle.program_ends.specs.Json.{hex_byte}
use Rattle.program_ends.proofs.JsonTexts.{one_item}
use Rattle.program_ends.proofs.json.write_hex.Goals as goal

pub loop-byte-preserved : goal.loop-byte-preserved
loop-byte-preserved g c =
    let (text, so_far, grown) = c.loop-byte.invariant in
    (_, one_item hex_byte c.args.bytes.now c.loop-byte.byte-index text _ 0 c.loop-byte-test.true so_far, Appends-trans _ _ _ _ _ grown c.in_ok-write_hex_byte.ensures)
