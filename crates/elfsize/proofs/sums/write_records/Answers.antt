use Rattle.std.proofs.KnownBytes.{Appends-trans}
use Rattle.std.proofs.lemmas.Result.{on_ok_weaker}
use Rattle.elfsize.proofs.sums.write_records.Goals as goal

pub returns : goal.returns
returns g c = on_ok_weaker c.write_all.result (λ grown.
    Appends-trans _ _ _ _ _ c.in_ok-write_record.ensures (Appends-trans _ _ _ _ _ c.in_ok-write_record-2.ensures (Appends-trans _ _ _ _ _ c.in_ok-write_record-3.ensures (Appends-trans _ _ _ _ _ c.in_ok-write_record-4.ensures (Appends-trans _ _ _ _ _ c.in_ok-write_record-5.ensures (Appends-trans _ _ _ _ _ c.in_ok-write_record-6.ensures (Appends-trans _ _ _ _ _ c.in_ok-write_record-7.ensures grown))))))) c.write_all.ensures
