use Rattle.std.proofs.KnownBytes.{Appends-trans}
use Rattle.std.proofs.lemmas.Result.{on_ok_weaker}
use Rattle.elfsize.proofs.changes.write_kind_records.Goals as goal

pub returns : goal.returns
returns g c = on_ok_weaker c.write_sum.result (λ grown.
    Appends-trans _ _ _ _ _ c.in_ok-write_kind.ensures (Appends-trans _ _ _ _ _ c.in_ok-write_kind-2.ensures (Appends-trans _ _ _ _ _ c.in_ok-write_kind-3.ensures (Appends-trans _ _ _ _ _ c.in_ok-write_kind-4.ensures (Appends-trans _ _ _ _ _ c.in_ok-write_kind-5.ensures (Appends-trans _ _ _ _ _ c.in_ok-write_kind-6.ensures (Appends-trans _ _ _ _ _ c.in_ok-write_kind-7.ensures grown))))))) c.write_sum.ensures
