use Rattle.std.proofs.Common.{◌≡◌, ℕ, List, refl, sym}
use Rattle.std.specs.Borrow.{Bor}
use Rattle.std.specs.Prelude.{option_map}
use Rattle.elfload.specs.PlanRecords.{path_value}
use Rattle.elfload.proofs.plans.write_rest.Goals as goal
use Rattle.elfload.proofs.plans.write_rest.Goals.{in-Some, in-None}
use Rattle.program_ends.specs.Json.{json_value, key_end}

pub returns : goal.returns
returns g c =
    let path = path_value (option_map (λ (path : Bor (List ℕ)). path.now) c.args.interpreter) in
    let interpreter = c.match-interpreter.interpreter in
    let value : json_value path ≡ json_value interpreter = elim c.match-interpreter.branch [ in-Some w ↦ rw (w.in-Some.is, w.interpreter-is) refl | in-None w ↦ rw (w.in-None.is, w.interpreter-is) refl ] in
    let key : key_end path ≡ key_end interpreter = elim c.match-interpreter.branch [ in-Some w ↦ rw (w.in-Some.is, w.interpreter-is) refl | in-None w ↦ rw (w.in-None.is, w.interpreter-is) refl ] in
    rw (sym c.relro_edges-relro.ensures, sym c.template_of-tls.ensures, sym c.flags_or_null.ensures, value, key) c.write_json.ensures
