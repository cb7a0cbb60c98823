use Rattle.elfload.proofs.plans.write_plan.Goals as goal

pub returns-in-Text : goal.returns-in-Text
returns-in-Text g c = rw (c.in-Text.is) c.write_text.ensures

pub returns-in-Json : goal.returns-in-Json
returns-in-Json g c = rw (c.in-Json.is) c.write_records.ensures
