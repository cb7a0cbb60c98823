use Rattle.std.proofs.Common.{refl, rules, sym, ◌∙◌}
use Rattle.xmas_elf.proofs.FirstNamed.{name_at}
use Rattle.xmas_elf.proofs.sections.section_header.SectionHeader.has_name.Goals as goal

pub returns-then-not-is_found_at : goal.returns-then-not-is_found_at
returns-then-not-is_found_at c = λ file table.
    let stands = rw (c.name.ensures, c.if-not-is_found_at.true) at c.is_found_at.ensures in
    (λ yes. cc, λ has. stands.1 ((name_at file _ c.args.names.now c.args.name.now table).0 has.named))

pub returns-in-Ok : goal.returns-in-Ok
returns-in-Ok c = λ file table.
    let stands = rw (c.name.ensures, c.if-not-is_found_at.false) at c.is_found_at.ensures in
    let named = (name_at file _ c.args.names.now c.args.name.now table).1 (stands.0 refl) in
    (λ yes. record { kind = c.in-Ok.field-0; typed = sym c.get_type.ensures ∙ c.in-Ok.is; not_null = search rules; named = named }, λ has. refl)
