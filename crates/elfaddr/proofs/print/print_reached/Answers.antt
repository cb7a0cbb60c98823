use Rattle.std.proofs.Common.{◌≡◌, ap, arith, length, rules, ◌∙◌}
use Rattle.std.proofs.lemmas.Grind.{common_steps}
use Rattle.elf_base.specs.Table.{table_data, table_items}
use Rattle.elf_linking.specs.DynamicObject.{object_records, object_table, object_view}
use Rattle.elf_linking.specs.DynamicView.{view_entries}
use Rattle.elfaddr.specs.Asked.{FromDladdr, from_dladdr, kind}
use Rattle.elfaddr.specs.Tables.{IsDladdrError}
use Rattle.elfaddr.proofs.AskedParts.{object_items}
use Rattle.elfaddr.proofs.Printed.{printed_by}
use Rattle.elfaddr.proofs.print.print_reached.Goals as goal

pub returns : goal.returns
returns g c =
    let file = c.args.file.now in
    let object = c.args.object.now in
    let class = g.D.LinkedSymbol.CLASS in
    let of_type = kind g.D.Record.SIZE g.D.Record.value g.D.Entry.fields in
    let is = c.requires.object in
    let table_is = c.table-table.ensures ∙ c.symbols.ensures.table in
    let counted : length c.deref_mut.result.now ≡ length (table_items c.table-table.result) = first_of (cc, grind (arith, common_steps), search rules) in
    printed_by g.W.Write.contents c.args.path c.args.form c.args.addresses.now _ file (FromDladdr class of_type file) (IsDladdrError class g.D.Record.SIZE file) _ _ c.print_lines.result
    (from_dladdr (table_items c.table-table.result) c.args.strings.now c.reach_by-reach.result (record {
      entries = view_entries (object_view object);
      table = object_table object;
      count = is.count;
      bytes = table_data (object_records object);
      entries_are = is.is_object.entries_are;
      table_is = is.is_object.table_is;
      counted = is.counted;
      bytes_are = is.is_object.symbols_are;
      items_are = ap (λ table. table_items table) table_is ∙ object_items object is.count class file is.is_object;
      strings_are = c.requires.strings;
      reach_is = rw (← c.table-hash.ensures, ← counted) c.reach_by-reach.ensures;
    })) c.print_lines.ensures
