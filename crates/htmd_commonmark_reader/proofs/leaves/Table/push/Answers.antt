-- One more row.
use Rattle.std.proofs.Common.{◌≡◌, ◌∙◌, ◌∷◌, [], map, length, ap, refl, rules}
use Rattle.std.proofs.lemmas.List.{map-append}
use Rattle.htmd_commonmark_reading.specs.Tables.{fitted, cells}
use Rattle.htmd_commonmark_reader.specs.Rows.{strings}
use Rattle.htmd_commonmark_reader.specs.declared.leaves.Table.{Table}
use Rattle.htmd_commonmark_reader.proofs.OpenLeavesLemmas.{grid_more}
use Rattle.htmd_commonmark_reader.proofs.leaves.Table.push.Goals as goal

pub returns : goal.returns
returns c = λ alignments header ls h.
    let o = c.args.self.now in
    let n : Table = record { alignments = o.alignments; header = o.header; rows = c.push.new.self } in
    let count : c.len.result ≡ length o.alignments.items = search rules in
    grid_more alignments header ls c.args.line.spaces c.args.line.text.now o n (strings c.in_ok-row.row.items) h refl
    refl
    (ap (map (λ row. strings row.items)) c.in_ok-push.ensures.items
    ∙ map-append (λ row. strings row.items) o.rows.items (c.in_ok-row.row ∷ []))
    (c.in_ok-row.ensures ∙ ap (λ k. fitted k (cells c.args.line.text.now)) count)
