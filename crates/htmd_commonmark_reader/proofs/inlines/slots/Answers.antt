-- What was scanned is processed.
use Rattle.std.proofs.Common.{◌≡◌, ◌∙◌, [], ap, sym, subst, rules}
use Rattle.std.specs.Prelude.{reverse}
use Rattle.htmd_parts.specs.Parts.{inlines_parts}
use Rattle.htmd_commonmark_reading.specs.Brackets.{all_tokens, outermost, scanned}
use Rattle.htmd_commonmark_reader.specs.ReadingRuns.{AreTokens}
use Rattle.htmd_commonmark_reader.specs.References.{references_of}
use Rattle.htmd_commonmark_reader.proofs.ScansLemmas.{all_held, same_processed}
use Rattle.htmd_commonmark_reader.proofs.inlines.slots.Goals as goal

pub process_all-requires : goal.process_all-requires
process_all-requires c =
    let scan = c.in_ok-scan.scan in
    let h = all_held scan.active _ (reverse scan.brackets.items) scan.slots.items scan.runs.items
    c.in_ok-scan.ensures.open_are in
    let runs : c.deref.result.now ≡ scan.runs.items = search rules in
    (h.tokens, subst (λ r. AreTokens h.tokens r 0 scan.slots.items) (sym runs) h.are)

pub returns : goal.returns
returns c =
    let scan = c.in_ok-scan.scan in
    let h = all_held scan.active _ (reverse scan.brackets.items) scan.slots.items scan.runs.items
    c.in_ok-scan.ensures.open_are in
    let runs : c.deref.result.now ≡ scan.runs.items = search rules in
    let all = all_tokens (scanned (references_of c.args.references.now) c.args.text.now 0 [] (outermost [])) in
    c.in_ok-process_all.ensures h.tokens (subst (λ r. AreTokens h.tokens r 0 scan.slots.items) (sym runs) h.are)
    ∙ ap (λ x. inlines_parts x []) (sym (same_processed all h.tokens h.alike))
