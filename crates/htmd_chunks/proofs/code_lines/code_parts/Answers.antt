-- One more part.
use Rattle.std.proofs.Common.{◌≡◌, ◌+◌, [], ℕ, List, length, get_or, map, string_bytes, sym, ap}
use Rattle.std.proofs.Common.{◌∙◌, arith, rules}
use Rattle.std.specs.Borrow.{Bor}
use Rattle.std.specs.Option.{option_copied}
use Rattle.std.specs.List.{between}
use Rattle.std.proofs.lemmas.List.{length-map, take_all}
use Rattle.htmd_document.specs.Documents as value
use Rattle.htmd_document.specs.DocumentViews.{block_of, bytes_of_title}
use Rattle.htmd_chunks.specs.CodeLines.{fences_size, joined_lines, units_from}
use Rattle.htmd_chunks.specs.Sizes.{cost}
use Rattle.htmd_chunks.specs.UnitViews.{unit_of_lines}
use Rattle.htmd_chunks.proofs.UnitPartsLemmas.{line_parts, code-counts, all-lines, blocks-are, count-at, part-within}
use Rattle.htmd_chunks.proofs.UnitPartsLemmas.{part-is}
use Rattle.htmd_chunks.proofs.LeavesLemmas.{block-code, part-pushed}
use Rattle.htmd_chunks.proofs.code_lines.code_parts.Goals as goal

pub loop-count-init : goal.loop-count-init
loop-count-init c = record {
  parts = ap (map block_of) c.in_ok-parts.ensures.items;
  rest =
      c.in_ok-lines.ensures
      ∙ sym (all-lines c.args.bounds.now c.args.margin c.args.first (bytes_of_title c.args.language.now)
      c.args.text.now);
  within = omega arith;
}

pub overflow_add-to : goal.overflow_add-to
overflow_add-to c =
    let bounds = c.args.bounds.now in
    let m = c.args.margin in
    let s = c.args.text.now in
    let language = bytes_of_title c.args.language.now in
    let all = line_parts bounds m c.args.first language s in
    let title : option_copied c.as_deref.result ≡ language = search rules in
    let lengths = code-counts bounds m c.args.first language s c.in_ok-cost.field-0 c.deref-2.result.now
    c.in_ok-counts.counts.items
    (c.in_ok-cost.ensures ∙ ap (cost m) (c.in_ok-fences.ensures ∙ ap (λ l. fences_size bounds.options l s) title))
    (c.deref-2.ensures.value ∙ c.in_ok-line_units.ensures
    ∙ ap (λ l. map (unit_of_lines m) (units_from [] l))
    (ap (map (λ (line : Bor (List ℕ)). line.now)) c.deref.ensures.value ∙ c.in_ok-lines.ensures))
    c.in_ok-counts.ensures in
    let counts = c.deref-count-items.ensures.value ∙ lengths in
    let within = part-within c.in_ok-lines.lines.items c.loop-count.from c.loop-count.count-index all
    c.deref-count-items.result.now counts c.loop-count-test.true c.loop-count.invariant.rest
    c.loop-count.invariant.within in
    omega (arith, within, c.in_ok-lines.lines.small, c.in_ok-lines.lines.ok)

pub slice_bounds-text_of-end : goal.slice_bounds-text_of-end
slice_bounds-text_of-end c =
    let bounds = c.args.bounds.now in
    let m = c.args.margin in
    let s = c.args.text.now in
    let language = bytes_of_title c.args.language.now in
    let all = line_parts bounds m c.args.first language s in
    let title : option_copied c.as_deref.result ≡ language = search rules in
    let lengths = code-counts bounds m c.args.first language s c.in_ok-cost.field-0 c.deref-2.result.now
    c.in_ok-counts.counts.items
    (c.in_ok-cost.ensures ∙ ap (cost m) (c.in_ok-fences.ensures ∙ ap (λ l. fences_size bounds.options l s) title))
    (c.deref-2.ensures.value ∙ c.in_ok-line_units.ensures
    ∙ ap (λ l. map (unit_of_lines m) (units_from [] l))
    (ap (map (λ (line : Bor (List ℕ)). line.now)) c.deref.ensures.value ∙ c.in_ok-lines.ensures))
    c.in_ok-counts.ensures in
    let counts = c.deref-count-items.ensures.value ∙ lengths in
    let within = part-within c.in_ok-lines.lines.items c.loop-count.from c.loop-count.count-index all
    c.deref-count-items.result.now counts c.loop-count-test.true c.loop-count.invariant.rest
    c.loop-count.invariant.within in
    omega (arith, within, ap (λ l. length l) c.deref-in-loop-count.ensures.value)

pub loop-count-preserved : goal.loop-count-preserved
loop-count-preserved c =
    let bounds = c.args.bounds.now in
    let m = c.args.margin in
    let s = c.args.text.now in
    let language = bytes_of_title c.args.language.now in
    let all = line_parts bounds m c.args.first language s in
    let title : option_copied c.as_deref.result ≡ language = search rules in
    let lengths = code-counts bounds m c.args.first language s c.in_ok-cost.field-0 c.deref-2.result.now
    c.in_ok-counts.counts.items
    (c.in_ok-cost.ensures ∙ ap (cost m) (c.in_ok-fences.ensures ∙ ap (λ l. fences_size bounds.options l s) title))
    (c.deref-2.ensures.value ∙ c.in_ok-line_units.ensures
    ∙ ap (λ l. map (unit_of_lines m) (units_from [] l))
    (ap (map (λ (line : Bor (List ℕ)). line.now)) c.deref.ensures.value ∙ c.in_ok-lines.ensures))
    c.in_ok-counts.ensures in
    let counts = c.deref-count-items.ensures.value ∙ lengths in
    let i = c.loop-count.count-index in
    let from = c.loop-count.from in
    let lines = c.in_ok-lines.lines.items in
    let was = c.loop-count.invariant in
    let here = count-at all c.deref-count-items.result.now i counts c.loop-count-test.true in
    let next = part-is lines from i all c.deref-count-items.result.now counts c.loop-count-test.true was.rest in
    let to = from + get_or c.deref-count-items.result.now i 0 in
    let text : string_bytes c.in_ok-text_of.field-0 ≡ joined_lines (get_or all i []) =
    c.in_ok-text_of.ensures
    ∙ ap (λ l. joined_lines (map (λ (line : Bor (List ℕ)). line.now) (between from to l)))
    c.deref-in-loop-count.ensures.value
    ∙ ap joined_lines next.0 in
    record {
      parts =
          part-pushed (λ lines. value.code_block language (joined_lines lines)) all i [] c.loop-count.parts.items
          c.push.new.self.items _ here.0 c.in_ok-push.ensures.items
          (block-code c.in_ok-copied_text.field-0 c.in_ok-text_of.field-0
          ∙ ap (λ l. value.code_block l (string_bytes c.in_ok-text_of.field-0)) c.in_ok-copied_text.ensures
          ∙ ap (value.code_block language) text)
          was.parts;
      rest = next.1;
      within =
          part-within lines from i all c.deref-count-items.result.now counts c.loop-count-test.true was.rest was.within;
    }

pub returns : goal.returns
returns c =
    let bounds = c.args.bounds.now in
    let m = c.args.margin in
    let s = c.args.text.now in
    let language = bytes_of_title c.args.language.now in
    let all = line_parts bounds m c.args.first language s in
    let title : option_copied c.as_deref.result ≡ language = search rules in
    let lengths = code-counts bounds m c.args.first language s c.in_ok-cost.field-0 c.deref-2.result.now
    c.in_ok-counts.counts.items
    (c.in_ok-cost.ensures ∙ ap (cost m) (c.in_ok-fences.ensures ∙ ap (λ l. fences_size bounds.options l s) title))
    (c.deref-2.ensures.value ∙ c.in_ok-line_units.ensures
    ∙ ap (λ l. map (unit_of_lines m) (units_from [] l))
    (ap (map (λ (line : Bor (List ℕ)). line.now)) c.deref.ensures.value ∙ c.in_ok-lines.ensures))
    c.in_ok-counts.ensures in
    let counts = c.deref-count-items.ensures.value ∙ lengths in
    let size = ap (λ l. length l) counts ∙ length-map all (λ lines. length lines) in
    c.loop-count.invariant.parts
    ∙ ap (map (λ lines. value.code_block language (joined_lines lines)))
    (take_all c.loop-count.count-index all (omega (arith, c.loop-count-test.false, size)))
    ∙ blocks-are bounds m c.args.first language s
