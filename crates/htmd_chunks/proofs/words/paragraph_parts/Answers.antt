-- One more part.
use Rattle.std.proofs.Common.{◌≡◌, ◌<◌, [], length, get_or, drop, map, take, sym, ap, ◌∙◌, arith}
use Rattle.std.specs.List.{flat_map}
use Rattle.std.specs.Vec.Iter.{into_iter_items}
use Rattle.std.proofs.lemmas.List.{drop-map, get_or-map, length-map, take_all}
use Rattle.htmd_document.specs.Documents as value
use Rattle.htmd_document.specs.DocumentViews.{block_of, inline_of, inlines_of}
use Rattle.htmd_chunks.specs.Runs.{runs}
use Rattle.htmd_chunks.specs.UnitViews.{unit_of_words}
use Rattle.htmd_chunks.specs.WordViews.{word_of, words_in}
use Rattle.htmd_chunks.specs.Words.{put_together, sentences_from, units_of, words_of}
use Rattle.htmd_chunks.proofs.CountsLemmas.{part_next}
use Rattle.htmd_chunks.proofs.UnitPartsLemmas.{word_parts, word-counts, all-words, paragraphs-are}
use Rattle.htmd_chunks.proofs.LeavesLemmas.{block-paragraph, part-pushed}
use Rattle.htmd_chunks.proofs.UnitsLemmas.{taken_by, count_in}
use Rattle.htmd_chunks.proofs.words.paragraph_parts.Goals as goal

pub loop-count-init : goal.loop-count-init
loop-count-init c = record {
  parts = ap (map block_of) c.in_ok-parts.ensures.items;
  rest =
      ap words_in c.into_iter-words.ensures.rest ∙ c.in_ok-words.ensures
      ∙ sym (all-words c.args.bounds.now c.args.margin c.args.first (inlines_of c.args.content.now));
}

pub loop-count-preserved : goal.loop-count-preserved
loop-count-preserved c =
    let bounds = c.args.bounds.now in
    let m = c.args.margin in
    let content = inlines_of c.args.content.now in
    let all = word_parts bounds m c.args.first content in
    let i = c.loop-count.count-index in
    let was = c.loop-count.invariant in
    let unit = unit_of_words bounds.options m in
    let units : c.deref-2.result.now
    ≡ map unit (flat_map (units_of bounds m) (sentences_from [] (words_of content))) =
    c.deref-2.ensures.value ∙ c.in_ok-units.ensures
    ∙ ap (λ l. map unit (flat_map (units_of bounds m) (sentences_from [] l)))
    (ap words_in c.deref.ensures.value ∙ c.in_ok-words.ensures) in
    let lengths : c.in_ok-counts.counts.items ≡ map (λ words. length words) all =
    c.in_ok-counts.ensures ∙ ap (λ us. map count_in (runs (taken_by 0 1) bounds.most c.args.first us)) units
    ∙ word-counts bounds m c.args.first content in
    let items = c.deref-count-items.ensures.value ∙ lengths in
    let size = ap (λ l. length l) items ∙ length-map all (λ words. length words) in
    let within : i < length all = omega (arith, c.loop-count-test.true, size) in
    let part = get_or all i [] in
    let count : get_or c.deref-count-items.result.now i 0 ≡ length part =
    ap (λ l. get_or l i 0) items ∙ get_or-map (λ words. length words) all i [] 0 within in
    let old = into_iter_items c.loop-count.words in
    let next = part_next all i (words_in old) within was.rest in
    let line : map inline_of c.in_ok-next_line.field-0.items ≡ put_together part =
    c.in_ok-next_line.ensures.line ∙ ap (λ n. put_together (take n (words_in old))) count
    ∙ ap put_together next.0 in
    record {
      parts =
          part-pushed (λ words. value.paragraph (value.inlines_of (put_together words))) all i []
          c.loop-count.parts.items c.push.new.self.items _ within c.in_ok-push.ensures.items
          (block-paragraph c.in_ok-next_line.field-0 ∙ ap (λ l. value.paragraph (value.inlines_of l)) line)
          was.parts;
      rest =
          ap words_in c.in_ok-next_line.ensures.words
          ∙ sym (drop-map word_of (get_or c.deref-count-items.result.now i 0) old)
          ∙ ap (λ n. drop n (words_in old)) count ∙ next.1;
    }

pub returns : goal.returns
returns c =
    let bounds = c.args.bounds.now in
    let m = c.args.margin in
    let content = inlines_of c.args.content.now in
    let all = word_parts bounds m c.args.first content in
    let unit = unit_of_words bounds.options m in
    let units : c.deref-2.result.now
    ≡ map unit (flat_map (units_of bounds m) (sentences_from [] (words_of content))) =
    c.deref-2.ensures.value ∙ c.in_ok-units.ensures
    ∙ ap (λ l. map unit (flat_map (units_of bounds m) (sentences_from [] l)))
    (ap words_in c.deref.ensures.value ∙ c.in_ok-words.ensures) in
    let lengths : c.in_ok-counts.counts.items ≡ map (λ words. length words) all =
    c.in_ok-counts.ensures ∙ ap (λ us. map count_in (runs (taken_by 0 1) bounds.most c.args.first us)) units
    ∙ word-counts bounds m c.args.first content in
    let size = ap (λ l. length l) (c.deref-count-items.ensures.value ∙ lengths)
    ∙ length-map all (λ words. length words) in
    c.loop-count.invariant.parts
    ∙ ap (map (λ words. value.paragraph (value.inlines_of (put_together words))))
    (take_all c.loop-count.count-index all (omega (arith, c.loop-count-test.false, size)))
    ∙ paragraphs-are bounds m c.args.first content
