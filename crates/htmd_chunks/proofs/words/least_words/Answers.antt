-- The bytes of the first unit.
use Rattle.std.proofs.Common.{[], map, ap, ◌∙◌}
use Rattle.std.specs.List.{flat_map}
use Rattle.htmd_document.specs.DocumentViews.{inlines_of}
use Rattle.htmd_chunks.specs.UnitViews.{unit_of_words}
use Rattle.htmd_chunks.specs.WordViews.{words_in}
use Rattle.htmd_chunks.specs.Words.{sentences_from, units_of, word_units}
use Rattle.htmd_chunks.proofs.UnitPartsLemmas.{first-unit-bytes, no-unit-bytes, first_bytes, least-of-words}
use Rattle.htmd_chunks.proofs.words.least_words.Goals as goal

pub returns-in-Some : goal.returns-in-Some
returns-in-Some c =
    let bounds = c.args.bounds.now in
    let m = c.args.margin in
    let content = inlines_of c.args.content.now in
    let unit = unit_of_words bounds.options m in
    let units = c.deref-2.ensures.value ∙ c.in_ok-units.ensures
    ∙ ap (λ l. map unit (flat_map (units_of bounds m) (sentences_from [] l)))
    (ap words_in c.deref.ensures.value ∙ c.in_ok-words.ensures) in
    first-unit-bytes c.deref-2.result.now c.in-Some.unit.now c.in-Some.ensures.value ∙ ap first_bytes units
    ∙ least-of-words bounds.options m (word_units bounds m content)

pub returns : goal.returns
returns c =
    let bounds = c.args.bounds.now in
    let m = c.args.margin in
    let content = inlines_of c.args.content.now in
    let unit = unit_of_words bounds.options m in
    let units = c.deref-2.ensures.value ∙ c.in_ok-units.ensures
    ∙ ap (λ l. map unit (flat_map (units_of bounds m) (sentences_from [] l)))
    (ap words_in c.deref.ensures.value ∙ c.in_ok-words.ensures) in
    no-unit-bytes c.deref-2.result.now c.in-None.ensures.value ∙ ap first_bytes units
    ∙ least-of-words bounds.options m (word_units bounds m content)
