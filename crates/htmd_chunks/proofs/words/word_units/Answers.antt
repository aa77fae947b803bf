-- One more word ends a sentence or goes on with it.
use Rattle.std.proofs.Common.{◌≡◌, ◌+◌, ◌++◌, ◌∷◌, [], List, drop, map, refl, sym, ap, ◌∙◌}
use Rattle.std.proofs.Common.{arith}
use Rattle.std.specs.List.{flat_map}
use Rattle.std.proofs.lemmas.List.{append-nil, drop_all, map_push}
use Rattle.htmd_document.specs.DocumentViews.{inline_of}
use Rattle.htmd_chunks.specs.UnitViews.{unit_of_words}
use Rattle.htmd_chunks.specs.WordViews.{word_of, words_in}
use Rattle.htmd_chunks.specs.Words.{Word, units_of, sentences_from, ends_sentence, word_cost}
use Rattle.htmd_chunks.proofs.WordStepsLemmas.{word-split, sentence-ended, sentence-on, sentence-last, sentence-done}
use Rattle.htmd_chunks.proofs.WordStepsLemmas.{sentence-more}
use Rattle.htmd_chunks.proofs.words.word_units.Goals.{then-i-words+in_ok-push_sentence, then-i-words-via-then-i-words}
use Rattle.htmd_chunks.proofs.words.word_units.Goals.{then-i-words-via-else-i-words+then-ends_sentence}
use Rattle.htmd_chunks.proofs.words.word_units.Goals.{else-i-words+else-ends_sentence}
use Rattle.htmd_chunks.proofs.words.word_units.Goals as goal

pub loop-i-preserved : goal.loop-i-preserved
loop-i-preserved c =
    let bounds = c.args.bounds.now in
    let m = c.args.margin in
    let words = c.args.words.now in
    let i = c.loop-i.i in
    let v = c.index-words-i.result in
    let word = word_of v in
    let rest = words_in (drop (i + 1) words) in
    let split = word-split words i v c.loop-i-test.true c.index-words-i.is in
    let was = c.loop-i.invariant in
    let begun : List Word = was.begun in
    let units = c.loop-i.units.items in
    let costs = word_cost bounds.options m in
    let unit = unit_of_words bounds.options m in
    let all = map unit (flat_map (units_of bounds m) (sentences_from [] (words_in words))) in
    let whole : units ++ map unit (flat_map (units_of bounds m) (sentences_from begun (word ∷ rest))) ≡ all =
    ap (λ l. units ++ map unit (flat_map (units_of bounds m) (sentences_from begun l))) (sym split) ∙ was.rest in
    let cost : c.in_ok-word_cost.field-0 ≡ costs word =
    c.in_ok-word_cost.ensures ∙ ap (λ l. costs (map inline_of l)) c.deref.ensures.value in
    let sentence : c.push.new.self.items ≡ map costs (begun ++ word ∷ []) =
    c.in_ok-push.ensures.items ∙ ap (λ n. c.loop-i.sentence.items ++ n ∷ []) cost
    ∙ ap (λ l. l ++ costs word ∷ []) was.sentence ∙ sym (map_push costs begun word) in
    elim c.if-i-words.branch [
      | then-i-words+in_ok-push_sentence w ↦
          let ends = elim w.then-i-words.branch
          as (λ _. sentences_from begun (word ∷ rest) ≡ (begun ++ word ∷ []) ∷ sentences_from [] rest) [
            | then-i-words-via-then-i-words t ↦
                let last : rest ≡ [] =
                ap words_in (drop_all (i + 1) words (omega (arith, t.if-i-words.true))) in
                ap (λ l. sentences_from begun (word ∷ l)) last ∙ sentence-last begun word
                ∙ ap (λ l. (begun ++ word ∷ []) ∷ sentences_from [] l) (sym last)
            | then-i-words-via-else-i-words+then-ends_sentence t ↦
                sentence-ended begun word rest
                (ap (λ l. ends_sentence (map inline_of l)) (sym t.deref-else-i-words.ensures.value)
                ∙ sym t.ends_sentence.ensures ∙ t.if-ends_sentence.true)
          ] in
          record {
            begun = [];
            ended = λ past. refl;
            sentence = ap (λ v. v.items) w.sentence-is ∙ w.clear.ensures.items;
            rest =
                ap (λ v. v.items ++ map unit (flat_map (units_of bounds m) (sentences_from [] rest))) w.units-is
                ∙ sentence-done bounds m begun word rest units w.push_sentence.new.units.items all
                w.deref-then-i-words.result.now (w.deref-then-i-words.ensures.value ∙ sentence) ends
                w.in_ok-push_sentence.ensures whole;
          }
      | else-i-words+else-ends_sentence w ↦
          let on = sentence-on begun word rest
          (ap (λ l. ends_sentence (map inline_of l)) (sym w.deref-else-i-words.ensures.value)
          ∙ sym w.ends_sentence.ensures ∙ w.if-ends_sentence.false) in
          record {
            begun = begun ++ word ∷ [];
            ended = λ past. absurd (omega (arith, past, c.loop-i-test.true, w.if-i-words.false));
            sentence = ap (λ v. v.items) w.sentence-is ∙ sentence;
            rest =
                ap (λ v. v.items ++ map unit (flat_map (units_of bounds m)
                (sentences_from (begun ++ word ∷ []) rest)))
                w.units-is
                ∙ sentence-more bounds m begun word rest units all on whole;
          }
    ]

pub returns : goal.returns
returns c =
    let bounds = c.args.bounds.now in
    let m = c.args.margin in
    let was = c.loop-i.invariant in
    let unit = unit_of_words bounds.options m in
    let units = c.loop-i.units.items in
    let none = drop_all c.loop-i.i c.args.words.now c.loop-i-test.false in
    sym (append-nil units)
    ∙ ap (λ l. units ++ map unit (flat_map (units_of bounds m) (sentences_from l [])))
    (sym (was.ended c.loop-i-test.false))
    ∙ ap (λ l. units ++ map unit (flat_map (units_of bounds m) (sentences_from was.begun (words_in l)))) (sym none)
    ∙ was.rest
