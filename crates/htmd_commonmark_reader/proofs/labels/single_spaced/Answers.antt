-- One more word, and the white space after it.
use Rattle.std.proofs.Common.{◌≡◌, ◌<◌, ◌∙◌, ◌++◌, length, ap, arith}
use Rattle.std.specs.String.{string_bytes}
use Rattle.htmd_lexical.specs.CharacterClasses.{behind_run}
use Rattle.htmd_commonmark_reading.specs.LinkDefinitions.{past_white, single_spaced}
use Rattle.htmd_commonmark_reader.specs.Words.{is_of_word, space_before}
use Rattle.htmd_commonmark_reader.proofs.LabelsLemmas.{word_more, word_shorter, filled_length}
use Rattle.htmd_commonmark_reader.proofs.labels.single_spaced.Goals as goal

pub loop-rest-smaller : goal.loop-rest-smaller
loop-rest-smaller c =
    let s = c.loop-rest.rest.now in
    let next : c.past_white-rest.result.now ≡ past_white (behind_run is_of_word s) =
    c.past_white-rest.ensures ∙ ap past_white c.split_run.ensures.rest in
    let some = filled_length s c.is_empty.result c.is_empty.ensures c.loop-rest-test.true in
    let small : length c.past_white-rest.result.now < length s =
    omega (arith, ap length next, word_shorter s some) in
    small

pub loop-rest-preserved : goal.loop-rest-preserved
loop-rest-preserved c =
    let s = c.loop-rest.rest.now in
    let next : c.past_white-rest.result.now ≡ past_white (behind_run is_of_word s) =
    c.past_white-rest.ensures ∙ ap past_white c.split_run.ensures.rest in
    let more = word_more (string_bytes c.loop-rest.held) (string_bytes c.push_str.new.self)
    (string_bytes c.push_space_before.new.held) s c.args.text.now c.loop-rest.invariant.reads
    (c.in_ok-push_str.ensures.bytes ∙ ap (λ t. string_bytes c.loop-rest.held ++ t) c.split_run.ensures.run)
    (c.in_ok-push_space_before.ensures
    ∙ ap (λ t. string_bytes c.push_str.new.self ++ space_before t) c.split_run.ensures.rest) in
    record {
      text = c.past_white-rest.utf8;
      reads = ap (λ t. string_bytes c.push_space_before.new.held ++ single_spaced t) next ∙ more;
    }
