-- What is left to prove of `push_literal`.
use Rattle.std.proofs.Common.{◌∙◌, length, ap}
use Rattle.std.specs.String.{string_bytes}
use Rattle.htmd_lexical.specs.CharacterClasses.{leading_run}
use Rattle.htmd_tree.specs.DecodedCharacters.{is_itself}
use Rattle.htmd_tree.proofs.DecodedValuesLemmas.{literal_cut, literal_pushed, literal_end}
use Rattle.htmd_tree.proofs.reader.references.push_literal.Goals as goal

pub split_at-requires : goal.split_at-requires
split_at-requires c =
    literal_cut c.args.text.now c.literal_len.result
    (c.literal_len.ensures.value ∙ ap (λ s. length (leading_run is_itself s)) c.as_bytes.ensures.value)

pub returns-clause-pushed : goal.returns-clause-pushed
returns-clause-pushed c =
    literal_pushed (string_bytes c.args.value.now) c.args.text.now c.split_at.result.0.now c.split_at.result.1.now
    (string_bytes c.push_str.new.self) c.literal_len.result
    (c.literal_len.ensures.value ∙ ap (λ s. length (leading_run is_itself s)) c.as_bytes.ensures.value)
    c.split_at.ensures.front c.split_at.ensures.back c.in_ok-push_str.ensures.bytes

pub returns-clause-special : goal.returns-clause-special
returns-clause-special c = λ some.
    literal_end c.args.text.now c.split_at.result.1.now c.literal_len.result
    (c.literal_len.ensures.value ∙ ap (λ s. length (leading_run is_itself s)) c.as_bytes.ensures.value)
    c.split_at.ensures.back c.split_at.ensures.back_len some
