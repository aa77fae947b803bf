-- What is left to prove of `push_character`.
use Rattle.std.proofs.Common.{◌≡◌, ◌∙◌, ◌-◌, ℕ, List, length, take, drop, get_or, ap, subst, arith}
use Rattle.std.proofs.lemmas.Slice.{between_to_end}
use Rattle.std.specs.String.{string_bytes}
use Rattle.htmd_grammar.specs.References.{piece_at}
use Rattle.htmd_grammar.specs.Rules.{named_characters}
use Rattle.htmd_tree.specs.DecodedCharacters.{IsPieceEnd}
use Rattle.htmd_tree.proofs.TextRunsLemmas.{first_cut}
use Rattle.htmd_tree.proofs.DecodedValuesLemmas.{character_pushed}
use Rattle.htmd_tree.proofs.reader.references.push_character.Goals as goal

pub range_from-requires : goal.range_from-requires
range_from-requires c = λ _.
    let bytes = c.as_bytes-bytes.result.now in
    let behind : take (length bytes - 1) (drop 1 bytes) ≡ drop 1 c.args.text.now =
    between_to_end bytes 1 (length bytes) (omega arith) ∙ ap (drop 1) c.as_bytes-bytes.ensures.value in
    first_cut c.args.text.now c.in-Ok.character.behind c.utf8.text c.requires.more c.requires.ascii
    (subst (λ (x : List ℕ). IsPieceEnd x c.in-Ok.character.behind) behind c.in-Ok.ensures.end)

pub returns-in_ok-push-in-Ok-clause-pushed : goal.returns-in_ok-push-in-Ok-clause-pushed
returns-in_ok-push-in-Ok-clause-pushed c =
    let bytes = c.as_bytes-bytes.result.now in
    let x = take (length bytes - 1) (drop 1 bytes) in
    let behind : x ≡ drop 1 c.args.text.now =
    between_to_end bytes 1 (length bytes) (omega arith) ∙ ap (drop 1) c.as_bytes-bytes.ensures.value in
    let piece = c.in-Ok.ensures.piece
    ∙ ap (λ (l : List ℕ). piece_at named_characters (get_or l 0 0) x) c.as_bytes-bytes.ensures.value in
    character_pushed c.args.text.now x (string_bytes c.args.value.now) (string_bytes c.push.new.self)
    c.range_from.result.now c.in-Ok.character c.requires.more behind piece c.in_ok-push-in-Ok.ensures.bytes
    c.range_from.ensures.value
