-- The piece with which the content begins.
use Rattle.htmd_tree.proofs.ContentsLemmas.{content_cut, content_dropped, content_other, content_wrong}
use Rattle.htmd_tree.proofs.reader.tags.without_line_feed.Goals as goal

pub range_from-requires : goal.range_from-requires
range_from-requires c =
    λ _. content_cut c.args.text.now c.as_bytes.result.now c.behind_first.result.now c.in-Ok.character.behind
    c.as_bytes.ensures.value c.in-Ok.ensures.end c.behind_first.ensures c.behind_first.utf8

pub returns-in-Ok : goal.returns-in-Ok
returns-in-Ok c =
    content_dropped c.args.text.now c.as_bytes.result.now c.behind_first.result.now c.range_from.result.now
    c.in-Ok.character.behind c.in-Ok.character.value c.as_bytes.ensures.value c.in-len1-up.len_at_least
    c.in-Ok.ensures.piece c.if-character-eq10.true c.behind_first.ensures c.range_from.ensures.value

pub returns-in_default-character_at : goal.returns-in_default-character_at
returns-in_default-character_at c =
    content_other c.args.text.now c.as_bytes.result.now c.in-Ok.character.behind c.in-Ok.character.value
    c.as_bytes.ensures.value c.in-len1-up.len_at_least c.in-Ok.ensures.piece c.if-character-eq10.false

pub returns-in_default-character_at-2 : goal.returns-in_default-character_at-2
returns-in_default-character_at-2 c =
    content_wrong c.args.text.now c.as_bytes.result.now _ c.as_bytes.ensures.value c.in-len1-up.len_at_least
    c.in_default-character_at.ensures.piece
