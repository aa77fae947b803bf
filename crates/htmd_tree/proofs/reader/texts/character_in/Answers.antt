-- What is left to prove of `character_in`.
use Rattle.std.proofs.Common.{◌∙◌, ◌-◌, length, take, drop, sym, arith}
use Rattle.std.proofs.lemmas.Slice.{between_to_end}
use Rattle.htmd_tree.proofs.TextRunsLemmas.{stray_character}
use Rattle.htmd_tree.proofs.reader.texts.character_in.Goals as goal

pub returns-then-not-is_ascii_whitespace : goal.returns-then-not-is_ascii_whitespace
returns-then-not-is_ascii_whitespace c =
    let s = c.args.bytes.now in
    stray_character c.args.parts s (take (length s - 1) (drop 1 s)) c.in_ok-character.character
    (between_to_end s 1 (length s) (omega arith)) c.in_ok-character.ensures.piece c.if-parts.true
    (sym c.is_ascii_whitespace.ensures.value ∙ c.if-not-is_ascii_whitespace.true)
