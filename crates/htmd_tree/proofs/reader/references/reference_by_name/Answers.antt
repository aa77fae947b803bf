-- What is left to prove of `reference_by_name`.
use Rattle.std.proofs.Common.{◌≡◌, ◌∙◌, Some, None, sym, take}
use Rattle.htmd_grammar.specs.Rules.{character_named, named_characters}
use Rattle.htmd_tree.proofs.DecodedCharactersLemmas.{name_empty, name_open, name_none, name_some, behind_semicolon}
use Rattle.htmd_tree.proofs.reader.references.reference_by_name.Goals as goal
use Rattle.htmd_tree.proofs.reader.references.reference_by_name.Goals.{then-len-eq0-via-then-len-eq0}
use Rattle.htmd_tree.proofs.reader.references.reference_by_name.Goals.{then-len-eq0-via-else-len-eq0+then-not-first_is}

pub returns-then-len-eq0-clause-piece : goal.returns-then-len-eq0-clause-piece
returns-then-len-eq0-clause-piece c =
    let n = c.alphanumeric_len-len.result in
    elim c.then-len-eq0.branch [
      | then-len-eq0-via-then-len-eq0 w ↦
          name_empty n c.args.behind.now c.requires c.alphanumeric_len-len.ensures.value w.if-len-eq0.true
      | then-len-eq0-via-else-len-eq0+then-not-first_is w ↦
          name_open n c.args.behind.now c.requires c.alphanumeric_len-len.ensures.value
          (sym w.first_is.ensures ∙ w.if-not-first_is.true)
    ]

pub returns-in-Some-clause-piece : goal.returns-in-Some-clause-piece
returns-in-Some-clause-piece c =
    let n = c.alphanumeric_len-len.result in
    let found : Some c.in-Some.value ≡ character_named named_characters (take n c.args.behind.now) =
    c.in-Some.ensures in
    name_some n c.args.behind.now c.requires c.alphanumeric_len-len.ensures.value c.in-Some.value c.if-len-eq0.false
    (sym c.first_is.ensures ∙ c.if-not-first_is.false) found

pub returns-in-Some-clause-end : goal.returns-in-Some-clause-end
returns-in-Some-clause-end c =
    behind_semicolon c.args.behind.now c.alphanumeric_len-len.result c.alphanumeric_len-len.ensures.bound
    (sym c.first_is.ensures ∙ c.if-not-first_is.false)

pub returns-in-None-clause-piece : goal.returns-in-None-clause-piece
returns-in-None-clause-piece c =
    let n = c.alphanumeric_len-len.result in
    let missing : None ≡ character_named named_characters (take n c.args.behind.now) = c.in-None.ensures in
    name_none n c.args.behind.now c.requires c.alphanumeric_len-len.ensures.value c.if-len-eq0.false
    (sym c.first_is.ensures ∙ c.if-not-first_is.false) missing
