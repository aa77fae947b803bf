-- After ASCII characters a text may be cut.
use Rattle.std.proofs.Common.{◌≡◌, true, ◌∙◌, sym, ap}
use Rattle.htmd_lexical.specs.CharacterClasses.{begins_in_any_case}
use Rattle.htmd_lexical.proofs.AnyCaseLemmas.{begins_within, lead_behind}
use Rattle.htmd_scanning.proofs.beginnings.strip_in_any_case.Goals as goal

pub range_from-requires : goal.range_from-requires
range_from-requires c = λ _.
    let p = c.args.characters.now in
    let s = c.args.text.now in
    let e : begins_in_any_case p s ≡ true =
    ap (λ x. begins_in_any_case x s) (sym c.as_bytes-2.ensures.value)
    ∙ (ap (λ x. begins_in_any_case c.as_bytes-2.result.now x) (sym c.as_bytes.ensures.value)
    ∙ (sym c.begins_in_any_case.ensures ∙ c.if-not-begins_in_any_case.false)) in
    (begins_within p s e, lead_behind p s c.utf8.text e c.requires.ascii c.requires.filled)
