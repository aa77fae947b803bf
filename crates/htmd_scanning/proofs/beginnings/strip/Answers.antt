-- After ASCII characters a text may be cut.
use Rattle.std.proofs.Common.{◌≡◌, true, ◌∙◌, sym, ap}
use Rattle.htmd_lexical.specs.CharacterClasses.{begins_with}
use Rattle.htmd_scanning.proofs.BeginningsLemmas.{cut_after_beginning}
use Rattle.htmd_scanning.proofs.beginnings.strip.Goals as goal

pub range_from-requires : goal.range_from-requires
range_from-requires c = λ _.
    let p = c.args.characters.now in
    let s = c.args.text.now in
    let e : begins_with p s ≡ true =
    ap (λ x. begins_with x s) (sym c.as_bytes-2.ensures.value)
    ∙ (ap (λ x. begins_with c.as_bytes-2.result.now x) (sym c.as_bytes.ensures.value)
    ∙ (sym c.begins_with.ensures ∙ c.if-not-begins_with.false)) in
    cut_after_beginning p s c.utf8.text e c.requires
