-- Distinct attributes all count, and of others those that are marked.
use Rattle.std.proofs.Common.{◌≡◌, ◌∙◌, sym, ap, subst, List, [], true}
use Rattle.std.specs.Result.{IfOk}
use Rattle.htmd_lexical.specs.AttributePairs.{AttributePair}
use Rattle.htmd_lexical.specs.CharacterClasses.{are_distinct}
use Rattle.htmd_lexical.specs.Attributes.{attribute_names}
use Rattle.htmd_lexical.specs.declared.attribute.Attribute.{Attribute}
use Rattle.htmd_lexical.specs.Attributes.{pairs_of}
use Rattle.htmd_html5_tokens.specs.Tags.{firsts}
use Rattle.htmd_html5_tokens.specs.Firsts.{are_first, those_marked}
use Rattle.htmd_html5_tokens.proofs.FirstsLemmas.{distinct_firsts, marked_firsts}
use Rattle.htmd_html5_tokens.proofs.tags.firsts.Goals as goal

pub returns-then-branch : goal.returns-then-branch
returns-then-branch c =
    let attributes = c.args.attributes.items in
    let distinct : are_distinct (attribute_names (pairs_of attributes)) ≡ true =
    ap (λ (x : List Attribute). are_distinct (attribute_names (pairs_of x))) (sym c.as_slice.ensures.value)
    ∙ sym c.in_ok-are_distinct.ensures ∙ c.if-branch.true in
    distinct_firsts (pairs_of attributes) distinct

pub returns : goal.returns
returns c =
    let all = pairs_of c.args.attributes.items in
    let marks : c.as_slice-3.result.now ≡ are_first [] all =
    c.as_slice-3.ensures.value ∙ c.in_ok-marks.ensures
    ∙ ap (λ (x : List Attribute). are_first [] (pairs_of x)) c.as_slice-2.ensures.value in
    let same : those_marked all c.as_slice-3.result.now ≡ firsts [] all =
    ap (those_marked all) marks ∙ marked_firsts [] all in
    subst (λ (x : List AttributePair). IfOk c.marked.result (λ v. pairs_of v.items ≡ x)) same c.marked.ensures
