-- A refusal of the body is one of the page.
use Rattle.std.proofs.Common.{◌∙◌, ap, refl, Err, arith}
use Rattle.htmd.specs.Converters.{scripting_of}
use Rattle.htmd.proofs.ConversionsLemmas.{place_within, page_place, page_refused}
use Rattle.htmd.proofs.converter.HtmlToMarkdown.page_to_tree.Goals as goal

pub overflow_add-result : goal.overflow_add-result
overflow_add-result g c =
    let place = c.in-Err-Refused.place in
    let kind = c.in-Err-Refused.kind in
    let part = c.body_of-start.result.0.now in
    let refused = c.html_to_tree.ensures.refused place kind (c.in-Err-Refused.is
    ∙ ap Err c.in-Err-Refused.field-0-is) in
    let within = page_place part c.args.page.now c.body_of-start.result.1 place c.body_of-start.ensures.stands
    (place_within (scripting_of c.args.self.now) part place kind refused) in
    omega arith

pub returns-in-Err-Refused-clause-refused : goal.returns-in-Err-Refused-clause-refused
returns-in-Err-Refused-clause-refused g c place kind q =
    let refused = c.html_to_tree.ensures.refused c.in-Err-Refused.place c.in-Err-Refused.kind
    (c.in-Err-Refused.is ∙ ap Err c.in-Err-Refused.field-0-is) in
    page_refused _ (scripting_of c.args.self.now) c.args.page.now c.body_of-start.result.0.now c.body_of-start.result.1
    c.in-Err-Refused.place c.in-Err-Refused.kind place kind c.body_of-start.ensures.part c.body_of-start.ensures.place
    refused refl q
