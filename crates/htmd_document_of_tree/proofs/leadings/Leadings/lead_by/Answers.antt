use Rattle.std.proofs.Common.{◌∙◌, [], ap, sym, arith, cond, drop}
use Rattle.std.proofs.lemmas.Result.{on_ok_weaker}
use Rattle.std.proofs.lemmas.Str.Pattern.{strip_prefix_char}
use Rattle.htmd_lexical.specs.Characters.{number_sign}
use Rattle.htmd_document_of_tree.specs.LeadingViews as views
use Rattle.htmd_document_of_tree.specs.Leadings as spec
use Rattle.htmd_document_of_tree.proofs.LeadingsLemmas.{no_part, part_led}
use Rattle.htmd_document_of_tree.proofs.leadings.Leadings.lead_by.Goals as goal

pub returns-in-Some : goal.returns-in-Some
returns-in-Some c =
    let cut = strip_prefix_char number_sign c.args.address.now c.strip_prefix.result c.strip_prefix.ensures.cases
    (omega arith) in
    let same = part_led c.args.heading c.args.address.now c.in-Some.part.now (rw c.in-Some.is at cut) in
    on_ok_weaker c.lead.result
    (λ f s. f s ∙ ap (λ found. views.merged (views.span_to c.args.self.now s) s found) (sym same)) c.lead.ensures

pub returns-in-None : goal.returns-in-None
returns-in-None c =
    let cut = strip_prefix_char number_sign c.args.address.now c.strip_prefix.result c.strip_prefix.ensures.cases
    (omega arith) in
    let same = no_part c.args.address.now (rw c.in-None.is at cut) in
    λ s. sym (ap (λ b. views.merged (views.span_to c.args.self.now s) s
    (cond b (spec.leadings_to c.args.heading (drop 1 c.args.address.now)) [])) same)
