use Rattle.std.proofs.Common.{◌≡◌, ◌∙◌, ◌++◌, ◌∷◌, [], sym, ap, map}
use Rattle.std.proofs.lemmas.List.{map_push}
use Rattle.htmd_flow.specs.Flows.{onto_last}
use Rattle.htmd_flow.specs.ParagraphViews.{writing_in}
use Rattle.htmd_flow.specs.TermViews.{with_term}
use Rattle.htmd_flow.proofs.TermsLemmas.{onto_end}
use Rattle.htmd_flow.proofs.terms.TermItems.take_for_term.Goals as goal

pub returns-in-Some-clause-items : goal.returns-in-Some-clause-items
returns-in-Some-clause-items c = λ parts.
    let items = map writing_in c.args.self.now.open.items in
    let rest = map writing_in c.pop.new.self.items in
    let last = writing_in c.in-Some.item in
    let all : items ≡ rest ++ last ∷ [] =
    ap (map writing_in) c.in-Some.ensures.items ∙ map_push writing_in c.pop.new.self.items c.in-Some.item in
    sym (ap (λ b. with_term b items parts) c.if-goes_on.true ∙ ap (λ xs. onto_last xs parts) all
    ∙ onto_end rest last parts)
