-- Other names are read as in the body.
use Rattle.std.proofs.Common.{◌≡◌, Bool, IfOk, false, subst, rules}
use Rattle.htmd_html5_state.specs.Names.{name_of}
use Rattle.htmd_html5.specs.Outcomes.{Outcome, outcome}
use Rattle.htmd_html5.proofs.TableTagLemmas.{is_end_in_caption, caption_other_end}
use Rattle.htmd_html5.proofs.in_caption.end_in_caption.Goals as goal

pub returns-in_default : goal.returns-in_default
returns-in_default c =
    let none : is_end_in_caption (name_of c.args.name.now) ≡ false = search rules in
    subst (λ (x : Outcome). IfOk c.end_in_body.result (λ (again : Bool). outcome c.end_in_body.new.state again ≡ x))
    (caption_other_end (name_of c.args.name.now) c.args.state.now none) c.end_in_body.ensures
