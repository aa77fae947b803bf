use Rattle.std.proofs.Common.{◌∙◌, ◌++◌, ◌∷◌, [], ap, arith, lit<, string_bytes}
use Rattle.htmd_lexical.specs.Characters.{slash}
use Rattle.htmd_addresses.proofs.LeadsLemmas.{parents-more}
use Rattle.htmd_addresses.proofs.leads.push_parents.Goals as goal

pub loop-name-preserved : goal.loop-name-preserved
loop-name-preserved c =
    parents-more c.args.names.now c.loop-name._name-index (string_bytes c.loop-name.address)
    (string_bytes c.push.new.self) _ (omega arith)
    (c.in_ok-push.ensures.bytes
    ∙ (ap (λ x. string_bytes c.push_name.new.address ++ x) (c.in_ok-push.ensures.ascii (lit< tt))
    ∙ ap (λ x. x ++ slash ∷ []) c.in_ok-push_name.ensures))
    c.loop-name.invariant
