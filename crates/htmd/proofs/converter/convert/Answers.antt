-- What is left to prove of `convert`.
use Rattle.std.proofs.Common.{subst, string_bytes}
use Rattle.htmd.specs.Conversions.{IsRefused}
use Rattle.htmd.proofs.ConversionsLemmas.{markdown_by_default}
use Rattle.htmd.proofs.converter.convert.Goals as goal

pub returns-clause-ok : goal.returns-clause-ok
returns-clause-ok c =
    markdown_by_default _ _ c.args.html.now string_bytes c.convert.result c.in_ok-new.ensures.handlers
    c.in_ok-new.ensures.scripting c.convert.ensures.ok

pub returns-clause-refused : goal.returns-clause-refused
returns-clause-refused c place kind q =
    subst (λ scripting. IsRefused scripting c.args.html.now place kind) c.in_ok-new.ensures.scripting
    (c.convert.ensures.refused place kind q)
