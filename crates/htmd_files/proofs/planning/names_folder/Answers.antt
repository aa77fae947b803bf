use Rattle.std.proofs.Common.{◌≡◌, ◌∙◌, sym, ap, Bool, ◌||◌}
use Rattle.std.specs.Prelude.{codes}
use Rattle.std.proofs.lemmas.Str.Pattern.{ends_text}
use Rattle.htmd_files.specs.Paths.{ends_with_slash}
use Rattle.htmd_files.proofs.planning.names_folder.Goals as goal

pub returns-else-out : goal.returns-else-out
returns-else-out c =
    let e : c.ends_with.result ≡ ends_with_slash c.args.out.path.now =
    ends_text c.ends_with.result (codes "/") c.args.out.path.now c.ends_with.ensures.cases in
    e ∙ ap (λ (b : Bool). b || ends_with_slash c.args.out.path.now) (sym c.if-out.false)
