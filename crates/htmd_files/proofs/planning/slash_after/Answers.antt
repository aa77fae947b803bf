use Rattle.std.proofs.Common.{◌≡◌, ◌∙◌, sym, ap, Bool, []}
use Rattle.std.specs.Prelude.{codes, if◌then◌else◌}
use Rattle.std.proofs.lemmas.Str.Pattern.{ends_text}
use Rattle.htmd_files.specs.Paths.{ends_with_slash}
use Rattle.htmd_files.proofs.planning.slash_after.Goals as goal

pub returns-then-ends_with : goal.returns-then-ends_with
returns-then-ends_with c =
    let e : c.ends_with.result ≡ ends_with_slash c.args.folder.now =
    ends_text c.ends_with.result (codes "/") c.args.folder.now c.ends_with.ensures.cases in
    ap (λ (b : Bool). if b then [] else codes "/") (sym c.if-ends_with.true ∙ e)

pub returns-else-ends_with : goal.returns-else-ends_with
returns-else-ends_with c =
    let e : c.ends_with.result ≡ ends_with_slash c.args.folder.now =
    ends_text c.ends_with.result (codes "/") c.args.folder.now c.ends_with.ensures.cases in
    ap (λ (b : Bool). if b then [] else codes "/") (sym c.if-ends_with.false ∙ e)
