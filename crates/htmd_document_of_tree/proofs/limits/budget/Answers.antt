use Rattle.std.proofs.Common.{◌≡◌, ◌∙◌, ◌+◌, ◌*◌, ap, refl, arith, string_bytes}
use Rattle.std.proofs.lemmas.Result.{IfOk-weaker}
use Rattle.std.specs.List.{list_any}
use Rattle.std.specs.Str.{bytes_eq}
use Rattle.htmd_shown.specs.SimpleViews.{simples_of}
use Rattle.htmd_document_of_tree.specs.Limits as spec
use Rattle.htmd_document_of_tree.proofs.limits.budget.Goals as goal

pub returns-in-Some : goal.returns-in-Some
returns-in-Some c =
    let counts = c.in_ok-note_all.ensures spec.nothing_written (record {
      count = refl;
      pairs = λ s. ap (λ ks. list_any (λ k. bytes_eq s (string_bytes k)) ks) c.new.ensures.empty;
    }) in
    let count = counts.count in
    let all = (spec.written_all spec.nothing_written (simples_of c.args.trees.now)).count in
    let often : c.in-Some.often ≡ 16 * all = c.in-Some.ensures.1 ∙ omega (arith, count) in
    IfOk-weaker c.sum.result _ _ (λ n e. e ∙ ap (λ m. m + spec.always_written) often) c.sum.ensures
