-- The text is cut after its first run.
use Rattle.std.proofs.Common.{◌≡◌, ◌∙◌, length, take, drop, sym, ap, subst}
use Rattle.std.specs.Str.{IsCharBoundary, IsUtf8}
use Rattle.std.proofs.lemmas.Str.{IsUtf8-drop}
use Rattle.htmd_lexical.specs.CharacterClasses.{leading_run, behind_run}
use Rattle.htmd_html5.specs.Runs.{is_of_kind, first_kind}
use Rattle.htmd_html5.specs.declared.tokens.RunKind.{RunKind}
use Rattle.htmd_lexical.proofs.RunsLemmas.{take_run, drop_run}
use Rattle.htmd_html5.proofs.RunLemmas.{run_cut}
use Rattle.htmd_html5.proofs.tokens.split_run.Goals as goal

pub split_at-requires : goal.split_at-requires
split_at-requires c =
    let text = c.args.text.now in
    let same = c.run_len.ensures.value
    ∙ ap (λ s. length (leading_run (is_of_kind c.first_kind-kind.result) s)) c.as_bytes-bytes.ensures.value in
    subst (IsCharBoundary text) (sym same) (run_cut c.first_kind-kind.result text c.utf8.text)

pub returns-clause-run : goal.returns-clause-run
returns-clause-run c =
    let text = c.args.text.now in
    let kind = c.first_kind-kind.result in
    let same = c.run_len.ensures.value
    ∙ ap (λ s. length (leading_run (is_of_kind kind) s)) c.as_bytes-bytes.ensures.value in
    let is : kind ≡ first_kind text = c.first_kind-kind.ensures ∙ ap first_kind c.as_bytes-bytes.ensures.value in
    c.split_at.ensures.front ∙ ap (λ n. take n text) same ∙ take_run (is_of_kind kind) text
    ∙ ap (λ (k : RunKind). leading_run (is_of_kind k) text) is

pub returns-clause-rest : goal.returns-clause-rest
returns-clause-rest c =
    let text = c.args.text.now in
    let kind = c.first_kind-kind.result in
    let same = c.run_len.ensures.value
    ∙ ap (λ s. length (leading_run (is_of_kind kind) s)) c.as_bytes-bytes.ensures.value in
    let is : kind ≡ first_kind text = c.first_kind-kind.ensures ∙ ap first_kind c.as_bytes-bytes.ensures.value in
    c.split_at.ensures.back ∙ ap (λ n. drop n text) same ∙ drop_run (is_of_kind kind) text
    ∙ ap (λ (k : RunKind). behind_run (is_of_kind k) text) is

pub returns-clause-text : goal.returns-clause-text
returns-clause-text c =
    let text = c.args.text.now in
    let same = c.run_len.ensures.value
    ∙ ap (λ s. length (leading_run (is_of_kind c.first_kind-kind.result) s)) c.as_bytes-bytes.ensures.value in
    let cut = subst (IsCharBoundary text) (sym same) (run_cut c.first_kind-kind.result text c.utf8.text) in
    subst IsUtf8 (sym c.split_at.ensures.back) (IsUtf8-drop text c.run_len.result c.utf8.text cut)
