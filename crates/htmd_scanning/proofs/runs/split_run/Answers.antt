-- The text is cut after the run.
use Rattle.std.proofs.Common.{◌∙◌, length, take, drop, sym, ap, subst}
use Rattle.std.specs.Str.{IsCharBoundary}
use Rattle.htmd_lexical.specs.CharacterClasses.{leading_run}
use Rattle.htmd_lexical.proofs.RunsLemmas.{take_run, drop_run}
use Rattle.htmd_scanning.proofs.RunCuts.{cut_at}
use Rattle.htmd_scanning.proofs.runs.split_run.Goals as goal

pub split_at-requires : goal.split_at-requires
split_at-requires g c =
    let p = g.C.ByteClass.bytes c.args.class in
    let text = c.args.text.now in
    let same = c.run_len.ensures.value ∙ ap (λ s. length (leading_run p s)) c.as_bytes.ensures.value in
    subst (IsCharBoundary text) (sym same) (cut_at p text c.utf8.text c.requires)

pub returns-clause-run : goal.returns-clause-run
returns-clause-run g c =
    let p = g.C.ByteClass.bytes c.args.class in
    let text = c.args.text.now in
    let same = c.run_len.ensures.value ∙ ap (λ s. length (leading_run p s)) c.as_bytes.ensures.value in
    c.split_at.ensures.front ∙ ap (λ n. take n text) same ∙ take_run p text

pub returns-clause-rest : goal.returns-clause-rest
returns-clause-rest g c =
    let p = g.C.ByteClass.bytes c.args.class in
    let text = c.args.text.now in
    let same = c.run_len.ensures.value ∙ ap (λ s. length (leading_run p s)) c.as_bytes.ensures.value in
    c.split_at.ensures.back ∙ ap (λ n. drop n text) same ∙ drop_run p text
