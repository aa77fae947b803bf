-- The block is its definition, so its laws hold for what was written.
use Rattle.std.proofs.Common.{◌≡◌, ℕ, List, IfOk, ap, refl, replicate, string_bytes, subst, ◌∙◌}
use Rattle.std.specs.Prelude.{Some}
use Rattle.std.specs.Option.{option_copied}
use Rattle.htmd_markdown.specs.CodeBlocks.{code_of}
use Rattle.htmd_markdown.specs.FenceReading.{read_fence}
use Rattle.htmd_markdown.specs.Fences.{symbol_of, fence_len, between_fences, fenced_code_block}
use Rattle.htmd_markdown.proofs.ResultLemmas.{of_answer}
use Rattle.htmd_markdown.proofs.FencesLemmas.{fence-longer, fenced_code_block-reads_back, info_given}
use Rattle.htmd_markdown.proofs.fence.write_fence.Goals as goal

pub returns-clause-fence : goal.returns-clause-fence
returns-clause-fence c =
    let s = c.args.content.now in
    let character : ℕ = symbol_of c.args.symbol in
    let code =
    ap (λ l. between_fences (replicate (fence_len character l) character) c.unwrap_or.result.now l)
    c.code_of.ensures in
    let info =
    ap (λ l. between_fences (replicate (fence_len character (code_of s)) character) l (code_of s))
    (ap (λ x. x.now) c.unwrap_or.ensures ∙ info_given c.args.language _ refl) in
    subst (λ (l : List ℕ). IfOk c.write_between_fences.result (λ t. string_bytes t ≡ l))
    (code ∙ info) c.write_between_fences.ensures

pub returns-clause-longer : goal.returns-clause-longer
returns-clause-longer c = λ k. fence-longer c.args.content.now c.args.symbol k

pub returns-clause-reads_back : goal.returns-clause-reads_back
returns-clause-reads_back c = λ fits.
    of_answer (λ t. string_bytes t) c.write_between_fences.result
    (fenced_code_block c.args.content.now (option_copied c.args.language) c.args.symbol)
    (λ l. read_fence l ≡ Some (code_of c.args.content.now))
    (fenced_code_block-reads_back c.args.content.now (option_copied c.args.language) c.args.symbol fits)
    (returns-clause-fence c)
