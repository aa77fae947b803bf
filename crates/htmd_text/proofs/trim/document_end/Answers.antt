-- What is left to prove of `document_end`.
use Rattle.std.proofs.Common.{◌≡◌, ℕ, ◌-◌, length, subst, sym, arith}
use Rattle.std.specs.List.{suffix_len}
use Rattle.std.specs.Str.{IsCharBoundary}
use Rattle.htmd_lexical.specs.WhiteSpace.{is_document_white_space}
use Rattle.htmd_text.proofs.TrimsLemmas.{end_stops, end_boundary, document_of_ascii}
use Rattle.htmd_text.proofs.trim.document_end.Goals as goal

pub returns-else-is_document_white_space-clause-cut : goal.returns-else-is_document_white_space-clause-cut
returns-else-is_document_white_space-clause-cut c =
    let s = c.args.text.now in
    let here : c.loop-end.end ≡ length s - suffix_len is_document_white_space s =
    end_stops is_document_white_space s c.loop-end.end c.loop-end.invariant.within (λ _. cc)
    c.loop-end.invariant.passed
    in
    subst (λ (k : ℕ). IsCharBoundary s k) (sym here) (end_boundary is_document_white_space s document_of_ascii)

pub returns-after-loop-end-clause-cut : goal.returns-after-loop-end-clause-cut
returns-after-loop-end-clause-cut c =
    let s = c.args.text.now in
    let here : c.loop-end.end ≡ length s - suffix_len is_document_white_space s =
    end_stops is_document_white_space s c.loop-end.end c.loop-end.invariant.within (λ lt. absurd (omega arith))
    c.loop-end.invariant.passed in
    subst (λ (k : ℕ). IsCharBoundary s k) (sym here) (end_boundary is_document_white_space s document_of_ascii)
