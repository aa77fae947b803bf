-- What is left to prove of `document_start`.
use Rattle.std.proofs.Common.{ℕ, length, subst, sym, arith}
use Rattle.std.specs.Str.{IsCharBoundary}
use Rattle.std.proofs.lemmas.List.Sums.{prefix_len_is}
use Rattle.htmd_lexical.specs.WhiteSpace.{is_document_white_space}
use Rattle.htmd_text.proofs.TrimsLemmas.{start_boundary, document_of_ascii}
use Rattle.htmd_text.proofs.trim.document_start.Goals as goal

pub returns-then-not-is_document_white_space-clause-value : goal.returns-then-not-is_document_white_space-clause-value
returns-then-not-is_document_white_space-clause-value c =
    sym (prefix_len_is is_document_white_space c.args.text.now c.loop-i.i 0 (omega arith) c.loop-i.invariant (λ _. cc))

pub returns-then-not-is_document_white_space-clause-cut : goal.returns-then-not-is_document_white_space-clause-cut
returns-then-not-is_document_white_space-clause-cut c =
    subst (λ (k : ℕ). IsCharBoundary c.args.text.now k)
    (sym (returns-then-not-is_document_white_space-clause-value c))
    (start_boundary is_document_white_space c.args.text.now c.utf8.text document_of_ascii)

pub returns-clause-value : goal.returns-clause-value
returns-clause-value c =
    sym (prefix_len_is is_document_white_space c.args.text.now (length c.args.text.now) 0 (omega arith)
    (λ k lt. c.loop-i.invariant k (omega arith)) (λ lt. absurd (omega arith)))
