use Rattle.std.proofs.Common.{◌≡◌, ◌-◌, ◌++◌, ◌∙◌, ◌&&◌, Bool, true, cond, List, ℕ, ap, sym, refl, arith, drop, min}
use Rattle.std.proofs.Common.{eqb}
use Rattle.std.specs.List.{prefix_len, suffix_len}
use Rattle.htmd_text.specs.Trims.{is_line_feed}
use Rattle.htmd_text.proofs.TrimsLemmas.{line_feed_of_ascii}
use Rattle.htmd_text.specs.Trims.{is_space}
use Rattle.htmd_walk.specs.Seams.{ends_with_space, begins_with_space, joined_by_line_feeds}
use Rattle.htmd_walk.proofs.Cuts.{cut_in_leading, space_of_ascii}
use Rattle.htmd_walk.proofs.SeamsLemmas.{joined_by_drop, space_in_front}
use Rattle.htmd_walk.proofs.seam.start_at_seam.Goals as goal

abbrev loses : List ℕ → List ℕ → Bool
loses out content = (eqb (suffix_len is_line_feed out) 0 && eqb (prefix_len is_line_feed content) 0)
    && (ends_with_space out && begins_with_space content)

pub returns-then-loses_space-clause-value : goal.returns-then-loses_space-clause-value
returns-then-loses_space-clause-value c =
    let out = c.args.out.now in
    let content = c.args.content.now in
    let lost : loses out content ≡ true = sym (c.loses_space.ensures ∙ ap (loses out) c.as_bytes.ensures.value)
    ∙ c.if-loses_space.true in
    rw lost refl

pub returns-then-loses_space-clause-cut : goal.returns-then-loses_space-clause-cut
returns-then-loses_space-clause-cut c =
    let out = c.args.out.now in
    let content = c.args.content.now in
    let lost : loses out content ≡ true = sym (c.loses_space.ensures ∙ ap (loses out) c.as_bytes.ensures.value)
    ∙ c.if-loses_space.true in
    let front = space_in_front (eqb (suffix_len is_line_feed out) 0) (eqb (prefix_len is_line_feed content) 0)
    (ends_with_space out) (prefix_len is_space content) lost in
    cut_in_leading is_space content 1 c.utf8.content space_of_ascii front

pub returns-clause-cut : goal.returns-clause-cut
returns-clause-cut c =
    let counted : c.leading_len-beginning.result ≡ prefix_len is_line_feed c.args.content.now =
    c.leading_len-beginning.ensures.value ∙ ap (prefix_len is_line_feed) c.as_bytes-2.ensures.value in
    cut_in_leading is_line_feed c.args.content.now (c.leading_len-beginning.result - c.min-kept.result)
    c.utf8.content line_feed_of_ascii (omega arith)

pub returns-clause-value : goal.returns-clause-value
returns-clause-value c =
    let out = c.args.out.now in
    let content = c.args.content.now in
    let counted : c.leading_len-beginning.result ≡ prefix_len is_line_feed content =
    c.leading_len-beginning.ensures.value ∙ ap (prefix_len is_line_feed) c.as_bytes-2.ensures.value in
    let keeps : c.min-kept.result ≡ min (prefix_len is_line_feed content) (2 - min (suffix_len is_line_feed out) 2) =
    omega (arith, c.trailing_len-ending.ensures.value) in
    let kept = sym (c.loses_space.ensures ∙ ap (loses out) c.as_bytes.ensures.value) ∙ c.if-loses_space.false in
    let a = suffix_len is_line_feed out in
    let b = prefix_len is_line_feed content in
    ap (λ n. out ++ drop (n - c.min-kept.result) content) counted
    ∙ joined_by_drop out content a b c.min-kept.result refl refl keeps
    ∙ ap (λ t. cond t (out ++ drop 1 content) (joined_by_line_feeds a b out content)) (sym kept)
