-- One more line after a space, and the lines of the whole text.
use Rattle.std.proofs.Common.{◌≡◌, [], ◌∷◌, ◌++◌, length, map, take, arith, ap, ◌∙◌, lit<}
use Rattle.std.specs.Prelude.{not, ◌==◌}
use Rattle.std.specs.List.{slice_split}
use Rattle.std.specs.String.{string_bytes}
use Rattle.std.proofs.lemmas.List.{length_push, map-id, take_all}
use Rattle.std.proofs.lemmas.Iterator.Splits.{YieldsList-from_str_split}
use Rattle.std.proofs.lemmas.Iterator.Consumers.{YieldsList-turn, YieldsList-end}
use Rattle.htmd_lexical.specs.Characters.{line_feed, space}
use Rattle.htmd_text.specs.Joins.{joined_texts}
use Rattle.htmd_text.proofs.IndentsLemmas.{pushed_some}
use Rattle.htmd_markdown.specs.CodeSpans.{space_if}
use Rattle.htmd_markdown.proofs.JoinedTextsLemmas.{joined_more}
use Rattle.htmd_markdown.proofs.OneLineLemmas.{joined_lines}
use Rattle.htmd_markdown.proofs.code_span.push_with_spaces.Goals as goal

pub loop-line-preserved : goal.loop-line-preserved
loop-line-preserved c =
    let base = string_bytes c.args.span.now in
    let ls = slice_split (λ b. b == line_feed) c.args.text.now in
    let n = length c.loop-line.yielded in
    let turn =
    YieldsList-turn
    (YieldsList-from_str_split line_feed c.args.text.now (lit< tt) (cc) (cc)
    (cc)) c.loop-line.yielded _ c.loop-line.yielded_by _ _ c.in-Some.line c.in-Some.is c.next.ensures.steps in
    let more =
    joined_more (space ∷ [])
    (λ l. l) ls n c.in-Some.line.now base c.loop-line.is_first turn c.loop-line.invariant.begun in
    record {
      written = rw (length_push c.loop-line.yielded c.in-Some.line)
          (c.in_ok-push_str.ensures.bytes
          ∙ ap (λ l. l ++ c.in-Some.line.now)
          (c.in_ok-push_space_if.ensures
          ∙ ap (λ l. l ++ space_if (not c.loop-line.is_first)) c.loop-line.invariant.written) ∙ more);
      begun = pushed_some c.loop-line.yielded c.in-Some.line;
    }

pub returns : goal.returns
returns c =
    let ls = slice_split (λ b. b == line_feed) c.args.text.now in
    let all = YieldsList-end
    (YieldsList-from_str_split line_feed c.args.text.now (lit< tt) (cc) (cc)
    (cc)) c.loop-line.yielded _ c.loop-line.yielded_by _ _ c.in-None.is c.next.ensures.steps in
    let whole : take (length c.loop-line.yielded) ls ≡ ls =
    take_all (length c.loop-line.yielded) ls (omega (arith, all.1)) in
    c.loop-line.invariant.written
    ∙ ap (λ l. string_bytes c.args.span.now ++ joined_texts (space ∷ []) (map (λ line. line) l)) whole
    ∙ ap (λ l. string_bytes c.args.span.now ++ joined_texts (space ∷ []) l) (map-id ls)
    ∙ ap (λ l. string_bytes c.args.span.now ++ l) (joined_lines c.args.text.now)
