-- One more line after a line feed, and the lines of the whole code.
use Rattle.std.proofs.Common.{◌≡◌, [], ◌∷◌, ◌++◌, length, map, take, arith, ap, ◌∙◌}
use Rattle.std.specs.Str.Lines.{lines}
use Rattle.std.proofs.lemmas.List.{length_push, take_all}
use Rattle.std.proofs.lemmas.Iterator.Splits.{YieldsList-from_lines}
use Rattle.std.proofs.lemmas.Iterator.Consumers.{YieldsList-turn, YieldsList-end}
use Rattle.htmd_lexical.specs.Characters.{line_feed}
use Rattle.htmd_text.specs.Joins.{joined_texts}
use Rattle.htmd_text.proofs.IndentsLemmas.{pushed_some}
use Rattle.htmd_markdown.specs.CodeBlocks.{code_of}
use Rattle.htmd_markdown.specs.IndentedCode.{indented_line}
use Rattle.htmd_markdown.proofs.JoinedTextsLemmas.{separator_unless, joined_more}
use Rattle.htmd_markdown.proofs.indented_code.write_indented_code.Goals as goal

pub loop-line-preserved : goal.loop-line-preserved
loop-line-preserved c =
    let ls = lines (code_of c.args.content.now) in
    let n = length c.loop-line.yielded in
    let turn =
    YieldsList-turn
    (YieldsList-from_lines (code_of c.args.content.now)
    (cc)) c.loop-line.yielded _ c.loop-line.yielded_by _ _ c.in-Some.line c.in-Some.is c.next.ensures.steps in
    let more =
    joined_more
    (line_feed ∷ []) indented_line ls n c.in-Some.line.now [] c.loop-line.is_first turn c.loop-line.invariant.begun in
    record {
      written = rw (length_push c.loop-line.yielded c.in-Some.line)
          (c.in_ok-push_line.ensures
          ∙ ap (λ l.
          (l ++ separator_unless c.loop-line.is_first
          (line_feed ∷ [])) ++ indented_line c.in-Some.line.now) c.loop-line.invariant.written ∙ more);
      begun = pushed_some c.loop-line.yielded c.in-Some.line;
    }

pub returns : goal.returns
returns c =
    let ls = lines (code_of c.args.content.now) in
    let all = YieldsList-end
    (YieldsList-from_lines (code_of c.args.content.now)
    (cc)) c.loop-line.yielded _ c.loop-line.yielded_by _ _ c.in-None.is c.next.ensures.steps in
    let whole : take (length c.loop-line.yielded) ls ≡ ls =
    take_all (length c.loop-line.yielded) ls (omega (arith, all.1)) in
    c.loop-line.invariant.written ∙ ap (λ l. joined_texts (line_feed ∷ []) (map indented_line l)) whole
