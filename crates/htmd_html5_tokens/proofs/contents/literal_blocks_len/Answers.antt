-- One more block.
use Rattle.std.proofs.Common.{◌≡◌, ◌∙◌, ◌+◌, ◌-◌, sym, subst, ap, true, length, take, drop, arith}
use Rattle.std.proofs.lemmas.List.{drop-drop, length-drop}
use Rattle.std.specs.List.{list_all}
use Rattle.htmd_lexical.specs.CharacterClasses.{leading_run}
use Rattle.htmd_html5_tokens.specs.AppendedCharacters.{is_literal}
use Rattle.htmd_html5_tokens.specs.declared.contents.Reading.TheVariants.{Text}
use Rattle.htmd_html5_tokens.proofs.ContentsLemmas.{run_past}
use Rattle.htmd_html5_tokens.proofs.contents.literal_blocks_len.Goals as goal

pub loop-len-preserved : goal.loop-len-preserved
loop-len-preserved c =
    let s = c.args.bytes.now in
    let i = c.loop-len.len in
    let size : (i + 16) - i ≡ 16 = omega arith in
    let all : list_all (is_literal Text) (take 16 (drop i s)) ≡ true =
    subst (λ n. list_all (is_literal Text) (take n (drop i s)) ≡ true) size
    (sym c.are_literal.ensures ∙ c.if-are_literal.true) in
    let more = run_past (is_literal Text) (drop i s) 16 (omega (arith, length-drop i s)) all in
    let left = ap (λ t. length (leading_run (is_literal Text) t)) (drop-drop 16 i s) in
    record { within = omega arith; passed = omega (arith, more, left, c.loop-len.invariant.passed) }
