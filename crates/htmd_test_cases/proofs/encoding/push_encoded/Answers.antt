-- One more character, and none left.
use Rattle.std.proofs.Common.{◌≡◌, ◌++◌, string_bytes, sym, ap, ◌∙◌}
use Rattle.std.specs.List.{flat_map}
use Rattle.std.specs.Str.{chars}
use Rattle.std.proofs.lemmas.Iterator.{YieldsList-from_chars}
use Rattle.std.proofs.lemmas.Iterator.Consumers.{YieldsList-end}
use Rattle.std.proofs.lemmas.List.{flat_map_more, map-id}
use Rattle.htmd_test_cases.specs.Encodings.{encoded_char}
use Rattle.htmd_test_cases.proofs.encoding.push_encoded.Goals as goal

pub loop-c-preserved : goal.loop-c-preserved
loop-c-preserved c =
    let before = string_bytes c.args.out.now in
    c.in_ok-push_encoded_char.ensures ∙ ap (λ l. l ++ encoded_char c.in-Some.c) c.loop-c.invariant
    ∙ flat_map_more encoded_char before c.loop-c.yielded c.in-Some.c

pub returns : goal.returns
returns c =
    let all = YieldsList-end (YieldsList-from_chars c.args.text.now c.utf8.text cc) c.loop-c.yielded _
    c.loop-c.yielded_by _ _ c.in-None.is c.next.ensures.steps in
    let whole : c.loop-c.yielded ≡ chars c.args.text.now = sym (map-id c.loop-c.yielded) ∙ all.0 in
    c.loop-c.invariant ∙ ap (λ l. string_bytes c.args.out.now ++ flat_map encoded_char l) whole
