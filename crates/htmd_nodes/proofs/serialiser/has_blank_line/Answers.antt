-- What is left to prove of `has_blank_line`.
use Rattle.std.proofs.Common.{◌≡◌, ◌∷◌, ◌∙◌, ◌&&◌, Bool, ap, sym, subst}
use Rattle.std.specs.Char.{is_whitespace}
use Rattle.std.specs.Str.{chars}
use Rattle.std.specs.Str.Iter.{chars_rest}
use Rattle.std.proofs.lemmas.List.{nil_from_length}
use Rattle.std.proofs.lemmas.Str.{IsUtf8-past_char, chars-nil}
use Rattle.htmd_values.specs.SerialiserSteps.{has_blank_line_from, has_blank_line}
use Rattle.htmd_values.proofs.RawBlocksLemmas.{found_here, past_line_feed, past_other, has_blank_line-turn}
use Rattle.htmd_nodes.proofs.serialiser.has_blank_line.Goals as goal

pub returns-then-behind : goal.returns-then-behind
returns-then-behind c =
    let total : Bool = has_blank_line (chars c.args.text.now) in
    let turn = has_blank_line-turn (chars_rest c.loop-c.c-iterator) (chars_rest c.next.new.self) c.in-Some.c
    c.loop-c.behind total c.loop-c.invariant.utf8 c.in-Some.ensures.steps.0 c.loop-c.invariant.rest in
    found_here total c.in-Some.c (chars (chars_rest c.next.new.self)) c.if-c-eq10.true
    (subst (λ b. has_blank_line_from b (c.in-Some.c ∷ chars (chars_rest c.next.new.self)) ≡ total) c.if-behind.true
    turn)

pub loop-c-preserved-then-c-eq10 : goal.loop-c-preserved-then-c-eq10
loop-c-preserved-then-c-eq10 c =
    let total : Bool = has_blank_line (chars c.args.text.now) in
    let turn = has_blank_line-turn (chars_rest c.loop-c.c-iterator) (chars_rest c.next.new.self) c.in-Some.c
    c.loop-c.behind total c.loop-c.invariant.utf8 c.in-Some.ensures.steps.0 c.loop-c.invariant.rest in
    record {
      utf8 = IsUtf8-past_char (chars_rest c.loop-c.c-iterator) (chars_rest c.next.new.self) c.in-Some.c
          c.loop-c.invariant.utf8 c.in-Some.ensures.steps.0;
      rest = past_line_feed total c.in-Some.c (chars (chars_rest c.next.new.self)) c.if-c-eq10.true
          (subst (λ b. has_blank_line_from b (c.in-Some.c ∷ chars (chars_rest c.next.new.self)) ≡ total)
          c.if-behind.false turn);
    }

pub loop-c-preserved-then-behind-2 : goal.loop-c-preserved-then-behind-2
loop-c-preserved-then-behind-2 c =
    let total : Bool = has_blank_line (chars c.args.text.now) in
    let turn = has_blank_line-turn (chars_rest c.loop-c.c-iterator) (chars_rest c.next.new.self) c.in-Some.c
    c.loop-c.behind total c.loop-c.invariant.utf8 c.in-Some.ensures.steps.0 c.loop-c.invariant.rest in
    let next : (c.loop-c.behind && is_whitespace c.in-Some.c) ≡ c.is_whitespace-behind.result =
    ap (λ b. b && is_whitespace c.in-Some.c) c.if-behind-2.true ∙ sym c.is_whitespace-behind.ensures in
    record {
      utf8 = IsUtf8-past_char (chars_rest c.loop-c.c-iterator) (chars_rest c.next.new.self) c.in-Some.c
          c.loop-c.invariant.utf8 c.in-Some.ensures.steps.0;
      rest = subst (λ b. has_blank_line_from b (chars (chars_rest c.next.new.self)) ≡ total) next
          (past_other total c.in-Some.c (chars (chars_rest c.next.new.self)) c.loop-c.behind c.if-c-eq10.false turn);
    }

pub loop-c-preserved : goal.loop-c-preserved
loop-c-preserved c =
    let total : Bool = has_blank_line (chars c.args.text.now) in
    let turn = has_blank_line-turn (chars_rest c.loop-c.c-iterator) (chars_rest c.next.new.self) c.in-Some.c
    c.loop-c.behind total c.loop-c.invariant.utf8 c.in-Some.ensures.steps.0 c.loop-c.invariant.rest in
    let next : (c.loop-c.behind && is_whitespace c.in-Some.c) ≡ c.loop-c.behind =
    ap (λ b. b && is_whitespace c.in-Some.c) c.if-behind-2.false ∙ sym c.if-behind-2.false in
    record {
      utf8 = IsUtf8-past_char (chars_rest c.loop-c.c-iterator) (chars_rest c.next.new.self) c.in-Some.c
          c.loop-c.invariant.utf8 c.in-Some.ensures.steps.0;
      rest = subst (λ b. has_blank_line_from b (chars (chars_rest c.next.new.self)) ≡ total) next
          (past_other total c.in-Some.c (chars (chars_rest c.next.new.self)) c.loop-c.behind c.if-c-eq10.false turn);
    }

pub returns : goal.returns
returns c =
    let none_left = nil_from_length (chars_rest c.loop-c.c-iterator) c.in-None.ensures.steps.0.0 in
    sym (ap (has_blank_line_from c.loop-c.behind) (ap chars none_left ∙ chars-nil)) ∙ c.loop-c.invariant.rest
