-- What is left to prove of `run`.
use Rattle.std.proofs.Common.{◌≡◌, ◌∷◌, ◌++◌, ◌∙◌, refl, sym, ap, subst, map, length, chars, IsUtf8, arith}
use Rattle.std.proofs.Common.{encode_utf8_all}
use Rattle.std.proofs.lemmas.List.{length-drop}
use Rattle.htmd_text.specs.Trims.{trimmed_end}
use Rattle.htmd_flow.specs.ParagraphViews.{writing_in}
use Rattle.htmd_flow.specs.PartViews.{around_of}
use Rattle.htmd_shown.specs.Spaces.{is_white}
use Rattle.htmd_shown.proofs.SpacesLemmas.{character-cut, front-cut}
use Rattle.htmd_flow.proofs.PieceFeedLemmas.{piece-read, piece-some}
use Rattle.htmd_flow.proofs.ParagraphsLemmas.{white-read, read-end}
use Rattle.htmd_flow.proofs.paragraphs.Paragraphs.run.Goals as goal

pub range_from-rest-requires : goal.range_from-rest-requires
range_from-rest-requires c =
    λ _. (character-cut c.loop-c.rest.now c.next.new.self.rest.now c.in-Some.c c.len_utf8.result
    c.loop-c.invariant.utf8 (sym c.chars.ensures.rest ∙ c.in-Some.ensures.steps.0) c.len_utf8.ensures.value).boundary

pub loop-c-preserved-then-is_white : goal.loop-c-preserved-then-is_white
loop-c-preserved-then-is_white c =
    let cut = character-cut c.loop-c.rest.now c.next.new.self.rest.now c.in-Some.c c.len_utf8.result
    c.loop-c.invariant.utf8 (sym c.chars.ensures.rest ∙ c.in-Some.ensures.steps.0) c.len_utf8.ensures.value in
    record {
      utf8 = subst IsUtf8 (sym c.range_from-rest.ensures.value) cut.utf8;
      value = white-read (writing_in c.loop-c.self) (writing_in c.push_white.new.self) (map around_of c.args.around.now)
          c.args.is_code c.loop-c.rest.now c.range_from-rest.result.now c.in-Some.c
          (cut.characters ∙ ap (λ r. c.in-Some.c ∷ chars r) (sym c.range_from-rest.ensures.value))
          (sym c.if-is_white.ensures) c.in_ok-push_white.ensures
          ∙ c.loop-c.invariant.value;
    }

pub range_from-rest-requires-else-is_white : goal.range_from-rest-requires-else-is_white
range_from-rest-requires-else-is_white c =
    λ _. (front-cut c.loop-c.rest.now (length c.without_white_end-piece.result.now) _ c.loop-c.invariant.utf8
    (ap length c.without_white_end-piece.ensures)).boundary

pub loop-c-smaller : goal.loop-c-smaller
loop-c-smaller c =
    let first = character-cut c.loop-c.rest.now c.next.new.self.rest.now c.in-Some.c _
    c.loop-c.invariant.utf8 (sym c.chars.ensures.rest ∙ c.in-Some.ensures.steps.0) refl in
    let cut = front-cut c.loop-c.rest.now (length c.without_white_end-piece.result.now) _ c.loop-c.invariant.utf8
    (ap length c.without_white_end-piece.ensures) in
    let some = piece-some c.loop-c.rest.now c.in-Some.c _ first.characters (sym c.if-is_white.ensures) in
    let size : length c.without_white_end-piece.result.now
    ≡ length (encode_utf8_all (trimmed_end is_white (chars c.loop-c.rest.now))) =
    ap length c.without_white_end-piece.ensures in
    let within = cut.boundary.0 in
    omega (
      arith,
      some,
      size,
      within,
      ap length c.range_from-rest-else-is_white.ensures.value,
      length-drop (length c.without_white_end-piece.result.now) c.loop-c.rest.now,
    )

pub loop-c-preserved : goal.loop-c-preserved
loop-c-preserved c =
    let first = character-cut c.loop-c.rest.now c.next.new.self.rest.now c.in-Some.c _
    c.loop-c.invariant.utf8 (sym c.chars.ensures.rest ∙ c.in-Some.ensures.steps.0) refl in
    let cut = front-cut c.loop-c.rest.now (length c.without_white_end-piece.result.now) _ c.loop-c.invariant.utf8
    (ap length c.without_white_end-piece.ensures) in
    record {
      utf8 = subst IsUtf8 (sym c.range_from-rest-else-is_white.ensures.value) cut.utf8;
      value = piece-read (writing_in c.loop-c.self) (writing_in c.push_piece.new.self) (map around_of c.args.around.now)
          c.args.is_code c.loop-c.rest.now c.without_white_end-piece.result.now
          c.range_from-rest-else-is_white.result.now
          c.in-Some.c _ first.characters (sym c.if-is_white.ensures) c.without_white_end-piece.ensures
          (cut.characters
          ∙ ap (λ r. trimmed_end is_white (chars c.loop-c.rest.now) ++ chars r)
          (sym c.range_from-rest-else-is_white.ensures.value))
          c.in_ok-push_piece.ensures
          ∙ c.loop-c.invariant.value;
    }

pub returns : goal.returns
returns c = read-end (writing_in c.loop-c.self) (map around_of c.args.around.now) c.args.is_code c.chars.result.rest.now
    c.loop-c.rest.now c.chars.ensures.rest c.in_default.ensures.steps.0.0 ∙ c.loop-c.invariant.value
