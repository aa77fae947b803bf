-- What the loop of `run` keeps.
use Rattle.std.proofs.Common.{◌≡◌, length, map, fold}
use Rattle.std.specs.Str.{chars, IsUtf8}
use Rattle.htmd_flow.specs.Paragraphs.{after_character}
use Rattle.htmd_flow.specs.ParagraphViews.{writing_in}
use Rattle.htmd_flow.specs.PartViews.{around_of}
use Rattle.htmd_flow.proofs.paragraphs.Paragraphs.run.Given as goal

abbrev pub invariant-loop-c : goal.invariant-loop-c
invariant-loop-c l = record {
  utf8 : IsUtf8 l.rest;
  value : fold (λ w c. after_character w (map around_of l.around) l.is_code c) (writing_in l.self) (chars l.rest)
      ≡ fold (λ w c. after_character w (map around_of l.around) l.is_code c) (writing_in l.initial.self)
      (chars l.text);
}

abbrev pub decreases-loop-c : goal.decreases-loop-c
decreases-loop-c l = length l.rest
