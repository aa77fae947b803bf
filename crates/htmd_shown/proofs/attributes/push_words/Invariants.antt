use Rattle.std.proofs.Common.{◌≡◌, ◌++◌, ◌∷◌, length, string_bytes}
use Rattle.std.specs.List.{flat_map}
use Rattle.htmd_lexical.specs.Characters.{space}
use Rattle.htmd_shown.specs.Attributes.{words}
use Rattle.htmd_shown.proofs.attributes.push_words.Given as goal
use denote.Shadow.{shadow}
use denote.Text.{Utf8}

abbrev pub decreases-loop-found : goal.decreases-loop-found
decreases-loop-found l = length l.rest

abbrev pub invariant-loop-found : goal.invariant-loop-found
invariant-loop-found l = record {
  is_text : shadow (Utf8 l.rest);
  words_left : string_bytes l.line ++ flat_map (λ word. space ∷ word) (words l.rest)
      ≡ string_bytes l.fn.line ++ flat_map (λ word. space ∷ word) (words l.text);
}
