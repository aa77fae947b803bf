use Rattle.std.proofs.Common.{◌≡◌, length, map}
use Rattle.std.specs.List.{list_any}
use Rattle.htmd_lexical.specs.Attributes.{pairs_of}
use Rattle.htmd_shown.specs.Attributes.{words}
use Rattle.htmd_shown.specs.ClassWords as spec
use Rattle.htmd_shown.specs.Roles.{is_among}
use Rattle.htmd_shown.proofs.classes.has_class.Given as goal
use denote.Shadow.{shadow}
use denote.Text.{Utf8}

abbrev pub decreases-loop-found : goal.decreases-loop-found
decreases-loop-found l = length l.rest

-- the words to come decide
abbrev pub invariant-loop-found : goal.invariant-loop-found
invariant-loop-found l = record {
  is_text : shadow (Utf8 l.rest);
  words_left : list_any (is_among (map (λ n. n.now) l.names)) (words l.rest)
      ≡ spec.has_class (map (λ n. n.now) l.names) (pairs_of l.attrs);
}
