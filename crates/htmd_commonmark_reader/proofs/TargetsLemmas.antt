-- What follows a link is the end of the text.
use Rattle.std.proofs.Common.{◌≡◌, ℕ, Bool, true, false, List, [], ◌∷◌, drop, refl, ap, sym, ◌∙◌, Option}
use Rattle.std.proofs.Common.{Some, None, cond}
use Rattle.std.specs.Option.{option_or}
use Rattle.std.specs.Prelude.{not}
use Rattle.std.specs.Str.{bytes_eq}
use Rattle.htmd_lexical.proofs.Cases.{test}
use Rattle.htmd_lexical.specs.CharacterClasses.{is_empty, first_is}
use Rattle.htmd_commonmark_reading.specs.Brackets.{References, Target, closed_target, target_title, target_at, resource}
use Rattle.htmd_commonmark_reading.specs.Brackets.{inline_target, target_of, reference_target, target}
use Rattle.htmd_commonmark_reading.specs.Characters.{Front, is_white}
use Rattle.htmd_commonmark_reading.specs.LinkDefinitions.{destination, label, label_key, past_white, title_after}
use Rattle.htmd_commonmark_reader.specs.Steps.{IsEnd}
use Rattle.htmd_commonmark_reader.proofs.RestsLemmas.{IsAtEnd, same, then, behind, label_end}
use Rattle.htmd_commonmark_reader.proofs.RestsLemmas.{destination_end, after_end}

abbrev IsTargetEnd : List ℕ → Option Target → Type 0
IsTargetEnd s o = (t : Target) → o ≡ Some t → IsEnd s t.rest

here : (s : List ℕ) (u : Target) → IsEnd s u.rest → IsTargetEnd s (Some u)
here s u h t e = let k : u.rest ≡ t.rest = some (ap rest_of e) in (h.0, sym k ∙ h.1)
  where
    rest_of : Option Target → Option (List ℕ)
    rest_of None = None
    rest_of (Some v) = Some v.rest

    some : ◌≡◌ {A = Option (List ℕ)} (Some u.rest) (Some t.rest) → u.rest ≡ t.rest
    some q = cc

nowhere : (s : List ℕ) → IsTargetEnd s None
nowhere s t e = absurd (cc)

closed_end : (s r address : List ℕ) (title : Option (List ℕ)) → IsEnd s r
    → IsTargetEnd s (closed_target address title r)
closed_end s r address title h =
    test (first_is 41 r) (λ q. rw q (here s _ (then s r (drop 1 r) h (1, refl)))) (λ q. rw q (nowhere s))

white_end : (s r : List ℕ) → IsEnd s r → IsEnd s (past_white r)
white_end s r h = then s r (past_white r) h (behind is_white r)

title_end : (s r address : List ℕ) (t : Option Front) → IsEnd s r → IsAtEnd r t
    → IsTargetEnd s (target_title address r t)
title_end s r address None h k = closed_end s (past_white r) address None (white_end s r h)
title_end s r address (Some t) h k =
    closed_end s (past_white t.rest) address _ (white_end s t.rest (then s r t.rest h (k t refl)))

at_end : (s r : List ℕ) (a : Option Front) → IsEnd s r → IsAtEnd r a → IsTargetEnd s (target_at a)
at_end s r None h k = nowhere s
at_end s r (Some a) h k =
    title_end s a.rest a.front (title_after a.rest) (then s r a.rest h (k a refl)) (after_end a.rest)

resource_end : (s r : List ℕ) → IsEnd s r → IsTargetEnd s (resource r)
resource_end s r h =
    let white = white_end s r h in
    test (first_is 41 (past_white r))
    (λ q. rw q (here s _ (then s (past_white r) (drop 1 (past_white r)) white (1, refl))))
    (λ q. rw q (at_end s (past_white r) (destination (past_white r)) white (destination_end (past_white r))))

inline_end : (s : List ℕ) → IsTargetEnd s (inline_target s)
inline_end s =
    test (first_is 40 s) (λ q. rw q (resource_end s (drop 1 s) (1, refl))) (λ q. rw q (nowhere s))

defined_end : (refs : References) (key s r : List ℕ) → IsEnd s r → IsTargetEnd s (target_of refs key r)
defined_end [] key s r h = nowhere s
defined_end (d ∷ ds) key s r h =
    test (bytes_eq d.key key) (λ q. rw q (here s _ h)) (λ q. rw q (defined_end ds key s r h))

reference_end : (refs : References) (content s : List ℕ) (l : Option Front) → IsAtEnd s l
    → IsTargetEnd s (reference_target refs content s l)
reference_end refs content s None k = defined_end refs (label_key content) s s (same s)
reference_end refs content s (Some l) k =
    test (not (is_empty (label_key l.front)))
    (λ q. rw q (defined_end refs (label_key l.front) s l.rest (k l refl)))
    (λ q. rw q (defined_end refs (label_key content) s (cond (is_empty l.front) l.rest s) (either (is_empty l.front))))
  where
    either : (b : Bool) → IsEnd s (cond b l.rest s)
    either true = k l refl
    either false = same s

or_end : (s : List ℕ) (x y : Option Target) → IsTargetEnd s x → IsTargetEnd s y → IsTargetEnd s (option_or x y)
or_end s None y h k = k
or_end s (Some u) y h k = h

pub target_end : (refs : References) (content s : List ℕ) → IsTargetEnd s (target refs content s)
target_end refs content s =
    or_end s (inline_target s) (reference_target refs content s (label s)) (inline_end s)
    (reference_end refs content s (label s) (label_end s))
