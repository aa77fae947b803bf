-- What follows a label, a destination, a title or a definition is the end of the text.
use Rattle.std.proofs.Common.{◌≡◌, ◌⊎◌, ℕ, suc, ◌+◌, ◌-◌, ◌<◌, ◌≤◌, Bool, true, false, ◌&&◌, ◌||◌, List, []}
use Rattle.std.proofs.Common.{◌∷◌, length, drop, refl, ap, sym, ◌∙◌, arith, Option, Some, None, inl, inr}
use Rattle.std.proofs.lemmas.List.{drop-drop, length-drop, drop_all}
use Rattle.std.proofs.lemmas.Bool.{cases_lt}
use Rattle.std.specs.Option.{option_or}
use Rattle.std.specs.Prelude.{◌==◌}
use Rattle.htmd_lexical.proofs.Cases.{test}
use Rattle.htmd_lexical.proofs.RunsLemmas.{drop_run}
use Rattle.htmd_lexical.specs.CharacterClasses.{is_empty, leading_run, behind_run, lacks}
use Rattle.htmd_commonmark_reading.specs.Characters.{Front, is_white, is_space_or_tab, before_in_front, past_blanks}
use Rattle.htmd_commonmark_reading.specs.Characters.{begins_with_punctuation}
use Rattle.htmd_commonmark_reading.specs.LinkDefinitions.{Defined, past_white, until_sign, label}
use Rattle.htmd_commonmark_reading.specs.LinkDefinitions.{destination, on_one_line, bare, closed_bare}
use Rattle.htmd_commonmark_reading.specs.LinkDefinitions.{ends_bare, open_after, unless_front_is_empty, raw_title}
use Rattle.htmd_commonmark_reading.specs.LinkDefinitions.{title_after, past_line, defined_with, with_title}
use Rattle.htmd_commonmark_reading.specs.LinkDefinitions.{after_destination}

-- the end of a text
abbrev pub IsRest : List ℕ → List ℕ → Type 0
IsRest s r = (n : ℕ) × (r ≡ drop n s)

pub same : (s : List ℕ) → IsRest s s
same s = (0, refl)

further : (c : ℕ) (s r : List ℕ) → IsRest s r → IsRest (c ∷ s) r
further c s r h = (suc h.0, h.1)

pub then : (s r q : List ℕ) → IsRest s r → IsRest r q → IsRest s q
then s r q h k = (h.0 + k.0, k.1 ∙ ap (drop k.0) h.1 ∙ drop-drop k.0 h.0 s)

pub behind : (p : ℕ → Bool) (s : List ℕ) → IsRest s (behind_run p s)
behind p s = (length (leading_run p s), sym (drop_run p s))

-- fronts
abbrev rest_of : Option Front → Option (List ℕ)
rest_of None = None
rest_of (Some f) = Some f.rest

abbrev pub IsAtEnd : List ℕ → Option Front → Type 0
IsAtEnd s o = (f : Front) → o ≡ Some f → IsRest s f.rest

pub found : (s : List ℕ) (g : Front) → IsRest s g.rest → IsAtEnd s (Some g)
found s g h f e = let k : g.rest ≡ f.rest = some (ap rest_of e) in (h.0, sym k ∙ h.1)
  where
    some : ◌≡◌ {A = Option (List ℕ)} (Some g.rest) (Some f.rest) → g.rest ≡ f.rest
    some q = cc

pub missing : (s : List ℕ) → IsAtEnd s None
missing s f e = absurd (cc)

one_before : (c : ℕ) (s : List ℕ) (o : Option Front) → IsAtEnd s o → IsAtEnd (c ∷ s) (before_in_front c o)
one_before c s None h = missing (c ∷ s)
one_before c s (Some g) h = found (c ∷ s) _ (further c s g.rest (h g refl))

pub until_end : (stop refused : ℕ) (e : Bool) (s : List ℕ) → IsAtEnd s (until_sign stop refused e s)
until_end stop refused e [] = missing []
until_end stop refused true (c ∷ s) = one_before c s _ (until_end stop refused false s)
until_end stop refused false (c ∷ s) =
    test (c == stop)
    (λ q. rw q (found (c ∷ s) _ (further c s s (same s))))
    (λ q. test (c == refused) (λ r. rw (q, r) (missing (c ∷ s)))
    (λ r. rw (q, r) (one_before c s _ (until_end stop refused (c == 92) s))))

closed_end : (depth : ℕ) (s : List ℕ) → IsAtEnd s (closed_bare depth s)
closed_end depth s = test (depth == 0) (λ q. rw q (found s _ (same s))) (λ q. rw q (missing s))

pub bare_end : (depth : ℕ) (e : Bool) (s : List ℕ) → IsAtEnd s (bare depth e s)
bare_end depth e [] = closed_end depth []
bare_end depth true (c ∷ s) = one_before c s _ (bare_end depth false s)
bare_end depth false (c ∷ s) =
    test (ends_bare depth c) (λ q. rw q (closed_end depth (c ∷ s)))
    (λ q. rw q
    (one_before c s _ (bare_end (open_after depth c) ((c == 92) && begins_with_punctuation s) s)))

line_end : (s : List ℕ) (o : Option Front) → IsAtEnd s o → IsAtEnd s (on_one_line o)
line_end s None h = missing s
line_end s (Some g) h = test (lacks 10 g.front) (λ q. rw q h) (λ q. rw q (missing s))

filled_end : (s : List ℕ) (o : Option Front) → IsAtEnd s o → IsAtEnd s (unless_front_is_empty o)
filled_end s None h = missing s
filled_end s (Some g) h = test (is_empty g.front) (λ q. rw q (missing s)) (λ q. rw q h)

inside : (c : ℕ) (s : List ℕ) (o : Option Front) → IsAtEnd s o → IsAtEnd (c ∷ s) o
inside c s o h f e = further c s f.rest (h f e)

pub label_end : (s : List ℕ) → IsAtEnd s (label s)
label_end [] = missing []
label_end (c ∷ s) =
    test (c == 91) (λ q. rw q (inside c s _ (until_end 93 91 false s))) (λ q. rw q (missing (c ∷ s)))

pub destination_end : (s : List ℕ) → IsAtEnd s (destination s)
destination_end [] = missing []
destination_end (c ∷ s) =
    test (c == 60)
    (λ q. rw q (inside c s _ (line_end s _ (until_end 62 60 false s))))
    (λ q. rw q (filled_end (c ∷ s) _ (bare_end 0 false (c ∷ s))))

title_end : (s : List ℕ) → IsAtEnd s (raw_title s)
title_end [] = missing []
title_end (c ∷ s) =
    test ((c == 34) || (c == 39)) (λ q. rw q (inside c s _ (until_end c c false s)))
    (λ q. test (c == 40) (λ r. rw (q, r) (inside c s _ (until_end 41 40 false s)))
    (λ r. rw (q, r) (missing (c ∷ s))))

pub after_end : (s : List ℕ) → IsAtEnd s (title_after s)
after_end [] = missing []
after_end (c ∷ s) =
    test (is_white c)
    (λ q. rw q (λ f e. then (c ∷ s) (past_white s) f.rest (further c s (past_white s) (behind is_white s))
    (title_end (past_white s) f e)))
    (λ q. rw q (missing (c ∷ s)))

abbrev IsRestIn : List ℕ → Option (List ℕ) → Type 0
IsRestIn s o = (r : List ℕ) → o ≡ Some r → IsRest s r

some_rest : (s t : List ℕ) → IsRest s t → IsRestIn s (Some t)
some_rest s t h r e = let k : t ≡ r = cc in (h.0, sym k ∙ h.1)

past_end : (s : List ℕ) → IsRestIn s (past_line s)
past_end s = go (past_blanks s) refl
  where
    go : (t : List ℕ) → past_blanks s ≡ t → IsRestIn s (past_line s)
    go [] q =
        let h : IsRest s [] = (length (leading_run is_space_or_tab s), sym q ∙ sym (drop_run is_space_or_tab s)) in
        rw q (some_rest s [] h)
    go (c ∷ t) q =
        let h : IsRest s (c ∷ t) = (
          length (leading_run is_space_or_tab s),
          sym q
              ∙ sym (drop_run is_space_or_tab s),
        ) in
        rw q (test (c == 10)
        (λ e. rw e (some_rest s t (then s (c ∷ t) t h (further c t t (same t)))))
        (λ e. rw e (λ r f. absurd (cc))))

-- ---- definitions

abbrev IsDefinedIn : List ℕ → Option Defined → Type 0
IsDefinedIn s o = (d : Defined) → o ≡ Some d → IsRest s d.rest

abbrev tail_of : Option Defined → Option (List ℕ)
tail_of None = None
tail_of (Some x) = Some x.rest

defined_end : (s key address : List ℕ) (title r : Option (List ℕ)) → IsRestIn s r
    → IsDefinedIn s (defined_with key address title r)
defined_end s key address title None h d e = absurd (cc)
defined_end s key address title (Some r) h d e =
    let k : r ≡ d.rest = some (ap tail_of e) in let m = h r refl in (m.0, sym k ∙ m.1)
  where
    tail : Option Defined → Option (List ℕ)
    tail None = None
    tail (Some x) = Some x.rest

    some : ◌≡◌ {A = Option (List ℕ)} (Some r) (Some d.rest) → r ≡ d.rest
    some q = cc

past_in : (s t : List ℕ) → IsRest s t → IsRestIn s (past_line t)
past_in s t h r e = then s t r h (past_end t r e)

titled_end : (s key address : List ℕ) (t : Option Front) → IsAtEnd s t → IsDefinedIn s (with_title key address t)
titled_end s key address None h d e = absurd (cc)
titled_end s key address (Some t) h d e =
    defined_end s key address _ (past_line t.rest) (past_in s t.rest (h t refl)) d e

either_end : (s : List ℕ) (x y : Option Defined) → IsDefinedIn s x → IsDefinedIn s y
    → IsDefinedIn s (option_or x y)
either_end s None y h k = k
either_end s (Some d) y h k = h

destined_end : (s key : List ℕ) (a : Option Front) → IsAtEnd s a → IsDefinedIn s (after_destination key a)
destined_end s key None h d e = absurd (cc)
destined_end s key (Some a) h d e =
    let end = h a refl in
    either_end s _ _
    (titled_end s key a.front (title_after a.rest) (λ f q. then s a.rest f.rest end (after_end a.rest f q)))
    (defined_end s key a.front None (past_line a.rest) (past_in s a.rest end)) d e

pub after_white : (s key : List ℕ) → IsDefinedIn s (after_destination key (destination (past_white s)))
after_white s key d e =
    then s (past_white s) d.rest (behind is_white s)
    (destined_end (past_white s) key (destination (past_white s)) (destination_end (past_white s)) d e)

-- the end of a text, by its length
pub rest_by_length : (s r : List ℕ) → IsRest s r → (length r ≤ length s) × (r ≡ drop (length s - length r) s)
rest_by_length s r h =
    go (cases_lt h.0 (length s))
  where
    size_of : length r ≡ length s - h.0
    size_of = ap length h.1 ∙ length-drop h.0 s

    go : (h.0 < length s) ⊎ (length s ≤ h.0) → (length r ≤ length s) × (r ≡ drop (length s - length r) s)
    go (inl l) =
        let k : h.0 ≡ length s - length r = omega (arith, size_of) in
        (omega (arith, size_of), h.1 ∙ ap (λ n. drop n s) k)
    go (inr l) =
        let none : length r ≡ 0 = omega (arith, size_of) in
        let all : length s ≤ length s - length r = omega (arith, none) in
        (omega (arith, size_of), h.1 ∙ drop_all h.0 s l ∙ sym (drop_all (length s - length r) s all))
