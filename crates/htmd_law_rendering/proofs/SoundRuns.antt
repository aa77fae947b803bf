-- Raw tags without carriage returns and U+0000 stay so where runs of signs become formats.
use Rattle.std.proofs.Common.{◌≡◌, ℕ, zero, suc, Bool, true, false, List, [], ◌∷◌, refl, Option, Some, None}
use Rattle.std.specs.Prelude.{⊤, ◌&&◌, ◌==◌, not, nat_lt, if◌then◌else◌}
use Rattle.std.proofs.lemmas.Bool.{and_parts, and_from}
use Rattle.htmd_lexical.proofs.Cases.{test}
use Rattle.htmd_document.specs.Formats.{Emphasis, Strong, Deleted}
use Rattle.htmd_document.specs.Tags.{format_tag}
use Rattle.htmd_lexical.specs.Characters.{tilde}
use Rattle.htmd_commonmark_reading.specs.DelimiterRuns.{Run, Token, finished, run, Stack, base, opener, with_items}
use Rattle.htmd_commonmark_reading.specs.DelimiterRuns.{unused_signs, is_closed_by, Match, nearest, if_as_many, partner}
use Rattle.htmd_commonmark_reading.specs.DelimiterRuns.{less, format_of, matched, left_open, used}
use Rattle.htmd_commonmark_reading.specs.DelimiterRuns.{after_search, one_or_two, with_run, with_tokens}
use Rattle.htmd_commonmark_reading.specs.DelimiterRuns.{unstacked, processed}
use Rattle.htmd_commonmark_reading.specs.Markup.{Inlines, no_inlines, letter, code, formatted, link, image, line_break}
use Rattle.htmd_commonmark_reading.specs.Markup.{task, raw, joined, letters, signs}
use Rattle.htmd_law_rendering.proofs.SoundTags.{is_sound}

-- the tags of all raw inlines and formats
abbrev pub has_sound_tags : Inlines → Bool
has_sound_tags no_inlines = true
has_sound_tags (letter c xs) = has_sound_tags xs
has_sound_tags (code s xs) = has_sound_tags xs
has_sound_tags (formatted f content xs) =
    (is_sound (format_tag f) && has_sound_tags content) && has_sound_tags xs
has_sound_tags (link a t content xs) = has_sound_tags content && has_sound_tags xs
has_sound_tags (image a t content xs) = has_sound_tags content && has_sound_tags xs
has_sound_tags (line_break xs) = has_sound_tags xs
has_sound_tags (task d xs) = has_sound_tags xs
has_sound_tags (raw s xs) = is_sound s && has_sound_tags xs

pub joined-sound : (xs ys : Inlines) → has_sound_tags xs ≡ true → has_sound_tags ys ≡ true
    → has_sound_tags (joined xs ys) ≡ true
joined-sound no_inlines ys h k = k
joined-sound (letter c xs) ys h k = joined-sound xs ys h k
joined-sound (code s xs) ys h k = joined-sound xs ys h k
joined-sound (formatted f content xs) ys h k =
    let p = and_parts (is_sound (format_tag f) && has_sound_tags content) (has_sound_tags xs) h in
    and_from (is_sound (format_tag f) && has_sound_tags content) (has_sound_tags (joined xs ys)) p.0
    (joined-sound xs ys p.1 k)
joined-sound (link a t content xs) ys h k =
    let p = and_parts (has_sound_tags content) (has_sound_tags xs) h in
    and_from (has_sound_tags content) (has_sound_tags (joined xs ys)) p.0 (joined-sound xs ys p.1 k)
joined-sound (image a t content xs) ys h k =
    let p = and_parts (has_sound_tags content) (has_sound_tags xs) h in
    and_from (has_sound_tags content) (has_sound_tags (joined xs ys)) p.0 (joined-sound xs ys p.1 k)
joined-sound (line_break xs) ys h k = joined-sound xs ys h k
joined-sound (task d xs) ys h k = joined-sound xs ys h k
joined-sound (raw s xs) ys h k =
    let p = and_parts (is_sound s) (has_sound_tags xs) h in
    and_from (is_sound s) (has_sound_tags (joined xs ys)) p.0 (joined-sound xs ys p.1 k)

pub signs-sound : (c n : ℕ) (xs : Inlines) → has_sound_tags xs ≡ true → has_sound_tags (signs c n xs) ≡ true
signs-sound c zero xs h = h
signs-sound c (suc n) xs h = signs-sound c n xs h

pub letters-sound : (s : List ℕ) (xs : Inlines) → has_sound_tags xs ≡ true
    → has_sound_tags (letters s xs) ≡ true
letters-sound [] xs h = h
letters-sound (c ∷ s) xs h = letters-sound s xs h

-- ---- the stack of openers

abbrev SoundStack : Stack → Type 0
SoundStack (base items) = has_sound_tags items ≡ true
SoundStack (opener by items below) = (has_sound_tags items ≡ true) × SoundStack below

abbrev SoundMatch : Option Match → Type 0
SoundMatch None = ⊤
SoundMatch (Some m) = (has_sound_tags m.inside ≡ true) × SoundStack m.below

items-sound : (s : Stack) (xs : Inlines) → SoundStack s → has_sound_tags xs ≡ true
    → SoundStack (with_items s xs)
items-sound (base items) xs h k = joined-sound items xs h k
items-sound (opener by items below) xs h k = (joined-sound items xs h.0 k, h.1)

nearest-sound : (r : Run) (inside : Inlines) (s : Stack) → has_sound_tags inside ≡ true → SoundStack s
    → SoundMatch (nearest r inside s)
nearest-sound r inside (base items) k h = tt
nearest-sound r inside (opener by items below) k h =
    let all = joined-sound items inside h.0 k in
    test (is_closed_by by r) (λ t. rw t (all, h.1))
    (λ t. rw t (nearest-sound r (unused_signs by (joined items inside)) below
    (signs-sound by.sign by.unused (joined items inside) all) h.1))

many-sound : (r : Run) (m : Option Match) → SoundMatch m → SoundMatch (if_as_many r m)
many-sound r None h = tt
many-sound r (Some m) h = by_test ((r.sign == tilde) && not (m.opened.unused == r.unused))
  where
    by_test : (t : Bool) → SoundMatch (if t then None else Some m)
    by_test true = tt
    by_test false = h

partner-sound : (r : Run) (s : Stack) → SoundStack s → SoundMatch (partner r s)
partner-sound r s h = by_test r.closes
  where
    by_test : (t : Bool) → SoundMatch (if t then if_as_many r (nearest r no_inlines s) else None)
    by_test true = many-sound r (nearest r no_inlines s) (nearest-sound r no_inlines s refl h)
    by_test false = tt

format-sound : (c n : ℕ) → is_sound (format_tag (format_of c n)) ≡ true
format-sound c n = by_test (c == tilde) (n == 1)
  where
    by_test : (t u : Bool) → is_sound (format_tag (if t then Deleted else if u then Emphasis else Strong)) ≡ true
    by_test true u = refl
    by_test false true = refl
    by_test false false = refl

matched-sound : (m : Match) (n : ℕ) → has_sound_tags m.inside ≡ true → SoundStack m.below
    → SoundStack (matched m n)
matched-sound m n k h =
    let f = format_of m.opened.sign n in
    items-sound (if nat_lt n m.opened.unused then opener (less m.opened n) no_inlines m.below else m.below)
    (formatted f m.inside no_inlines) (by_test (nat_lt n m.opened.unused))
    (and_from (is_sound (format_tag f) && has_sound_tags m.inside) true
    (and_from (is_sound (format_tag f)) (has_sound_tags m.inside) (format-sound m.opened.sign n) k) refl)
  where
    by_test : (t : Bool) → SoundStack (if t then opener (less m.opened n) no_inlines m.below else m.below)
    by_test true = (refl, h)
    by_test false = h

open-sound : (r : Run) (s : Stack) → SoundStack s → SoundStack (left_open r s)
open-sound r s h = by_test r.opens
  where
    by_test : (t : Bool) → SoundStack (if t then opener r no_inlines s else with_items s (unused_signs r no_inlines))
    by_test true = (refl, h)
    by_test false = items-sound s (unused_signs r no_inlines) h (signs-sound r.sign r.unused no_inlines refl)

search-sound : (again : ℕ → Run → Stack → Stack)
    → ((n : ℕ) (r : Run) (s : Stack) → SoundStack s → SoundStack (again n r s)) → (r : Run) (s : Stack)
    → SoundStack s → (m : Option Match) → SoundMatch m → SoundStack (after_search again r s m)
search-sound again a r s h None k = open-sound r s h
search-sound again a r s h (Some m) k = by_test (nat_lt n r.unused)
  where
    n : ℕ
    n = used r m

    there : SoundStack (matched m n)
    there = matched-sound m n k.0 k.1

    by_test : (t : Bool) → SoundStack (if t then again n (less r n) (matched m n) else matched m n)
    by_test true = a n (less r n) (matched m n) there
    by_test false = there

again-sound : (one two : Run → Stack → Stack)
    → ((r : Run) (s : Stack) → SoundStack s → SoundStack (one r s))
    → ((r : Run) (s : Stack) → SoundStack s → SoundStack (two r s)) → (n : ℕ) (r : Run) (s : Stack)
    → SoundStack s → SoundStack (one_or_two one two n r s)
again-sound one two f g n r s h = by_test (n == 1)
  where
    by_test : (b : Bool) → SoundStack (elim b [ true ↦ one r s | false ↦ two r s ])
    by_test true = f r s h
    by_test false = g r s h

run-sound : (n : ℕ) (r : Run) (s : Stack) → SoundStack s → SoundStack (with_run n r s)
run-sound zero r s h = h
run-sound (suc zero) r s h =
    search-sound (λ n q t. t) (λ n q t k. k) r s h (partner r s) (partner-sound r s h)
run-sound (suc (suc n)) r s h =
    search-sound (one_or_two (with_run (suc n)) (with_run n))
    (again-sound (with_run (suc n)) (with_run n) (λ q t k. run-sound (suc n) q t k) (λ q t k. run-sound n q t k)) r s
    h (partner r s) (partner-sound r s h)

-- ---- tokens

abbrev pub AreSound : List Token → Type 0
AreSound [] = ⊤
AreSound (finished x ∷ ts) = (has_sound_tags x ≡ true) × AreSound ts
AreSound (run r ∷ ts) = AreSound ts

tokens-sound : (s : Stack) (ts : List Token) → SoundStack s → AreSound ts → SoundStack (with_tokens s ts)
tokens-sound s [] h k = h
tokens-sound s (finished x ∷ ts) h k = tokens-sound (with_items s x) ts (items-sound s x h k.0) k.1
tokens-sound s (run r ∷ ts) h k = tokens-sound (with_run r.unused r s) ts (run-sound r.unused r s h) k

unstacked-sound : (s : Stack) (xs : Inlines) → SoundStack s → has_sound_tags xs ≡ true
    → has_sound_tags (unstacked s xs) ≡ true
unstacked-sound (base items) xs h k = joined-sound items xs h k
unstacked-sound (opener by items below) xs h k =
    unstacked-sound below (unused_signs by (joined items xs)) h.1
    (signs-sound by.sign by.unused (joined items xs) (joined-sound items xs h.0 k))

pub processed-sound : (ts : List Token) → AreSound ts → has_sound_tags (processed ts) ≡ true
processed-sound ts h =
    unstacked-sound (with_tokens (base no_inlines) ts) no_inlines (tokens-sound (base no_inlines) ts refl h) refl
