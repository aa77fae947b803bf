-- Delimiter runs and emphasis (CommonMark 0.31.2, 6.2 and appendix, "process emphasis"), and strikethrough (GFM 0.29,
-- 6.5), whose runs are one or two tildes.
use Rattle.std.specs.Prelude.{ℕ, zero, suc, ◌+◌, ◌-◌, ◌%◌, Bool, true, false, not, ◌&&◌, ◌||◌, ◌==◌, nat_lt}
use Rattle.std.specs.Prelude.{min, if◌then◌else◌, List, [], ◌∷◌, Option, Some, None}
use Rattle.htmd_document.specs.Formats.{Format}
use Rattle.htmd_document.specs.Formats.{Emphasis, Strong, Deleted}
use Rattle.htmd_lexical.specs.Characters.{underscore, tilde}
use Rattle.htmd_lexical.specs.CharacterClasses.{behind_run}
use Rattle.htmd_commonmark_reading.specs.Characters.{is_unicode_white, is_unicode_punctuation, first_character}
use Rattle.htmd_commonmark_reading.specs.Characters.{last_character}
use Rattle.htmd_commonmark_reading.specs.Markup.{Inlines, no_inlines, formatted, joined, signs}

-- ---- what a run may do

-- the ends of a text count as white space
abbrev pub is_white_beside : Option ℕ → Bool
is_white_beside None = true
is_white_beside (Some c) = is_unicode_white c

abbrev pub is_punctuation_beside : Option ℕ → Bool
is_punctuation_beside None = false
is_punctuation_beside (Some c) = is_unicode_punctuation c

-- a left-flanking run, by the characters before and after it
abbrev pub is_left_flanking : Option ℕ → Option ℕ → Bool
is_left_flanking before after =
    not (is_white_beside after)
    && (not (is_punctuation_beside after) || is_white_beside before || is_punctuation_beside before)

-- a right-flanking run is one that flanks so from the other side
abbrev pub is_right_flanking : Option ℕ → Option ℕ → Bool
is_right_flanking before after = is_left_flanking after before

-- may a run of this sign open emphasis (rules 1, 2, 5 and 6)?
abbrev pub may_open : ℕ → Option ℕ → Option ℕ → Bool
may_open c before after =
    is_left_flanking before after
    && (not (c == underscore) || not (is_right_flanking before after) || is_punctuation_beside before)

-- may it close emphasis (rules 3, 4, 7 and 8)? It may if it may open from the other side.
abbrev pub may_close : ℕ → Option ℕ → Option ℕ → Bool
may_close c before after = may_open c after before

abbrev pub is_tilde : ℕ → Bool
is_tilde c = c == tilde

-- what stands beside asterisks and underscores: they look past tildes
abbrev pub past_tildes : ℕ → List ℕ → List ℕ
past_tildes c s = if c == tilde then s else behind_run is_tilde s

-- a run, of which some signs are used
pub record Run : Type 0 where
  pub sign : ℕ
  pub unused : ℕ
  pub count : ℕ
  pub opens : Bool
  pub closes : Bool

abbrev pub run_between : ℕ → ℕ → Option ℕ → Option ℕ → Run
run_between c n before after =
    record {
      sign = c;
      unused = n;
      count = n;
      opens = may_open c before after;
      closes = may_close c before after;
    }

-- a run of so many of a sign; the text before it is given from its end
abbrev pub run_of : ℕ → ℕ → List ℕ → List ℕ → Run
run_of c n before after =
    run_between c n (last_character (past_tildes c before)) (first_character (past_tildes c after))

-- what a text consists of, brackets aside: inlines that were read, and runs
pub data Token : Type 0 where
  finished : (x : Inlines) → Token
  run : (r : Run) → Token

-- ---- the stack of openers

-- What was read: the inlines before the first opener; or the last opener, the inlines behind it, and the stack before
-- it.
pub data Stack : Type 0 where
  base : (items : Inlines) → Stack
  opener : (by : Run) (items : Inlines) (below : Stack) → Stack

abbrev pub with_items : Stack → Inlines → Stack
with_items (base items) xs = base (joined items xs)
with_items (opener by items below) xs = opener by (joined items xs) below

-- the unused signs of a run are text
abbrev pub unused_signs : Run → Inlines → Inlines
unused_signs r xs = signs r.sign r.unused xs

-- If one of the two can both open and close, their lengths must not sum up to a multiple of 3, unless both are one
-- (rules 9 and 10).
abbrev pub fits_by_three : Run → Run → Bool
fits_by_three opened closing =
    not (opened.closes || closing.opens) || (closing.count % 3 == 0)
    || not ((opened.count + closing.count) % 3 == 0)

abbrev pub is_closed_by : Run → Run → Bool
is_closed_by opened closing = (opened.sign == closing.sign) && fits_by_three opened closing

-- an opener, the inlines between it and what closes it, and the stack below it
pub record Match : Type 0 where
  pub opened : Run
  pub inside : Inlines
  pub below : Stack

-- the nearest opener that a run may close; openers above it are text
abbrev pub nearest : Run → Inlines → Stack → Option Match
nearest r inside (base items) = None
nearest r inside (opener by items below) =
    if is_closed_by by r
    then Some (record { opened = by; inside = joined items inside; below = below })
    else nearest r (unused_signs by (joined items inside)) below

-- tildes close as many
abbrev pub if_as_many : Run → Option Match → Option Match
if_as_many r None = None
if_as_many r (Some m) = if (r.sign == tilde) && not (m.opened.unused == r.unused) then None else Some m

abbrev pub partner : Run → Stack → Option Match
partner r s = if r.closes then if_as_many r (nearest r no_inlines s) else None

abbrev pub less : Run → ℕ → Run
less r n = record r { unused = r.unused - n }

-- what a match makes of its inside, by the sign and the number of signs that it uses (rules 13 and 14)
abbrev pub format_of : ℕ → ℕ → Format
format_of c n = if c == tilde then Deleted else if n == 1 then Emphasis else Strong

-- the stack after a match that uses so many signs of both
abbrev pub matched : Match → ℕ → Stack
matched m n =
    with_items (if nat_lt n m.opened.unused then opener (less m.opened n) no_inlines m.below else m.below)
    (formatted (format_of m.opened.sign n) m.inside no_inlines)

-- a run that closes nothing opens, or is text
abbrev pub left_open : Run → Stack → Stack
left_open r s = if r.opens then opener r no_inlines s else with_items s (unused_signs r no_inlines)

-- tildes use all signs, others one or two
abbrev pub used : Run → Match → ℕ
used r m = if r.sign == tilde then r.unused else min (min m.opened.unused r.unused) 2

-- the first function is what a run does whose signs are so many fewer
abbrev pub after_match : (ℕ → Run → Stack → Stack) → Run → Match → ℕ → Stack
after_match again r m n =
    if nat_lt n r.unused then again n (less r n) (matched m n) else matched m n

abbrev pub after_search : (ℕ → Run → Stack → Stack) → Run → Stack → Option Match → Stack
after_search again r s None = left_open r s
after_search again r s (Some m) = after_match again r m (used r m)

abbrev pub one_or_two : (Run → Stack → Stack) → (Run → Stack → Stack) → ℕ → Run → Stack → Stack
one_or_two one two n r s = elim (n == 1) [ true ↦ one r s | false ↦ two r s ]

-- What a run with so many unused signs does to the stack: it closes what it can, then it opens, or else it is text.
abbrev pub with_run : ℕ → Run → Stack → Stack
with_run zero r s = s
with_run (suc zero) r s = after_search (λ n q t. t) r s (partner r s)
with_run (suc (suc n)) r s = after_search (one_or_two (with_run (suc n)) (with_run n)) r s (partner r s)

abbrev pub with_token : Stack → Token → Stack
with_token s (finished x) = with_items s x
with_token s (run r) = with_run r.unused r s

abbrev pub with_tokens : Stack → List Token → Stack
with_tokens s [] = s
with_tokens s (t ∷ ts) = with_tokens (with_token s t) ts

-- openers that nothing closed are text
abbrev pub unstacked : Stack → Inlines → Inlines
unstacked (base items) xs = joined items xs
unstacked (opener by items below) xs = unstacked below (unused_signs by (joined items xs))

abbrev pub processed : List Token → Inlines
processed ts = unstacked (with_tokens (base no_inlines) ts) no_inlines
