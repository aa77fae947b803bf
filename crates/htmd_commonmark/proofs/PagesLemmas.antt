-- What is written in a quote or an item is the quote or the item of what is written.
use Rattle.std.proofs.Common.{◌≡◌, ℕ, zero, suc, ◌+◌, ◌-◌, ◌<◌, ◌≤◌, Bool, true, false, cond, List, [], ◌∷◌, ◌++◌}
use Rattle.std.proofs.Common.{length, get_or, take, drop, min, refl, sym, ap, ◌∙◌, arith, append_assoc, codes}
use Rattle.std.proofs.Common.{length-append}
use Rattle.std.specs.Prelude.{◌==◌, ◌&&◌, nat_lt, replicate, map, Result, Ok, Err, OnOk}
use Rattle.std.specs.Result.{is_ok}
use Rattle.std.specs.Char.{is_ascii}
use Rattle.std.specs.List.{between, flat_map, list_all, list_any, onto_first, prefix_len, suffix_len, slice_split}
use Rattle.std.proofs.lemmas.Bool.{and_parts, or_parts}
use Rattle.std.proofs.lemmas.Bool.Decides.{nat_tests}
use Rattle.std.proofs.lemmas.List.{append-nil, drop_all, drop_more, drop-append-le, drop-drop, reverse-append, take_all}
use Rattle.std.proofs.lemmas.List.{take-append-drop, take-append-le}
use Rattle.std.proofs.lemmas.List.Edits.{between_more}
use Rattle.std.proofs.lemmas.List.Splits.{slice_split-cons_yes, slice_split-cons_no}
use Rattle.std.proofs.lemmas.List.Sums.{suffix_len-le-length}
use Rattle.std.proofs.lemmas.List.Folds.{list_any-append}
use Rattle.std.proofs.Math.Seq.{take-append_seam}
use Rattle.htmd_lexical.specs.Characters.{line_feed, space}
use Rattle.htmd_text.specs.Indents.{indented_line, indented_lines, next_line}
use Rattle.htmd_text.specs.Joins.{joined_texts}
use Rattle.htmd_text.specs.Trims.{trimmed_end, is_line_feed, is_space}
use Rattle.htmd_commonmark.specs.Pages.{Page, due, due_at_end, begun, with_byte, wrote, left, in_quote, behind_quote}
use Rattle.htmd_commonmark.specs.Pages.{in_item, behind_item, quoted, quoted_line, gap, indented}

-- ---- one text after another

pub wrote-append : (page : Page) (s t : List ℕ) → wrote page (s ++ t) ≡ wrote (wrote page s) t
wrote-append page [] t = refl
wrote-append page (b ∷ s) t = wrote-append (with_byte page b) s t

with_byte-prefix : (page : Page) (b : ℕ) (t : Bool) → (b == line_feed) ≡ t
    → (with_byte page b).prefix ≡ page.prefix
with_byte-prefix page b true here = rw here refl
with_byte-prefix page b false other = rw other refl

pub wrote-prefix : (page : Page) (s : List ℕ) → (wrote page s).prefix ≡ page.prefix
wrote-prefix page [] = refl
wrote-prefix page (b ∷ s) = wrote-prefix (with_byte page b) s ∙ with_byte-prefix page b (b == line_feed) refl

nothing_due : (page : Page) (out : List ℕ) → due (begun page out) ≡ []
nothing_due page out = drop_all (length page.prefix) page.prefix (omega arith)

none_due_at_end : (page : Page) (out : List ℕ) → due_at_end (begun page out) ≡ []
none_due_at_end page out = ap (trimmed_end is_space) (nothing_due page out)

-- a character of a line that has its prefix
begun-byte : (page : Page) (out : List ℕ) (b : ℕ) → (b == line_feed) ≡ false
    → with_byte (begun page out) b ≡ begun page (out ++ b ∷ [])
begun-byte page out b other =
    rw other (ap (λ l. begun page ((out ++ l) ++ b ∷ [])) (nothing_due page out)
    ∙ ap (λ l. begun page (l ++ b ∷ [])) (append-nil out))

-- a line feed
abbrev pub started : Page → List ℕ → Page
started page out = record { out = out; prefix = page.prefix; written = 0; gap = 0 }

begun-line_feed : (page : Page) (out : List ℕ) (b : ℕ) → (b == line_feed) ≡ true
    → with_byte (begun page out) b ≡ started page (out ++ line_feed ∷ [])
begun-line_feed page out b here =
    rw here (ap (λ l. started page ((out ++ l) ++ line_feed ∷ [])) (none_due_at_end page out)
    ∙ ap (λ l. started page (l ++ line_feed ∷ [])) (append-nil out))

-- a text without line feeds
pub begun-text : (page : Page) (out s : List ℕ) → list_any is_line_feed s ≡ false
    → wrote (begun page out) s ≡ begun page (out ++ s)
begun-text page out [] none = ap (begun page) (sym (append-nil out))
begun-text page out (b ∷ s) none =
    let parts = or_parts (is_line_feed b) (list_any is_line_feed s) none in
    ap (λ p. wrote p s) (begun-byte page out b parts.0) ∙ begun-text page (out ++ b ∷ []) s parts.1
    ∙ ap (begun page) (append_assoc out (b ∷ []) s)

pub text_in_line : (page : Page) (b : ℕ) (s : List ℕ) → list_any is_line_feed (b ∷ s) ≡ false
    → wrote page (b ∷ s) ≡ begun page ((page.out ++ due page) ++ b ∷ s)
text_in_line page b s none =
    let parts = or_parts (is_line_feed b) (list_any is_line_feed s) none in
    let first : with_byte page b ≡ begun page ((page.out ++ due page) ++ b ∷ []) = rw parts.0 refl in
    ap (λ p. wrote p s) first ∙ begun-text page ((page.out ++ due page) ++ b ∷ []) s parts.1
    ∙ ap (begun page) (append_assoc (page.out ++ due page) (b ∷ []) s)

-- a line, its line feed, and what follows
pub line_wrote : (page : Page) (s : List ℕ) (from i : ℕ) → from ≤ i → i < length s
    → get_or s i 0 ≡ line_feed
    → wrote page (drop from s) ≡ wrote (with_byte (wrote page (between from i s)) line_feed) (drop (i + 1) s)
line_wrote page s from i le lt here =
    let behind : drop (i - from) (drop from s) ≡ get_or s i 0 ∷ drop (i + 1) s =
    drop-drop (i - from) from s ∙ ap (λ n. drop n s) (omega arith) ∙ drop_more s i 0 lt in
    let parts : drop from s ≡ between from i s ++ line_feed ∷ drop (i + 1) s =
    sym (take-append-drop (i - from) (drop from s))
    ∙ ap (λ l. between from i s ++ l) (behind ∙ ap (λ b. b ∷ drop (i + 1) s) here) in
    ap (wrote page) parts ∙ wrote-append page (between from i s) (line_feed ∷ drop (i + 1) s)

-- one more byte of a line
pub line_grown : (s : List ℕ) (from i : ℕ) → from ≤ i → i < length s → (get_or s i 0 == line_feed) ≡ false
    → list_any is_line_feed (between from i s) ≡ false → list_any is_line_feed (between from (i + 1) s) ≡ false
line_grown s from i le lt other none =
    ap (list_any is_line_feed) (between_more s from i 0 le lt)
    ∙ list_any-append is_line_feed (between from i s) (get_or s i 0 ∷ []) ∙ rw (none, other) refl

-- ---- the spaces at the end of a prefix

trim_yes : (s : List ℕ) (b : ℕ) → is_space b ≡ true
    → trimmed_end is_space (s ++ b ∷ []) ≡ trimmed_end is_space s
trim_yes s b here =
    let run : suffix_len is_space (s ++ b ∷ []) ≡ 1 + suffix_len is_space s =
    ap (prefix_len is_space) (reverse-append s (b ∷ [])) ∙ rw here refl in
    let within = suffix_len-le-length is_space s in
    ap (λ n. take n (s ++ b ∷ [])) (omega (arith, run, within, length-append s (b ∷ [])))
    ∙ take-append-le (length s - suffix_len is_space s) s (b ∷ []) (omega arith)

trim_no : (s : List ℕ) (b : ℕ) → is_space b ≡ false → trimmed_end is_space (s ++ b ∷ []) ≡ s ++ b ∷ []
trim_no s b other =
    let run : suffix_len is_space (s ++ b ∷ []) ≡ 0 =
    ap (prefix_len is_space) (reverse-append s (b ∷ [])) ∙ rw other refl in
    ap (λ n. take (length (s ++ b ∷ []) - n) (s ++ b ∷ [])) run
    ∙ take_all (length (s ++ b ∷ []) - 0) (s ++ b ∷ []) (omega arith)

trim_spaces : (n : ℕ) (s : List ℕ) → trimmed_end is_space (s ++ replicate n space) ≡ trimmed_end is_space s
trim_spaces zero s = ap (trimmed_end is_space) (append-nil s)
trim_spaces (suc n) s =
    ap (trimmed_end is_space) (sym (append_assoc s (space ∷ []) (replicate n space)))
    ∙ trim_spaces n (s ++ space ∷ []) ∙ trim_yes s space refl

trim_marker : (s : List ℕ) → trimmed_end is_space (s ++ codes "> ") ≡ s ++ codes ">"
trim_marker s =
    ap (trimmed_end is_space) (sym (append_assoc s (codes ">") (codes " ")))
    ∙ trim_yes (s ++ codes ">") space refl ∙ trim_no s 62 refl

-- ---- lines after a prefix of their own

-- What is written of a text whose lines stand after `inset`, an empty line after `bare`; `first` and `first_bare` are
-- due on the first line, and a last line that is empty has what is due on it.
abbrev pub lines_after : (inset bare first first_bare : List ℕ) → List ℕ → List ℕ
lines_after inset bare first first_bare [] = first_bare
lines_after inset bare first first_bare (b ∷ s) =
    cond (b == line_feed) (first_bare ++ line_feed ∷ lines_after inset bare inset bare s)
    (first ++ b ∷ lines_after inset bare [] [] s)

-- ---- a page in a container

-- inside of a container the prefix is longer
abbrev pub inside : List ℕ → Page → Page
inside inset page = record { out = page.out; prefix = page.prefix ++ inset; written = page.written; gap = page.gap }

inside-due : (inset : List ℕ) (page : Page) → page.written ≤ length page.prefix
    → due (inside inset page) ≡ due page ++ inset
inside-due inset page within =
    ap (λ l. replicate page.gap space ++ l) (drop-append-le page.written page.prefix inset within)
    ∙ sym (append_assoc (replicate page.gap space) (drop page.written page.prefix) inset)

quote_due_at_end : (page : Page) → page.written ≤ length page.prefix
    → due_at_end (inside (codes "> ") page) ≡ due page ++ codes ">"
quote_due_at_end page within =
    ap (λ l. replicate page.gap space ++ trimmed_end is_space l)
    (drop-append-le page.written page.prefix (codes "> ") within)
    ∙ ap (λ l. replicate page.gap space ++ l) (trim_marker (drop page.written page.prefix))
    ∙ sym (append_assoc (replicate page.gap space) (drop page.written page.prefix) (codes ">"))

item_due_at_end : (n : ℕ) (page : Page) → page.written ≤ length page.prefix
    → due_at_end (inside (replicate n space) page) ≡ due_at_end page
item_due_at_end n page within =
    ap (λ l. replicate page.gap space ++ trimmed_end is_space l)
    (drop-append-le page.written page.prefix (replicate n space) within)
    ∙ ap (λ l. replicate page.gap space ++ l) (trim_spaces n (drop page.written page.prefix))

left-inside : (inset : List ℕ) (page : Page) (out : List ℕ)
    → left (begun (inside inset page) out) (length page.prefix) ≡ begun page out
left-inside inset page out =
    let prefix : take (length page.prefix) (page.prefix ++ inset) ≡ page.prefix =
    take-append_seam page.prefix inset in
    let written : min (length (page.prefix ++ inset)) (length (take (length page.prefix) (page.prefix ++ inset)))
    ≡ length page.prefix = omega (arith, ap length prefix, length-append page.prefix inset) in
    ap (λ l. record {
      out = out;
      prefix = l;
      written = min (length (page.prefix ++ inset))
          (length (take (length page.prefix) (page.prefix ++ inset)));
      gap = 0;
    }) prefix
    ∙ ap (λ n. record { out = out; prefix = page.prefix; written = n; gap = 0 }) written

-- ---- what ends with a container

abbrev at_end_of : List ℕ → Page → List ℕ
at_end_of [] page = due_at_end page
at_end_of (b ∷ bare) page = due page ++ b ∷ bare

-- A container whose lines stand after `inset`, empty ones after `bare`, and what is done where it ends.
record Container (inset bare : List ℕ) (behind : Page → ℕ → Page) : Type 1 where
  pub Fits : Page → Type 0
  pub within : (page : Page) → Fits page → page.written ≤ length page.prefix
  pub started_fits : (page : Page) (out : List ℕ) → Fits (started page out)
  pub inset_is_line : list_any is_line_feed inset ≡ false
  pub bare_is_line : list_any is_line_feed bare ≡ false
  pub at_end : (page : Page) → Fits page → due_at_end (inside inset page) ≡ at_end_of bare page
  pub open_end : (page : Page) → Fits page → behind (inside inset page) (length page.prefix) ≡ wrote page bare
  pub begun_end : (page : Page) (out : List ℕ)
      → behind (begun (inside inset page) out) (length page.prefix) ≡ begun page out

bare_line : (bare : List ℕ) (page : Page) (at : List ℕ) → list_any is_line_feed bare ≡ false
    → at ≡ at_end_of bare page
    → with_byte (wrote page bare) line_feed ≡ started page ((page.out ++ at) ++ line_feed ∷ [])
bare_line [] page at none e = ap (λ l. started page ((page.out ++ l) ++ line_feed ∷ [])) (sym e)
bare_line (b ∷ bare) page at none e =
    ap (λ p. with_byte p line_feed) (text_in_line page b bare none)
    ∙ begun-line_feed page ((page.out ++ due page) ++ b ∷ bare) line_feed refl
    ∙ ap (λ l. started page (l ++ line_feed ∷ [])) (append_assoc page.out (due page) (b ∷ bare)
    ∙ ap (λ l. page.out ++ l) (sym e))

inset_text : (inset : List ℕ) (page : Page) (b : ℕ) → list_any is_line_feed inset ≡ false
    → (b == line_feed) ≡ false
    → wrote page (inset ++ b ∷ []) ≡ begun page ((page.out ++ due page) ++ (inset ++ b ∷ []))
inset_text [] page b none other = text_in_line page b [] (rw other refl)
inset_text (c ∷ inset) page b none other =
    let all : list_any is_line_feed (c ∷ inset ++ b ∷ []) ≡ false =
    list_any-append is_line_feed (c ∷ inset) (b ∷ []) ∙ rw (none, other) refl in
    text_in_line page c (inset ++ b ∷ []) all

abbrev OpenLaw : (inset bare : List ℕ) (behind : Page → ℕ → Page) → List ℕ → Type 1
OpenLaw inset bare behind s =
    (k : Container inset bare behind) (page : Page) → k.Fits page
    → behind (wrote (inside inset page) s) (length page.prefix)
    ≡ wrote page (lines_after inset bare inset bare s)

abbrev BegunLaw : (inset bare : List ℕ) (behind : Page → ℕ → Page) → List ℕ → Type 1
BegunLaw inset bare behind s =
    (k : Container inset bare behind) (page : Page) (out : List ℕ)
    → behind (wrote (begun (inside inset page) out) s) (length page.prefix)
    ≡ wrote (begun page out) (lines_after inset bare [] [] s)

open_byte : (inset bare : List ℕ) (behind : Page → ℕ → Page) (k : Container inset bare behind) (b : ℕ)
    (s : List ℕ)
    (page : Page) → k.Fits page → OpenLaw inset bare behind s → BegunLaw inset bare behind s → (t : Bool)
    → (b == line_feed) ≡ t
    → behind (wrote (with_byte (inside inset page) b) s) (length page.prefix)
    ≡ wrote page (lines_after inset bare inset bare (b ∷ s))
open_byte inset bare behind k b s page fits open_law begun_law true here =
    let at = due_at_end (inside inset page) in
    let next = started page ((page.out ++ at) ++ line_feed ∷ []) in
    let rest = lines_after inset bare inset bare s in
    rw here (open_law k next (k.started_fits page ((page.out ++ at) ++ line_feed ∷ []))
    ∙ sym (wrote-append page bare (line_feed ∷ rest)
    ∙ ap (λ p. wrote p rest) (bare_line bare page at k.bare_is_line (k.at_end page fits))))
open_byte inset bare behind k b s page fits open_law begun_law false other =
    let rest = lines_after inset bare [] [] s in
    let text : (page.out ++ due page) ++ (inset ++ b ∷ []) ≡ (page.out ++ due (inside inset page)) ++ b ∷ [] =
    sym (ap (λ l. (page.out ++ l) ++ b ∷ []) (inside-due inset page (k.within page fits))
    ∙ ap (λ l. l ++ b ∷ []) (sym (append_assoc page.out (due page) inset))
    ∙ append_assoc (page.out ++ due page) inset (b ∷ [])) in
    rw other (begun_law k page ((page.out ++ due (inside inset page)) ++ b ∷ [])
    ∙ sym (ap (wrote page) (sym (append_assoc inset (b ∷ []) rest))
    ∙ wrote-append page (inset ++ b ∷ []) rest
    ∙ ap (λ p. wrote p rest) (inset_text inset page b k.inset_is_line other ∙ ap (begun page) text)))

begun_at_byte : (inset bare : List ℕ) (behind : Page → ℕ → Page) (k : Container inset bare behind) (b : ℕ)
    (s : List ℕ) (page : Page) (out : List ℕ) → OpenLaw inset bare behind s → BegunLaw inset bare behind s
    → (t : Bool)
    → (b == line_feed) ≡ t
    → behind (wrote (with_byte (begun (inside inset page) out) b) s) (length page.prefix)
    ≡ wrote (begun page out) (lines_after inset bare [] [] (b ∷ s))
begun_at_byte inset bare behind k b s page out open_law begun_law true here =
    let rest = lines_after inset bare inset bare s in
    ap (λ p. behind (wrote p s) (length page.prefix)) (begun-line_feed (inside inset page) out b here)
    ∙ open_law k (started page (out ++ line_feed ∷ [])) (k.started_fits page (out ++ line_feed ∷ []))
    ∙ rw here (ap (λ p. wrote p rest) (sym (begun-line_feed page out line_feed refl)))
begun_at_byte inset bare behind k b s page out open_law begun_law false other =
    let rest = lines_after inset bare [] [] s in
    ap (λ p. behind (wrote p s) (length page.prefix)) (begun-byte (inside inset page) out b other)
    ∙ begun_law k page (out ++ b ∷ [])
    ∙ rw other (ap (λ p. wrote p rest) (sym (begun-byte page out b other)))

both_laws : (inset bare : List ℕ) (behind : Page → ℕ → Page) (s : List ℕ)
    → OpenLaw inset bare behind s × BegunLaw inset bare behind s
both_laws inset bare behind [] = (λ k page fits. k.open_end page fits, λ k page out. k.begun_end page out)
both_laws inset bare behind (b ∷ s) =
    let laws = both_laws inset bare behind s in (
      λ k page fits. open_byte inset bare behind k b s page fits laws.0 laws.1 (b == line_feed) refl,
      λ k page out. begun_at_byte inset bare behind k b s page out laws.0 laws.1 (b == line_feed) refl,
    )

-- ---- quotes

quote_open_end : (page : Page) → page.written ≤ length page.prefix
    → behind_quote (inside (codes "> ") page) (length page.prefix) ≡ wrote page (codes ">")
quote_open_end page within =
    let some : nat_lt page.written (length (page.prefix ++ codes "> ")) ≡ true =
    let size = length-append page.prefix (codes "> ") in grind (arith, nat_tests) in
    ap (λ t. left (cond t (begun (inside (codes "> ") page) (page.out ++ due_at_end (inside (codes "> ") page)))
    (inside (codes "> ") page)) (length page.prefix)) some
    ∙ left-inside (codes "> ") page (page.out ++ due_at_end (inside (codes "> ") page))
    ∙ ap (begun page) (ap (λ l. page.out ++ l) (quote_due_at_end page within)
    ∙ sym (append_assoc page.out (due page) (codes ">")))
    ∙ sym (text_in_line page 62 [] refl)

quote_begun_end : (page : Page) (out : List ℕ)
    → behind_quote (begun (inside (codes "> ") page) out) (length page.prefix) ≡ begun page out
quote_begun_end page out =
    let inner = begun (inside (codes "> ") page) out in
    let none : nat_lt inner.written (length inner.prefix) ≡ false = grind (arith, nat_tests) in
    ap (λ t. left (cond t (begun inner (inner.out ++ due_at_end inner)) inner) (length page.prefix)) none
    ∙ left-inside (codes "> ") page out

abbrev quote_container : Container (codes "> ") (codes ">") behind_quote
quote_container = record {
  Fits = λ page. page.written ≤ length page.prefix;
  within = λ page fits. fits;
  started_fits = λ page out. omega arith;
  inset_is_line = refl;
  bare_is_line = refl;
  at_end = quote_due_at_end;
  open_end = quote_open_end;
  begun_end = quote_begun_end;
}

-- the lines of a quote, the first of which begins or has begun
record QuotedLines (s : List ℕ) : Type 0 where
  pub first : List ℕ
  pub others : List (List ℕ)
  pub is : slice_split is_line_feed s ≡ first ∷ others
  pub whole : quoted_line first ++ flat_map (λ next. line_feed ∷ [] ++ next) (map quoted_line others)
      ≡ lines_after (codes "> ") (codes ">") (codes "> ") (codes ">") s
  pub begun : first ++ flat_map (λ next. line_feed ∷ [] ++ next) (map quoted_line others)
      ≡ lines_after (codes "> ") (codes ">") [] [] s

quoted_byte : (b : ℕ) (s : List ℕ) → QuotedLines s → (t : Bool) → (b == line_feed) ≡ t
    → QuotedLines (b ∷ s)
quoted_byte b s ls true here = record {
  first = [];
  others = ls.first ∷ ls.others;
  is = slice_split-cons_yes is_line_feed b s here ∙ ap (λ l. [] ∷ l) ls.is;
  whole = rw here (ap (λ l. codes ">" ++ line_feed ∷ l) ls.whole);
  begun = rw here (ap (λ l. line_feed ∷ l) ls.whole);
}
quoted_byte b s ls false other = record {
  first = b ∷ ls.first;
  others = ls.others;
  is = slice_split-cons_no is_line_feed b s other ∙ ap (onto_first b) ls.is;
  whole = rw other (ap (λ l. codes "> " ++ b ∷ l) ls.begun);
  begun = rw other (ap (λ l. b ∷ l) ls.begun);
}

quoted_lines : (s : List ℕ) → QuotedLines s
quoted_lines [] = record { first = []; others = []; is = refl; whole = refl; begun = refl }
quoted_lines (b ∷ s) = quoted_byte b s (quoted_lines s) (b == line_feed) refl

quoted-is : (s : List ℕ) → quoted s ≡ lines_after (codes "> ") (codes ">") (codes "> ") (codes ">") s
quoted-is s =
    let ls = quoted_lines s in
    ap (λ l. joined_texts (line_feed ∷ []) (map quoted_line l)) ls.is ∙ ls.whole

-- what is written in a quote is quoted
pub in_quote-wrote : (page : Page) (s : List ℕ) → page.written ≤ length page.prefix
    → behind_quote (wrote (in_quote page) s) (length page.prefix) ≡ wrote page (quoted s)
in_quote-wrote page s within =
    (both_laws (codes "> ") (codes ">") behind_quote s).0 quote_container page within
    ∙ ap (wrote page) (sym (quoted-is s))

-- ---- items

item_begun_end : (n : ℕ) (page : Page) (out : List ℕ)
    → behind_item (begun (inside (replicate n space) page) out) (length page.prefix) ≡ begun page out
item_begun_end n page out = left-inside (replicate n space) page out

abbrev FitsItem : Page → Type 0
FitsItem page = (page.written ≤ length page.prefix) × (page.gap ≡ 0)

item_open_end : (n : ℕ) (page : Page) → FitsItem page
    → behind_item (inside (replicate n space) page) (length page.prefix) ≡ page
item_open_end n page fits =
    let prefix : take (length page.prefix) (page.prefix ++ replicate n space) ≡ page.prefix =
    take-append_seam page.prefix (replicate n space) in
    let written : min page.written (length (take (length page.prefix) (page.prefix ++ replicate n space)))
    ≡ page.written = omega (arith, ap length prefix, fits.0) in
    ap (λ l. record {
      out = page.out;
      prefix = l;
      written = min page.written
          (length (take (length page.prefix) (page.prefix ++ replicate n space)));
      gap = 0;
    }) prefix
    ∙ ap (λ m. record { out = page.out; prefix = page.prefix; written = m; gap = 0 }) written
    ∙ ap (λ m. record { out = page.out; prefix = page.prefix; written = page.written; gap = m }) (sym fits.1)

spaces_are_line : (n : ℕ) → list_any is_line_feed (replicate n space) ≡ false
spaces_are_line zero = refl
spaces_are_line (suc n) = spaces_are_line n

abbrev item_container : (n : ℕ) → Container (replicate n space) [] behind_item
item_container n = record {
  Fits = FitsItem;
  within = λ page fits. fits.0;
  started_fits = λ page out. (omega arith, refl);
  inset_is_line = spaces_are_line n;
  bare_is_line = refl;
  at_end = λ page fits. item_due_at_end n page fits.0;
  open_end = item_open_end n;
  begun_end = item_begun_end n;
}

record ItemLines (n : ℕ) (s : List ℕ) : Type 0 where
  pub first : List ℕ
  pub others : List (List ℕ)
  pub is : slice_split is_line_feed s ≡ first ∷ others
  pub whole : indented_line n first ++ flat_map (next_line n) others
      ≡ lines_after (replicate n space) [] (replicate n space) [] s
  pub begun : first ++ flat_map (next_line n) others ≡ lines_after (replicate n space) [] [] [] s

item_byte : (n b : ℕ) (s : List ℕ) → ItemLines n s → (t : Bool) → (b == line_feed) ≡ t
    → ItemLines n (b ∷ s)
item_byte n b s ls true here = record {
  first = [];
  others = ls.first ∷ ls.others;
  is = slice_split-cons_yes is_line_feed b s here ∙ ap (λ l. [] ∷ l) ls.is;
  whole = rw here (ap (λ l. line_feed ∷ l) ls.whole);
  begun = rw here (ap (λ l. line_feed ∷ l) ls.whole);
}
item_byte n b s ls false other = record {
  first = b ∷ ls.first;
  others = ls.others;
  is = slice_split-cons_no is_line_feed b s other ∙ ap (onto_first b) ls.is;
  whole = rw other (append_assoc (replicate n space) (b ∷ ls.first) (flat_map (next_line n) ls.others)
      ∙ ap (λ l. replicate n space ++ b ∷ l) ls.begun);
  begun = rw other (ap (λ l. b ∷ l) ls.begun);
}

item_lines : (n : ℕ) (s : List ℕ) → ItemLines n s
item_lines n [] = record { first = []; others = []; is = refl; whole = refl; begun = refl }
item_lines n (b ∷ s) = item_byte n b s (item_lines n s) (b == line_feed) refl

item_lines-is : (n : ℕ) (s : List ℕ)
    → indented_lines n (slice_split is_line_feed s) ≡ lines_after (replicate n space) [] [] [] s
item_lines-is n s = let ls = item_lines n s in ap (indented_lines n) ls.is ∙ ls.begun

-- in an item, after the marker
abbrev pub first_line : Page → List ℕ → ℕ → ℕ → Page
first_line page out n spaces =
    let prefix = page.prefix ++ replicate n space in
    record { out = out; prefix = prefix; written = length prefix; gap = spaces }

first_byte : (page : Page) (out : List ℕ) (n spaces b : ℕ) (t : Bool) → (b == line_feed) ≡ t
    → with_byte (first_line page out n spaces) b
    ≡ with_byte (begun (inside (replicate n space) page) (out ++ replicate spaces space)) b
first_byte page out n spaces b true here =
    let whole = page.prefix ++ replicate n space in
    let none : drop (length whole) whole ≡ [] = drop_all (length whole) whole (omega arith) in
    let gap : due_at_end (first_line page out n spaces) ≡ replicate spaces space =
    ap (λ l. replicate spaces space ++ trimmed_end is_space l) none ∙ append-nil (replicate spaces space) in
    rw here (ap (λ l. started (inside (replicate n space) page) ((out ++ l) ++ line_feed ∷ [])) gap)
    ∙ sym (begun-line_feed (inside (replicate n space) page) (out ++ replicate spaces space) b here)
first_byte page out n spaces b false other =
    let whole = page.prefix ++ replicate n space in
    let none : drop (length whole) whole ≡ [] = drop_all (length whole) whole (omega arith) in
    let gap : due (first_line page out n spaces) ≡ replicate spaces space =
    ap (λ l. replicate spaces space ++ l) none ∙ append-nil (replicate spaces space) in
    rw other (ap (λ l. begun (inside (replicate n space) page) ((out ++ l) ++ b ∷ [])) gap)
    ∙ sym (begun-byte (inside (replicate n space) page) (out ++ replicate spaces space) b other)

first_line-wrote : (page : Page) (out : List ℕ) (n spaces : ℕ) (s : List ℕ)
    → behind_item (wrote (first_line page out n spaces) s) (length page.prefix)
    ≡ wrote (begun page out) (gap spaces s ++ indented_lines n (slice_split is_line_feed s))
first_line-wrote page out n spaces [] = left-inside (replicate n space) page out
first_line-wrote page out n spaces (b ∷ s) =
    let inset = replicate n space in
    let lines = indented_lines n (slice_split is_line_feed (b ∷ s)) in
    ap (λ p. behind_item (wrote p s) (length page.prefix)) (first_byte page out n spaces b (b == line_feed) refl)
    ∙ (both_laws inset [] behind_item (b ∷ s)).1 (item_container n) page (out ++ replicate spaces space)
    ∙ ap (wrote (begun page (out ++ replicate spaces space))) (sym (item_lines-is n (b ∷ s)))
    ∙ sym (wrote-append (begun page out) (replicate spaces space) lines
    ∙ ap (λ p. wrote p lines) (begun-text page out (replicate spaces space) (spaces_are_line spaces)))

replicate-both : (m n : ℕ) → replicate m space ++ replicate n space ≡ replicate (m + n) space
replicate-both zero n = let same : n ≡ zero + n = omega arith in ap (λ k. replicate k space) same
replicate-both (suc m) n =
    let same : suc (m + n) ≡ suc m + n = omega arith in
    ap (λ l. space ∷ l) (replicate-both m n) ∙ ap (λ k. replicate k space) same

-- what is written in an item is indented
pub in_item-wrote : (page : Page) (b : ℕ) (marker : List ℕ) (spaces : ℕ) (s : List ℕ)
    → list_any is_line_feed (b ∷ marker) ≡ false
    → behind_item (wrote (in_item page (b ∷ marker) spaces) s) (length page.prefix)
    ≡ wrote page (indented (b ∷ marker) spaces s)
in_item-wrote page b marker spaces s none =
    let out = (page.out ++ due page) ++ b ∷ marker in
    let n = length (b ∷ marker) + spaces in
    let lines = gap spaces s ++ indented_lines n (slice_split is_line_feed s) in
    let same : (b ∷ marker) ++ lines ≡ indented (b ∷ marker) spaces s =
    sym (append_assoc (b ∷ marker) (gap spaces s) (indented_lines n (slice_split is_line_feed s))) in
    let at : wrote page (b ∷ marker) ≡ begun page out = text_in_line page b marker none in
    let prefix : ((wrote page (b ∷ marker)).prefix ++ replicate (length (b ∷ marker)) space)
    ++ replicate spaces space
    ≡ page.prefix ++ replicate n space =
    ap (λ l. (l ++ replicate (length (b ∷ marker)) space) ++ replicate spaces space)
    (wrote-prefix page (b ∷ marker))
    ∙ append_assoc page.prefix (replicate (length (b ∷ marker)) space) (replicate spaces space)
    ∙ ap (λ l. page.prefix ++ l) (replicate-both (length (b ∷ marker)) spaces) in
    let inner : in_item page (b ∷ marker) spaces ≡ first_line page out n spaces =
    ap (λ l. record { out = (wrote page (b ∷ marker)).out; prefix = l; written = length l; gap = spaces }) prefix
    ∙ ap (λ p. record {
      out = p.out;
      prefix = page.prefix ++ replicate n space;
      written = length (page.prefix ++ replicate n space);
      gap = spaces;
    }) at in
    ap (λ p. behind_item (wrote p s) (length page.prefix)) inner
    ∙ first_line-wrote page out n spaces s
    ∙ sym (wrote-append page (b ∷ marker) lines ∙ ap (λ p. wrote p lines) at)
    ∙ ap (wrote page) same

-- ---- what the code pushes

pub text_pushed : (page : Page) (s : List ℕ) → (length s == 0) ≡ false → list_any is_line_feed s ≡ false
    → begun page ((page.out ++ due page) ++ s) ≡ wrote page s
text_pushed page [] some none = cc
text_pushed page (b ∷ s) some none = sym (text_in_line page b s none)

-- a line that has its prefix, after which no spaces are due
both_tests : (gap written n : ℕ) → ((gap == 0) && (written == n)) ≡ true → (gap ≡ 0) × (written ≡ n)
both_tests gap written n e = (grind (arith, nat_tests), grind (arith, nat_tests))

pub written_due : (out prefix : List ℕ) (written gap : ℕ) → ((gap == 0) && (written == length prefix)) ≡ true
    → out ≡ out ++ (replicate gap space ++ drop written prefix)
written_due out prefix written gap e =
    let both = both_tests gap written (length prefix) e in
    sym (ap (λ n. out ++ (replicate n space ++ drop written prefix)) both.0
    ∙ ap (λ n. out ++ drop n prefix) both.1
    ∙ ap (λ l. out ++ l) (drop_all (length prefix) prefix (omega arith))
    ∙ append-nil out)

pub written_at_end : (out prefix : List ℕ) (written gap : ℕ) → ((gap == 0) && (written == length prefix)) ≡ true
    → out ≡ out ++ (replicate gap space ++ trimmed_end is_space (drop written prefix))
written_at_end out prefix written gap e =
    let both = both_tests gap written (length prefix) e in
    sym (ap (λ n. out ++ (replicate n space ++ trimmed_end is_space (drop written prefix))) both.0
    ∙ ap (λ n. out ++ trimmed_end is_space (drop n prefix)) both.1
    ∙ ap (λ l. out ++ trimmed_end is_space l) (drop_all (length prefix) prefix (omega arith))
    ∙ append-nil out)

pub pushed_page : {T E : Type 0} (r : Result T E) (f : List ℕ → Page) (new long short : List ℕ) (whole : Page)
    → new ≡ cond (is_ok r) long short → f long ≡ whole → OnOk r (f new ≡ whole)
pushed_page (Ok x) f new long short whole e same = ap f e ∙ same
pushed_page (Err x) f new long short whole e same = tt

pub ascii-take : (n : ℕ) (s : List ℕ) → list_all is_ascii s ≡ true → list_all is_ascii (take n s) ≡ true
ascii-take zero s all = refl
ascii-take (suc n) [] all = refl
ascii-take (suc n) (b ∷ s) all =
    let parts = and_parts (is_ascii b) (list_all is_ascii s) all in rw parts.0 (ascii-take n s parts.1)

pub ascii-append : (s t : List ℕ) → list_all is_ascii s ≡ true → list_all is_ascii t ≡ true
    → list_all is_ascii (s ++ t) ≡ true
ascii-append [] t front all = all
ascii-append (b ∷ s) t front all =
    let parts = and_parts (is_ascii b) (list_all is_ascii s) front in rw parts.0 (ascii-append s t parts.1 all)

pub ascii-spaces : (n : ℕ) → list_all is_ascii (replicate n space) ≡ true
ascii-spaces zero = refl
ascii-spaces (suc n) = ascii-spaces n

-- ---- what is behind leaves the rest as it was

pub signs-more : (page : Page) (n sign : ℕ) → wrote (wrote page (replicate n sign)) (sign ∷ [])
    ≡ wrote page (replicate (n + 1) sign)
signs-more page n sign =
    sym (wrote-append page (replicate n sign) (sign ∷ [])) ∙ ap (wrote page) (replicate-push n sign)
  where
    replicate-push : (n sign : ℕ) → replicate n sign ++ sign ∷ [] ≡ replicate (n + 1) sign
    replicate-push zero sign = refl
    replicate-push (suc n) sign =
        let same : suc (n + 1) ≡ suc n + 1 = omega arith in
        ap (λ l. sign ∷ l) (replicate-push n sign) ∙ ap (λ k. replicate k sign) same

-- the prefix with more spaces
pub prefix_grows : (prefix longer : List ℕ) (written n : ℕ) → longer ≡ prefix ++ replicate n space
    → written ≤ length prefix → list_all is_ascii prefix ≡ true
    → (written ≤ length longer) × (list_all is_ascii longer ≡ true)
prefix_grows prefix longer written n is within ascii = (
  omega (arith, ap length is, length-append prefix (replicate n space), within),
  ap (list_all is_ascii) is ∙ ascii-append prefix (replicate n space) ascii (ascii-spaces n),
)
