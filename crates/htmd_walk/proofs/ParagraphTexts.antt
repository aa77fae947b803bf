-- Paragraphs as they are written, and as they are read.
use Rattle.std.proofs.Common.{◌≡◌, ℕ, ◌+◌, ◌-◌, ◌<◌, true, cond, List, [], ◌∷◌, ◌++◌, map}
use Rattle.std.proofs.Common.{length, get_or, refl, sym, ap, ◌∙◌, arith, All}
use Rattle.std.specs.Prelude.{◌==◌, ◌&&◌}
use Rattle.std.specs.List.{prefix_len, onto_first}
use Rattle.std.proofs.lemmas.Bool.{false≢true, false_from_ne_true, cond-false}
use Rattle.std.proofs.lemmas.Bool.Decides.{nat_tests}
use Rattle.std.proofs.lemmas.List.{append_assoc, append-nil, length-append}
use Rattle.std.proofs.lemmas.List.Elements.{All-nil, All-cons, All-head, All-tail, All-weaker, All-append}
use Rattle.htmd_lexical.specs.Characters.{line_feed}
use Rattle.htmd_lexical.specs.BlankLines.{blank_line}
use Rattle.htmd_text.specs.Trims.{trimmed_end, trimmed_text, is_space, is_line_feed}
use Rattle.htmd_lexical.specs.WhiteSpace.{is_document_white_space}
use Rattle.htmd_text.specs.EscapedPlaces.{is_escaped, escaped_markdown}
use Rattle.htmd_text.specs.Unescape.{unescape}
use Rattle.htmd_text.proofs.UnescapeLemmas.{unescape-escaped}
use Rattle.htmd_walk.specs.ParagraphLaws.{cut_at_blank_lines, parts_of, texts_read, with_last_trimmed}
use Rattle.htmd_walk.proofs.TextEnds.{EndsBare, Passes, end_cut, end_stays, ends_behind, start_cut}
use Rattle.htmd_walk.proofs.ShownTexts.{IsShown, front_of, cut_of, escaped_parts, front_reads_back, IsNoLineFeed}
use Rattle.htmd_walk.proofs.ShownTexts.{escaped_without, front_without, some_front, some_escaped, written_ends_bare}
use Rattle.htmd_walk.proofs.ShownTexts.{left_ends_bare, end_cut_of}

-- each text with a blank line after it
abbrev pub blocks : List (List ℕ) → List ℕ
blocks [] = []
blocks (s ∷ texts) = (escaped_markdown s ++ blank_line) ++ blocks texts

-- the same without the white space at the end
abbrev pub written : List (List ℕ) → List ℕ
written [] = []
written (s ∷ []) = front_of s
written (s ∷ t ∷ texts) = (escaped_markdown s ++ blank_line) ++ written (t ∷ texts)

-- ---- what is cut at the end

record IsWritten (texts : List (List ℕ)) : Type 0 where
  behind : List ℕ
  cut : Passes is_document_white_space behind
  whole : blocks texts ≡ written texts ++ behind
  bare : EndsBare is_document_white_space (written texts)
  some : 0 < length (written texts)
  first : prefix_len is_line_feed (written texts) ≡ 0

pub none_first : (s t : List ℕ) → 0 < length s → All IsNoLineFeed s → prefix_len is_line_feed (s ++ t) ≡ 0
none_first [] t some all = absurd (omega arith)
none_first (b ∷ s) t some all =
    cond-false (is_line_feed b) (1 + prefix_len is_line_feed (s ++ t)) 0 (All-head IsNoLineFeed b s all)

pub feed_is_white : (b : ℕ) → is_line_feed b ≡ true → is_document_white_space b ≡ true
feed_is_white b e = grind (arith, nat_tests)

pub space_is_white : (b : ℕ) → is_space b ≡ true → is_document_white_space b ≡ true
space_is_white b e = grind (arith, nat_tests)

blank_line_is_white : Passes is_document_white_space blank_line
blank_line_is_white =
    All-cons (λ b. is_document_white_space b ≡ true) line_feed (line_feed ∷ []) refl
    (All-cons (λ b. is_document_white_space b ≡ true) line_feed [] refl
    (All-nil (λ b. is_document_white_space b ≡ true)))

last_written : (s : List ℕ) → IsShown s → IsWritten (s ∷ [])
last_written s is = record {
  behind = cut_of s ++ blank_line;
  cut = All-append (λ b. is_document_white_space b ≡ true) (cut_of s) blank_line
      (All-weaker (λ b. is_space b ≡ true) (λ b. is_document_white_space b ≡ true) space_is_white (cut_of s)
      (end_cut_of s)) blank_line_is_white;
  whole = append-nil (escaped_markdown s ++ blank_line) ∙ ap (λ l. l ++ blank_line) (escaped_parts s)
      ∙ append_assoc (front_of s) (cut_of s) blank_line;
  bare = written_ends_bare is_document_white_space (is_escaped s) 0 (trimmed_end is_space s) (left_ends_bare s is);
  some = some_front s is;
  first = ap (prefix_len is_line_feed) (sym (append-nil (front_of s)))
      ∙ none_first (front_of s) [] (some_front s is) (front_without s is.plain);
}

more_written : (s t : List ℕ) (texts : List (List ℕ)) → IsShown s → IsWritten (t ∷ texts)
    → IsWritten (s ∷ t ∷ texts)
more_written s t texts is rest =
    let piece = escaped_markdown s ++ blank_line in record {
      behind = rest.behind;
      cut = rest.cut;
      whole = ap (λ l. piece ++ l) rest.whole ∙ sym (append_assoc piece (written (t ∷ texts)) rest.behind);
      bare = ends_behind is_document_white_space piece (written (t ∷ texts)) rest.some rest.bare;
      some = omega (arith, length-append piece (written (t ∷ texts)), rest.some);
      first = ap (prefix_len is_line_feed) (append_assoc (escaped_markdown s) blank_line (written (t ∷ texts)))
          ∙ none_first (escaped_markdown s) (blank_line ++ written (t ∷ texts)) (some_escaped s is.some)
          (escaped_without s is.plain);
    }

all_written : (s : List ℕ) (texts : List (List ℕ)) → All IsShown (s ∷ texts) → IsWritten (s ∷ texts)
all_written s [] all = last_written s (All-head IsShown s [] all)
all_written s (t ∷ texts) all =
    more_written s t texts (All-head IsShown s (t ∷ texts) all)
    (all_written t texts (All-tail IsShown s (t ∷ texts) all))

-- fewer bytes pass
fewer_pass : (s : List ℕ) → EndsBare is_document_white_space s → EndsBare is_line_feed s
fewer_pass s bare some =
    false_from_ne_true _ (λ e. false≢true (sym (bare some) ∙ feed_is_white (get_or s (length s - 1) 0) e))

-- after line feeds, the texts are what is left between the white space at the ends
pub all_trimmed : (lead : List ℕ) (texts : List (List ℕ)) → Passes is_line_feed lead → All IsShown texts
    → trimmed_text is_line_feed (trimmed_end is_document_white_space (lead ++ blocks texts)) ≡ written texts
all_trimmed lead [] cut all =
    let none : trimmed_end is_document_white_space (lead ++ []) ≡ [] =
    ap (trimmed_end is_document_white_space) (append-nil lead)
    ∙ end_cut is_document_white_space [] lead (λ some. absurd (omega arith))
    (All-weaker (λ b. is_line_feed b ≡ true) (λ b. is_document_white_space b ≡ true)
    feed_is_white lead cut) in
    ap (trimmed_text is_line_feed) none
all_trimmed lead (s ∷ texts) cut all =
    let is = all_written s texts all in
    let text = written (s ∷ texts) in
    let ended : trimmed_end is_document_white_space (lead ++ blocks (s ∷ texts)) ≡ lead ++ text =
    ap (λ l. trimmed_end is_document_white_space (lead ++ l)) is.whole
    ∙ ap (trimmed_end is_document_white_space) (sym (append_assoc lead text is.behind))
    ∙ end_cut is_document_white_space (lead ++ text) is.behind
    (ends_behind is_document_white_space lead text is.some is.bare) is.cut in
    ap (trimmed_text is_line_feed) ended
    ∙ ap (trimmed_end is_line_feed) (start_cut is_line_feed lead text cut is.first)
    ∙ end_stays is_line_feed text (fewer_pass text is.bare)

-- ---- the parts

cut_first : (b : ℕ) (s : List ℕ) → IsNoLineFeed b
    → cut_at_blank_lines (b ∷ s) ≡ onto_first b (cut_at_blank_lines s)
cut_first b [] other = refl
cut_first b (c ∷ s) other =
    ap (λ here. cond (here && (c == line_feed)) ([] ∷ cut_at_blank_lines s)
    (onto_first b (cut_at_blank_lines (c ∷ s)))) other

cut_behind : (s t : List ℕ) → All IsNoLineFeed s
    → cut_at_blank_lines (s ++ (line_feed ∷ line_feed ∷ t)) ≡ s ∷ cut_at_blank_lines t
cut_behind [] t all = refl
cut_behind (b ∷ s) t all =
    cut_first b (s ++ (line_feed ∷ line_feed ∷ t)) (All-head IsNoLineFeed b s all)
    ∙ ap (onto_first b) (cut_behind s t (All-tail IsNoLineFeed b s all))

cut_last : (s : List ℕ) → All IsNoLineFeed s → cut_at_blank_lines s ≡ s ∷ []
cut_last [] all = refl
cut_last (b ∷ s) all =
    cut_first b s (All-head IsNoLineFeed b s all) ∙ ap (onto_first b) (cut_last s (All-tail IsNoLineFeed b s all))

cut_read : (s : List ℕ) (texts : List (List ℕ)) → All IsShown (s ∷ texts)
    → map unescape (cut_at_blank_lines (written (s ∷ texts))) ≡ with_last_trimmed (s ∷ texts)
cut_read s [] all =
    ap (map unescape) (cut_last (front_of s) (front_without s (All-head IsShown s [] all).plain))
    ∙ ap (λ l. l ∷ []) (front_reads_back s)
cut_read s (t ∷ texts) all =
    let rest = written (t ∷ texts) in
    let parts : cut_at_blank_lines (written (s ∷ t ∷ texts)) ≡ escaped_markdown s ∷ cut_at_blank_lines rest =
    ap cut_at_blank_lines (append_assoc (escaped_markdown s) blank_line rest)
    ∙ cut_behind (escaped_markdown s) rest (escaped_without s (All-head IsShown s (t ∷ texts) all).plain) in
    ap (map unescape) parts
    ∙ ap (λ l. l ∷ map unescape (cut_at_blank_lines rest)) (unescape-escaped s)
    ∙ ap (λ l. s ∷ l) (cut_read t texts (All-tail IsShown s (t ∷ texts) all))

parts_are_cut : (s : List ℕ) → 0 < length s → parts_of s ≡ cut_at_blank_lines s
parts_are_cut [] some = absurd (omega arith)
parts_are_cut (b ∷ s) some = refl

pub all_read : (texts : List (List ℕ)) → All IsShown texts
    → texts_read (written texts) ≡ with_last_trimmed texts
all_read [] all = refl
all_read (s ∷ texts) all =
    ap (map unescape) (parts_are_cut (written (s ∷ texts)) (all_written s texts all).some) ∙ cut_read s texts all
