-- One paragraph after another.
use Rattle.std.proofs.Common.{◌≡◌, ℕ, ◌+◌, ◌-◌, min, ◌<◌, ◌≤◌, Bool, true, false, cond, List, [], ◌∷◌, ◌++◌, map}
use Rattle.std.proofs.Common.{length, get_or, drop, reverse, refl, sym, ap, ◌∙◌, subst, arith, All, nat_lt}
use Rattle.std.specs.Prelude.{◌==◌, ◌&&◌}
use Rattle.std.specs.List.{prefix_len, suffix_len, filter}
use Rattle.std.proofs.lemmas.Bool.{lt-ltb, ne_eqb, cond-true}
use Rattle.std.proofs.lemmas.List.{append_assoc, append-nil, length-append, reverse-append}
use Rattle.std.proofs.lemmas.List.Elements.{All-nil, All-cons, All-head, All-tail, All-append, All-map}
use Rattle.htmd_lexical.specs.Characters.{line_feed}
use Rattle.htmd_lexical.specs.BlankLines.{blank_line, with_blank_lines}
use Rattle.htmd_text.specs.Trims.{trimmed_start, trimmed_end, trimmed_text, is_space, is_line_feed}
use Rattle.htmd_lexical.specs.WhiteSpace.{is_document_white_space}
use Rattle.htmd_text.specs.EscapedPlaces.{escaped_markdown}
use Rattle.htmd_walk.specs.Seams.{joined_at_seam, joined_by_line_feeds}
use Rattle.htmd_walk.specs.ParagraphLaws.{text_shown, texts_shown, texts_read}
use Rattle.htmd_walk.proofs.SeamsLemmas.{joined_by_drop}
use Rattle.htmd_walk.proofs.TextEnds.{EndsBare, Passes, end_stays, ends_behind, start_stays, first_cut}
use Rattle.htmd_walk.proofs.ShownTexts.{IsShown, shown, IsNoLineFeed, escaped_without, some_escaped}
use Rattle.htmd_walk.proofs.ParagraphTexts.{blocks, none_first, all_trimmed, all_read}

-- ---- the seam after a blank line

two_line_feeds : (s : List ℕ) → 2 ≤ suffix_len is_line_feed (s ++ blank_line)
two_line_feeds s =
    let turned : suffix_len is_line_feed (s ++ blank_line) ≡ 1 + (1 + prefix_len is_line_feed (reverse s)) =
    ap (prefix_len is_line_feed) (reverse-append s blank_line) in
    omega (arith, turned)

-- neither an empty text, nor one without a line feed at its end
seam_by : {X : Type 0} (empty none q r : Bool) (x y z : X) → empty ≡ false → none ≡ false
    → cond empty x (cond ((none && q) && r) y z) ≡ z
seam_by true none q r x y z e f = cc
seam_by false true q r x y z e f = cc
seam_by false false q r x y z e f = refl

joined_behind : (out content : List ℕ) → 0 < length out → 2 ≤ suffix_len is_line_feed out
    → joined_at_seam out content false ≡ out ++ trimmed_start is_line_feed content
joined_behind out content some two =
    let a = suffix_len is_line_feed out in
    let b = prefix_len is_line_feed content in
    let not_empty : (length out == 0) ≡ false = ne_eqb (length out) 0 (λ e. omega arith) in
    let not_none : (a == 0) ≡ false = ne_eqb a 0 (λ e. omega arith) in
    let keeps : 0 ≡ min b (2 - min a 2) = omega arith in
    let all : b - 0 ≡ b = omega arith in
    seam_by (length out == 0) (a == 0) (b == 0) _ (out ++ content) _ (joined_by_line_feeds a b out content) not_empty
    not_none
    ∙ sym (joined_by_drop out content a b 0 refl refl keeps)
    ∙ ap (λ n. out ++ drop n content) all

blank_line_is_bare : EndsBare is_space blank_line
blank_line_is_bare some = refl

-- after a blank line, content loses the line feeds at its start
behind_blank_line : (s content : List ℕ)
    → joined_at_seam (trimmed_end is_space (s ++ blank_line)) content false
    ≡ (s ++ blank_line) ++ trimmed_start is_line_feed content
behind_blank_line s content =
    ap (λ l. joined_at_seam l content false)
    (end_stays is_space (s ++ blank_line) (ends_behind is_space s blank_line (omega arith) blank_line_is_bare))
    ∙ joined_behind (s ++ blank_line) content (omega (arith, length-append s blank_line)) (two_line_feeds s)

-- ---- a paragraph

-- a text as it is shown, as a paragraph after what is written so far
abbrev pub put_behind : List ℕ → List ℕ → List ℕ
put_behind out s = joined_at_seam (trimmed_end is_space out)
    (with_blank_lines (trimmed_text is_line_feed (escaped_markdown s))) false

bare_without : (s : List ℕ) → All IsNoLineFeed s → EndsBare is_line_feed s
bare_without s all some = all (length s - 1) 0 (omega arith)

trimmed_without : (s : List ℕ) → 0 < length s → All IsNoLineFeed s → trimmed_text is_line_feed s ≡ s
trimmed_without s some all =
    let none : prefix_len is_line_feed s ≡ 0 =
    ap (prefix_len is_line_feed) (sym (append-nil s)) ∙ none_first s [] some all in
    ap (trimmed_end is_line_feed) (start_stays is_line_feed s none)
    ∙ end_stays is_line_feed s (bare_without s all)

wrapped_start : (s : List ℕ) → 0 < length s → All IsNoLineFeed s
    → trimmed_start is_line_feed (with_blank_lines s) ≡ s ++ blank_line
wrapped_start s some all =
    first_cut is_line_feed line_feed (line_feed ∷ (s ++ blank_line)) refl
    ∙ first_cut is_line_feed line_feed (s ++ blank_line) refl
    ∙ start_stays is_line_feed (s ++ blank_line) (none_first s blank_line some all)

put_first : (s : List ℕ) → IsShown s → put_behind [] s ≡ with_blank_lines (escaped_markdown s)
put_first s is =
    ap with_blank_lines (trimmed_without (escaped_markdown s) (some_escaped s is.some) (escaped_without s is.plain))

put_more : (out s : List ℕ) → IsShown s
    → put_behind (out ++ blank_line) s ≡ ((out ++ blank_line) ++ escaped_markdown s) ++ blank_line
put_more out s is =
    let e = escaped_markdown s in
    let some = some_escaped s is.some in
    let all = escaped_without s is.plain in
    behind_blank_line out (with_blank_lines (trimmed_text is_line_feed e))
    ∙ ap (λ l. (out ++ blank_line) ++ trimmed_start is_line_feed (with_blank_lines l)) (trimmed_without e some all)
    ∙ ap (λ l. (out ++ blank_line) ++ l) (wrapped_start e some all)
    ∙ sym (append_assoc (out ++ blank_line) e blank_line)

put_none : (out : List ℕ) → put_behind (out ++ blank_line) [] ≡ out ++ blank_line
put_none out = behind_blank_line out (with_blank_lines []) ∙ append-nil (out ++ blank_line)

-- ---- all of them

abbrev pub all_put : List ℕ → List (List ℕ) → List ℕ
all_put out [] = out
all_put out (s ∷ texts) = all_put (put_behind out s) texts

-- the texts that aren't empty
abbrev pub some_of : List (List ℕ) → List (List ℕ)
some_of texts = filter (λ s. nat_lt 0 (length s)) texts

abbrev pub IsShownIfSome : List ℕ → Type 0
IsShownIfSome s = 0 < length s → IsShown s

some_first : (b : ℕ) (s : List ℕ) (texts : List (List ℕ)) → some_of ((b ∷ s) ∷ texts)
    ≡ (b ∷ s) ∷ some_of texts
some_first b s texts =
    cond-true (nat_lt 0 (length (b ∷ s))) ((b ∷ s) ∷ some_of texts) (some_of texts)
    (lt-ltb 0 (length (b ∷ s)) (omega arith))

some_shown : (texts : List (List ℕ)) → All IsShownIfSome texts → All IsShown (some_of texts)
some_shown [] all = All-nil IsShown
some_shown ([] ∷ texts) all = some_shown texts (All-tail IsShownIfSome [] texts all)
some_shown ((b ∷ s) ∷ texts) all =
    subst (λ (l : List (List ℕ)). All IsShown l) (sym (some_first b s texts))
    (All-cons IsShown (b ∷ s) (some_of texts) (All-head IsShownIfSome (b ∷ s) texts all (omega arith))
    (some_shown texts (All-tail IsShownIfSome (b ∷ s) texts all)))

put_behind_blank_line : (out : List ℕ) (texts : List (List ℕ)) → All IsShownIfSome texts
    → all_put (out ++ blank_line) texts ≡ (out ++ blank_line) ++ blocks (some_of texts)
put_behind_blank_line out [] all = sym (append-nil (out ++ blank_line))
put_behind_blank_line out ([] ∷ texts) all =
    ap (λ l. all_put l texts) (put_none out)
    ∙ put_behind_blank_line out texts (All-tail IsShownIfSome [] texts all)
put_behind_blank_line out ((b ∷ s) ∷ texts) all =
    let e = escaped_markdown (b ∷ s) in
    ap (λ l. all_put l texts) (put_more out (b ∷ s) (All-head IsShownIfSome (b ∷ s) texts all (omega arith)))
    ∙ put_behind_blank_line ((out ++ blank_line) ++ e) texts (All-tail IsShownIfSome (b ∷ s) texts all)
    ∙ ap (λ l. l ++ blocks (some_of texts)) (append_assoc (out ++ blank_line) e blank_line)
    ∙ append_assoc (out ++ blank_line) (e ++ blank_line) (blocks (some_of texts))
    ∙ ap (λ l. (out ++ blank_line) ++ blocks l) (sym (some_first b s texts))

-- line feeds, and then the texts with blank lines between
record ArePut (texts : List (List ℕ)) : Type 0 where
  lead : List ℕ
  line_feeds : Passes is_line_feed lead
  whole : all_put [] texts ≡ lead ++ blocks (some_of texts)

blank_line_passes : Passes is_line_feed blank_line
blank_line_passes =
    All-cons (λ b. is_line_feed b ≡ true) line_feed (line_feed ∷ []) refl
    (All-cons (λ b. is_line_feed b ≡ true) line_feed [] refl (All-nil (λ b. is_line_feed b ≡ true)))

are_put : (texts : List (List ℕ)) → All IsShownIfSome texts → ArePut texts
are_put [] all = record { lead = []; line_feeds = All-nil (λ b. is_line_feed b ≡ true); whole = refl }
are_put ([] ∷ texts) all = record {
  lead = blank_line ++ blank_line;
  line_feeds = All-append (λ b. is_line_feed b ≡ true) blank_line blank_line blank_line_passes blank_line_passes;
  whole = put_behind_blank_line blank_line texts (All-tail IsShownIfSome [] texts all);
}
are_put ((b ∷ s) ∷ texts) all =
    let e = escaped_markdown (b ∷ s) in record {
      lead = blank_line;
      line_feeds = blank_line_passes;
      whole = ap (λ l. all_put l texts)
          (put_first (b ∷ s) (All-head IsShownIfSome (b ∷ s) texts all (omega arith)))
          ∙ put_behind_blank_line (blank_line ++ e) texts (All-tail IsShownIfSome (b ∷ s) texts all)
          ∙ ap (λ l. l ++ blocks (some_of texts)) (append_assoc blank_line e blank_line)
          ∙ append_assoc blank_line (e ++ blank_line) (blocks (some_of texts))
          ∙ ap (λ l. blank_line ++ blocks l) (sym (some_first b s texts));
    }

-- without the white space at the ends, they read back
pub put_read : (texts : List (List ℕ))
    → texts_read (trimmed_text is_line_feed (trimmed_end is_document_white_space (all_put [] (map text_shown texts))))
    ≡ texts_shown texts
put_read texts =
    let all : All IsShownIfSome (map text_shown texts) =
    All-map IsShownIfSome text_shown texts (λ k d below. shown (get_or texts k d)) in
    let put = are_put (map text_shown texts) all in
    let left = some_of (map text_shown texts) in
    ap (λ l. texts_read (trimmed_text is_line_feed (trimmed_end is_document_white_space l))) put.whole
    ∙ ap texts_read (all_trimmed put.lead left put.line_feeds (some_shown (map text_shown texts) all))
    ∙ all_read left (some_shown (map text_shown texts) all)
