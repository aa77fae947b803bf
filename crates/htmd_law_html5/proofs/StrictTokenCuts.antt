-- Each piece of a text of the strict grammar is one token: a start tag, an end tag, a comment, a text.
use Rattle.std.proofs.Common.{◌≡◌, ◌≢◌, ℕ, Bool, true, false, not, ◌&&◌, ◌||◌, List, [], ◌∷◌, ◌++◌, length, drop, Some}
use Rattle.std.proofs.Common.{refl, sym, ap, ◌∙◌, arith, inl, inr, codes, append_assoc, subst}
use Rattle.std.specs.Prelude.{◌==◌, option_map}
use Rattle.std.specs.Char.{is_ascii_alphabetic}
use Rattle.std.proofs.lemmas.Bool.{and_parts, and_right, or_parts, or_from, not-true, eqb-true}
use Rattle.std.proofs.lemmas.Bool.Decides.{nat_tests}
use Rattle.std.proofs.lemmas.List.{append-nil}
use Rattle.htmd_lexical.proofs.Cases.{test}
use Rattle.htmd_lexical.specs.AttributePairs.{AttributePair}
use Rattle.htmd_lexical.specs.CharacterClasses.{is_among, begins_with, holds, lacks, up_to, onward, is_tag_name}
use Rattle.htmd_grammar.specs.Comments.{before_comment_end, IsComment}
use Rattle.htmd_lexical.specs.LineEnds.{normalized}
use Rattle.htmd_grammar.specs.References.{decode}
use Rattle.htmd_grammar.specs.Rules.{named_characters}
use Rattle.htmd_values.specs.Serialisation.{is_void}
use Rattle.htmd_grammar.specs.Tags.{IsStartTag, IsEndTag}
use Rattle.htmd_lexical.proofs.BooleanLemmas.{and_false, if_then}
use Rattle.htmd_grammar.proofs.CommentsLemmas.{map_some, Cut, cut, cut_same}
use Rattle.htmd_grammar.proofs.TextLemmas.{letter_not, run_head, stops_not}
use Rattle.htmd_html5_tokens.specs.Tokens.{TokenValue, start_tag, end_tag, text, comment, Read}
use Rattle.htmd_html5_tokens.specs.Comments.{ends_comment, read_comment}
use Rattle.htmd_html5_tokens.specs.Tags.{tag_from_name}
use Rattle.htmd_html5_tokens.specs.RawTexts.{reading_of}
use Rattle.htmd_html5_tokens.specs.NextToken.{next_token, read_text, read_piece}
use Rattle.htmd_lexical.specs.declared.content_model.ContentModel.TheVariants.{Normal}
use Rattle.htmd_lexical.specs.declared.content_model.RawElement.TheVariants.{Style}
use Rattle.htmd_law_html5.specs.StrictReferences.{Place, outside, in_tag, IsUnambiguousAt, IsUnambiguous}
use Rattle.htmd_law_html5.specs.StrictTokens.{tag_named}
use Rattle.htmd_law_html5.proofs.StrictReferencesLemmas.{Ending, ending_for_both, less_markup, no_slash, text_read}
use Rattle.htmd_law_html5.proofs.StrictTagsLemmas.{tag_read, raw_itself}
use Rattle.htmd_law_html5.proofs.StrictCuts.{unambiguous_back, unambiguous_front, EndsInSign, sign_before}
use Rattle.htmd_grammar.specs.RawContent as strict
use Rattle.htmd_html5_tokens.specs.NextToken as next

abbrev pub read : TokenValue → List ℕ → Read
read token rest = record { token = token; rest = rest }

-- ---- tags

letter_is : (b : ℕ) → is_ascii_alphabetic b ≡ true → ((b == 63) ≡ false) × ((b == 62) ≡ false)
letter_is b e = (grind (arith, nat_tests), grind (arith, nat_tests))

-- what begins with no empty piece
piece_next : (s : List ℕ) → begins_with (codes "</>") s ≡ false → next_token Normal false s ≡ read_piece
    false s
piece_next [] e = refl
piece_next (b ∷ s) e = rw e refl

name_next : (name s : List ℕ) → is_tag_name name ≡ true
    → (next_token Normal false (60 ∷ (name ++ s)) ≡ tag_from_name start_tag (name ++ s))
    × (next_token Normal false (60 ∷ 47 ∷ (name ++ s)) ≡ tag_from_name end_tag (name ++ s))
    × (next.begins_markup (60 ∷ (name ++ s)) ≡ true) × (next.begins_markup (60 ∷ 47 ∷ (name ++ s)) ≡ true)
name_next [] s e = absurd (cc)
name_next (b ∷ name) s e =
    let k = and_parts (is_ascii_alphabetic b) _ e in
    let n = letter_not b k.0 in
    let q = letter_is b k.0 in (
      piece_next (60 ∷ b ∷ (name ++ s)) (rw n.0 refl) ∙ rw (k.0, n.1, q.0, n.0) refl,
      piece_next (60 ∷ 47 ∷ b ∷ (name ++ s)) (rw q.1 refl) ∙ rw (q.1, k.0) refl,
      rw k.0 refl,
      rw q.1 refl,
    )

-- a start tag is one token, and markup
pub start_read : (tag n x : List ℕ) (attributes : List AttributePair) → IsStartTag named_characters tag n attributes
    → IsUnambiguousAt in_tag (tag ++ x)
    → (slash : Bool) × (next_token Normal false (tag ++ x) ≡ read (start_tag (tag_named n attributes slash)) x)
    × (slash ≡ true → is_void n ≡ true) × (next.begins_markup (tag ++ x) ≡ true)
start_read tag n x attributes h k =
    let f = h.2 in
    let e = ap (λ (y : List ℕ). y ++ x) f.2 ∙ ap (λ (y : List ℕ). 60 ∷ y) (append_assoc f.0 f.1 x) in
    let m = unambiguous_back f.0 (f.1 ++ x) (unambiguous_back (60 ∷ []) (f.0 ++ (f.1 ++ x))
    (subst (IsUnambiguousAt in_tag) e k)) in
    let w = name_next f.0 (f.1 ++ x) f.3 in (
      h.1,
      ap (next_token Normal false) e ∙ w.0
          ∙ tag_read start_tag f.0 n h.0 attributes h.1 f.1 x f.3 f.4 f.5 m h.3 h.4,
      h.5,
      ap next.begins_markup e ∙ w.2,
    )

-- and so is an end tag, from its name on too, where it ends raw text
pub raw_end_read : (tag n x : List ℕ) → IsEndTag tag n → IsUnambiguousAt in_tag (tag ++ x)
    → (s : List ℕ) × (tag ++ x ≡ 60 ∷ 47 ∷ s)
    × (tag_from_name end_tag s ≡ read (end_tag (tag_named n [] false)) x)
    × (next_token Normal false (60 ∷ 47 ∷ s) ≡ tag_from_name end_tag s)
    × (next.begins_markup (60 ∷ 47 ∷ s) ≡ true)
raw_end_read tag n x h k =
    let gap : List ℕ = h.1 ++ 62 ∷ [] in
    let e = ap (λ (y : List ℕ). y ++ x) h.2 ∙ ap (λ (y : List ℕ). 60 ∷ 47 ∷ y) (append_assoc h.0 gap x) in
    let m = unambiguous_back h.0 (gap ++ x) (unambiguous_back (60 ∷ 47 ∷ []) (h.0 ++ (gap ++ x))
    (subst (IsUnambiguousAt in_tag) e k)) in
    let w = name_next h.0 (gap ++ x) h.3 in
    (h.0 ++ (gap ++ x), e, tag_read end_tag h.0 n [] [] false gap x h.3 h.5 (h.1, refl, h.4) m refl refl, w.1, w.3)

-- the same of the whole tag
pub end_read : (tag n x : List ℕ) → IsEndTag tag n → IsUnambiguousAt in_tag (tag ++ x)
    → (next_token Normal false (tag ++ x) ≡ read (end_tag (tag_named n [] false)) x)
    × (next.begins_markup (tag ++ x) ≡ true) × ((t : List ℕ) × (tag ++ x ≡ 60 ∷ t))
end_read tag n x h k =
    let r = raw_end_read tag n x h k in
    (ap (next_token Normal false) r.1 ∙ r.3 ∙ r.2, ap next.begins_markup r.1 ∙ r.4, (47 ∷ r.0, r.1))

-- ---- comments

begins_split : (n s : List ℕ) → begins_with n s ≡ true → s ≡ n ++ drop (length n) s
begins_split [] s e = refl
begins_split (c ∷ n) [] e = absurd (cc)
begins_split (c ∷ n) (b ∷ s) e =
    let k = and_parts (b == c) (begins_with n s) e in
    rw (eqb-true b c k.0) (ap (λ (y : List ℕ). c ∷ y) (begins_split n s k.1))

abbrev cons_cut : ℕ → Cut → Cut
cons_cut b q = (b ∷ q.0, q.1)

-- what comes before `-->`
close_split : (s u : List ℕ) → before_comment_end s ≡ cut u [] → s ≡ u ++ codes "-->"
close_split [] u e = absurd (cc)
close_split (b ∷ s) u e =
    elim (if_then (begins_with (codes "-->") (b ∷ s)) (cut [] (drop 2 s))
    (option_map (cons_cut b) (before_comment_end s)) (cut u []) e) [
      | inl w ↦
          let q = cut_same [] (drop 2 s) u [] w.1 in
          begins_split (codes "-->") (b ∷ s) w.0 ∙ ap (λ (y : List ℕ). codes "-->" ++ y) q.1
          ∙ ap (λ (y : List ℕ). y ++ codes "-->") q.0
      | inr w ↦
          let m = map_some (cons_cut b) (before_comment_end s) (u, []) w.1 in
          let q = cut_same (b ∷ (m.0).0) (m.0).1 u [] (ap (λ (x : Cut). cut (x.0) (x.1)) m.2) in
          let f : before_comment_end s ≡ cut (m.0).0 [] = m.1 ∙ ap (λ (y : List ℕ). cut (m.0).0 y) q.1 in
          ap (λ (y : List ℕ). b ∷ y) (close_split s (m.0).0 f) ∙ ap (λ (y : List ℕ). y ++ codes "-->") q.0
    ]

-- a comment doesn't end here
not_ended : (b c d f : ℕ) (s : List ℕ) → begins_with (codes "-->") (b ∷ c ∷ d ∷ f ∷ s) ≡ false
    → begins_with (codes "--!>") (b ∷ c ∷ d ∷ f ∷ s) ≡ false → ends_comment
    (b ∷ c ∷ d ∷ f ∷ s) ≡ false
not_ended b c d f s e g =
    or_from (begins_with (codes "-->") (b ∷ c ∷ d ∷ f ∷ s) || begins_with (codes "--!>")
    (b ∷ c ∷ d ∷ f ∷ s)) _ (or_from (begins_with (codes "-->") (b ∷ c ∷ d ∷ f ∷ s))
    (begins_with (codes "--!>") (b ∷ c ∷ d ∷ f ∷ s)) e g) (too_long b c d f s)
  where
    too_long : (b c d f : ℕ) (s : List ℕ)
        → is_among (codes "-" ∷ codes "--" ∷ codes "--!" ∷ []) (b ∷ c ∷ d ∷ f ∷ s) ≡ false
    too_long b c d f s =
        test (b == 45) (λ t. test (c == 45) (λ q. test (d == 33) (λ x. rw (t, q, x) refl) (λ x. rw (t, q, x) refl))
        (λ q. rw (t, q) refl)) (λ t. rw t refl)

goes_on : (b : ℕ) (u rest : List ℕ) → begins_with (codes "-->") (b ∷ (u ++ codes "-->")) ≡ false
    → begins_with (codes "--!>") (b ∷ u) ≡ false → ends_comment (b ∷ (u ++ (codes "-->" ++ rest))) ≡ false
goes_on b [] rest e g = not_ended b 45 45 62 rest e (and_false (b == 45))
goes_on b (c ∷ []) rest e g =
    not_ended b c 45 45 (62 ∷ rest) e (and_right (b == 45) _ (and_false (c == 45)))
goes_on b (c ∷ d ∷ []) rest e g =
    not_ended b c d 45 (45 ∷ 62 ∷ rest) e
    (and_right (b == 45) _ (and_right (c == 45) _ (and_false (d == 33))))
goes_on b (c ∷ d ∷ f ∷ u) rest e g = not_ended b c d f (u ++ (codes "-->" ++ rest)) e g

comment_run : (u rest : List ℕ) → before_comment_end (u ++ codes "-->") ≡ cut u [] → holds (codes "--!>")
    u ≡ false → (up_to ends_comment (u ++ (codes "-->" ++ rest)) ≡ u)
    × (onward ends_comment (u ++ (codes "-->" ++ rest)) ≡ codes "-->" ++ rest)
comment_run [] rest e g = (refl, refl)
comment_run (b ∷ u) rest e g =
    let k = or_parts (begins_with (codes "--!>") (b ∷ u)) (holds (codes "--!>") u) g in
    elim (if_then (begins_with (codes "-->") (b ∷ (u ++ codes "-->"))) (cut [] (drop 2 (u ++ codes "-->")))
    (option_map (cons_cut b) (before_comment_end (u ++ codes "-->"))) (cut (b ∷ u) []) e) [
      | inl w ↦ absurd (let q = cut_same [] _ (b ∷ u) [] w.1 in let z = q.0 in cc)
      | inr w ↦
          let m = map_some (cons_cut b) (before_comment_end (u ++ codes "-->")) (b ∷ u, []) w.1 in
          let q = cut_same (b ∷ (m.0).0) (m.0).1 (b ∷ u) [] (ap (λ (x : Cut). cut (x.0) (x.1)) m.2) in
          let r : (m.0).0 ≡ u = cc in
          let f : before_comment_end (u ++ codes "-->") ≡ cut u [] =
          m.1 ∙ ap (λ (y : List ℕ). cut (m.0).0 y) q.1 ∙ ap (λ (y : List ℕ). cut y []) r in
          let i = comment_run u rest f k.1 in
          let n = goes_on b u rest w.0 k.0 in
          (rw (n, i.0) refl, rw (n, i.1) refl)
    ]

-- it doesn't end at once either
not_at_once : (u rest : List ℕ) → begins_with (codes ">") u ≡ false → begins_with (codes "->") u ≡ false
    → (begins_with (codes ">") (u ++ (codes "-->" ++ rest)) ≡ false)
    × (begins_with (codes "->") (u ++ (codes "-->" ++ rest)) ≡ false)
not_at_once [] rest e g = (refl, refl)
not_at_once (b ∷ []) rest e g = (e, and_false (b == 45))
not_at_once (b ∷ c ∷ u) rest e g = (e, g)

pub lines_same : (s : List ℕ) → lacks 13 s ≡ true → normalized s ≡ s
lines_same [] e = refl
lines_same (b ∷ s) e =
    let k = and_parts (not (b == 13)) (lacks 13 s) e in
    rw (not-true (b == 13) k.0, lines_same s k.1) refl

-- a comment is one token
pub comment_read : (s u x : List ℕ) → IsComment s u → IsUnambiguousAt in_tag (s ++ x)
    → (next_token Normal false (s ++ x) ≡ read (comment u) x) × (next.begins_markup (s ++ x) ≡ true)
comment_read s u x h k =
    let body : List ℕ = h.1 in
    let split : h.0 ≡ body ++ codes "-->" = close_split h.0 body h.3 in
    let e : s ++ x ≡ codes "<!--" ++ (body ++ (codes "-->" ++ x)) =
    ap (λ (y : List ℕ). y ++ x) h.2 ∙ ap (λ (y : List ℕ). codes "<!--" ++ (y ++ x)) split
    ∙ ap (λ (y : List ℕ). codes "<!--" ++ y) (append_assoc body (codes "-->") x) in
    let p = and_parts (not (begins_with (codes ">") body) && not (begins_with (codes "->") body)) _ h.4 in
    let q = and_parts (not (begins_with (codes ">") body)) (not (begins_with (codes "->") body)) p.0 in
    let once = not_at_once body x (not-true _ q.0) (not-true _ q.1) in
    let run = comment_run body x (ap before_comment_end (sym split) ∙ h.3) (not-true _ p.1) in
    let b : IsUnambiguousAt in_tag body = unambiguous_front body (codes "-->" ++ x)
    (unambiguous_back (codes "<!--") (body ++ (codes "-->" ++ x)) (subst (IsUnambiguousAt in_tag) e k)) refl refl refl
    in
    let same : u ≡ body = h.5 ∙ lines_same body b.line_feeds in
    let token : read_comment (body ++ (codes "-->" ++ x)) ≡ read (comment u) x =
    rw (once.0, once.1, run.0, run.1, raw_itself (reading_of Style) refl refl body b.no_null, same) refl in
    (ap (next_token Normal false) e ∙ token, ap next.begins_markup e)

pub comment_sign : (s u : List ℕ) → IsComment s u → EndsInSign s
comment_sign s u h =
    let split : h.0 ≡ h.1 ++ codes "-->" = close_split h.0 h.1 h.3 in
    let e : s ≡ codes "<!--" ++ (h.1 ++ codes "-->") = h.2 ∙ ap (λ (y : List ℕ). codes "<!--" ++ y) split in
    subst EndsInSign (sym e)
    (sign_before (codes "<!--") (h.1 ++ codes "-->") (sign_before h.1 (codes "-->") (codes "--", refl)))

-- ---- texts

text_next : (b : ℕ) (s : List ℕ) → strict.begins_markup (b ∷ s) ≡ false
    → next_token Normal false (b ∷ s) ≡ read_text (b ∷ s)
text_next b s e = piece_next (b ∷ s) (no_slash b s e) ∙ rw (less_markup (b ∷ s) e) refl

-- what comes before markup, or the end, is unambiguous
pub unambiguous_before : (here : Place) (s x : List ℕ) → Ending x → IsUnambiguousAt here (s ++ x)
    → IsUnambiguousAt here s
unambiguous_before here s x (inl e) k = subst (IsUnambiguousAt here) (ap (λ (y : List ℕ). s ++ y) e
    ∙ append-nil s) k
unambiguous_before here s [] (inr e) k = absurd (cc)
unambiguous_before here s (b ∷ x) (inr e) k =
    let q : b ≡ 60 = eqb-true b 60 (and_parts (b == 60) (next.is_markup x) e).0 in
    unambiguous_front s (b ∷ x) k (rw q refl) (rw q refl) (rw q refl)

-- a text before markup, or at the end, is one token
pub text_token_read : (s u x : List ℕ) → s ≢ [] → decode named_characters 0 s ≡ Some u
    → up_to strict.begins_markup s ≡ s → Ending x → IsUnambiguous (s ++ x)
    → next_token Normal false (s ++ x) ≡ read (text u) x
text_token_read [] u x n e l h k = absurd (n refl)
text_token_read (b ∷ s) u x n e l h k =
    let p = stops_not false [] b s x (ending_for_both x h) (run_head strict.begins_markup b s l).0 in
    text_next b (s ++ x) p ∙ text_read (b ∷ s) u x (unambiguous_before outside (b ∷ s) x h k) e l h
