-- What all text of code says: the letters in it.
use Rattle.std.proofs.Common.{◌≡◌, ℕ, ◌≤◌, Bool, true, false, not, ◌||◌, List, [], ◌∷◌, ◌++◌, refl, sym, ap, ◌∙◌}
use Rattle.std.proofs.Common.{subst, length, arith}
use Rattle.std.specs.Prelude.{encode_utf8, encode_utf8_all, codes}
use Rattle.std.specs.List.{list_all}
use Rattle.std.specs.Str.{chars, IsUtf8}
use Rattle.std.proofs.lemmas.Bool.Decides.{nat_tests}
use Rattle.std.proofs.lemmas.Str.{encodes-chars, length-le-encodes}
use Rattle.htmd_lexical.specs.Characters.{line_feed}
use Rattle.htmd_lexical.specs.WhiteSpace.{is_ascii_white_space}
use Rattle.htmd_lexical.proofs.Cases.{test}
use Rattle.htmd_text.specs.Trims.{trimmed_text, is_line_feed}
use Rattle.htmd_shown.specs.declared.facts.Facts.{Facts}
use Rattle.htmd_shown.specs.declared.role.Role.{Role}
use Rattle.htmd_shown.specs.declared.role.Role.TheVariants as role
use Rattle.htmd_shown.specs.AllTexts.{all_text, all_text_among, text_in, ends_line, is_line, with_line_feeds, lines_of}
use Rattle.htmd_shown.specs.Attributes.{text_of, in_line, is_filled}
use Rattle.htmd_shown.specs.Kinds.{are_blank}
use Rattle.htmd_shown.specs.Marks.{letters, letters_of, letters_among}
use Rattle.htmd_shown.specs.SimpleTrees.{Simple, text, image, formula, embedded, anchor, element, Simples, none, more}
use Rattle.htmd_shown.specs.Spaces.{is_white, is_wide_space, is_blank_text}
use Rattle.htmd_shown.specs.Showings.{code_shows}
use Rattle.htmd_flow.specs.Flows.{code_parts}
use Rattle.htmd_flow.specs.Parts.{Around}
use Rattle.htmd_law_documents.specs.DocumentTexts.{visible}
use Rattle.htmd_law_documents.specs.SimpleForms.{IsMade, IsSound, AreSound}
use Rattle.htmd_law_documents.proofs.VisibleLemmas.{Shows, shows-append, shows-nil, shows-itself, shown-shows}
use Rattle.htmd_law_documents.proofs.VisibleLemmas.{seen-same}
use Rattle.htmd_law_documents.proofs.VisibleLemmas.{both-true}
use Rattle.htmd_law_documents.proofs.PiecesLemmas.{line_feed-white, pieces_seen, PiecesShow, pieces-show}
use Rattle.htmd_law_documents.proofs.PiecesLemmas.{in_line-shows}
use Rattle.htmd_law_documents.proofs.CodeLemmas.{feeds-show, trimmed-shows, blank-seen}
use Rattle.htmd_law_documents.proofs.ElementLemmas.{true-false, dollars-show, feed-shows, line-shows, blank-text}
use Rattle.htmd_law_documents.proofs.NormalTextLemmas.{PassesWide, encode-passes, and-true}
use Rattle.htmd_law_anchors.proofs.ShapeWritingLemmas.{any_fills}

-- ---- all text

element-letters : (r : Role) (facts : Facts) (content : Simples) (inner : List ℕ) → IsMade r facts content
    → Shows inner (letters_among content) → Shows (text_in r inner) (letters_among content)
element-letters role.LineBreak facts content inner m h =
    seen-same (line_feed ∷ []) [] (letters_among content) (sym (ap letters_among (m.empty refl))) feed-shows
element-letters r facts content inner m h =
    line-shows (is_line r inner) (ends_line inner) inner (letters_among content) h

mutual
  letters-said : (t : Simple) → IsSound t → Shows (all_text t) (letters_of t)
  letters-said (text s) u = shows-itself s u
  letters-said (image o attributes) u = shown-shows (text_of (codes "alt") attributes) u
  letters-said (formula tex is_alone attributes) u = dollars-show (in_line tex) (letters tex) (in_line-shows tex u)
  letters-said (embedded id place title attributes ids) u = shows-itself title u
  letters-said (anchor id) u = shows-nil
  letters-said (element id r facts attributes content) u =
      element-letters r facts content (all_text_among content) u.0 (all-letters-said content u.1)

  pub all-letters-said : (ts : Simples) → AreSound ts → Shows (all_text_among ts) (letters_among ts)
  all-letters-said none u = shows-nil
  all-letters-said (more t ts) u =
      shows-append (all_text t) (all_text_among ts) (letters_of t) (letters_among ts) (letters-said t u.0)
      (all-letters-said ts u.1)

unfilled : is_filled [] ≡ true → ⊥
unfilled e = grind (arith, nat_tests)

-- something is to see of it
abbrev IsSeen : List ℕ → Type 0
IsSeen s = visible s ≡ [] → ⊥

code-seen : (content : Simples) → AreSound content → code_shows content ≡ true → IsSeen (all_text_among content)
code-seen content u e v = unfilled (sym (ap is_filled (sym (all-letters-said content u).is ∙ v)) ∙ e)

-- nothing shows in what is blank
pub blank-code : (content : Simples) → AreSound content → are_blank content ≡ true → code_shows content ≡ true
    → ⊥
blank-code content u b e = code-seen content u e (blank-text content u b).is

pub code-black : (content : Simples) → AreSound content → code_shows content ≡ true
    → is_blank_text (with_line_feeds (all_text_among content)) ≡ false
code-black content u e =
    let all : List ℕ = all_text_among content in
    let shows : Shows (with_line_feeds all) (visible all) =
    feeds-show all (visible all) (shows-itself all (all-letters-said content u).utf8) in
    test (is_blank_text (with_line_feeds all))
    (λ b. absurd (code-seen content u e (sym shows.is ∙ blank-seen (with_line_feeds all) b))) (λ b. b)

-- one of the lines shows
lines-fill : (pieces : List (List ℕ)) (around : List Around) → (pieces_seen pieces ≡ [] → ⊥)
    → any_fills true (code_parts pieces around) ≡ true
lines-fill [] around s = absurd (s refl)
lines-fill (t ∷ pieces) around s = test (is_blank_text t)
    (λ e. ap (λ b. not b || any_fills true (code_parts pieces around)) e
    ∙ lines-fill pieces around (λ v. s (ap (λ x. x ++ pieces_seen pieces) (blank-seen t e) ∙ v)))
    (λ e. ap (λ b. not b || any_fills true (code_parts pieces around)) e)

pub code-fills : (content : Simples) (around : List Around) → AreSound content → code_shows content ≡ true
    → any_fills true (code_parts (lines_of (with_line_feeds (all_text_among content))) around) ≡ true
code-fills content around u e =
    let all : List ℕ = all_text_among content in
    let s : List ℕ = with_line_feeds all in
    let shows : Shows s (visible all) =
    feeds-show all (visible all) (shows-itself all (all-letters-said content u).utf8) in
    let t : List ℕ = trimmed_text is_line_feed s in
    let trimmed : Shows t (visible s) = trimmed-shows is_line_feed line_feed-white s shows.utf8 in
    let pieces : PiecesShow (lines_of s) (visible t) = pieces-show is_line_feed line_feed-white t trimmed.utf8 in
    lines-fill (lines_of s) around
    (λ n. code-seen content u e (sym shows.is ∙ (sym trimmed.is ∙ (pieces.is ∙ n))))

-- ---- white space of ASCII

all-first : (p : ℕ → Bool) (s t : List ℕ) → list_all p (s ++ t) ≡ true → list_all p s ≡ true
all-first p [] t h = refl
all-first p (b ∷ s) t h =
    let parts = both-true (p b) (list_all p (s ++ t)) h in and-true parts.0 (all-first p s t parts.1)

all-last : (p : ℕ → Bool) (s t : List ℕ) → list_all p (s ++ t) ≡ true → list_all p t ≡ true
all-last p [] t h = h
all-last p (b ∷ s) t h = all-last p s t (both-true (p b) (list_all p (s ++ t)) h).1

other-byte : ℕ → Bool
other-byte b = not (is_ascii_white_space b)

other-wide : PassesWide other-byte
unfolding other-byte
other-wide b l = grind (arith, nat_tests)

never-both : (s : List ℕ) → list_all is_ascii_white_space s ≡ true → list_all other-byte s ≡ true → s ≡ []
unfolding other-byte
never-both [] g h = refl
never-both (b ∷ s) g h =
    let w = both-true (is_ascii_white_space b) (list_all is_ascii_white_space s) g in
    let o = both-true (not (is_ascii_white_space b)) (list_all other-byte s) h in
    true-false (sym o.0 ∙ ap not w.0)

white-character : (c : ℕ) → list_all is_ascii_white_space (encode_utf8 c) ≡ true → is_white c ≡ true
unfolding other-byte
white-character c h = test (is_ascii_white_space c)
    (λ e. ap (λ b. b || is_wide_space c) e)
    (λ e. absurd (none (encode_utf8 c)
    (never-both (encode_utf8 c) h (encode-passes other-byte other-wide c (ap not e)))
    (length-le-encodes (c ∷ []))))
  where
    none : (s : List ℕ) → s ≡ [] → 1 ≤ length (s ++ []) → ⊥
    none s e l = short (subst (λ (x : List ℕ). 1 ≤ length (x ++ [])) e l)
      where
        short : 1 ≤ 0 → ⊥
        short l = omega arith

white-characters : (cs : List ℕ) → list_all is_ascii_white_space (encode_utf8_all cs) ≡ true
    → list_all is_white cs ≡ true
white-characters [] h = refl
white-characters (c ∷ cs) h =
    and-true (white-character c (all-first is_ascii_white_space (encode_utf8 c) (encode_utf8_all cs) h))
    (white-characters cs (all-last is_ascii_white_space (encode_utf8 c) (encode_utf8_all cs) h))

pub ascii-blank : (s : List ℕ) → IsUtf8 s → list_all is_ascii_white_space s ≡ true → is_blank_text s ≡ true
ascii-blank s u h = white-characters (chars s) (ap (list_all is_ascii_white_space) (encodes-chars s u) ∙ h)
