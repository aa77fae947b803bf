-- What holds of each character of a text holds of those of the text in one line.
use Rattle.std.proofs.Common.{◌≡◌, ℕ, ◌<◌, Bool, true, false, cond, not, ◌&&◌, List, [], ◌∷◌, ◌++◌, refl}
use Rattle.std.proofs.Common.{sym, ap, ◌∙◌, subst, arith, length, get_or, filter, fold, append_assoc}
use Rattle.std.specs.Prelude.{◌==◌}
use Rattle.std.specs.List.{list_all, flat_map, slice_split, onto_first}
use Rattle.std.specs.Str.{chars, IsUtf8}
use Rattle.std.proofs.Math.Seq.{take-append_seam, drop-append_seam, get_or-append_seam}
use Rattle.std.proofs.Math.Utf8.{scalars, scalar}
use Rattle.std.proofs.lemmas.Bool.Decides.{nat_tests}
use Rattle.std.proofs.lemmas.List.{append-nil, length-append}
use Rattle.std.proofs.lemmas.Str.{IsUtf8-take, IsUtf8-drop, IsCharBoundary-before_ascii, IsUtf8-past_char, encode_ascii}
use Rattle.std.proofs.lemmas.Str.{IsUtf8-append, IsUtf8-nil, chars-append, chars-nil, chars-encodes, scalars-chars}
use Rattle.htmd_lexical.specs.Characters.{carriage_return, line_feed, space}
use Rattle.htmd_lexical.specs.WhiteSpace.{is_ascii_white_space}
use Rattle.htmd_lexical.proofs.Cases.{test}
use Rattle.htmd_text.proofs.PlainTextLemmas.{chars_ascii}
use Rattle.htmd_text.specs.Joins.{joined_texts}
use Rattle.htmd_shown.specs.AllTexts.{Lines, no_lines, written_for, with_character, with_line_feeds}
use Rattle.htmd_shown.specs.Attributes.{is_filled, words, in_line}
use Rattle.htmd_shown.specs.Marks.{is_seen, letters}
use Rattle.htmd_shown.specs.ShownTexts.{is_shown, shown_text}
use Rattle.htmd_shown.specs.Spaces.{is_white, is_blank_text}
use Rattle.htmd_law_documents.proofs.NormalTextLemmas.{and-true}
use Rattle.htmd_law_documents.proofs.PiecesLemmas.{AreAsciiWhite, ascii-white, space-shows}
use Rattle.htmd_law_documents.proofs.VisibleLemmas.{both-true, scalars-filter, shown-shows}

module _ (q : ℕ → Bool) where
  -- a text of such characters
  pub record Has (s : List ℕ) : Type 0 where
    pub utf8 : IsUtf8 s
    pub all : list_all q (chars s) ≡ true

  abbrev AllHave : List (List ℕ) → Type 0
  AllHave [] = Unit {0}
  AllHave (s ∷ pieces) = Has s × AllHave pieces

  pub all-append : (xs ys : List ℕ) → list_all q xs ≡ true → list_all q ys ≡ true
      → list_all q (xs ++ ys) ≡ true
  all-append [] ys g h = h
  all-append (x ∷ xs) ys g h =
      let parts = both-true (q x) (list_all q xs) g in and-true parts.0 (all-append xs ys parts.1 h)

  all-first : (xs ys : List ℕ) → list_all q (xs ++ ys) ≡ true → list_all q xs ≡ true
  all-first [] ys h = refl
  all-first (x ∷ xs) ys h =
      let parts = both-true (q x) (list_all q (xs ++ ys)) h in and-true parts.0 (all-first xs ys parts.1)

  all-last : (xs ys : List ℕ) → list_all q (xs ++ ys) ≡ true → list_all q ys ≡ true
  all-last [] ys h = h
  all-last (x ∷ xs) ys h = all-last xs ys (both-true (q x) (list_all q (xs ++ ys)) h).1

  pub has-nil : Has []
  has-nil = record { utf8 = IsUtf8-nil; all = ap (list_all q) chars-nil }

  pub has-append : (s t : List ℕ) → Has s → Has t → Has (s ++ t)
  has-append s t g h = record {
    utf8 = IsUtf8-append s t g.utf8 h.utf8;
    all = ap (list_all q) (chars-append s t g.utf8) ∙ all-append (chars s) (chars t) g.all h.all;
  }

  -- ---- where a text is cut

  record IsCut (xs ys : List ℕ) : Type 0 where
    front : Has xs
    rest : Has ys

  cut : (xs : List ℕ) (b : ℕ) (ys : List ℕ) → b < 128 → Has (xs ++ b ∷ ys) → IsCut xs ys
  cut xs b ys l h =
      let n : ℕ = length xs in
      let all : List ℕ = xs ++ b ∷ ys in
      let here : get_or all n 0 ≡ b = get_or-append_seam xs b ys 0 in
      let within : n < length all = omega (arith, length-append xs (b ∷ ys)) in
      let boundary = IsCharBoundary-before_ascii all n within (subst (λ (c : ℕ). c < 128) (sym here) l) in
      let front : IsUtf8 xs = subst IsUtf8 (take-append_seam xs (b ∷ ys)) (IsUtf8-take all n h.utf8 boundary) in
      let rest : IsUtf8 (b ∷ ys) = subst IsUtf8 (drop-append_seam xs (b ∷ ys))
      (IsUtf8-drop all n h.utf8 boundary) in
      let both : list_all q (chars xs ++ chars (b ∷ ys)) ≡ true =
      ap (list_all q) (sym (chars-append xs (b ∷ ys) front)) ∙ h.all in
      let last : list_all q (b ∷ chars ys) ≡ true =
      ap (list_all q) (sym (chars_ascii b ys l)) ∙ all-last (chars xs) (chars (b ∷ ys)) both in
      record {
        front = record { utf8 = front; all = all-first (chars xs) (chars (b ∷ ys)) both };
        rest = record {
          utf8 = IsUtf8-past_char (b ∷ ys) ys b rest (ap (λ t. t ++ ys) (sym (encode_ascii b l)));
          all = (both-true (q b) (list_all q (chars ys)) last).1;
        };
      }

  -- ---- pieces

  abbrev onto : List ℕ → List (List ℕ) → List (List ℕ)
  onto xs [] = xs ∷ []
  onto xs (s ∷ pieces) = (xs ++ s) ∷ pieces

  onto-more : (xs : List ℕ) (b : ℕ) (pieces : List (List ℕ))
      → onto xs (onto_first b pieces) ≡ onto (xs ++ b ∷ []) pieces
  onto-more xs b [] = refl
  onto-more xs b (s ∷ pieces) = ap (λ t. t ∷ pieces) (sym (append_assoc xs (b ∷ []) s))

  onto-either : (c : Bool) (b : ℕ) (pieces : List (List ℕ))
      → onto [] (cond c ([] ∷ pieces) (onto_first b pieces)) ≡ cond c ([] ∷ pieces) (onto_first b pieces)
  onto-either true b pieces = refl
  onto-either false b [] = refl
  onto-either false b (s ∷ pieces) = refl

  module _ (p : ℕ → Bool) (a : AreAsciiWhite p) where
    onto-none : (s : List ℕ) → onto [] (slice_split p s) ≡ slice_split p s
    onto-none [] = refl
    onto-none (b ∷ s) = onto-either (p b) b (slice_split p s)

    split-ended : (b : ℕ) (s xs : List ℕ) → p b ≡ true → Has (xs ++ b ∷ s)
        → (Has s → AllHave (onto [] (slice_split p s))) → AllHave (onto xs ([] ∷ slice_split p s))
    split-ended b s xs e h next =
        let k : IsCut xs s = cut xs b s (a.ascii b e) h in
        (subst Has (sym (append-nil xs)) k.front, subst AllHave (onto-none s) (next k.rest))

    split-has : (s xs : List ℕ) → Has (xs ++ s) → AllHave (onto xs (slice_split p s))
    split-has [] xs h = (h, tt)
    split-has (b ∷ s) xs h =
        let none : Has s → AllHave (onto [] (slice_split p s)) = λ v. split-has s [] v in
        let one : Has ((xs ++ b ∷ []) ++ s) → AllHave (onto (xs ++ b ∷ []) (slice_split p s)) =
        λ v. split-has s (xs ++ b ∷ []) v in
        test (p b)
        (λ e. subst (λ (c : Bool). AllHave
        (onto xs (cond c ([] ∷ slice_split p s) (onto_first b (slice_split p s)))))
        (sym e) (split-ended b s xs e h none))
        (λ e. subst (λ (c : Bool). AllHave
        (onto xs (cond c ([] ∷ slice_split p s) (onto_first b (slice_split p s)))))
        (sym e)
        (subst AllHave (sym (onto-more xs b (slice_split p s)))
        (one (subst Has (sym (append_assoc xs (b ∷ []) s)) h))))

    pieces-have : (s : List ℕ) → Has s → AllHave (slice_split p s)
    pieces-have s h = subst AllHave (onto-none s) (split-has s [] h)

  filled-have : (pieces : List (List ℕ)) → AllHave pieces → AllHave (filter is_filled pieces)
  filled-have [] h = tt
  filled-have (s ∷ pieces) h = either (is_filled s) (filled-have pieces h.1)
    where
      either : (b : Bool) → AllHave (filter is_filled pieces)
          → AllHave (cond b (s ∷ filter is_filled pieces) (filter is_filled pieces))
      either true g = (h.0, g)
      either false g = g

  module _ (sp : q space ≡ true) where
    space-has : Has (space ∷ [])
    space-has = record {
      utf8 = space-shows.utf8;
      all = ap (list_all q) (chars_ascii space [] (omega arith) ∙ ap (λ cs. space ∷ cs) chars-nil)
          ∙ and-true sp refl;
    }

    more-have : (pieces : List (List ℕ)) → AllHave pieces
        → Has (flat_map (λ next. (space ∷ []) ++ next) pieces)
    more-have [] h = has-nil
    more-have (s ∷ pieces) h =
        has-append ((space ∷ []) ++ s) (flat_map (λ next. (space ∷ []) ++ next) pieces)
        (has-append (space ∷ []) s space-has h.0) (more-have pieces h.1)

    joined-has : (pieces : List (List ℕ)) → AllHave pieces → Has (joined_texts (space ∷ []) pieces)
    joined-has [] h = has-nil
    joined-has (s ∷ pieces) h =
        has-append s (flat_map (λ next. (space ∷ []) ++ next) pieces) h.0 (more-have pieces h.1)

    pub in_line-has : (s : List ℕ) → Has (shown_text s) → Has (in_line s)
    in_line-has s h =
        joined-has (words (shown_text s))
        (filled-have (slice_split is_ascii_white_space (shown_text s))
        (pieces-have is_ascii_white_space ascii-white (shown_text s) h))

-- ---- what shows

all-shown : (cs : List ℕ) → list_all is_shown (filter is_shown cs) ≡ true
all-shown [] = refl
all-shown (c ∷ cs) = either (is_shown c) refl (all-shown cs)
  where
    either : (b : Bool) → is_shown c ≡ b → list_all is_shown (filter is_shown cs) ≡ true
        → list_all is_shown (cond b (c ∷ filter is_shown cs) (filter is_shown cs)) ≡ true
    either true e h = ap (λ b. b && list_all is_shown (filter is_shown cs)) e ∙ h
    either false e h = h

shown-chars : (s : List ℕ) → IsUtf8 s → chars (shown_text s) ≡ filter is_shown (chars s)
shown-chars s u = chars-encodes (filter is_shown (chars s)) (scalars-filter is_shown (chars s) (scalars-chars s u))

abbrev pub AllShown : List ℕ → Type 0
AllShown s = Has is_shown s

pub shown-all : (s : List ℕ) → IsUtf8 s → AllShown (shown_text s)
shown-all s u = record {
  utf8 = (shown-shows s u).utf8;
  all = ap (list_all is_shown) (shown-chars s u) ∙ all-shown (chars s);
}

pub line-all : (s : List ℕ) → IsUtf8 s → AllShown (in_line s)
line-all s u = in_line-has is_shown shown s (shown-all s u)
  where
    shown : is_shown space ≡ true
    shown = grind (arith, nat_tests)

-- nothing is seen of white space alone
unseen-white : (cs : List ℕ) → list_all is_shown cs ≡ true → filter is_seen cs ≡ []
    → list_all is_white cs ≡ true
unseen-white [] h e = refl
unseen-white (c ∷ cs) h e =
    let parts = both-true (is_shown c) (list_all is_shown cs) h in
    either (is_white c) refl parts.0 (unseen-white cs parts.1) e
  where
    clash : c ∷ filter is_seen cs ≡ [] → ⊥
    clash e = (cc)

    either : (b : Bool) → is_white c ≡ b → is_shown c ≡ true
        → (filter is_seen cs ≡ [] → list_all is_white cs ≡ true)
        → cond (is_shown c && not (is_white c)) (c ∷ filter is_seen cs) (filter is_seen cs) ≡ []
        → (is_white c && list_all is_white cs) ≡ true
    either true w s next f =
        and-true w (next (sym (ap (λ b. cond b (c ∷ filter is_seen cs) (filter is_seen cs))
        (ap (λ b. is_shown c && not b) w ∙ none (is_shown c))) ∙ f))
      where
        none : (x : Bool) → (x && false) ≡ false
        none true = refl
        none false = refl
    either false w s next f =
        absurd (clash (sym (ap (λ b. cond b (c ∷ filter is_seen cs) (filter is_seen cs))
        (ap (λ b. b && not (is_white c)) s ∙ ap not w)) ∙ f))

pub no-letters : (s : List ℕ) → AllShown s → letters s ≡ [] → is_blank_text s ≡ true
no-letters s h e = unseen-white (chars s) h.all e

shown-letters : (cs : List ℕ) → filter is_seen (filter is_shown cs) ≡ filter is_seen cs
shown-letters [] = refl
shown-letters (c ∷ cs) = either (is_shown c) refl (shown-letters cs)
  where
    either : (b : Bool) → is_shown c ≡ b → filter is_seen (filter is_shown cs) ≡ filter is_seen cs
        → filter is_seen (cond b (c ∷ filter is_shown cs) (filter is_shown cs))
        ≡ cond (is_shown c && not (is_white c)) (c ∷ filter is_seen cs) (filter is_seen cs)
    either true s next = ap (λ xs. cond (is_seen c) (c ∷ xs) xs) next
    either false s next =
        next ∙ sym (ap (λ b. cond (b && not (is_white c)) (c ∷ filter is_seen cs) (filter is_seen cs)) s)

-- of what shows of a text
pub no-shown_letters : (s : List ℕ) → IsUtf8 s → letters s ≡ [] → is_blank_text (shown_text s) ≡ true
no-shown_letters s u e =
    no-letters (shown_text s) (shown-all s u)
    (ap (filter is_seen) (shown-chars s u) ∙ (shown-letters (chars s) ∙ e))

-- white space in one line
pub blank-line : (s : List ℕ) → IsUtf8 s → is_blank_text (shown_text s) ≡ true
    → is_blank_text (in_line s) ≡ true
blank-line s u e = (in_line-has is_white white s (record { utf8 = (shown-shows s u).utf8; all = e })).all
  where
    white : is_white space ≡ true
    white = grind (arith, nat_tests)

-- ---- lines

scalars-append : (xs ys : List ℕ) → scalars xs ≡ true → scalars ys ≡ true → scalars (xs ++ ys) ≡ true
scalars-append [] ys g h = h
scalars-append (x ∷ xs) ys g h =
    let parts = both-true (scalar x) (scalars xs) g in
    ap (λ b. b && scalars (xs ++ ys)) parts.0 ∙ scalars-append xs ys parts.1 h

record White (cs : List ℕ) : Type 0 where
  are_scalars : scalars cs ≡ true
  white : list_all is_white cs ≡ true

feed-white : White (line_feed ∷ [])
feed-white = record { are_scalars = refl; white = white }
  where
    one : is_white line_feed ≡ true
    one = grind (arith, nat_tests)

    white : (is_white line_feed && true) ≡ true
    white = and-true one refl

written-white : (after : Bool) (c : ℕ) → scalar c ≡ true → is_white c ≡ true → White (written_for after c)
written-white after c s w = either (c == carriage_return) ((c == line_feed) && after)
  where
    either : (a b : Bool) → White (cond a (line_feed ∷ []) (cond b [] (c ∷ [])))
    either true b = feed-white
    either false true = record { are_scalars = refl; white = refl }
    either false false = record { are_scalars = and-true s refl; white = and-true w refl }

lines-white : (cs : List ℕ) (l : Lines) → White cs → White l.written → White (fold with_character l cs).written
lines-white [] l h g = g
lines-white (c ∷ cs) l h g =
    let s = both-true (scalar c) (scalars cs) h.are_scalars in
    let w = both-true (is_white c) (list_all is_white cs) h.white in
    let new : White (written_for l.after_return c) = written-white l.after_return c s.0 w.0 in
    lines-white cs (with_character l c) (record { are_scalars = s.1; white = w.1 })
    (record {
      are_scalars = scalars-append l.written (written_for l.after_return c) g.are_scalars new.are_scalars;
      white = all-append is_white l.written (written_for l.after_return c) g.white new.white;
    })

-- white space alone, with each line end as one line feed
pub blank-feeds : (s : List ℕ) → IsUtf8 s → is_blank_text s ≡ true
    → is_blank_text (with_line_feeds s) ≡ true
blank-feeds s u e =
    let all : White (fold with_character no_lines (chars s)).written =
    lines-white (chars s) no_lines (record { are_scalars = scalars-chars s u; white = e })
    (record { are_scalars = refl; white = refl }) in
    ap (list_all is_white) (chars-encodes (fold with_character no_lines (chars s)).written all.are_scalars)
    ∙ all.white
