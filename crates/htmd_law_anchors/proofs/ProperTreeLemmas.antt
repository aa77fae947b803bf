-- What shows of a page: each link in it that shows counts.
use Rattle.std.proofs.Common.{◌≡◌, ℕ, Bool, true, false, cond, not, ◌&&◌, ◌||◌, List, [], ◌∷◌, ◌++◌, refl, sym, ap, ◌∙◌}
use Rattle.std.proofs.Common.{Option, Some, None, ◌⊎◌, inl, inr, arith}
use Rattle.std.specs.Prelude.{codes, is_some, nat_lt}
use Rattle.std.specs.Str.{chars, IsUtf8}
use Rattle.std.proofs.lemmas.Bool.Decides.{nat_tests}
use Rattle.htmd_lexical.specs.AttributePairs.{AttributePair}
use Rattle.htmd_lexical.specs.Characters.{line_feed}
use Rattle.htmd_lexical.proofs.Cases.{test}
use Rattle.htmd_shown.specs.declared.role.Role.{Role}
use Rattle.htmd_shown.specs.declared.role.Role.TheVariants as role
use Rattle.htmd_shown.specs.AllTexts.{all_text, all_text_among, text_in, ends_line, is_line, dollar_sign}
use Rattle.htmd_shown.specs.Attributes.{text_of, is_filled, is_to_part}
use Rattle.htmd_shown.specs.Marks.{letters, letters_of, letters_among, has_image, have_image, is_one, is_mark}
use Rattle.htmd_shown.specs.Marks.{is_usual_sign}
use Rattle.htmd_shown.specs.Roles.{is_heading, is_link, is_verbatim, is_line_break}
use Rattle.htmd_shown.specs.ShownTexts.{shown_text}
use Rattle.htmd_shown.specs.Showings.{image_shows, code_shows}
use Rattle.htmd_shown.specs.SimpleTrees.{Simple, text, image, formula, embedded, anchor, element, Simples, none, more}
use Rattle.htmd_shown.specs.Spaces.{is_white, is_blank_text}
use Rattle.htmd_document_of_tree.specs.declared.leadings.Layout.TheVariants as layout
use Rattle.htmd_document_of_tree.specs.Leadings.{is_unlinked as is_free, has_leaf, have_leaf}
use Rattle.htmd_document_of_tree.specs.Limits.{address_of, is_carrying, size, cost, paid, left_after, emptied, within}
use Rattle.htmd_document_of_tree.specs.Limits.{all_within, budget, limited}
use Rattle.htmd_law_documents.specs.SimpleForms.{IsSound, AreSound}
use Rattle.htmd_law_documents.proofs.ElementLemmas.{false-true, true-false, feed-shows}
use Rattle.htmd_law_documents.proofs.NormalTextLemmas.{and-true}
use Rattle.htmd_law_documents.proofs.PiecesLemmas.{unfilled}
use Rattle.htmd_law_documents.proofs.VisibleLemmas.{both-true, shown-shows}
use Rattle.htmd_law_anchors.proofs.LinkLeadLemmas.{is_unlinked, IsQuiet, AreQuiet, IsCalm, AreCalm}
use Rattle.htmd_law_anchors.proofs.LinkTreeLemmas.{image_gives, code_gives}
use Rattle.htmd_law_anchors.proofs.SeenTextLemmas.{Has, has-nil, has-append, AllShown, no-letters, no-shown_letters}
use Rattle.htmd_law_anchors.proofs.SeenTextLemmas.{blank-line, blank-feeds}
use Rattle.htmd_law_anchors.proofs.TruthLemmas.{or-left, or-right}
use lib.Utf8.{encode}

abbrev mutual
  -- As what shows of a page is made: what is embedded leads elsewhere, and in a heading no link to a part of the page
  -- shows a usual sign alone.
  pub IsProper : Bool → Simple → Type 0
  IsProper head (text s) = AllShown s
  IsProper head (image address attributes) = Unit {0}
  IsProper head (formula tex is_alone attributes) = Unit {0}
  IsProper head (embedded id address title attributes anchors) =
      (is_to_part address ≡ false) × AllShown title × (is_blank_text title ≡ false)
  IsProper head (anchor id) = Unit {0}
  IsProper head (element id r facts attributes content) =
      (is_unlinked r ≡ false) × (facts.shows_sign ≡ is_mark is_usual_sign content)
      × (head ≡ true → is_link r ≡ true → is_to_part (address_of attributes) ≡ true
      → is_mark is_usual_sign content ≡ false)
      × AreProper (head || is_heading r) content

  pub AreProper : Bool → Simples → Type 0
  AreProper head none = Unit {0}
  AreProper head (more t ts) = IsProper head t × AreProper head ts

less : (a b c d : Bool) → (a ≡ true → b ≡ true) → (c ≡ true → d ≡ true) → (a || c) ≡ true
    → (b || d) ≡ true
less true b c d f g e = or-left b d (f refl)
less false b c d f g e = or-right b d (g e)

mutual
  pub weaker : (t : Simple) (a b : Bool) → (b ≡ true → a ≡ true) → IsProper a t → IsProper b t
  weaker (text s) a b f h = h
  weaker (image address attributes) a b f h = tt
  weaker (formula tex is_alone attributes) a b f h = tt
  weaker (embedded id address title attributes anchors) a b f h = h
  weaker (anchor id) a b f h = tt
  weaker (element id r facts attributes content) a b f h = (
    h.0,
    h.1,
    (λ e. h.2 (f e)),
    all-weaker content (a || is_heading r) (b || is_heading r)
        (less b a (is_heading r) (is_heading r) f (λ e. e)) h.3,
  )

  pub all-weaker : (ts : Simples) (a b : Bool) → (b ≡ true → a ≡ true) → AreProper a ts → AreProper b ts
  all-weaker none a b f h = tt
  all-weaker (more t ts) a b f h = (weaker t a b f h.0, all-weaker ts a b f h.1)

-- ---- within the budget of links

mutual
  within-letters : (left : Option ℕ) (t : Simple) → letters_of (within left t) ≡ letters_of t
  within-letters left (text s) = refl
  within-letters left (image address attributes) = refl
  within-letters left (formula tex is_alone attributes) = refl
  within-letters left (embedded id address title attributes found) = refl
  within-letters left (anchor id) = refl
  within-letters left (element id r facts attributes content) =
      all-within-letters (paid left (cost r facts attributes)) content

  all-within-letters : (left : Option ℕ) (ts : Simples) → letters_among (all_within left ts) ≡ letters_among ts
  all-within-letters left none = refl
  all-within-letters left (more t ts) =
      ap (λ s. s ++ letters_among (all_within (left_after left t) ts)) (within-letters left t)
      ∙ ap (λ s. letters_of t ++ s) (all-within-letters (left_after left t) ts)

mutual
  within-image : (left : Option ℕ) (t : Simple) → has_image (within left t) ≡ has_image t
  within-image left (text s) = refl
  within-image left (image address attributes) = refl
  within-image left (formula tex is_alone attributes) = refl
  within-image left (embedded id address title attributes found) = refl
  within-image left (anchor id) = refl
  within-image left (element id r facts attributes content) =
      all-within-image (paid left (cost r facts attributes)) content

  all-within-image : (left : Option ℕ) (ts : Simples) → have_image (all_within left ts) ≡ have_image ts
  all-within-image left none = refl
  all-within-image left (more t ts) =
      ap (λ b. b || have_image (all_within (left_after left t) ts)) (within-image left t)
      ∙ ap (λ b. has_image t || b) (all-within-image (left_after left t) ts)

within-mark : (left : Option ℕ) (ts : Simples)
    → is_mark is_usual_sign (all_within left ts) ≡ is_mark is_usual_sign ts
within-mark left ts =
    ap (λ s. is_one is_usual_sign s && not (have_image (all_within left ts))) (all-within-letters left ts)
    ∙ ap (λ b. is_one is_usual_sign (letters_among ts) && not b) (all-within-image left ts)

cut-unlinked : (b : Bool) (r : Role) → is_unlinked r ≡ false → is_unlinked (cond b (emptied r) r) ≡ false
cut-unlinked true r e = either (is_link r)
  where
    either : (b : Bool) → is_unlinked (cond b role.Target role.Plain) ≡ false
    either true = refl
    either false = refl
cut-unlinked false r e = e

cut-link : (b : Bool) (r : Role) → is_link (cond b (emptied r) r) ≡ true → is_link r ≡ true
cut-link true r e = either (is_link r) e
  where
    either : (b : Bool) → is_link (cond b role.Target role.Plain) ≡ true → is_link r ≡ true
    either true e = false-true e
    either false e = false-true e
cut-link false r e = e

cut-heading : (b : Bool) (r : Role) → is_heading (cond b (emptied r) r) ≡ true → is_heading r ≡ true
cut-heading true r e = either (is_link r) e
  where
    either : (b : Bool) → is_heading (cond b role.Target role.Plain) ≡ true → is_heading r ≡ true
    either true e = false-true e
    either false e = false-true e
cut-heading false r e = e

mutual
  within-proper : (left : Option ℕ) (t : Simple) (head : Bool) → IsProper head t → IsProper head (within left t)
  within-proper left (text s) head h = h
  within-proper left (image address attributes) head h = tt
  within-proper left (formula tex is_alone attributes) head h = tt
  within-proper left (embedded id address title attributes found) head h = h
  within-proper left (anchor id) head h = tt
  within-proper left (element id r facts attributes content) head h =
      let now : Option ℕ = paid left (cost r facts attributes) in
      let b : Bool = not (is_some now) && is_carrying r && nat_lt 0 (size r attributes) in (
        cut-unlinked b r h.0,
        h.1 ∙ sym (within-mark now content),
        (λ e f p. within-mark now content ∙ h.2 e (cut-link b r f) p),
        all-weaker (all_within now content) (head || is_heading r) (head || is_heading (cond b (emptied r) r))
            (less head head (is_heading (cond b (emptied r) r)) (is_heading r) (λ e. e) (cut-heading b r))
            (all-within-proper now content (head || is_heading r) h.3),
      )

  all-within-proper : (left : Option ℕ) (ts : Simples) (head : Bool) → AreProper head ts
      → AreProper head (all_within left ts)
  all-within-proper left none head h = tt
  all-within-proper left (more t ts) head h =
      (within-proper left t head h.0, all-within-proper (left_after left t) ts head h.1)

pub limited-proper : (ts : Simples) → AreProper false ts → AreProper false (limited ts)
limited-proper ts h = all-within-proper (Some (budget ts)) ts false h

-- ---- where no letter shows

first-none : (xs ys : List ℕ) → xs ++ ys ≡ [] → xs ≡ []
first-none [] ys e = refl
first-none (x ∷ xs) ys e = absurd (clash e)
  where
    clash : x ∷ (xs ++ ys) ≡ [] → ⊥
    clash e = (cc)

last-none : (xs ys : List ℕ) → xs ++ ys ≡ [] → ys ≡ []
last-none [] ys e = e
last-none (x ∷ xs) ys e = absurd (clash e)
  where
    clash : x ∷ (xs ++ ys) ≡ [] → ⊥
    clash e = (cc)

no-formula : {A : Type 0} (c : ℕ) (xs ys : List ℕ) → (c ∷ xs) ++ ys ≡ [] → A
no-formula {A} c xs ys e = absurd (clash e)
  where
    clash : c ∷ (xs ++ ys) ≡ [] → ⊥
    clash e = (cc)

neither-image : (a b : Bool) → (a || b) ≡ false → (a ≡ false) × (b ≡ false)
neither-image true b e = true-false e
neither-image false b e = (refl, e)

no-title : {A : Type 0} (s : List ℕ) → AllShown s → is_blank_text s ≡ false → letters s ≡ [] → A
no-title s h b e = true-false (sym (no-letters s h e) ∙ b)

either-leaf : (b d x y : Bool) → x ≡ false → y ≡ false → cond b x (cond d false y) ≡ false
either-leaf true d x y e f = e
either-leaf false true x y e f = refl
either-leaf false false x y e f = f

no-code : (content : Simples) → letters_among content ≡ [] → code_shows content ≡ false
no-code content e = ap is_filled e ∙ none
  where
    none : is_filled [] ≡ false
    none = grind (arith, nat_tests)

mutual
  no-leaf : (rich : Bool) (t : Simple) (head part : Bool) → IsSound t → IsProper head t → letters_of t ≡ []
      → has_image t ≡ false
      → has_leaf rich part true t ≡ false
  no-leaf rich (text s) head part u h e i = ap not (no-letters s h e)
  no-leaf rich (image address attributes) head part u h e i =
      ap (λ b. b || not (is_blank_text (shown_text (text_of (codes "alt") attributes)))) i
      ∙ ap not (no-shown_letters (text_of (codes "alt") attributes) u e)
  no-leaf rich (formula tex is_alone attributes) head part u h e i =
      no-formula dollar_sign (letters tex) (dollar_sign ∷ []) e
  no-leaf rich (embedded id address title attributes anchors) head part u h e i = no-title title h.1 h.2 e
  no-leaf rich (anchor id) head part u h e i = refl
  no-leaf rich (element id r facts attributes content) head part u h e i =
      either-leaf (is_verbatim r) (is_free rich part true r facts content) (code_shows content)
      (have_leaf rich part layout.OneLine content) (no-code content e)
      (no-leaves rich content (head || is_heading r) part u.1 h.3 e i)

  no-leaves : (rich : Bool) (ts : Simples) (head part : Bool) → AreSound ts → AreProper head ts
      → letters_among ts ≡ []
      → have_image ts ≡ false → have_leaf rich part layout.OneLine ts ≡ false
  no-leaves rich none head part u h e i = refl
  no-leaves rich (more t ts) head part u h e i =
      let images = neither-image (has_image t) (have_image ts) i in
      ap (λ b. b || have_leaf rich part layout.OneLine ts)
      (no-leaf rich t head part u.0 h.0 (first-none (letters_of t) (letters_among ts) e) images.0)
      ∙ no-leaves rich ts head part u.1 h.1 (last-none (letters_of t) (letters_among ts) e) images.1

-- ---- where a usual sign shows alone

abbrev Sign : List ℕ → Type 0
Sign s = (s ≡ []) ⊎ (is_one is_usual_sign s ≡ true)

record SignIn (xs ys : List ℕ) : Type 0 where
  first : Sign xs
  last : Sign ys

sign-split : (xs ys : List ℕ) → Sign (xs ++ ys) → SignIn xs ys
sign-split xs ys (inl e) = record { first = inl (first-none xs ys e); last = inl (last-none xs ys e) }
sign-split [] ys (inr e) = record { first = inl refl; last = inr e }
sign-split (x ∷ []) [] (inr e) = record { first = inr e; last = inl refl }
sign-split (x ∷ []) (y ∷ ys) (inr e) = false-true e
sign-split (x ∷ z ∷ xs) ys (inr e) = false-true e

mutual
  quiet : (rich : Bool) (t : Simple) → IsSound t → IsProper true t → Sign (letters_of t) → has_image t ≡ false
      → IsQuiet rich t
  quiet rich (text s) u h z i = tt
  quiet rich (image address attributes) u h s i = tt
  quiet rich (formula tex is_alone attributes) u h s i = tt
  quiet rich (embedded id address title attributes anchors) u h s i = tt
  quiet rich (anchor id) u h s i = tt
  quiet rich (element id r facts attributes content) u h s i =
      ((λ l p. here l p s), all-quiet rich content u.1 h.3 s i)
    where
      here : is_link r ≡ true → is_to_part (address_of attributes) ≡ true → Sign (letters_among content)
          → have_leaf rich true layout.OneLine content ≡ false
      here l p (inl e) = no-leaves rich content true true u.1 h.3 e i
      here l p (inr e) = true-false (sym (and-true e (ap not i)) ∙ h.2 refl l p)

  all-quiet : (rich : Bool) (ts : Simples) → AreSound ts → AreProper true ts → Sign (letters_among ts)
      → have_image ts ≡ false
      → AreQuiet rich ts
  all-quiet rich none u h s i = tt
  all-quiet rich (more t ts) u h s i =
      let images = neither-image (has_image t) (have_image ts) i in
      let signs : SignIn (letters_of t) (letters_among ts) = sign-split (letters_of t) (letters_among ts) s in
      (quiet rich t u.0 h.0 signs.first images.0, all-quiet rich ts u.1 h.1 signs.last images.1)

-- ---- code of which nothing shows

abbrev White : List ℕ → Type 0
White s = Has is_white s

feed-white : White (line_feed ∷ [])
unfolding chars encode
feed-white = record { utf8 = feed-shows.utf8; all = refl }

text-white : (r : Role) (inner : List ℕ) → White inner → White (text_in r inner)
text-white r inner h = either (is_line_break r) (is_line r inner) (ends_line inner)
  where
    either : (b d e : Bool)
        → White (cond b (line_feed ∷ []) (cond d (cond e inner (inner ++ line_feed ∷ [])) inner))
    either true d e = feed-white
    either false true true = h
    either false true false = has-append is_white inner (line_feed ∷ []) h feed-white
    either false false e = h

mutual
  white-of : (t : Simple) (head : Bool) → IsSound t → IsProper head t → letters_of t ≡ [] → White (all_text t)
  white-of (text s) head u h e = record { utf8 = u; all = no-letters s h e }
  white-of (image address attributes) head u h e =
      let alt : List ℕ = text_of (codes "alt") attributes in
      record { utf8 = (shown-shows alt u).utf8; all = no-shown_letters alt u e }
  white-of (formula tex is_alone attributes) head u h e = no-formula dollar_sign (letters tex) (dollar_sign ∷ []) e
  white-of (embedded id address title attributes anchors) head u h e = no-title title h.1 h.2 e
  white-of (anchor id) head u h e = has-nil is_white
  white-of (element id r facts attributes content) head u h e =
      text-white r (all_text_among content) (all-white content (head || is_heading r) u.1 h.3 e)

  all-white : (ts : Simples) (head : Bool) → AreSound ts → AreProper head ts → letters_among ts ≡ []
      → White (all_text_among ts)
  all-white none head u h e = has-nil is_white
  all-white (more t ts) head u h e =
      has-append is_white (all_text t) (all_text_among ts)
      (white-of t head u.0 h.0 (first-none (letters_of t) (letters_among ts) e))
      (all-white ts head u.1 h.1 (last-none (letters_of t) (letters_among ts) e))

-- ---- calm trees

code-calm : (content : Simples) (head : Bool) → AreSound content → AreProper head content
    → code_gives content ≡ true → code_shows content ≡ true
code-calm content head u h g = test (code_shows content) (λ e. e)
    (λ e.
    let all : White (all_text_among content) =
    all-white content head u h (unfilled (letters_among content) e) in
    true-false (sym g ∙ ap not (blank-feeds (all_text_among content) all.utf8 all.all)))

image-calm : (o : Option (List ℕ)) (attributes : List AttributePair) → IsUtf8 (text_of (codes "alt") attributes)
    → image_gives o attributes ≡ true → image_shows o attributes ≡ true
image-calm (Some s) attributes u g = refl
image-calm None attributes u g =
    let alt : List ℕ = text_of (codes "alt") attributes in
    test (is_blank_text (shown_text alt)) (λ e. true-false (sym g ∙ ap not (blank-line alt u e))) (λ e. ap not e)

mutual
  calm : (rich : Bool) (t : Simple) (head : Bool) → IsSound t → IsProper head t → IsCalm rich t
  calm rich (text s) head u h = tt
  calm rich (image o attributes) head u h = image-calm o attributes u
  calm rich (formula tex is_alone attributes) head u h = tt
  calm rich (embedded id address title attributes anchors) head u h = h.0
  calm rich (anchor id) head u h = tt
  calm rich (element id r facts attributes content) head u h = (
    h.0,
    code-calm content (head || is_heading r) u.1 h.3,
    (λ e s.
        let mark = both-true (is_one is_usual_sign (letters_among content)) (not (have_image content))
        (sym h.1 ∙ s) in
        all-quiet rich content u.1 (all-weaker content (head || is_heading r) true
        (λ t. or-right head (is_heading r) e) h.3) (inr mark.0) (not-image (have_image content) mark.1)),
    all-calm rich content (head || is_heading r) u.1 h.3,
  )
    where
      not-image : (b : Bool) → not b ≡ true → b ≡ false
      not-image true e = false-true e
      not-image false e = refl

  pub all-calm : (rich : Bool) (ts : Simples) (head : Bool) → AreSound ts → AreProper head ts → AreCalm rich ts
  all-calm rich none head u h = tt
  all-calm rich (more t ts) head u h = (calm rich t head u.0 h.0, all-calm rich ts head u.1 h.1)
