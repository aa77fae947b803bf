-- The nodes of a line are one piece of a link: something shows between two breaks.
use Rattle.std.proofs.Common.{◌≡◌, ℕ, Bool, true, false, not, ◌&&◌, ◌||◌, cond, List, [], ◌∷◌}
use Rattle.std.proofs.Common.{refl, sym, ap, ◌∙◌, Option}
use Rattle.std.proofs.Common.{Some}
use Rattle.std.specs.Prelude.{nat_lt}
use Rattle.std.specs.List.{list_all}
use Rattle.std.specs.Str.{chars}
use Rattle.std.proofs.lemmas.Bool.{and_parts}
use Rattle.htmd_lexical.proofs.Cases.{test}
use Rattle.htmd_lexical.specs.AttributePairs.{AttributePair}
use Rattle.htmd_lexical.specs.CharacterClasses.{is_empty}
use Rattle.htmd_lexical.specs.Characters.{line_feed}
use Rattle.htmd_document.specs.Documents.{Inline, text, code, formatted, link, image, anchor, line_break, task}
use Rattle.htmd_document.specs.Documents.{Inlines, no_inlines, inline}
use Rattle.htmd_document.specs.NormalInlines.{first_passes, last_passes, has_none, is_break, meets}
use Rattle.htmd_document_of_tree.specs.FirstPieces.{most_linked}
use Rattle.htmd_shown.specs.declared.role.Role.{Role}
use Rattle.htmd_shown.specs.declared.role.Role.TheVariants as role
use Rattle.htmd_shown.specs.Facts.{made}
use Rattle.htmd_shown.specs.Pieces.{Pieces, no_pieces, with_leaf, with_break, pieces_after, pieces_after_all}
use Rattle.htmd_shown.specs.Roles.{is_edged, is_line_break, is_verbatim}
use Rattle.htmd_shown.specs.SimpleTrees.{Simple, Simples, none, more}
use Rattle.htmd_shown.specs.SimpleTrees as simple
use Rattle.htmd_shown.specs.Spaces.{is_white, is_blank_text}
use Rattle.htmd_law_returning.specs.WholeLines.{begins_white, begins_white_text, ends_white_text}
use Rattle.htmd_law_returning.specs.SettledDocuments.{begins_in_white, ends_in_white, is_white_at_break}
use Rattle.htmd_law_returning.proofs.BareLemmas.{is_joined, are_joined}
use Rattle.htmd_law_returning.proofs.InlineLemmas.{characters-behind, line-end-characters}
use Rattle.htmd_law_returning.proofs.LineFormLemmas.{IsWhole, whole-first}
use Rattle.htmd_law_returning.proofs.StartLemmas.{false-true, true-false}

-- ---- where a link goes on

-- nothing showed so far, something showed last, or a break came after it
pub data Step : Type 0 where
  none_yet : Step
  has_shown : Step
  has_broken : Step

abbrev pub pieces_of : Step → Pieces
pieces_of none_yet = no_pieces
pieces_of has_shown = record { count = 1; breaks = 0 }
pieces_of has_broken = record { count = 1; breaks = 1 }

-- after a break neither white space nor a break is next
abbrev pub Follows : Step → Inlines → Type 0
Follows s xs =
    s ≡ has_broken → (first_passes begins_in_white xs ≡ false) × (first_passes is_break xs ≡ false)

not-broken : has_shown ≡ has_broken → ⊥
not-broken p = (cc)

shown-follows : (xs : Inlines) → Follows has_shown xs
shown-follows xs e = absurd (not-broken e)

begins-none : none_yet ≡ has_broken → ⊥
begins-none p = (cc)

pub none-follows : (xs : Inlines) → Follows none_yet xs
none-follows xs e = absurd (begins-none e)

-- the nodes of a line
pub record IsPieced (s : Step) (xs : Inlines) (ts : Simples) : Type 0 where
  pub next : Step
  pub joined : are_joined (pieces_of s) ts ≡ true
  pub after : pieces_after_all (pieces_of s) ts ≡ pieces_of next
  pub stays : has_none xs ≡ true → next ≡ s
  pub shows : has_none xs ≡ false → last_passes ends_in_white xs ≡ false → last_passes is_break xs ≡ false
      → next ≡ has_shown

abbrev pub ArePieces : Inlines → Simples → Type 0
ArePieces xs ts = (s : Step) → Follows s xs → IsPieced s xs ts

pub none-pieced : ArePieces no_inlines none
none-pieced s f = record {
  next = s;
  joined = refl;
  after = refl;
  stays = λ e. refl;
  shows = λ e h g. true-false e;
}

-- one of them
pub record IsStep (s : Step) (x : Inline) (xs : Inlines) (t : Simple) : Type 0 where
  pub next : Step
  pub joined : is_joined (pieces_of s) t ≡ true
  pub after : pieces_after (pieces_of s) t ≡ pieces_of next
  pub shows : ends_in_white x ≡ false → is_break x ≡ false → next ≡ has_shown
  pub follows : Follows next xs

last-shows : (x : Inline) (xs : Inlines) (a b : Step)
    → (ends_in_white x ≡ false → is_break x ≡ false → a ≡ has_shown) → (has_none xs ≡ true → b ≡ a)
    → (has_none xs ≡ false → last_passes ends_in_white xs ≡ false → last_passes is_break xs ≡ false
    → b ≡ has_shown)
    → last_passes ends_in_white (inline x xs) ≡ false → last_passes is_break (inline x xs) ≡ false
    → b ≡ has_shown
last-shows x no_inlines a b own stays shows h g = stays refl ∙ own h g
last-shows x (inline y ys) a b own stays shows h g = shows refl h g

pub more-pieced : (x : Inline) (xs : Inlines) (t : Simple) (ts : Simples)
    → ((s : Step) → Follows s (inline x xs) → IsStep s x xs t) → ArePieces xs ts
    → ArePieces (inline x xs) (more t ts)
more-pieced x xs t ts one later s f =
    let first : IsStep s x xs t = one s f in
    let rest : IsPieced first.next xs ts = later first.next first.follows in
    record {
      next = rest.next;
      joined = ap (λ b. b && are_joined (pieces_after (pieces_of s) t) ts) first.joined
          ∙ (ap (λ p. are_joined p ts) first.after ∙ rest.joined);
      after = ap (λ p. pieces_after_all p ts) first.after ∙ rest.after;
      stays = λ e. false-true e;
      shows = λ e h g. last-shows x xs first.next rest.next first.shows rest.stays rest.shows h g;
    }

-- ---- what shows

leaf-shown : (s : Step) → with_leaf (pieces_of s) false ≡ pieces_of has_shown
leaf-shown none_yet = refl
leaf-shown has_shown = refl
leaf-shown has_broken = refl

leaf-joined : (s : Step) → not (nat_lt most_linked (with_leaf (pieces_of s) false).count) ≡ true
leaf-joined none_yet = refl
leaf-joined has_shown = refl
leaf-joined has_broken = refl

pub blank-begins : (cs : List ℕ) → is_empty cs ≡ false → list_all is_white cs ≡ true
    → begins_white_text cs ≡ true
blank-begins [] h e = true-false h
blank-begins (c ∷ cs) h e = (and_parts (is_white c) (list_all is_white cs) e).0

pub blank-ends : (cs : List ℕ) → is_empty cs ≡ false → list_all is_white cs ≡ true
    → ends_white_text cs ≡ true
blank-ends [] h e = true-false h
blank-ends (c ∷ []) h e = (and_parts (is_white c) true e).0
blank-ends (c ∷ d ∷ cs) h e =
    blank-ends (d ∷ cs) refl (and_parts (is_white c) (list_all is_white (d ∷ cs)) e).1

-- a text, by whether it is blank
abbrev text_joined : Step → Bool → Bool
text_joined s u = not (not u && nat_lt most_linked (cond u (pieces_of s) (with_leaf (pieces_of s) false)).count)

abbrev text_after : Step → Bool → Pieces
text_after s u = cond u (pieces_of s) (with_leaf (pieces_of s) false)

pub text-step : (s : Step) (t : List ℕ) (xs : Inlines) → is_empty (chars t) ≡ false
    → Follows s (inline (text t) xs) → IsStep s (text t) xs (simple.text t)
text-step s t xs some f = test (is_blank_text t)
    (λ e. record {
      next = s;
      joined = ap (text_joined s) e;
      after = ap (text_after s) e;
      shows = λ h g. false-true (sym h ∙ blank-ends (chars t) some e);
      follows = λ q. false-true (sym (f q).0 ∙ blank-begins (chars t) some e);
    })
    (λ e. record {
      next = has_shown;
      joined = ap (text_joined s) e ∙ leaf-joined s;
      after = ap (text_after s) e ∙ leaf-shown s;
      shows = λ h g. refl;
      follows = shown-follows xs;
    })

pub code-step : (s : Step) (t : List ℕ) (xs : Inlines) (id : ℕ) → is_empty (chars t) ≡ false
    → begins_white_text (chars t) ≡ false
    → IsStep s (code t) xs (made id role.Code [] (more (simple.text t) none))
code-step s t xs id some black =
    let seen : is_blank_text t ≡ false = test (is_blank_text t)
    (λ e. false-true (sym black ∙ blank-begins (chars t) some e)) (λ e. e) in
    record {
      next = has_shown;
      joined = ap (λ b. b && true) (ap (text_joined s) seen ∙ leaf-joined s);
      after = ap (text_after s) seen ∙ leaf-shown s;
      shows = λ h g. refl;
      follows = shown-follows xs;
    }

pub image-step : (s : Step) (a : List ℕ) (t : Option (List ℕ)) (d : List ℕ) (xs : Inlines) (address : List ℕ)
    (attributes : List AttributePair)
    → IsStep s (image a t d) xs (simple.image (Some address) attributes)
image-step s a t d xs address attributes = record {
  next = has_shown;
  joined = leaf-joined s;
  after = leaf-shown s;
  shows = λ h g. refl;
  follows = shown-follows xs;
}

-- an element in a line
pub inner-step : (s : Step) (x : Inline) (xs : Inlines) (id : ℕ) (r : Role) (attributes : List AttributePair)
    (c : Inlines) (content : Simples) → is_verbatim r ≡ false → is_line_break r ≡ false → is_edged r ≡ false
    → ArePieces c content → IsWhole c → IsStep s x xs (made id r attributes content)
inner-step s x xs id r attributes c content verbatim breaks edged inner w =
    let within : IsPieced s c content = inner s (λ e. (w.begins, w.starts)) in
    record {
      next = has_shown;
      joined = rw (verbatim, breaks, edged) within.joined;
      after = rw (verbatim, breaks, edged) (within.after ∙ ap pieces_of (within.shows w.some w.ends w.closes));
      shows = λ h g. refl;
      follows = shown-follows xs;
    }

-- ---- breaks

abbrev after_break : Step → Step
after_break none_yet = none_yet
after_break has_shown = has_broken
after_break has_broken = has_broken

broken-step : (s : Step) (xs : Inlines) → Follows s (inline line_break xs)
    → with_break (pieces_of s) ≡ pieces_of (after_break s)
broken-step none_yet xs f = refl
broken-step has_shown xs f = refl
broken-step has_broken xs f = true-false (f refl).1

break-white : (xs : Inlines) → is_white_at_break line_break xs ≡ false → first_passes begins_in_white xs ≡ false
break-white no_inlines h = refl
break-white (inline (text s) xs) h = h
break-white (inline (code s) xs) h = refl
break-white (inline (formatted f c) xs) h = refl
break-white (inline (link a t c) xs) h = refl
break-white (inline (image a t d) xs) h = refl
break-white (inline (anchor id) xs) h = refl
break-white (inline line_break xs) h = refl
break-white (inline (task d) xs) h = refl

break-meets : (xs : Inlines) → meets line_break xs ≡ true → first_passes is_break xs ≡ false
break-meets no_inlines h = refl
break-meets (inline (text s) xs) h = refl
break-meets (inline (code s) xs) h = refl
break-meets (inline (formatted f c) xs) h = refl
break-meets (inline (link a t c) xs) h = refl
break-meets (inline (image a t d) xs) h = refl
break-meets (inline (anchor id) xs) h = refl
break-meets (inline line_break xs) h = false-true h
break-meets (inline (task d) xs) h = refl

pub break-pieced : (xs : Inlines) (id : ℕ) (us : Simples) → is_white_at_break line_break xs ≡ false
    → meets line_break xs ≡ true → ArePieces xs us
    → ArePieces (inline line_break xs) (more (made id role.LineBreak [] none) us)
break-pieced xs id us white apart later s f =
    let rest : IsPieced (after_break s) xs us =
    later (after_break s) (λ e. (break-white xs white, break-meets xs apart)) in
    record {
      next = rest.next;
      joined = ap (λ p. are_joined p us) (broken-step s xs f) ∙ rest.joined;
      after = ap (λ p. pieces_after_all p us) (broken-step s xs f) ∙ rest.after;
      stays = λ e. false-true e;
      shows = λ e h g. last-shows line_break xs (after_break s) rest.next (λ p q. true-false q) rest.stays
          rest.shows h g;
    }

-- a line's end is nothing that shows
pub end-pieced : (xs : Inlines) (ts : Simples) → ArePieces xs ts
    → ArePieces xs (more (simple.text (line_feed ∷ [])) ts)
end-pieced xs ts own s f =
    let rest : IsPieced s xs ts = own s f in
    let blank : is_blank_text (line_feed ∷ []) ≡ true = ap (list_all is_white) line-end-characters in
    record {
      next = rest.next;
      joined = ap (λ u. text_joined s u && are_joined (text_after s u) ts) blank ∙ rest.joined;
      after = ap (λ u. pieces_after_all (text_after s u) ts) blank ∙ rest.after;
      stays = rest.stays;
      shows = rest.shows;
    }

pub text-end-pieced : (xs : Inlines) (t : List ℕ) (ts : Simples) → ArePieces xs (more (simple.text t) ts)
    → ArePieces xs (more (simple.text (line_feed ∷ t)) ts)
text-end-pieced xs t ts own s f =
    let rest : IsPieced s xs (more (simple.text t) ts) = own s f in
    let same : is_blank_text (line_feed ∷ t) ≡ is_blank_text t = ap (list_all is_white) (characters-behind t) in
    record {
      next = rest.next;
      joined = ap (λ u. text_joined s u && are_joined (text_after s u) ts) same ∙ rest.joined;
      after = ap (λ u. pieces_after_all (text_after s u) ts) same ∙ rest.after;
      stays = rest.stays;
      shows = rest.shows;
    }

-- an anchor is none either
pub anchor-pieced : (a : List ℕ) (xs : Inlines) (id : ℕ) (attributes : List AttributePair) (ts : Simples)
    → (has_none xs || begins_white xs) ≡ false → ArePieces xs ts
    → ArePieces (inline (anchor a) xs) (more (made id role.Target attributes none) ts)
anchor-pieced a no_inlines id attributes ts h own s f = true-false h
anchor-pieced a (inline y ys) id attributes ts h own s f =
    let rest : IsPieced s (inline y ys) ts = own s (λ e. whole-first y ys h) in
    record {
      next = rest.next;
      joined = rest.joined;
      after = rest.after;
      stays = λ e. false-true e;
      shows = λ e h g. rest.shows refl h g;
    }
