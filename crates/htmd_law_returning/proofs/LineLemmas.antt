-- A line of a normal and settled document comes back: by what stands in it, from the outside in.
use Rattle.std.proofs.Common.{◌≡◌, ℕ, Bool, true, false, ◌&&◌, List, []}
use Rattle.std.proofs.Common.{◌∷◌, ◌++◌, map}
use Rattle.std.proofs.Common.{fold, refl, sym, ap, ◌∙◌, subst}
use Rattle.std.proofs.Common.{suc}
use Rattle.std.specs.Prelude.{encode_utf8}
use Rattle.std.specs.Str.{chars}
use Rattle.std.proofs.lemmas.Bool.{and_parts}
use Rattle.std.proofs.lemmas.List.Sums.{fold-append}
use Rattle.std.specs.List.{list_all}
use Rattle.htmd_lexical.proofs.Cases.{test}
use Rattle.htmd_document.specs.Documents.{Block, Inline, text, code, formatted, link, image, anchor, line_break, task}
use Rattle.htmd_document.specs.Documents.{Inlines, no_inlines, inline}
use Rattle.htmd_document.specs.Formats.{Format}
use Rattle.htmd_document.specs.NormalInlines.{meets, is_normal, are_normal, is_anchor}
use Rattle.htmd_document.specs.NormalInlines.{first_passes, last_passes, is_break}
use Rattle.htmd_flow.specs.Nesting.{Wrapper, wrapper_of, shared, wrapped, one_inline}
use Rattle.htmd_flow.specs.Nesting.{joined}
use Rattle.htmd_flow.specs.Nesting.{wrapped_by}
use Rattle.htmd_flow.specs.Paragraphs.{Writing, after_leaf, fed_all, fed}
use Rattle.htmd_flow.specs.Parts as part
use Rattle.htmd_flow.specs.Parts.{Around}
use Rattle.htmd_shown.specs.Spaces.{no_gap, is_white, is_blank_text}
use Rattle.htmd_law_returning.specs.SettledDocuments.{is_white_at_break}
use Rattle.htmd_law_returning.specs.SettledDocuments.{ends_in_white}
use Rattle.htmd_law_returning.proofs.NestLemmas.{appended, appended-assoc, is_merging, joined-apart, IsHole}
use Rattle.htmd_law_returning.proofs.NestLemmas.{around-hole, lone-hole, merging-around}
use Rattle.htmd_law_returning.proofs.RunLemmas.{gap_of, in_line, after, with_character, spaced}
use Rattle.htmd_law_returning.proofs.RunLemmas.{leaf-here, past_break, leaf-past-break}
use Rattle.htmd_law_returning.proofs.RunLemmas.{leaf-after, IsRun}
use Rattle.htmd_law_returning.proofs.RunLemmas.{text-run, here, black-here}
use Rattle.htmd_law_returning.proofs.RunLemmas.{white_after, none-after}
use Rattle.htmd_law_returning.proofs.TextLemmas.{IsLine, text-line}
use Rattle.htmd_law_returning.proofs.StartLemmas.{false-true, true-false}
use Rattle.htmd_law_returning.proofs.StartLemmas.{Mode}
use Rattle.htmd_law_returning.proofs.LineFormLemmas.{apart-text, apart-code, apart-image, apart-break}
use Rattle.htmd_law_returning.proofs.LineFormLemmas.{next-differs, around-differs}
use Rattle.htmd_law_returning.proofs.LineFormLemmas.{each-text, normal-one, settled-one}
use Rattle.htmd_law_returning.proofs.LineFormLemmas.{IsWhole, whole-after-break, whole-after-anchor, IsFormat}
use Rattle.htmd_law_returning.proofs.LineFormLemmas.{format-normal, IsLink}
use Rattle.htmd_law_returning.proofs.LineFormLemmas.{link-normal, IsCode, code-normal}
use Rattle.htmd_law_returning.proofs.LineFormLemmas.{from-less}
use Rattle.htmd_law_returning.proofs.LineFormLemmas.{apart-black, all-last}
use Rattle.htmd_law_returning.proofs.HeldLemmas.{are_black_inside}
use Rattle.htmd_law_returning.proofs.HeldLemmas.{are_held}
use Rattle.htmd_law_returning.proofs.HeldLemmas.{is_parted, behind_anchors}
use Rattle.htmd_law_returning.proofs.InlineLemmas.{IsFree, free-more, free-link}
use Rattle.htmd_law_returning.specs.LastingAnchors.{goes_on}
use Rattle.htmd_law_returning.proofs.LineParts.{Numbers, own_number, numbers_inside, numbers_after}
use Rattle.htmd_law_returning.proofs.LineParts.{is_rising, rising-next, is_ended, end_of_line, parts_one, parts_in}
use Rattle.htmd_law_returning.proofs.LineEntryLemmas.{IsFed, IsClear, IsEntry, IsPlaced, IsCodeFed, IsTextBegun}
use Rattle.htmd_law_returning.proofs.LineEntryLemmas.{code-by-first, here-after, entry-here, text-begun}
use Rattle.htmd_law_returning.proofs.LineEntryLemmas.{joined-fed, around-entry, around-left, end-fed, places-entry}
use Rattle.htmd_law_returning.proofs.LineEntryLemmas.{break-places}

-- two texts don't meet
no-text : (s t : List ℕ) (xs rest : Inlines) → xs ≡ inline (text t) rest → meets (text s) xs ≡ true
    → {A : Type 0} → A
no-text s t xs rest e h = false-true (sym (ap (meets (text s)) e) ∙ h)

-- no anchor stands first in a format or a link, and none in a link
unplaced : (xs : Inlines) → first_passes is_anchor xs ≡ false → {A : Type 0}
    → first_passes is_anchor xs ≡ true → A
unplaced xs h e = true-false (sym e ∙ h)

outside : (b : Bool) (id : List ℕ) (fs : List Format) → is_normal b fs (anchor id) ≡ true → b ≡ false
outside true id fs h = false-true h
outside false id fs h = refl

unlinked : (b : Bool) (fs : List Format) (xs : Inlines) → are_normal b fs xs ≡ true
    → first_passes is_anchor xs ≡ true → b ≡ false
unlinked false fs xs n h = refl
unlinked true fs no_inlines n h = false-true h
unlinked true fs (inline (text s) xs) n h = false-true h
unlinked true fs (inline (code s) xs) n h = false-true h
unlinked true fs (inline (formatted f c) xs) n h = false-true h
unlinked true fs (inline (link a t c) xs) n h = false-true h
unlinked true fs (inline (image a t d) xs) n h = false-true h
unlinked true fs (inline (anchor id) xs) n h = false-true n
unlinked true fs (inline line_break xs) n h = false-true h
unlinked true fs (inline (task d) xs) n h = false-true h

pub linked-unled : (fs : List Format) (xs : Inlines) → are_normal true fs xs ≡ true
    → first_passes is_anchor xs ≡ false
linked-unled fs xs n =
    test (first_passes is_anchor xs) (λ h. true-false (unlinked true fs xs n h)) (λ h. h)

around-first : (a : Around) (c r : Inlines) → behind_anchors (inline (wrapped_by a c) r) ≡ inline (wrapped_by a c) r
around-first (part.formatted f) c r = refl
around-first (part.linked n u t) c r = refl

module _ (flat : Mode) (done : List Block) where
  -- where the line goes on after an inline z, before others
  record IsPlace (from : ℕ) (put : Inlines → Inlines) (around : List Around) (hole : IsHole put around)
      (w : Writing) (init : Inlines) (z : Inline) (xs : Inlines) : Type 0 where
    ys : Inlines
    inner : List Wrapper
    k : Bool
    g : List ℕ
    is : w ≡ after flat done put around hole ys inner k (gap_of false g)
    all : spaced false ys g ≡ appended init (one_inline z)
    white : ends_in_white z ≡ false → g ≡ []
    unbroken : (r : Inlines) → xs ≡ inline line_break r → ends_in_white z ≡ false
    clear : IsClear flat done from inner xs
    past : (id : List ℕ) (r : Inlines) → xs ≡ inline (anchor id) r
        → IsClear flat done from inner (behind_anchors r)
    across : (r : Inlines) → xs ≡ inline line_break r → IsClear flat done from inner (behind_anchors r)
    beyond : (s : List ℕ) (r : Inlines) → xs ≡ inline (text s) r → is_blank_text s ≡ true
        → IsClear flat done from inner (behind_anchors r)

  mutual
    -- after an inline
    after-all : (xs : Inlines) (b : Bool) (ns : Numbers) (from : ℕ) (put : Inlines → Inlines) (around : List Around)
        (hole : IsHole put around)
        (fs : List Format) (w : Writing) (init : Inlines) (z : Inline)
        → IsFree b around → IsPlace from put around hole w init z xs
        → meets z xs ≡ true → are_normal b fs xs ≡ true → are_held xs ≡ true
        → last_passes ends_in_white (inline z xs) ≡ false → last_passes is_break (inline z xs) ≡ false
        → is_rising from ns xs ≡ true
        → IsFed flat done put around hole w (parts_in around ns xs) (appended init (inline z xs))
    after-all no_inlines b ns from put around hole fs w init z free at m n s e u rise =
        let none : at.g ≡ [] = at.white e in
        record {
          inner = at.inner;
          last = at.k;
          is = at.is
              ∙ (ap (λ b. after flat done put around hole at.ys at.inner at.k (gap_of false b)) none
              ∙ ap (λ ys. after flat done put around hole ys at.inner at.k no_gap)
              (ap (spaced false at.ys) (sym none) ∙ at.all));
        }
    after-all (inline (text s) xs) b ns from put around hole fs w init z free at m n settled e u rise =
        let normal = normal-one b fs (text s) xs n in
        let order = rising-next from ns (text s) xs rise in
        let own = settled-one (text s) xs settled in
        let l : IsLine s = text-line s own.own normal.own in
        let apart : is_merging z (text s) ≡ false = apart-text z s xs m in
        let none : at.g ≡ [] = at.white (apart-black z s apart) in
        let more : IsRun flat done put around hole at.ys at.inner at.k [] (chars s) =
        text-run flat done put around hole (chars s) at.ys at.inner at.k [] false refl l.spaced in
        let v : Writing =
        after flat done put around hole more.ys more.within more.last (gap_of false (white_after [] (chars s))) in
        let here_is : fed_all w (parts_one around ns (text s)) ≡ v =
        ap (λ u. fold (with_character around false) u (chars s))
        (at.is ∙ ap (λ b. after flat done put around hole at.ys at.inner at.k (gap_of false b)) none) ∙ more.is in
        let before : at.ys ≡ appended init (one_inline z) = ap (spaced false at.ys) (sym none) ∙ at.all in
        let still : (ys : Inlines) → (is_blank_text s ≡ true → IsClear flat done from at.inner ys)
        → IsClear flat done (suc (own_number ns)) more.within ys =
        λ ys clear g d r same o ms. test (list_all is_white (chars s))
        (λ h. ap (λ x. shared x (wrapper_of g ∷ ms)) (more.stays h)
        ∙ clear h g d r same (from-less from (suc (own_number ns)) g order.below o) ms)
        (λ h. ap (λ x. shared x (wrapper_of g ∷ ms)) (more.shows h)) in
        let place : IsPlace (suc (own_number ns)) put around hole v (appended init (one_inline z))
        (text s) xs = record {
          ys = more.ys;
          inner = more.within;
          k = more.last;
          g = white_after [] (chars s);
          is = refl;
          all = more.all
              ∙ (each-text false (chars s) at.ys l.some
              ∙ (ap (λ t. joined at.ys (text t)) l.bytes
              ∙ (ap (λ ys. joined ys (text s)) before ∙ joined-apart init z (text s) apart)));
          white = λ h. none-after (chars s) [] l.some h;
          unbroken = λ r same. sym (ap (is_white_at_break (text s)) same) ∙ own.beside;
          clear = λ g d r same o ms. still (behind_anchors xs)
              (at.beyond s xs refl) g d r (ap behind_anchors same ∙ around-first g d r) o ms;
          past = λ id r same g d q on o ms. still (behind_anchors xs)
              (at.beyond s xs refl) g d q (ap behind_anchors same ∙ on) o ms;
          across = λ r same g d q on o ms. test (list_all is_white (chars s))
              (λ h. true-false (sym (all-last (chars s) l.some h)
              ∙ (sym (ap (is_white_at_break (text s)) same) ∙ own.beside)))
              (λ h. ap (λ x. shared x (wrapper_of g ∷ ms)) (more.shows h));
          beyond = λ t r same h g d q on o ms. no-text s t xs r same normal.meets_next;
        } in
        let rest = after-all xs b (numbers_after ns) (suc (own_number ns)) put around hole fs v
        (appended init (one_inline z))
        (text s) free place normal.meets_next
        normal.rest own.rest e u order.rest in
        let found : IsFed flat done put around hole w (parts_in around ns (inline (text s) xs))
        (appended (appended init (one_inline z)) (inline (text s) xs)) =
        joined-fed flat done put around hole ns w v (text s) xs (appended init (one_inline z)) here_is rest in
        subst (IsFed flat done put around hole w (parts_in around ns (inline (text s) xs)))
        (appended-assoc init (one_inline z) (inline (text s) xs)) found
    after-all (inline (code s) xs) b ns from put around hole fs w init z free at m n settled e u rise =
        let normal = normal-one b fs (code s) xs n in
        let order = rising-next from ns (code s) xs rise in
        let own = settled-one (code s) xs settled in
        let c : IsCode s = code-normal s own.own normal.own in
        let found : IsCodeFed flat done put around hole
        (after flat done put around hole at.ys at.inner at.k (gap_of false at.g))
        (spaced false at.ys at.g) (chars s) =
        code-by-first flat done put around hole
        (after flat done put around hole at.ys at.inner at.k (gap_of false at.g))
        (spaced false at.ys at.g) (chars s) c.line.some c.begins c.line.spaced
        (λ b h. black-here flat done put around hole at.ys at.inner at.k at.g true b h) in
        let v : Writing = after flat done put around hole found.ys [] true no_gap in
        let here_is : fed_all w (parts_one around ns (code s)) ≡ v =
        ap (λ u. fold (with_character around true) u (chars s)) at.is
        ∙ (found.is ∙ (ap (λ b. here flat done put around hole found.ys b)
        (none-after (chars s) [] c.line.some c.ends)
        ∙ sym (here-after flat done put around hole found.ys))) in
        let place : IsPlace (suc (own_number ns)) put around hole v (appended init (one_inline z))
        (code s) xs = record {
          ys = found.ys;
          inner = [];
          k = true;
          g = [];
          is = refl;
          all = ap (spaced true found.ys) (sym (none-after (chars s) [] c.line.some c.ends))
              ∙ (found.all
              ∙ (ap (λ t. joined (spaced false at.ys at.g) (code t)) c.line.bytes
              ∙ (ap (λ ys. joined ys (code s)) at.all ∙ joined-apart init z (code s) (apart-code z s xs m))));
          white = λ h. refl;
          unbroken = λ r same. refl;
          clear = λ g d r same o ms. refl;
          past = λ id r same g d q on o ms. refl;
          across = λ r same g d q on o ms. refl;
          beyond = λ t r same h g d q on o ms. refl;
        } in
        let rest = after-all xs b (numbers_after ns) (suc (own_number ns)) put around hole fs v
        (appended init (one_inline z))
        (code s) free place normal.meets_next
        normal.rest own.rest e u order.rest in
        subst (IsFed flat done put around hole w (parts_in around ns (inline (code s) xs)))
        (appended-assoc init (one_inline z) (inline (code s) xs))
        (joined-fed flat done put around hole ns w v (code s) xs (appended init (one_inline z)) here_is rest)
    after-all (inline (formatted f c) xs) b ns from put around hole fs w init z free at m n settled e u rise =
        let normal = normal-one b fs (formatted f c) xs n in
        let order = rising-next from ns (formatted f c) xs rise in
        let own = settled-one (formatted f c) xs settled in
        let held = and_parts (are_black_inside c) (are_held c) own.own in
        let g : IsFormat b fs f c = format-normal b fs f c normal.own held.0 in
        let a : Around = part.formatted f in
        let ys : Inlines = spaced false at.ys at.g in
        let enter : IsEntry flat done (λ x. put (joined ys (wrapped_by a x))) (around ++ a ∷ []) w [] =
        around-entry flat done put around a w ys (λ more k y. ap (λ u. after_leaf u (around ++ a ∷ more) k y) at.is
        ∙ leaf-after flat done put around hole at.ys at.inner at.k at.g k (a ∷ more) y
        (at.clear a c xs refl refl (map wrapper_of more))) in
        let within = begin-all c b (numbers_inside ns) 0 (λ x. put (joined ys (wrapped_by a x))) (around ++ a ∷ [])
        (around-hole put around ys a hole) (f ∷ fs) w [] enter
        (unplaced c g.unled) (free-more b around f free) (λ g d r same o ms. refl) g.whole g.normal held.1
        order.inside in
        let v : Writing = after flat done put around hole (joined ys (formatted f c)) (wrapper_of a ∷ within.inner)
        within.last no_gap in
        let here_is : fed_all w (parts_one around ns (formatted f c)) ≡ v =
        within.is ∙ around-left flat done put around hole a ys c within.inner within.last in
        let place : IsPlace (suc (own_number ns)) put around hole v (appended init (one_inline z))
        (formatted f c) xs = record {
          ys = joined ys (formatted f c);
          inner = wrapper_of a ∷ within.inner;
          k = within.last;
          g = [];
          is = refl;
          all = ap (λ x. joined x (formatted f c)) at.all ∙ joined-apart init z (formatted f c)
              (merging-around z a c);
          white = λ h. refl;
          unbroken = λ r same. refl;
          clear = λ g d r same o ms. next-differs a g c d r (sym (ap (meets (formatted f c)) same)
              ∙ normal.meets_next) refl
              within.inner ms;
          past = λ id r same g d q on o ms. around-differs a g c d
              (sym (ap (goes_on (formatted f c)) on) ∙ (sym (ap (is_parted (formatted f c)) same) ∙ own.apart)) refl
              within.inner ms;
          across = λ r same g d q on o ms. around-differs a g c d
              (sym (ap (goes_on (formatted f c)) on) ∙ (sym (ap (is_parted (formatted f c)) same) ∙ own.apart)) refl
              within.inner ms;
          beyond = λ s r same h g d q on o ms. around-differs a g c d
              (sym (ap (goes_on (formatted f c)) on)
              ∙ (sym (ap (λ x. x && goes_on (formatted f c) (behind_anchors r)) h)
              ∙ (sym (ap (is_parted (formatted f c)) same) ∙ own.apart))) refl within.inner ms;
        } in
        let rest = after-all xs b (numbers_after ns) (suc (own_number ns)) put around hole fs v
        (appended init (one_inline z))
        (formatted f c) free place
        normal.meets_next normal.rest own.rest e u order.rest in
        subst (IsFed flat done put around hole w (parts_in around ns (inline (formatted f c) xs)))
        (appended-assoc init (one_inline z) (inline (formatted f c) xs))
        (joined-fed flat done put around hole ns w v (formatted f c) xs (appended init (one_inline z)) here_is rest)
    after-all (inline (link p t c) xs) b ns from put around hole fs w init z free at m n settled e u rise =
        let normal = normal-one b fs (link p t c) xs n in
        let order = rising-next from ns (link p t c) xs rise in
        let own = settled-one (link p t c) xs settled in
        let g : IsLink b fs p t c = link-normal b fs p t c normal.own own.own in
        let a : Around = part.linked (own_number ns) p t in
        let ys : Inlines = spaced false at.ys at.g in
        let enter : IsEntry flat done (λ x. put (joined ys (wrapped_by a x))) (around ++ a ∷ []) w [] =
        around-entry flat done put around a w ys (λ more k y. ap (λ u. after_leaf u (around ++ a ∷ more) k y) at.is
        ∙ leaf-after flat done put around hole at.ys at.inner at.k at.g k (a ∷ more) y
        (at.clear a c xs refl order.least (map wrapper_of more))) in
        let within = begin-all c true (numbers_inside ns) 0 (λ x. put (joined ys (wrapped_by a x)))
        (around ++ a ∷ [])
        (around-hole put around ys a hole) fs w [] enter (unplaced c (linked-unled fs c g.normal))
        (free-link (around ++ a ∷ [])) (λ g d r same o ms. refl) g.whole g.normal
        g.settled order.inside in
        let v : Writing = after flat done put around hole (joined ys (link p t c)) (wrapper_of a ∷ within.inner)
        within.last no_gap in
        let here_is : fed_all w (parts_one around ns (link p t c)) ≡ v =
        within.is ∙ around-left flat done put around hole a ys c within.inner within.last in
        let place : IsPlace (suc (own_number ns)) put around hole v (appended init (one_inline z))
        (link p t c) xs = record {
          ys = joined ys (link p t c);
          inner = wrapper_of a ∷ within.inner;
          k = within.last;
          g = [];
          is = refl;
          all = ap (λ x. joined x (link p t c)) at.all ∙ joined-apart init z (link p t c) (merging-around z a c);
          white = λ h. refl;
          unbroken = λ r same. refl;
          clear = λ g d r same o ms. next-differs a g c d r (sym (ap (meets (link p t c)) same)
              ∙ normal.meets_next) o
              within.inner ms;
          past = λ id r same g d q on o ms. around-differs a g c d
              (sym (ap (goes_on (link p t c)) on) ∙ (sym (ap (is_parted (link p t c)) same) ∙ own.apart)) o
              within.inner ms;
          across = λ r same g d q on o ms. around-differs a g c d
              (sym (ap (goes_on (link p t c)) on) ∙ (sym (ap (is_parted (link p t c)) same) ∙ own.apart)) o
              within.inner ms;
          beyond = λ s r same h g d q on o ms. around-differs a g c d
              (sym (ap (goes_on (link p t c)) on) ∙ (sym (ap (λ x. x && goes_on (link p t c) (behind_anchors r)) h)
              ∙ (sym (ap (is_parted (link p t c)) same) ∙ own.apart))) o within.inner ms;
        } in
        let rest = after-all xs b (numbers_after ns) (suc (own_number ns)) put around hole fs v
        (appended init (one_inline z))
        (link p t c) free place
        normal.meets_next normal.rest own.rest e u order.rest in
        subst (IsFed flat done put around hole w (parts_in around ns (inline (link p t c) xs)))
        (appended-assoc init (one_inline z) (inline (link p t c) xs))
        (joined-fed flat done put around hole ns w v (link p t c) xs (appended init (one_inline z)) here_is rest)
    after-all (inline (image a t d) xs) b ns from put around hole fs w init z free at m n settled e u rise =
        let normal = normal-one b fs (image a t d) xs n in
        let order = rising-next from ns (image a t d) xs rise in
        let own = settled-one (image a t d) xs settled in
        let ys : Inlines = joined (spaced false at.ys at.g) (image a t d) in
        let v : Writing = after flat done put around hole ys [] false no_gap in
        let here_is : fed_all w (parts_one around ns (image a t d)) ≡ v =
        ap (λ x. after_leaf x around false (image a t d)) at.is
        ∙ leaf-here flat done put around hole at.ys at.inner at.k at.g false (image a t d) in
        let place : IsPlace (suc (own_number ns)) put around hole v (appended init (one_inline z))
        (image a t d) xs = record {
          ys = ys;
          inner = [];
          k = false;
          g = [];
          is = refl;
          all = ap (λ x. joined x (image a t d)) at.all ∙ joined-apart init z (image a t d) (apart-image z a t d);
          white = λ h. refl;
          unbroken = λ r same. refl;
          clear = λ g d r same o ms. refl;
          past = λ id r same g d q on o ms. refl;
          across = λ r same g d q on o ms. refl;
          beyond = λ s r same h g d q on o ms. refl;
        } in
        let rest = after-all xs b (numbers_after ns) (suc (own_number ns)) put around hole fs v
        (appended init (one_inline z))
        (image a t d) free place
        normal.meets_next normal.rest own.rest e u order.rest in
        subst (IsFed flat done put around hole w (parts_in around ns (inline (image a t d) xs)))
        (appended-assoc init (one_inline z) (inline (image a t d) xs))
        (joined-fed flat done put around hole ns w v (image a t d) xs (appended init (one_inline z)) here_is rest)
    after-all (inline (anchor id) xs) b ns from put around hole fs w init z free at m n settled e u rise =
        let normal = normal-one b fs (anchor id) xs n in
        let order = rising-next from ns (anchor id) xs rise in
        let own = settled-one (anchor id) xs settled in
        let front : Inlines = appended init (one_inline z) in
        let enter = places-entry flat done put around hole (free (outside b id fs normal.own)) w at.ys front at.inner
        at.k
        at.g at.is at.all in
        let rest = begin-all xs b (numbers_after ns) (suc (own_number ns)) (λ ys. put
        (appended (appended front (one_inline (anchor id))) ys)) around
        (lone-hole put around front (anchor id) refl hole) fs (fed w (part.place id)) at.inner (enter id [])
        (λ first j js. enter id (j ∷ js)) free
        (λ g d r same o ms. at.past id xs refl g d r same (from-less from (suc (own_number ns)) g order.below o) ms)
        (whole-after-anchor (anchor id) xs refl own.followed e u) normal.rest own.rest order.rest in
        record {
          inner = rest.inner;
          last = rest.last;
          is = rest.is
              ∙ ap (λ x. in_line flat done (put x) (map wrapper_of around ++ rest.inner) rest.last no_gap)
              (appended-assoc front (one_inline (anchor id)) xs
              ∙ appended-assoc init (one_inline z) (inline (anchor id) xs));
        }
    after-all (inline line_break xs) b ns from put around hole fs w init z free at m n settled e u rise =
        let normal = normal-one b fs line_break xs n in
        let order = rising-next from ns line_break xs rise in
        let own = settled-one line_break xs settled in
        let none : at.g ≡ [] = at.white (at.unbroken xs refl) in
        let front : Inlines = appended init (one_inline z) in
        let before : at.ys ≡ front = ap (spaced false at.ys) (sym none) ∙ at.all in
        let ended : Bool = is_ended (numbers_inside ns) in
        let v : Writing = past_break flat done put around hole ended at.ys at.inner at.k in
        let here_is : fed_all w (parts_one around ns line_break) ≡ v =
        ap (λ x. fed_all (fed x part.break) (end_of_line ended around))
        (at.is ∙ ap (λ b. after flat done put around hole at.ys at.inner at.k (gap_of false b)) none)
        ∙ end-fed flat done put around hole ended at.ys at.inner at.k in
        let enter : IsEntry flat done (λ ys. put (appended (appended front (one_inline line_break)) ys)) around v
        at.inner =
        λ more c y h. leaf-past-break flat done put around hole ended at.ys at.inner at.k c more y h
        ∙ ap (λ x. in_line flat done (put x) (map wrapper_of (around ++ more)) c no_gap)
        (ap (λ ys. joined (joined ys line_break) (wrapped more y)) before
        ∙ (ap (λ ys. joined ys (wrapped more y)) (joined-apart init z line_break (apart-break z))
        ∙ joined-apart front line_break (wrapped more y) refl)) in
        let rest = begin-all xs b (numbers_after ns) (suc (own_number ns)) (λ ys. put
        (appended (appended front (one_inline line_break)) ys)) around
        (lone-hole put around front line_break refl hole) fs v at.inner enter
        (λ first. break-places flat done put around hole (free (unlinked b fs xs normal.rest first)) ended at.ys front
        at.inner at.k (ap (λ ys. joined ys line_break) before ∙ joined-apart init z line_break (apart-break z))) free
        (λ g d r same o ms. at.across xs refl g d r same (from-less from (suc (own_number ns)) g order.below o) ms)
        (whole-after-break xs normal.meets_next own.beside e u) normal.rest own.rest order.rest in
        record {
          inner = rest.inner;
          last = rest.last;
          is = fold-append fed w (parts_one around ns line_break) (parts_in around (numbers_after ns) xs)
              ∙ (ap (λ x. fed_all x (parts_in around (numbers_after ns) xs)) here_is
              ∙ (rest.is
              ∙ ap (λ x. in_line flat done (put x) (map wrapper_of around ++ rest.inner) rest.last no_gap)
              (appended-assoc front (one_inline line_break) xs
              ∙ appended-assoc init (one_inline z) (inline line_break xs))));
        }
    after-all (inline (task d) xs) b ns from put around hole fs w init z free at m n settled e u rise =
        false-true (settled-one (task d) xs settled).own

    -- from where a line begins
    pub begin-all : (xs : Inlines) (b : Bool) (ns : Numbers) (from : ℕ) (put : Inlines → Inlines)
        (around : List Around)
        (hole : IsHole put around)
        (fs : List Format) (w : Writing) (inner : List Wrapper) → IsEntry flat done put around w inner
        → (first_passes is_anchor xs ≡ true → IsPlaced flat done put around w inner) → IsFree b around
        → IsClear flat done from inner (behind_anchors xs) → IsWhole xs
        → are_normal b fs xs ≡ true → are_held xs ≡ true → is_rising from ns xs ≡ true
        → IsFed flat done put around hole w (parts_in around ns xs) xs
    begin-all no_inlines b ns from put around hole fs w inner enter placed free clear whole n settled rise =
        true-false whole.some
    begin-all (inline (text s) xs) b ns from put around hole fs w inner enter placed free clear whole n settled rise =
        let normal = normal-one b fs (text s) xs n in
        let order = rising-next from ns (text s) xs rise in
        let own = settled-one (text s) xs settled in
        let l : IsLine s = text-line s own.own normal.own in
        let found : IsTextBegun flat done put around hole w (chars s) =
        text-begun flat done put around hole w inner enter (chars s) l.some whole.begins l.spaced in
        let v : Writing =
        after flat done put around hole found.ys [] found.last (gap_of false (white_after [] (chars s))) in
        let place : IsPlace (suc (own_number ns)) put around hole v no_inlines (text s) xs = record {
          ys = found.ys;
          inner = [];
          k = found.last;
          g = white_after [] (chars s);
          is = refl;
          all = found.all ∙ ap (λ t. one_inline (text t)) l.bytes;
          white = λ h. none-after (chars s) [] l.some h;
          unbroken = λ r same. sym (ap (is_white_at_break (text s)) same) ∙ own.beside;
          clear = λ g d r same o ms. refl;
          past = λ id r same g d q on o ms. refl;
          across = λ r same g d q on o ms. refl;
          beyond = λ t r same h g d q on o ms. refl;
        } in
        joined-fed flat done put around hole ns w v (text s) xs no_inlines found.is
        (after-all xs b (numbers_after ns) (suc (own_number ns)) put around hole fs v no_inlines
        (text s) free place normal.meets_next normal.rest own.rest
        whole.ends whole.closes order.rest)
    begin-all (inline (code s) xs) b ns from put around hole fs w inner enter placed free clear whole n settled rise =
        let normal = normal-one b fs (code s) xs n in
        let order = rising-next from ns (code s) xs rise in
        let own = settled-one (code s) xs settled in
        let c : IsCode s = code-normal s own.own normal.own in
        let found : IsCodeFed flat done put around hole w no_inlines (chars s) =
        code-by-first flat done put around hole w no_inlines (chars s) c.line.some c.begins c.line.spaced
        (λ b h. rw h (entry-here flat done put around hole w inner enter true (code (encode_utf8 b)))) in
        let v : Writing = after flat done put around hole found.ys [] true no_gap in
        let place : IsPlace (suc (own_number ns)) put around hole v no_inlines (code s) xs = record {
          ys = found.ys;
          inner = [];
          k = true;
          g = [];
          is = refl;
          all = ap (spaced true found.ys) (sym (none-after (chars s) [] c.line.some c.ends)) ∙
              (found.all ∙ ap (λ t. one_inline (code t)) c.line.bytes);
          white = λ h. refl;
          unbroken = λ r same. refl;
          clear = λ g d r same o ms. refl;
          past = λ id r same g d q on o ms. refl;
          across = λ r same g d q on o ms. refl;
          beyond = λ t r same h g d q on o ms. refl;
        } in
        joined-fed flat done put around hole ns w v (code s) xs no_inlines
        (found.is ∙ (ap (λ b. here flat done put around hole found.ys b) (none-after (chars s) [] c.line.some c.ends)
        ∙ sym (here-after flat done put around hole found.ys)))
        (after-all xs b (numbers_after ns) (suc (own_number ns)) put around hole fs v no_inlines
        (code s) free place normal.meets_next normal.rest own.rest
        whole.ends whole.closes order.rest)
    begin-all (inline (formatted f c) xs) b ns from put around hole fs w inner enter placed free clear whole n settled
        rise =
        let normal = normal-one b fs (formatted f c) xs n in
        let order = rising-next from ns (formatted f c) xs rise in
        let own = settled-one (formatted f c) xs settled in
        let held = and_parts (are_black_inside c) (are_held c) own.own in
        let g : IsFormat b fs f c = format-normal b fs f c normal.own held.0 in
        let a : Around = part.formatted f in
        let in_it : IsEntry flat done (λ x. put (joined no_inlines (wrapped_by a x))) (around ++ a ∷ []) w [] =
        around-entry flat done put around a w no_inlines
        (λ more k y. enter (a ∷ more) k y (clear a c xs refl refl (map wrapper_of more))) in
        let within = begin-all c b (numbers_inside ns) 0 (λ x. put (joined no_inlines (wrapped_by a x)))
        (around ++ a ∷ []) (around-hole put around no_inlines a hole) (f ∷ fs) w [] in_it (unplaced c g.unled)
        (free-more b around f free) (λ g d r same o ms. refl) g.whole g.normal held.1 order.inside in
        let v : Writing = after flat done put around hole (one_inline (formatted f c)) (wrapper_of a ∷ within.inner)
        within.last no_gap in
        let place : IsPlace (suc (own_number ns)) put around hole v no_inlines (formatted f c) xs = record {
          ys = one_inline (formatted f c);
          inner = wrapper_of a ∷ within.inner;
          k = within.last;
          g = [];
          is = refl;
          all = refl;
          white = λ h. refl;
          unbroken = λ r same. refl;
          clear = λ g d r same o ms. next-differs a g c d r (sym (ap (meets (formatted f c)) same)
              ∙ normal.meets_next) refl
              within.inner ms;
          past = λ id r same g d q on o ms. around-differs a g c d
              (sym (ap (goes_on (formatted f c)) on) ∙ (sym (ap (is_parted (formatted f c)) same) ∙ own.apart)) refl
              within.inner ms;
          across = λ r same g d q on o ms. around-differs a g c d
              (sym (ap (goes_on (formatted f c)) on) ∙ (sym (ap (is_parted (formatted f c)) same) ∙ own.apart)) refl
              within.inner ms;
          beyond = λ s r same h g d q on o ms. around-differs a g c d
              (sym (ap (goes_on (formatted f c)) on)
              ∙ (sym (ap (λ x. x && goes_on (formatted f c) (behind_anchors r)) h)
              ∙ (sym (ap (is_parted (formatted f c)) same) ∙ own.apart))) refl within.inner ms;
        } in
        joined-fed flat done put around hole ns w v (formatted f c) xs no_inlines
        (within.is ∙ around-left flat done put around hole a no_inlines c within.inner within.last)
        (after-all xs b (numbers_after ns) (suc (own_number ns)) put around hole fs v no_inlines
        (formatted f c) free place normal.meets_next normal.rest
        own.rest whole.ends whole.closes order.rest)
    begin-all (inline (link p t c) xs) b ns from put around hole fs w inner enter placed free clear whole n settled
        rise =
        let normal = normal-one b fs (link p t c) xs n in
        let order = rising-next from ns (link p t c) xs rise in
        let own = settled-one (link p t c) xs settled in
        let g : IsLink b fs p t c = link-normal b fs p t c normal.own own.own in
        let a : Around = part.linked (own_number ns) p t in
        let in_it : IsEntry flat done (λ x. put (joined no_inlines (wrapped_by a x))) (around ++ a ∷ []) w [] =
        around-entry flat done put around a w no_inlines
        (λ more k y. enter (a ∷ more) k y (clear a c xs refl order.least (map wrapper_of more))) in
        let within = begin-all c true (numbers_inside ns) 0 (λ x. put (joined no_inlines (wrapped_by a x)))
        (around ++ a ∷ []) (around-hole put around no_inlines a hole) fs w [] in_it
        (unplaced c (linked-unled fs c g.normal)) (free-link (around ++ a ∷ [])) (λ g d r same o ms. refl)
        g.whole g.normal g.settled order.inside in
        let v : Writing = after flat done put around hole (one_inline (link p t c)) (wrapper_of a ∷ within.inner)
        within.last no_gap in
        let place : IsPlace (suc (own_number ns)) put around hole v no_inlines (link p t c) xs = record {
          ys = one_inline (link p t c);
          inner = wrapper_of a ∷ within.inner;
          k = within.last;
          g = [];
          is = refl;
          all = refl;
          white = λ h. refl;
          unbroken = λ r same. refl;
          clear = λ g d r same o ms. next-differs a g c d r (sym (ap (meets (link p t c)) same)
              ∙ normal.meets_next) o
              within.inner ms;
          past = λ id r same g d q on o ms. around-differs a g c d
              (sym (ap (goes_on (link p t c)) on) ∙ (sym (ap (is_parted (link p t c)) same) ∙ own.apart)) o
              within.inner ms;
          across = λ r same g d q on o ms. around-differs a g c d
              (sym (ap (goes_on (link p t c)) on) ∙ (sym (ap (is_parted (link p t c)) same) ∙ own.apart)) o
              within.inner ms;
          beyond = λ s r same h g d q on o ms. around-differs a g c d
              (sym (ap (goes_on (link p t c)) on) ∙ (sym (ap (λ x. x && goes_on (link p t c) (behind_anchors r)) h)
              ∙ (sym (ap (is_parted (link p t c)) same) ∙ own.apart))) o within.inner ms;
        } in
        joined-fed flat done put around hole ns w v (link p t c) xs no_inlines
        (within.is ∙ around-left flat done put around hole a no_inlines c within.inner within.last)
        (after-all xs b (numbers_after ns) (suc (own_number ns)) put around hole fs v no_inlines
        (link p t c) free place normal.meets_next normal.rest
        own.rest whole.ends whole.closes order.rest)
    begin-all (inline (image a t d) xs) b ns from put around hole fs w inner enter placed free clear whole n settled
        rise =
        let normal = normal-one b fs (image a t d) xs n in
        let order = rising-next from ns (image a t d) xs rise in
        let own = settled-one (image a t d) xs settled in
        let v : Writing = after flat done put around hole (one_inline (image a t d)) [] false no_gap in
        let place : IsPlace (suc (own_number ns)) put around hole v no_inlines (image a t d) xs = record {
          ys = one_inline (image a t d);
          inner = [];
          k = false;
          g = [];
          is = refl;
          all = refl;
          white = λ h. refl;
          unbroken = λ r same. refl;
          clear = λ g d r same o ms. refl;
          past = λ id r same g d q on o ms. refl;
          across = λ r same g d q on o ms. refl;
          beyond = λ s r same h g d q on o ms. refl;
        } in
        joined-fed flat done put around hole ns w v (image a t d) xs no_inlines
        (entry-here flat done put around hole w inner enter false (image a t d))
        (after-all xs b (numbers_after ns) (suc (own_number ns)) put around hole fs v no_inlines
        (image a t d) free place normal.meets_next normal.rest own.rest
        whole.ends whole.closes order.rest)
    begin-all (inline (anchor id) xs) b ns from put around hole fs w inner enter placed free clear whole n settled
        rise =
        let normal = normal-one b fs (anchor id) xs n in
        let order = rising-next from ns (anchor id) xs rise in
        let own = settled-one (anchor id) xs settled in
        let rest = begin-all xs b (numbers_after ns) (suc (own_number ns)) (λ ys. put (inline (anchor id) ys)) around
        (lone-hole put around no_inlines (anchor id) refl hole) fs (fed w (part.place id)) inner (placed refl id [])
        (λ first j js. placed refl id (j ∷ js)) free
        (λ g d r same o ms. clear g d r same (from-less from (suc (own_number ns)) g order.below o) ms)
        (whole-after-anchor (anchor id) xs refl own.followed whole.ends whole.closes) normal.rest own.rest order.rest in
        record { inner = rest.inner; last = rest.last; is = rest.is }
    begin-all (inline line_break xs) b ns from put around hole fs w inner enter placed free clear whole n settled rise =
        true-false whole.starts
    begin-all (inline (task d) xs) b ns from put around hole fs w inner enter placed free clear whole n settled rise =
        false-true (settled-one (task d) xs settled).own
