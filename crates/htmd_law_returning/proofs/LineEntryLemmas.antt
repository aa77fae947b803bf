-- Where a line begins, or what is in a format or a link, and how its first inline comes in.
use Rattle.std.proofs.Common.{◌≡◌, ℕ, Bool, true, false, List, []}
use Rattle.std.proofs.Common.{◌∷◌, ◌++◌, map}
use Rattle.std.proofs.Common.{fold, refl, sym, ap, ◌∙◌, subst, encode_utf8_all}
use Rattle.std.proofs.Common.{cond}
use Rattle.std.specs.Prelude.{encode_utf8}
use Rattle.std.proofs.lemmas.List.{append_assoc, append-nil}
use Rattle.std.proofs.lemmas.List.Sums.{fold-append}
use Rattle.std.specs.List.{list_all, list_any}
use Rattle.htmd_lexical.specs.CharacterClasses.{is_empty}
use Rattle.htmd_lexical.proofs.Cases.{test}
use Rattle.htmd_document.specs.Documents.{Block, Inline, text, code, anchor, line_break}
use Rattle.htmd_document.specs.Documents.{Inlines, no_inlines, inline}
use Rattle.htmd_flow.specs.Contexts.{is_link}
use Rattle.htmd_flow.specs.Nesting.{Wrapper, wrapper_of, shared, wrapped, one_inline}
use Rattle.htmd_flow.specs.Nesting.{joined, behind}
use Rattle.htmd_flow.specs.Nesting.{wrapped_by}
use Rattle.htmd_flow.specs.Paragraphs.{Writing, after_leaf, anchored, fed_all, fed}
use Rattle.htmd_flow.specs.Parts as part
use Rattle.htmd_flow.specs.Parts.{Around, Part}
use Rattle.htmd_shown.specs.Spaces.{no_gap, is_white}
use Rattle.htmd_law_returning.proofs.NestLemmas.{appended, appended-assoc, IsHole, whole-hole}
use Rattle.htmd_law_returning.proofs.NestLemmas.{around-hole}
use Rattle.htmd_law_returning.proofs.AnchorLeaves.{anchors_of, places, waiting, places-fed, unparted, leaf-behind}
use Rattle.htmd_law_returning.proofs.AnchorLeaves.{leaf-after-places, leaf-past-break-places}
use Rattle.htmd_law_returning.proofs.RunLemmas.{gap_of, in_line, after, with_character, spaced, are_spaced}
use Rattle.htmd_law_returning.proofs.RunLemmas.{past_break, break-fed}
use Rattle.htmd_law_returning.proofs.RunLemmas.{shared-none}
use Rattle.htmd_law_returning.proofs.RunLemmas.{joined-all, IsRun}
use Rattle.htmd_law_returning.proofs.RunLemmas.{text-run, here, IsCodeRun, code-run, map-both}
use Rattle.htmd_law_returning.proofs.RunLemmas.{white_after, next-spaced, no-space}
use Rattle.htmd_law_returning.proofs.StartLemmas.{true-false}
use Rattle.htmd_law_returning.proofs.StartLemmas.{Mode, in_blocks, in_item, one_line, clean}
use Rattle.htmd_law_returning.proofs.LineFormLemmas.{is_from}
use Rattle.htmd_law_returning.specs.WholeLines.{begins_white_text}
use Rattle.htmd_law_returning.proofs.LineParts.{Numbers, numbers_after}
use Rattle.htmd_law_returning.proofs.LineParts.{end_of_line, parts_one, parts_in}

module _ (flat : Mode) (done : List Block) where
  pub record IsFed (put : Inlines → Inlines) (around : List Around) (hole : IsHole put around) (w : Writing)
      (ps : List Part) (xs : Inlines) : Type 0 where
    pub inner : List Wrapper
    pub last : Bool
    pub is : fed_all w ps ≡ after flat done put around hole xs inner last no_gap

  -- the next format or link isn't open
  abbrev pub IsClear : ℕ → List Wrapper → Inlines → Type 0
  IsClear k inner xs = (b : Around) (c r : Inlines) → xs ≡ inline (wrapped_by b c) r → is_from k b ≡ true
      → (ms : List Wrapper)
      → shared inner (wrapper_of b ∷ ms) ≡ 0

  -- where a line or what is in a format begins, in nothing that is open but what is around
  abbrev pub IsEntry : (Inlines → Inlines) → List Around → Writing → List Wrapper → Type 0
  IsEntry put around w inner = (more : List Around) (c : Bool) (y : Inline)
      → shared inner (map wrapper_of more) ≡ 0
      → after_leaf w (around ++ more) c y
      ≡ in_line flat done (put (one_inline (wrapped more y))) (map wrapper_of (around ++ more)) c no_gap

  -- with anchors first
  abbrev pub IsPlaced : (Inlines → Inlines) → List Around → Writing → List Wrapper → Type 0
  IsPlaced put around w inner = (id : List ℕ) (ids : List (List ℕ))
      → IsEntry (λ ys. put (appended (anchors_of (id ∷ ids)) ys)) around (fed_all w (places (id ∷ ids))) inner

  module _ (put : Inlines → Inlines) (around : List Around) (hole : IsHole put around) where
    -- code as a whole
    pub record IsCodeFed (w : Writing) (xs : Inlines) (cs : List ℕ) : Type 0 where
      pub ys : Inlines
      pub is : fold (with_character around true) w cs ≡ here flat done put around hole ys (white_after [] cs)
      pub all : spaced true ys (white_after [] cs) ≡ joined xs (code (encode_utf8_all cs))

    pub here-after : (xs : Inlines) → after flat done put around hole xs [] true no_gap
        ≡ here flat done put around hole xs []
    here-after xs = ap (λ ms. in_line flat done (put xs) ms true no_gap) (append-nil (map wrapper_of around))

    pub code-by-first : (w : Writing) (xs : Inlines) (cs : List ℕ) → is_empty cs ≡ false → begins_white_text cs
        ≡ false
        → are_spaced false cs ≡ true
        → ((c : ℕ) → is_white c ≡ false → with_character around true w c
        ≡ after flat done put around hole (joined xs (code (encode_utf8 c))) [] true no_gap)
        → IsCodeFed w xs cs
    code-by-first w xs [] some black h first = true-false some
    code-by-first w xs (c ∷ cs) some black h first =
        let zs : Inlines = joined xs (code (encode_utf8 c)) in
        let next = next-spaced false c cs h in
        let more : IsCodeRun flat done put around hole zs [] cs =
        code-run flat done put around hole cs zs [] false refl
        (ap (λ b. are_spaced b cs) (sym (no-space c black)) ∙ next.rest) in
        record {
          ys = more.ys;
          is = ap (λ v. fold (with_character around true) v cs) (first c black ∙ here-after zs)
              ∙ (more.is ∙ ap (λ e. here flat done put around hole more.ys
              (cond e (white_after (encode_utf8 c) cs) (white_after [] cs))) (sym black));
          all = ap (λ e. spaced true more.ys (cond e (white_after (encode_utf8 c) cs) (white_after [] cs))) black
              ∙ (more.all ∙ joined-all true cs xs (encode_utf8 c));
        }

    -- text as a whole, where a line begins
    pub record IsTextBegun (w : Writing) (cs : List ℕ) : Type 0 where
      pub ys : Inlines
      pub last : Bool
      pub is : fold (with_character around false) w cs
          ≡ after flat done put around hole ys [] last (gap_of false (white_after [] cs))
      pub all : spaced false ys (white_after [] cs) ≡ one_inline (text (encode_utf8_all cs))

    pub entry-here : (w : Writing) (inner : List Wrapper) → IsEntry put around w inner → (c : Bool) (y : Inline)
        → after_leaf w around c y ≡ after flat done put around hole (one_inline y) [] c no_gap
    entry-here w inner enter c y =
        subst (λ (all : List Around). after_leaf w all c y
        ≡ in_line flat done (put (one_inline y)) (map wrapper_of all) c no_gap)
        (append-nil around) (enter [] c y (shared-none inner))
        ∙ ap (λ ms. in_line flat done (put (one_inline y)) ms c no_gap) (sym (append-nil (map wrapper_of around)))

    pub text-begun : (w : Writing) (inner : List Wrapper) → IsEntry put around w inner → (cs : List ℕ)
        → is_empty cs ≡ false → begins_white_text cs ≡ false → are_spaced false cs ≡ true
        → IsTextBegun w cs
    text-begun w inner enter [] some black h = true-false some
    text-begun w inner enter (c ∷ cs) some black h =
        let zs : Inlines = one_inline (text (encode_utf8 c)) in
        let next = next-spaced false c cs h in
        let more : IsRun flat done put around hole zs [] false [] cs =
        text-run flat done put around hole cs zs [] false [] false refl
        (ap (λ b. are_spaced b cs) (sym (no-space c black)) ∙ next.rest) in
        let first : with_character around false w c ≡ after flat done put around hole zs [] false no_gap =
        rw black (entry-here w inner enter false (text (encode_utf8 c))) in
        let none : more.within ≡ [] = test (list_all is_white cs) more.stays more.shows in
        record {
          ys = more.ys;
          last = more.last;
          is = ap (λ v. fold (with_character around false) v cs) first
              ∙ (more.is
              ∙ (ap (λ ms. after flat done put around hole more.ys ms more.last
              (gap_of false (white_after [] cs))) none
              ∙ ap (λ e. after flat done put around hole more.ys [] more.last
              (gap_of false (cond e (white_after (encode_utf8 c) cs) (white_after [] cs)))) (sym black)));
          all = ap (λ e. spaced false more.ys (cond e (white_after (encode_utf8 c) cs) (white_after [] cs))) black
              ∙ (more.all ∙ joined-all false cs no_inlines (encode_utf8 c));
        }

    -- one inline, and then others
    pub joined-fed : (ns : Numbers) (w v : Writing) (x : Inline) (xs init : Inlines)
        → fed_all w (parts_one around ns x) ≡ v
        → IsFed put around hole v (parts_in around (numbers_after ns) xs) (appended init (inline x xs))
        → IsFed put around hole w (parts_in around ns (inline x xs)) (appended init (inline x xs))
    joined-fed ns w v x xs init e rest = record {
      inner = rest.inner;
      last = rest.last;
      is = fold-append fed w (parts_one around ns x) (parts_in around (numbers_after ns) xs)
          ∙ (ap (λ u. fed_all u (parts_in around (numbers_after ns) xs)) e ∙ rest.is);
    }

  -- into a format or a link
  pub around-entry : (put : Inlines → Inlines) (around : List Around) (a : Around) (w : Writing) (xs : Inlines)
      → ((more : List Around) (c : Bool) (y : Inline)
      → after_leaf w (around ++ a ∷ more) c y
      ≡ in_line flat done (put (joined xs (wrapped_by a (one_inline (wrapped more y)))))
      (map wrapper_of (around ++ a ∷ more)) c no_gap)
      → IsEntry (λ c. put (joined xs (wrapped_by a c))) (around ++ a ∷ []) w []
  around-entry put around a w xs h more c y e =
      subst (λ (all : List Around). after_leaf w all c y
      ≡ in_line flat done (put (joined xs (wrapped_by a (one_inline (wrapped more y)))))
      (map wrapper_of all) c no_gap)
      (sym (append_assoc around (a ∷ []) more)) (h more c y)

  -- and out of it
  pub around-left : (put : Inlines → Inlines) (around : List Around) (hole : IsHole put around) (a : Around)
      (xs c : Inlines) (ms : List Wrapper) (k : Bool)
      → after flat done (λ x. put (joined xs (wrapped_by a x))) (around ++ a ∷ [])
      (around-hole put around xs a hole) c ms k no_gap
      ≡ after flat done put around hole (joined xs (wrapped_by a c)) (wrapper_of a ∷ ms) k no_gap
  around-left put around hole a xs c ms k =
      ap (λ ns. in_line flat done (put (joined xs (wrapped_by a c))) (ns ++ ms) k no_gap)
      (map-both flat done put around hole around (a ∷ []))
      ∙ ap (λ ns. in_line flat done (put (joined xs (wrapped_by a c))) ns k no_gap)
      (append_assoc (map wrapper_of around) (wrapper_of a ∷ []) ms)

  pub end-fed : (put : Inlines → Inlines) (around : List Around) (hole : IsHole put around) (ended : Bool)
      (ys : Inlines)
      (inner : List Wrapper) (k : Bool)
      → fed_all (fed (after flat done put around hole ys inner k no_gap) part.break) (end_of_line ended around)
      ≡ past_break flat done put around hole ended ys inner k
  end-fed put around hole false ys inner k = refl
  end-fed put around hole true ys inner k = break-fed flat done put around hole ys inner k

  -- where a line begins
  pub clean-placed : IsPlaced (λ xs. xs) [] (clean flat done) []
  clean-placed id ids more c y h =
      ap (λ v. after_leaf v more c y) (places-fed (clean flat done) id ids (unparted (clean flat done) refl) refl)
      ∙ (whole flat
      ∙ ap (λ x. in_line flat done x (map wrapper_of more) c no_gap)
      (leaf-behind (λ xs. xs) [] whole-hole no_inlines more id ids y))
    where
      whole : (flat' : Mode)
          → after_leaf (waiting (clean flat' done) (id ∷ ids)) more c y
          ≡ in_line flat' done (behind 0 (anchored 0 no_inlines more (id ∷ ids)) more y) (map wrapper_of more) c
          no_gap
      whole in_blocks = refl
      whole in_item = refl
      whole one_line = refl

  module _ (put : Inlines → Inlines) (around : List Around) (hole : IsHole put around)
      (free : list_any is_link around ≡ false) where
    -- where anchors stand behind other inlines
    pub places-entry : (w : Writing) (ys front : Inlines) (inner : List Wrapper) (k : Bool) (g : List ℕ)
        → w ≡ after flat done put around hole ys inner k (gap_of false g) → spaced false ys g ≡ front
        → (id : List ℕ) (ids : List (List ℕ))
        → IsEntry (λ xs. put (appended (appended front (one_inline (anchor id))) (appended (anchors_of ids) xs)))
        around
        (fed_all w (places (id ∷ ids))) inner
    places-entry w ys front inner k g is all id ids more c y h =
        ap (λ v. after_leaf (fed_all v (places (id ∷ ids))) (around ++ more) c y) is
        ∙ (leaf-after-places flat done put around hole ys inner k g id ids c more y free h
        ∙ ap (λ x. in_line flat done (put x) (map wrapper_of (around ++ more)) c no_gap)
        (ap (λ x. appended (appended x (anchors_of (id ∷ ids))) (one_inline (wrapped more y))) all
        ∙ (appended-assoc front (anchors_of (id ∷ ids)) (one_inline (wrapped more y))
        ∙ sym (appended-assoc front (one_inline (anchor id))
        (appended (anchors_of ids) (one_inline (wrapped more y)))))))

    -- and behind a break
    pub break-places : (ended : Bool) (ys front : Inlines) (inner : List Wrapper) (k : Bool)
        → joined ys line_break ≡ appended front (one_inline line_break)
        → IsPlaced (λ xs. put (appended (appended front (one_inline line_break)) xs)) around
        (past_break flat done put around hole ended ys inner k) inner
    break-places ended ys front inner k all id ids more c y h =
        leaf-past-break-places flat done put around hole ended ys inner k id ids c more y free h
        ∙ ap (λ x. in_line flat done (put x) (map wrapper_of (around ++ more)) c no_gap)
        (ap (λ x. appended (appended x (anchors_of (id ∷ ids))) (one_inline (wrapped more y))) all
        ∙ appended-assoc (appended front (one_inline line_break)) (anchors_of (id ∷ ids))
        (one_inline (wrapped more y)))
