-- What is begun keeps the wrappers of all that was fed into it.
use Rattle.std.proofs.Common.{◌≡◌, ℕ, zero, suc, ◌≤◌, Bool, true, false, cond, not, ◌&&◌, List, [], ◌∷◌, ◌++◌, length}
use Rattle.std.proofs.Common.{refl, sym, ◌∙◌, ap, arith, append_assoc, subst, map, take, fold}
use Rattle.std.specs.Prelude.{encode_utf8, encode_utf8_all, nat_le, ◌==◌}
use Rattle.std.specs.List.{flat_map}
use Rattle.std.specs.Str.{IsUtf8}
use Rattle.std.proofs.Math.Utf8.{scalars, scalar}
use Rattle.std.proofs.lemmas.List.{append-nil, length-map, length-take-le}
use Rattle.std.proofs.lemmas.Grind.{flat_map-append}
use Rattle.htmd_lexical.specs.Characters.{space}
use Rattle.htmd_lexical.specs.WhiteSpace.{is_ascii_white_space}
use Rattle.htmd_lexical.proofs.Cases.{test}
use Rattle.htmd_document.specs.Documents.{Inline, text, line_break, anchor, Inlines, no_inlines, inline, Block}
use Rattle.htmd_document.specs.Documents.{blocks_of}
use Rattle.htmd_flow.specs.Nesting.{shared, behind, text_or_code}
use Rattle.htmd_flow.specs.Nesting as nest
use Rattle.htmd_flow.specs.Paragraphs.{Writing, begun, is_leaf, anchored, shown_content, whole_content, paragraph_of}
use Rattle.htmd_flow.specs.Paragraphs.{open_paragraph, ended, parted, broken_off, spaced_out, white_behind, is_code_gap}
use Rattle.htmd_flow.specs.Paragraphs.{gap_after_task, gap_before, gap_behind, latest_of, shared_wrappers, put_before}
use Rattle.htmd_flow.specs.Paragraphs.{shown, after_leaf, is_task_here, boxed, with_task, tasked, with_anchor}
use Rattle.htmd_flow.specs.Paragraphs.{is_boxed_item, edged, blocked, after_character, blocks_in, line_in}
use Rattle.htmd_flow.specs.declared.paragraphs.Met.{Met}
use Rattle.htmd_flow.specs.Parts.{Around, formatted, linked}
use Rattle.htmd_shown.specs.Spaces.{Gap, shown_white, is_white, ends_with_space}
use Rattle.htmd_flow.proofs.NestingLemmas.{before-front}
use Rattle.htmd_flow.proofs.ParagraphsLemmas.{shared-le-other, shared-prefix}
use Rattle.htmd_law_documents.proofs.VisibleLemmas.{Shows, shows-nil, text-same, shows-blank, both-true}
use Rattle.htmd_law_documents.proofs.VisibleLemmas.{shows-character, shows-encodes, shows-white}
use Rattle.htmd_law_documents.proofs.Readers.{Reader, unseen, read_inline, read_line, read_block, read_blocks}
use Rattle.htmd_law_documents.proofs.Readers.{read_around}
use Rattle.htmd_law_documents.proofs.WrapperLinesLemmas.{IsTextInline, AreTextInlines, Opens, opens-front, IsBehind}
use Rattle.htmd_law_documents.proofs.WrapperLinesLemmas.{behind-wrappers}
use lib.Utf8.{encode}

-- ---- white space

pub false-true : {A : Type 0} → false ≡ true → A
false-true e = absurd (clash e)
  where
    clash : false ≡ true → ⊥
    clash p = (cc)

shown_white-shows : (b : Bool) (c : ℕ) → scalar c ≡ true → is_white c ≡ true
    → Shows (encode_utf8 (cond b space c)) []
shown_white-shows true c h w = shows-white space refl refl
shown_white-shows false c h w = shows-white c h w

pub spaced-shows : (b : Bool) (g : Gap) (c : ℕ) (is_code : Bool) → Shows g.white [] → scalar c ≡ true
    → is_white c ≡ true
    → Shows (cond b g (record g {
      white = g.white ++ encode_utf8 (shown_white c);
      is_code = g.is_code && is_code;
    })).white
    []
spaced-shows true g c is_code s h w = s
spaced-shows false g c is_code s h w =
    shows-blank g.white (encode_utf8 (shown_white c)) [] s (shown_white-shows (is_ascii_white_space c) c h w)

space-shows : Shows (space ∷ []) []
unfolding encode
space-shows = shows-white space refl refl

module _ (R : Reader) where
  -- ---- blocks in a row

  abbrev pub wrappers_of_all : List Block → List R.Seen
  wrappers_of_all bs = flat_map (read_block R) bs

  pub blocks-wrappers : (bs : List Block) → read_blocks R (blocks_of bs) ≡ wrappers_of_all bs
  blocks-wrappers [] = refl
  blocks-wrappers (b ∷ bs) = ap (λ t. read_block R b ++ t) (blocks-wrappers bs)

  -- ---- fronts of wrappers

  take-map : {A B : Type 0} (f : A → B) (n : ℕ) (xs : List A) → take n (map f xs) ≡ map f (take n xs)
  take-map f zero xs = refl
  take-map f (suc n) [] = refl
  take-map f (suc n) (x ∷ xs) = ap (λ ys. f x ∷ ys) (take-map f n xs)

  front-twice : {A B : Type 0} (f : A → B) (n : ℕ) (xs : List A) → take n (map f (take n xs)) ≡ take n
      (map f xs)
  front-twice f zero xs = refl
  front-twice f (suc n) [] = refl
  front-twice f (suc n) (x ∷ xs) = ap (λ ys. f x ∷ ys) (front-twice f n xs)

  -- ---- links by number

  -- the same is taken from each link of a node
  module _ (addr : ℕ → R.Wrap) where
    abbrev pub Agrees : Around → Type 0
    Agrees (formatted f) = Unit {0}
    Agrees (linked node address title) = R.as_link address ≡ addr node

    abbrev pub AllAgree : List Around → Type 0
    AllAgree [] = Unit {0}
    AllAgree (a ∷ around) = Agrees a × AllAgree around

    abbrev pub wrapper_at : nest.Wrapper → R.Wrap
    wrapper_at (nest.of_format f) = R.as_format f
    wrapper_at (nest.of_link node) = addr node

    wrapper-agrees : (a : Around) → Agrees a → read_around R a ≡ wrapper_at (nest.wrapper_of a)
    wrapper-agrees (formatted f) h = refl
    wrapper-agrees (linked node address title) h = h

    pub wrappers-agree : (around : List Around) → AllAgree around
        → map (read_around R) around ≡ map wrapper_at (map nest.wrapper_of around)
    wrappers-agree [] h = refl
    wrappers-agree (a ∷ around) h =
        ap (λ m. m ∷ map (read_around R) around) (wrapper-agrees a h.0)
        ∙ ap (λ ms. wrapper_at (nest.wrapper_of a) ∷ ms) (wrappers-agree around h.1)

    -- ---- what is begun

    pub data State (w : Writing) : Type 0 where
      at_nothing : w.latest ≡ (begun false false).latest → read_line R [] w.content ≡ [] → State w
      at_task : w.latest ≡ (tasked (begun true false) false).latest → read_line R [] w.content ≡ [] → State w
      at_leaf : (is_code : Bool) → w.latest ≡ latest_of is_code → Opens R (map wrapper_at w.around) w.content
          → State w

    abbrev pub marks_of : List (List ℕ) → List R.Seen
    marks_of ids = flat_map R.mark ids

    -- what is taken of its paragraph
    abbrev pub open_wrapped : Writing → List R.Seen
    open_wrapped w = read_line R [] w.content ++ marks_of w.anchors

    -- these characters in wrappers are in it
    pub record Wrote (w : Writing) (in_line : Bool) (cs : List R.Seen) : Type 0 where
      pub flat : w.is_flat ≡ in_line
      pub says : wrappers_of_all w.done ++ open_wrapped w ≡ cs
      pub texts : AreTextInlines w.content
      pub gap : Shows w.gap.white []
      pub blank : w.is_blank ≡ true → read_line R [] w.content ≡ []
      pub line : in_line ≡ true → w.done ≡ []
      pub state : State w

    pub wrote-same : (w : Writing) (in_line : Bool) (cs ds : List R.Seen) → cs ≡ ds → Wrote w in_line cs
        → Wrote w in_line ds
    wrote-same w in_line cs ds e h = subst (λ (xs : List R.Seen). Wrote w in_line xs) e h

    pub wrote-nothing : (in_item in_line : Bool) → Wrote (begun in_item in_line) in_line []
    wrote-nothing in_item in_line = record {
      flat = refl;
      says = refl;
      texts = tt;
      gap = shows-nil;
      blank = λ e. refl;
      line = λ e. refl;
      state = at_nothing refl refl;
    }

    state-kept : (v w : Writing) → v.latest ≡ w.latest → v.content ≡ w.content → v.around ≡ w.around
        → State w → State v
    state-kept v w a b c (at_nothing e h) = at_nothing (a ∙ e) (ap (read_line R []) b ∙ h)
    state-kept v w a b c (at_task e h) = at_task (a ∙ e) (ap (read_line R []) b ∙ h)
    state-kept v w a b c (at_leaf k e o) =
        at_leaf k (a ∙ e)
        (subst (λ (ms : List nest.Wrapper). Opens R (map wrapper_at ms) v.content) (sym c)
        (subst (λ (xs : Inlines). Opens R (map wrapper_at w.around) xs) (sym b) o))

    -- ---- what goes between

    -- inlines that say this, with so many wrappers open
    record IsGap (cs : List R.Seen) (around : List Around) (xs : Inlines) (n : ℕ) : Type 0 where
      says : read_line R [] xs ≡ cs
      texts : AreTextInlines xs
      fits : n ≤ length around
      opens : Opens R (take n (map (read_around R) around)) xs

    no-gap : (base : Inlines) (around : List Around) → AreTextInlines base
        → IsGap (read_line R [] base) around base 0
    no-gap base around u = record { says = refl; texts = u; fits = omega arith; opens = tt }

    either-blank : (wrappers : List R.Wrap) (is_code : Bool) (s : List ℕ) → Shows s []
        → read_inline R wrappers (text_or_code is_code s) ≡ []
    either-blank wrappers true s h = unseen R wrappers true s h
    either-blank wrappers false s h = unseen R wrappers false s h

    either-text : (is_code : Bool) (s : List ℕ) → IsUtf8 s → IsTextInline (text_or_code is_code s)
    either-text true s u = u
    either-text false s u = u

    -- an inline that says the same in all wrappers goes in all that is shared
    put-inline : (base : Inlines) (around : List Around) (n : ℕ) (y : Inline) (cs : List R.Seen)
        → ((wrappers : List R.Wrap) → read_inline R wrappers y ≡ cs)
        → IsTextInline y → n ≤ length around → Opens R (take n (map (read_around R) around)) base
        → AreTextInlines base
        → IsGap (read_line R [] base ++ cs) around (behind n base (take n around) y) n
    put-inline base around n y cs same v l o u =
        let count : length (take n around) ≡ n = length-take-le n around l in
        let b : IsBehind R [] base (behind n base (take n around) y) (take n around) y =
        behind-wrappers R n [] base (take n around) y (omega (arith, count))
        (subst (λ (ms : List R.Wrap). Opens R ms base) (sym (front-twice (read_around R) n around)) o) u v in
        record {
          says = b.says ∙ ap (λ t. read_line R [] base ++ t) (same (map (read_around R) (take n around)));
          texts = b.texts;
          fits = l;
          opens = subst (λ (ms : List R.Wrap). Opens R ms (behind n base (take n around) y))
              (sym (take-map (read_around R) n around)) b.opens;
        }

    gap-same : (cs ds : List R.Seen) (around : List Around) (xs : Inlines) (n : ℕ) → cs ≡ ds
        → IsGap cs around xs n
        → IsGap ds around xs n
    gap-same cs ds around xs n e h =
        record { says = h.says ∙ e; texts = h.texts; fits = h.fits; opens = h.opens }

    -- nothing visible
    put-gap : (base : Inlines) (around : List Around) (n : ℕ) (y : Inline)
        → ((wrappers : List R.Wrap) → read_inline R wrappers y ≡ [])
        → IsTextInline y → n ≤ length around → Opens R (take n (map (read_around R) around)) base
        → AreTextInlines base
        → IsGap (read_line R [] base) around (behind n base (take n around) y) n
    put-gap base around n y none v l o u =
        gap-same (read_line R [] base ++ []) (read_line R [] base) around (behind n base (take n around) y) n
        (append-nil (read_line R [] base)) (put-inline base around n y [] none v l o u)

    -- anchors say what is taken of each
    anchors-gap : (ids : List (List ℕ)) (cs : List R.Seen) (xs : Inlines) (around : List Around) (n : ℕ)
        → IsGap cs around xs n → IsGap (cs ++ marks_of ids) around (anchored n xs around ids) n
    anchors-gap [] cs xs around n h = gap-same cs (cs ++ []) around xs n (sym (append-nil cs)) h
    anchors-gap (id ∷ ids) cs xs around n h =
        let ys : Inlines = behind n xs (take n around) (anchor id) in
        let step : IsGap (read_line R [] xs ++ R.mark id) around ys n =
        put-inline xs around n (anchor id) (R.mark id) (λ wrappers. refl) tt h.fits h.opens h.texts in
        gap-same ((cs ++ R.mark id) ++ marks_of ids) (cs ++ (R.mark id ++ marks_of ids)) around
        (anchored n ys around ids) n (append_assoc cs (R.mark id) (marks_of ids))
        (anchors-gap ids (cs ++ R.mark id) ys around n
        (gap-same (read_line R [] xs ++ R.mark id) (cs ++ R.mark id) around ys n
        (ap (λ t. t ++ R.mark id) h.says) step))

    -- ---- where paragraphs end

    either-shown : (b : Bool) (xs : Inlines) → AreTextInlines xs → AreTextInlines (cond b xs no_inlines)
    either-shown true xs u = u
    either-shown false xs u = tt

    leaf-shown : (k : Bool) (xs : Inlines)
        → read_line R [] (cond (is_leaf (latest_of k)) xs no_inlines) ≡ read_line R [] xs
    leaf-shown true xs = refl
    leaf-shown false xs = refl

    shown-says : (w : Writing) → State w → read_line R [] (shown_content w) ≡ read_line R [] w.content
    shown-says w (at_nothing e h) = ap (λ l. read_line R [] (cond (is_leaf l) w.content no_inlines)) e ∙ sym h
    shown-says w (at_task e h) = ap (λ l. read_line R [] (cond (is_leaf l) w.content no_inlines)) e ∙ sym h
    shown-says w (at_leaf k e o) =
        ap (λ l. read_line R [] (cond (is_leaf l) w.content no_inlines)) e ∙ leaf-shown k w.content

    whole-says : (w : Writing) → State w → AreTextInlines w.content
        → read_line R [] (whole_content w) ≡ open_wrapped w
    whole-says w s u =
        let xs : Inlines = shown_content w in
        let g : IsGap (read_line R [] xs ++ marks_of w.anchors) [] (anchored 0 xs [] w.anchors) 0 =
        anchors-gap w.anchors (read_line R [] xs) xs [] 0
        (no-gap xs [] (either-shown (is_leaf w.latest) w.content u)) in
        g.says ∙ ap (λ t. t ++ marks_of w.anchors) (shown-says w s)

    paragraph-wrappers : (xs : Inlines) → wrappers_of_all (paragraph_of xs) ≡ read_line R [] xs
    paragraph-wrappers no_inlines = refl
    paragraph-wrappers (inline x xs) = append-nil (read_line R [] (inline x xs))

    ended-wrappers : (w : Writing) → State w → AreTextInlines w.content
        → wrappers_of_all (w.done ++ open_paragraph w) ≡ wrappers_of_all w.done ++ open_wrapped w
    ended-wrappers w s u =
        flat_map-append (read_block R) w.done (open_paragraph w)
        ∙ ap (λ t. wrappers_of_all w.done ++ t) (paragraph-wrappers (whole_content w) ∙ whole-says w s u)

    pub ended-wrote : (w : Writing) (cs : List R.Seen) → Wrote w false cs → Wrote (ended w) false cs
    ended-wrote w cs h = record {
      flat = h.flat;
      says = append-nil (wrappers_of_all (w.done ++ open_paragraph w))
          ∙ (ended-wrappers w h.state h.texts ∙ h.says);
      texts = tt;
      gap = shows-nil;
      blank = λ e. refl;
      line = λ e. false-true e;
      state = at_nothing refl refl;
    }

    met-wrote : (w : Writing) (m : Met) (in_line : Bool) (cs : List R.Seen) → Wrote w in_line cs
        → Wrote (record w { met = m }) in_line cs
    met-wrote w m in_line cs h = record {
      flat = h.flat;
      says = h.says;
      texts = h.texts;
      gap = h.gap;
      blank = h.blank;
      line = h.line;
      state = state-kept (record w { met = m }) w refl refl refl h.state;
    }

    -- a block after it
    block-wrote : (w : Writing) (b : Block) (m : Met) (cs : List R.Seen) → Wrote w false cs
        → Wrote (record (ended w) { done = (ended w).done ++ b ∷ []; met = m }) false (cs ++ read_block R b)
    block-wrote w b m cs h = record {
      flat = h.flat;
      says = append-nil (wrappers_of_all ((w.done ++ open_paragraph w) ++ b ∷ []))
          ∙ (flat_map-append (read_block R) (w.done ++ open_paragraph w) (b ∷ [])
          ∙ (ap (λ t. t ++ wrappers_of_all (b ∷ [])) (ended-wrappers w h.state h.texts ∙ h.says)
          ∙ ap (λ t. cs ++ t) (append-nil (read_block R b))));
      texts = tt;
      gap = shows-nil;
      blank = λ e. refl;
      line = λ e. false-true e;
      state = at_nothing refl refl;
    }

    either-wrote : (b : Bool) (v w : Writing) (in_line : Bool) (cs : List R.Seen) →
        (b ≡ true → Wrote v in_line cs)
        → Wrote w in_line cs → Wrote (cond b v w) in_line cs
    either-wrote true v w in_line cs g h = g refl
    either-wrote false v w in_line cs g h = h

    parted-wrote : (w : Writing) (in_line : Bool) (cs : List R.Seen) → Wrote w in_line cs
        → Wrote (parted w) in_line cs
    parted-wrote w false cs h =
        either-wrote (not w.is_flat && nat_le 2 w.breaks) (ended w) w false cs (λ e. ended-wrote w cs h) h
    parted-wrote w true cs h =
        either-wrote (not w.is_flat && nat_le 2 w.breaks) (ended w) w true cs
        (λ e. false-true (sym (ap (λ b. not b && nat_le 2 w.breaks) h.flat) ∙ e)) h

    -- ---- white space and breaks

    pub broken_off-wrote : (w : Writing) (in_line : Bool) (cs : List R.Seen) → Wrote w in_line cs
        → Wrote (broken_off w) in_line cs
    broken_off-wrote w in_line cs h = record {
      flat = h.flat;
      says = h.says;
      texts = h.texts;
      gap = shows-nil;
      blank = h.blank;
      line = h.line;
      state = state-kept (broken_off w) w refl refl refl h.state;
    }

    spaced_out-wrote : (w : Writing) (in_line : Bool) (cs : List R.Seen) (c : ℕ) (is_code : Bool)
        → Wrote w in_line cs
        → scalar c ≡ true → is_white c ≡ true → Wrote (spaced_out w c is_code) in_line cs
    spaced_out-wrote w in_line cs c is_code h s white = record {
      flat = h.flat;
      says = h.says;
      texts = h.texts;
      gap = spaced-shows (is_ascii_white_space c && ends_with_space w.gap.white) w.gap c is_code h.gap s white;
      blank = λ e. h.blank (both-true w.is_blank (is_ascii_white_space c) e).0;
      line = h.line;
      state = state-kept (spaced_out w c is_code) w refl refl refl h.state;
    }

    -- ---- the gap before a leaf

    task-gap : (w : Writing) (around : List Around) → AreTextInlines w.content
        → IsGap (read_line R [] w.content) around (gap_after_task w) 0
    task-gap w around u =
        let b : IsBehind R [] w.content (behind 0 w.content [] (text (space ∷ []))) [] (text (space ∷ [])) =
        behind-wrappers R 0 [] w.content [] (text (space ∷ [])) (omega arith) tt u space-shows.utf8 in
        record {
          says = b.says ∙ (ap (λ t. read_line R [] w.content ++ t) (either-blank [] false (space ∷ []) space-shows)
              ∙ append-nil (read_line R [] w.content));
          texts = b.texts;
          fits = omega arith;
          opens = tt;
        }

    white-gap : (w : Writing) (around : List Around) (n : ℕ) (is_code : Bool) (s : List ℕ) → Shows s []
        → n ≤ length around → Opens R (take n (map (read_around R) around)) w.content → AreTextInlines w.content
        → IsGap (read_line R [] w.content) around (white_behind n w.content around is_code s) n
    white-gap w around n is_code [] h l o u = record { says = refl; texts = u; fits = l; opens = o }
    white-gap w around n is_code (b ∷ s) h l o u =
        put-gap w.content around n (text_or_code is_code (b ∷ s))
        (λ wrappers. either-blank wrappers is_code (b ∷ s) h)
        (either-text is_code (b ∷ s) h.utf8) l o u

    either-gap : (b : Bool) (w : Writing) (around : List Around) (n : ℕ) (xs ys : Inlines)
        → IsGap (read_line R [] w.content) around xs n → IsGap (read_line R [] w.content) around ys n
        → IsGap (read_line R [] w.content) around (cond b xs ys) n
    either-gap true w around n xs ys g h = g
    either-gap false w around n xs ys g h = h

    leaf-gap : (w : Writing) (around : List Around) (is_code : Bool) → AllAgree around → Shows w.gap.white []
        → AreTextInlines w.content → Opens R (map wrapper_at w.around) w.content
        → IsGap (read_line R [] w.content) around (gap_before w around is_code)
        (shared w.around (map nest.wrapper_of around))
    leaf-gap w around is_code a h u o =
        let ns : List nest.Wrapper = map nest.wrapper_of around in
        let n : ℕ = shared w.around ns in
        let fits : n ≤ length around = omega (
          arith,
          shared-le-other w.around ns,
          length-map around nest.wrapper_of,
        ) in
        let same : take n (map wrapper_at w.around) ≡ take n (map (read_around R) around) =
        take-map wrapper_at n w.around
        ∙ (ap (map wrapper_at) (shared-prefix w.around ns)
        ∙ (sym (take-map wrapper_at n ns) ∙ ap (take n) (sym (wrappers-agree around a)))) in
        let opens : Opens R (take n (map (read_around R) around)) w.content =
        subst (λ (ms : List R.Wrap). Opens R ms w.content) same
        (opens-front R n (map wrapper_at w.around) w.content o) in
        either-gap w.gap.has_break w around n (behind n w.content (take n around) line_break)
        (white_behind n w.content around (is_code && is_code_gap w ns) w.gap.white)
        (put-gap w.content around n line_break (λ wrappers. refl) tt fits opens u)
        (white-gap w around n (is_code && is_code_gap w ns) w.gap.white h fits opens u)

    either-leaf : (k : Bool) (w : Writing) (around : List Around) (is_code : Bool) → AllAgree around
        → Shows w.gap.white [] → AreTextInlines w.content → Opens R (map wrapper_at w.around) w.content
        → IsGap (read_line R [] w.content) around (gap_behind (latest_of k) w around is_code)
        (cond (is_leaf (latest_of k)) (shared w.around (map nest.wrapper_of around)) 0)
    either-leaf true w around is_code a h u o = leaf-gap w around is_code a h u o
    either-leaf false w around is_code a h u o = leaf-gap w around is_code a h u o

    any-gap : (w : Writing) (around : List Around) (is_code : Bool) → AllAgree around → Shows w.gap.white []
        → AreTextInlines w.content → State w
        → IsGap (read_line R [] w.content) around (gap_behind w.latest w around is_code)
        (shared_wrappers w (map nest.wrapper_of around))
    any-gap w around is_code a h u (at_nothing e t) =
        subst (λ l. IsGap (read_line R [] w.content) around (gap_behind l w around is_code)
        (cond (is_leaf l) (shared w.around (map nest.wrapper_of around)) 0)) (sym e) (no-gap w.content around u)
    any-gap w around is_code a h u (at_task e t) =
        subst (λ l. IsGap (read_line R [] w.content) around (gap_behind l w around is_code)
        (cond (is_leaf l) (shared w.around (map nest.wrapper_of around)) 0)) (sym e) (task-gap w around u)
    any-gap w around is_code a h u (at_leaf k e o) =
        subst (λ l. IsGap (read_line R [] w.content) around (gap_behind l w around is_code)
        (cond (is_leaf l) (shared w.around (map nest.wrapper_of around)) 0)) (sym e)
        (either-leaf k w around is_code a h u o)

    -- ---- what shows

    shown-wrote : (w : Writing) (in_line : Bool) (cs : List R.Seen) (around : List Around) (is_code : Bool) (y : Inline)
        → AllAgree around → Wrote w in_line cs → IsTextInline y
        → Wrote (shown w around is_code y) in_line (cs ++ read_inline R (map (read_around R) around) y)
    shown-wrote w in_line cs around is_code y a h v =
        let n : ℕ = shared_wrappers w (map nest.wrapper_of around) in
        let xs : Inlines = put_before w around is_code in
        let g : IsGap (open_wrapped w) around xs n =
        anchors-gap w.anchors (read_line R [] w.content) (gap_behind w.latest w around is_code) around n
        (any-gap w around is_code a h.gap h.texts h.state) in
        let b : IsBehind R [] xs (behind n xs around y) around y =
        behind-wrappers R n [] xs around y g.fits g.opens g.texts v in
        let says : List R.Seen = read_inline R (map (read_around R) around) y in
        record {
          flat = h.flat;
          says = ap (λ t. wrappers_of_all w.done ++ t)
              (append-nil (read_line R [] (behind n xs around y)) ∙ (b.says ∙ ap (λ t. t ++ says) g.says))
              ∙ (sym (append_assoc (wrappers_of_all w.done) (open_wrapped w) says)
              ∙ ap (λ t. t ++ says) h.says);
          texts = b.texts;
          gap = shows-nil;
          blank = λ e. false-true e;
          line = h.line;
          state = at_leaf is_code refl
              (subst (λ (ms : List R.Wrap). Opens R ms (behind n xs around y)) (wrappers-agree around a) b.opens);
        }

    pub leaf-wrote : (w : Writing) (in_line : Bool) (cs : List R.Seen) (around : List Around) (is_code : Bool)
        (y : Inline)
        → AllAgree around → Wrote w in_line cs → IsTextInline y
        → Wrote (after_leaf w around is_code y) in_line (cs ++ read_inline R (map (read_around R) around) y)
    leaf-wrote w in_line cs around is_code y a h v =
        shown-wrote (parted w) in_line cs around is_code y a (parted-wrote w in_line cs h) v

    boxed-wrote : (w : Writing) (in_line : Bool) (cs : List R.Seen) → Wrote w in_line cs
        → Wrote (boxed w) in_line cs
    boxed-wrote w in_line cs h = record {
      flat = h.flat;
      says = h.says;
      texts = h.texts;
      gap = h.gap;
      blank = h.blank;
      line = h.line;
      state = state-kept (boxed w) w refl refl refl h.state;
    }

    here-wrote : (w : Writing) (in_line : Bool) (cs : List R.Seen) (is_checked : Bool) → Wrote w in_line cs
        → w.is_blank ≡ true → Wrote (with_task w is_checked) in_line cs
    here-wrote w in_line cs is_checked h e = record {
      flat = h.flat;
      says = ap (λ t. wrappers_of_all w.done ++ (t ++ marks_of w.anchors)) (sym (h.blank e)) ∙ h.says;
      texts = (tt, tt);
      gap = shows-nil;
      blank = λ e. false-true e;
      line = h.line;
      state = at_task refl refl;
    }

    tasked-wrote : (w : Writing) (in_line : Bool) (cs : List R.Seen) (is_checked : Bool) → Wrote w in_line cs
        → Wrote (tasked w is_checked) in_line cs
    tasked-wrote w in_line cs is_checked h =
        let b : Wrote (boxed w) in_line cs = boxed-wrote w in_line cs h in
        either-wrote (is_task_here w) (with_task (boxed w) is_checked) (boxed w) in_line cs
        (λ e. here-wrote (boxed w) in_line cs is_checked b
        (both-true (w.in_item && (length w.done == 0)) w.is_blank e).1)
        b

    -- fewer wrappers are open
    front-state : (w : Writing) (n : ℕ) → State w → State (record w { around = take n w.around })
    front-state w n (at_nothing e h) = at_nothing e h
    front-state w n (at_task e h) = at_task e h
    front-state w n (at_leaf k e o) =
        at_leaf k e
        (subst (λ (ms : List R.Wrap). Opens R ms w.content) (take-map wrapper_at n w.around)
        (opens-front R n (map wrapper_at w.around) w.content o))

    more-marks : (front line : List R.Seen) (ids : List (List ℕ)) (id : List ℕ)
        → front ++ (line ++ marks_of (ids ++ id ∷ [])) ≡ (front ++ (line ++ marks_of ids)) ++ R.mark id
    more-marks front line ids id =
        ap (λ t. front ++ (line ++ t))
        (flat_map-append R.mark ids (id ∷ []) ∙ ap (λ t. marks_of ids ++ t) (append-nil (R.mark id)))
        ∙ (ap (λ t. front ++ t) (sym (append_assoc line (marks_of ids) (R.mark id)))
        ∙ sym (append_assoc front (line ++ marks_of ids) (R.mark id)))

    pub place-wrote : (w : Writing) (in_line : Bool) (cs : List R.Seen) (id : List ℕ) → Wrote w in_line cs
        → Wrote (with_anchor (parted w) id) in_line (cs ++ R.mark id)
    place-wrote w in_line cs id h =
        let v : Writing = parted w in
        let p : Wrote v in_line cs = parted-wrote w in_line cs h in
        let front = before-front v.around in
        record {
          flat = p.flat;
          says = more-marks (wrappers_of_all v.done) (read_line R [] v.content) v.anchors id
              ∙ ap (λ t. t ++ R.mark id) p.says;
          texts = p.texts;
          gap = p.gap;
          blank = p.blank;
          line = p.line;
          state = state-kept (with_anchor (parted w) id)
              (record (parted w) { around = take front.0 (parted w).around }) refl refl front.1
              (front-state (parted w) front.0 p.state);
        }

    either-flat : (b : Bool) (v w : Writing) (in_line : Bool) (cs : List R.Seen) → (b ≡ true → Wrote v in_line cs)
        → (b ≡ false → Wrote w in_line cs) → Wrote (cond b v w) in_line cs
    either-flat true v w in_line cs g h = g refl
    either-flat false v w in_line cs g h = h refl

    pub edge-wrote : (w : Writing) (in_line : Bool) (cs : List R.Seen) → Wrote w in_line cs
        → Wrote (edged w) in_line cs
    edge-wrote w true cs h =
        either-flat w.is_flat (broken_off w)
        (cond (is_boxed_item w) w (record (ended w) { met = (begun false false).met })) true cs
        (λ e. broken_off-wrote w true cs h) (λ e. false-true (sym e ∙ h.flat))
    edge-wrote w false cs h =
        either-flat w.is_flat (broken_off w)
        (cond (is_boxed_item w) w (record (ended w) { met = (begun false false).met })) false cs
        (λ e. broken_off-wrote w false cs h)
        (λ e. either-wrote (is_boxed_item w) w (record (ended w) { met = (begun false false).met }) false cs (λ k. h)
        (met-wrote (ended w) (begun false false).met false cs (ended-wrote w cs h)))

    pub whole-wrote : (w : Writing) (b : Block) (in_line : Bool) (cs : List R.Seen) → Wrote w in_line cs
        → Wrote (blocked w b) in_line (cs ++ cond in_line [] (read_block R b))
    whole-wrote w b true cs h =
        either-flat w.is_flat (broken_off w)
        (record (ended w) { done = (ended w).done ++ b ∷ []; met = (begun false false).met }) true (cs ++ [])
        (λ e. wrote-same (broken_off w) true cs (cs ++ []) (sym (append-nil cs)) (broken_off-wrote w true cs h))
        (λ e. false-true (sym e ∙ h.flat))
    whole-wrote w b false cs h =
        either-flat w.is_flat (broken_off w)
        (record (ended w) { done = (ended w).done ++ b ∷ []; met = (begun false false).met }) false
        (cs ++ read_block R b)
        (λ e. false-true (sym h.flat ∙ e))
        (λ e. block-wrote w b (begun false false).met cs h)

    pub box-wrote : (w : Writing) (in_line : Bool) (cs : List R.Seen) (is_checked : Bool) → Wrote w in_line cs
        → Wrote (tasked (parted w) is_checked) in_line cs
    box-wrote w in_line cs is_checked h =
        tasked-wrote (parted w) in_line cs is_checked (parted-wrote w in_line cs h)

    -- ---- characters

    abbrev wrapped_all : List Around → Bool → List ℕ → List R.Seen
    wrapped_all around is_code ds = R.read (map (read_around R) around) is_code (encode_utf8_all ds)

    character-wrappers : (wrappers : List R.Wrap) (is_code : Bool) (c : ℕ)
        → read_inline R wrappers (text_or_code is_code (encode_utf8 c))
        ≡ R.read wrappers is_code (encode_utf8_all (c ∷ []))
    character-wrappers wrappers true c = ap (R.read wrappers true) (sym (append-nil (encode_utf8 c)))
    character-wrappers wrappers false c = ap (R.read wrappers false) (sym (append-nil (encode_utf8 c)))

    white-blank : (c : ℕ) → scalar c ≡ true → is_white c ≡ true → Shows (encode_utf8_all (c ∷ [])) []
    white-blank c s e = text-same (encode_utf8_all (c ∷ [])) (encode_utf8 c) [] (append-nil (encode_utf8 c))
        (shows-white c s e)

    character-wrote : (w : Writing) (in_line : Bool) (cs : List R.Seen) (around : List Around) (is_code : Bool)
        (c : ℕ)
        → AllAgree around → Wrote w in_line cs → scalar c ≡ true
        → Wrote (after_character w around is_code c) in_line (cs ++ wrapped_all around is_code (c ∷ []))
    character-wrote w in_line cs around is_code c a h s =
        let y : Inline = text_or_code is_code (encode_utf8 c) in
        let all : List R.Seen = cs ++ wrapped_all around is_code (c ∷ []) in
        test (is_white c)
        (λ e. subst (λ (b : Bool). Wrote (cond b (spaced_out w c is_code)
        (after_leaf w around is_code y)) in_line all)
        (sym e)
        (wrote-same (spaced_out w c is_code) in_line cs all
        (sym (append-nil cs)
        ∙ ap (λ t. cs ++ t) (sym (unseen R (map (read_around R) around) is_code (encode_utf8_all (c ∷ []))
        (white-blank c s e))))
        (spaced_out-wrote w in_line cs c is_code h s e)))
        (λ e. subst (λ (b : Bool). Wrote (cond b (spaced_out w c is_code)
        (after_leaf w around is_code y)) in_line all)
        (sym e)
        (wrote-same (after_leaf w around is_code y) in_line (cs ++ read_inline R (map (read_around R) around) y) all
        (ap (λ t. cs ++ t) (character-wrappers (map (read_around R) around) is_code c))
        (leaf-wrote w in_line cs around is_code y a h (either-text is_code (encode_utf8 c)
        (shows-character c s).utf8))))

    pub characters-wrote : (ds : List ℕ) (w : Writing) (in_line : Bool) (cs : List R.Seen) (around : List Around)
        (is_code : Bool) → AllAgree around → Wrote w in_line cs → scalars ds ≡ true
        → Wrote (fold (λ v c. after_character v around is_code c) w ds) in_line (cs ++ wrapped_all around is_code ds)
    characters-wrote [] w in_line cs around is_code a h s =
        wrote-same w in_line cs (cs ++ wrapped_all around is_code [])
        (sym (append-nil cs) ∙ ap (λ t. cs ++ t) (sym (R.nothing (map (read_around R) around) is_code))) h
    characters-wrote (d ∷ ds) w in_line cs around is_code a h s =
        let parts = both-true (scalar d) (scalars ds) s in
        let next : Writing = after_character w around is_code d in
        let one : List R.Seen = wrapped_all around is_code (d ∷ []) in
        let rest : List R.Seen = wrapped_all around is_code ds in
        wrote-same (fold (λ v c. after_character v around is_code c) next ds) in_line ((cs ++ one) ++ rest)
        (cs ++ wrapped_all around is_code (d ∷ ds))
        (append_assoc cs one rest
        ∙ ap (λ t. cs ++ t)
        (ap (λ t. R.read (map (read_around R) around) is_code t ++ rest) (append-nil (encode_utf8 d))
        ∙ sym (R.joins (map (read_around R) around) is_code (encode_utf8 d) (encode_utf8_all ds)
        (shows-character d parts.0).utf8 (shows-encodes ds parts.1).utf8)))
        (characters-wrote ds next in_line (cs ++ one) around is_code a
        (character-wrote w in_line cs around is_code d a h parts.0) parts.1)

    -- ---- the blocks, and the one line

    pub blocks-in_wrappers : (w : Writing) (cs : List R.Seen) → Wrote w false cs → read_blocks R (blocks_in w)
        ≡ cs
    blocks-in_wrappers w cs h =
        blocks-wrappers (ended w).done ∙ (sym (append-nil (wrappers_of_all (ended w).done))
        ∙ (ended-wrote w cs h).says)

    pub line-in_wrappers : (w : Writing) (cs : List R.Seen) → Wrote w true cs → read_line R [] (line_in w)
        ≡ cs
    line-in_wrappers w cs h =
        whole-says w h.state h.texts
        ∙ (sym (ap (λ bs. wrappers_of_all bs ++ open_wrapped w) (h.line refl)) ∙ h.says)
