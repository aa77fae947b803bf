-- The paragraph that an item begins with is read back, with its task.
use Rattle.std.proofs.Common.{◌≡◌, ◌∙◌, refl, ap, sym, ℕ, suc, Bool, true, false, List, [], ◌∷◌, ◌++◌, Some, None}
use Rattle.std.proofs.Common.{subst, ◌⊎◌, inl, inr, arith}
use Rattle.std.specs.Prelude.{not, ◌&&◌, if◌then◌else◌, drop}
use Rattle.std.specs.List.{list_all}
use Rattle.std.specs.Str.{IsUtf8}
use Rattle.std.proofs.lemmas.Bool.{eqb-true, and_parts, or_parts, not-true}
use Rattle.std.proofs.lemmas.List.{append_assoc, append-nil}
use Rattle.std.proofs.lemmas.Str.{IsUtf8-past_char, encode_ascii}
use Rattle.htmd_lexical.specs.CharacterClasses.{first_is, behind_run}
use Rattle.htmd_text.specs.EscapedPlaces.{with_backslashes}
use Rattle.htmd_document.specs.Documents.{Inline, text, code, formatted, link, image, line_break, task}
use Rattle.htmd_document.specs.Documents.{anchor}
use Rattle.htmd_document.specs.Documents.{Inlines, no_inlines, inline}
use Rattle.htmd_commonmark.specs.declared.line.Line.{Line}
use Rattle.htmd_commonmark.specs.declared.inline_ends.Following.{Following}
use Rattle.htmd_commonmark.specs.WrittenText.{is_one_line, Written}
use Rattle.htmd_commonmark.specs.InlineEnds.{follows}
use Rattle.htmd_commonmark.specs.InlineMarkdown.{written, written_line, with_inline, written_task, place_of}
use Rattle.htmd_commonmark_reading.specs.Characters.{is_white, past_blanks}
use Rattle.htmd_commonmark_reading.specs.Markup as markup
use Rattle.htmd_commonmark_reading.specs.Brackets.{References, inlines}
use Rattle.htmd_commonmark_reading.specs.Lists.{item_text, is_checked}
use Rattle.htmd_commonmark_reading.specs.SeenMarkup.{outside, seen_inlines, document_inlines, with_first, all_seen}
use Rattle.htmd_document.specs.NormalInlines.{are_whole, are_trimmed, is_normal_line, is_normal, are_normal, meets}
use Rattle.htmd_document.specs.NormalInlines.{is_line_byte, is_text, first_passes, last_passes, begins_with_space}
use Rattle.htmd_document.specs.NormalInlines.{ends_with_space, is_break, is_normal_item, ends_in_space}
use Rattle.htmd_document.specs.NormalInlines.{has_double_space}
use Rattle.htmd_law_inlines.specs.PlainReadings.{is_read_plainly}
use Rattle.htmd_law_inlines.proofs.PlainPieces.{joined_plain, letters_plain}
use Rattle.htmd_law_inlines.specs.ReadBack.{ItemsReadBack, ItemsArePlain, references_of, are_numbered, AreFew}
use Rattle.htmd_law_inlines.specs.ReadBack.{seen_document}
use Rattle.htmd_law_inlines.proofs.Pieces.{joined_none}
use Rattle.htmd_law_inlines.proofs.TextPieces.{test, differs}
use Rattle.htmd_law_inlines.proofs.TagPieces.{begins_well}
use Rattle.htmd_law_inlines.proofs.Nested.{IsReadIn, anywhere, both_in}
use Rattle.htmd_law_inlines.proofs.RowsRead.{text_read}
use Rattle.htmd_law_inlines.proofs.TextMarks.{MarksAll}
use Rattle.htmd_law_inlines.proofs.TextLaws.{reads_whole}
use Rattle.htmd_law_inlines.proofs.LeafPieces.{spaced_before, last_space}
use Rattle.htmd_law_inlines.proofs.SeenPieces.{AreSeen, letters_seen, both_seen, meant, document_of, text_document}
use Rattle.htmd_law_inlines.proofs.SeenPieces.{no_text_meets}
use Rattle.htmd_law_inlines.proofs.TextWritten.{text_written}
use Rattle.htmd_law_inlines.proofs.SoundPieces.{IsSound, nothing_sound, sound_text}
use Rattle.htmd_law_inlines.proofs.WrittenPieces.{is_words, textual, mark_follows, no_two_texts, sound_one}
use Rattle.htmd_law_inlines.proofs.NextPieces.{no_break_after, Begins, Needs, nothing_ends, last_needs, next_needs}
use Rattle.htmd_law_inlines.proofs.NextPieces.{is_format}
use Rattle.htmd_law_inlines.proofs.LastPieces.{ends_one}
use Rattle.htmd_law_inlines.proofs.InlineWalk.{AreShown, walk, none_shown, letters_joined, IsPrefix, Finds}
use Rattle.htmd_law_inlines.proofs.DefinitionPieces.{numbered_all, numbers_found}
use Rattle.htmd_law_inlines.proofs.InlineLaws.{inlines_read_back, inlines_are_plain}
use Rattle.htmd_law_inlines.proofs.BoxPieces.{line_no_task}
use Rattle.htmd_law_inlines.proofs.AlikePieces.{IsSame, AreAlike, IsAlikeWritten, alike_all, alike_one, then_alike}
use Rattle.htmd_law_inlines.proofs.ItemPieces.{IsBox, box, a_box, same_behind, utf8_firm, box_alike, behind_space}
use Rattle.htmd_law_inlines.proofs.ItemPieces.{marks_behind, behind_written}

-- ---- the box

box_text : (d : Bool) (t : List ℕ) → written_task d ++ (32 ∷ t) ≡ box d ++ t
box_text true t = refl
box_text false t = refl

-- behind a box the text is read without white space at its beginning
box_read : (refs : References) (d : Bool) (t : List ℕ)
    → item_text refs (box d ++ t) ≡ markup.task d (inlines refs (behind_run is_white t))
box_read refs true t = refl
box_read refs false t = refl

task_seen : (d : Bool) (xs ys : markup.Inlines) → AreSeen xs ys
    → seen_inlines (markup.task d xs) ≡ markup.task d ys
task_seen d xs ys h =
    ap (λ b. all_seen b markup.no_inlines) (h (outside (markup.task d markup.no_inlines)))
    ∙ ap (markup.task d) (joined_none ys)

no_white_run : (s : List ℕ) → begins_well s ≡ true → first_is 10 s ≡ false → behind_run is_white s ≡ s
no_white_run [] h k = refl
no_white_run (c ∷ s) h k = rw (not-true _ h, k) refl

-- what begins with an inline that is no break has no white space there
begins_bare : (line : Line) (so_far : List ℕ) (y : Inline) (ks : List ℕ) → is_words y ≡ false → is_break y
    ≡ false
    → Begins line so_far y ks → behind_run is_white ks ≡ ks
begins_bare line so_far y ks w b e =
    let h = e.well b (no_space_first y w) in
    no_white_run ks h (ap (first_is 10) (sym (no_blanks_there ks h)) ∙ e.no_end w b)
  where
    no_space_first : (y : Inline) → is_words y ≡ false → begins_with_space y ≡ false
    no_space_first (text s) h = absurd (cc)
    no_space_first (code s) h = refl
    no_space_first (formatted f content) h = refl
    no_space_first (link a t content) h = refl
    no_space_first (image a t s) h = refl
    no_space_first (anchor i) h = refl
    no_space_first line_break h = refl
    no_space_first (task d) h = refl

    no_blanks_there : (s : List ℕ) → begins_well s ≡ true → past_blanks s ≡ s
    no_blanks_there [] h = refl
    no_blanks_there (c ∷ s) h = rw (not-true _ h) refl

-- ---- what comes after the text behind a box

-- inlines after a text, and that they are what it asks for
record IsBehind (refs : References) (line : Line) (v : Written) (s : List ℕ) (more : Inlines) : Type 0 where
  shown : AreShown [] refs line v (written line v None more) more []
  needs : Needs (follows line.kind None more) (text s) v.text (shown.text ++ [])

is_behind : (refs : References) (all : List (List ℕ)) → Finds refs all
    → (line : Line) (v : Written) (s : List ℕ)
    (more : Inlines) → are_normal line.in_link [] more ≡ true
    → IsSound v.text → IsPrefix (written line v None more).definitions all → meets (text s) more ≡ true
    → IsBehind refs line v s more
is_behind refs all finds line v s no_inlines n h p m = record {
  shown = none_shown [] refs line v [];
  needs = last_needs line.kind None (text s) v.text [] (nothing_ends false);
}
is_behind refs all finds line v s (inline y rest) n h p m =
    let c = walk [] [] refs all finds line v None (inline y rest) [] n tt h p refl
    (nothing_ends (last_passes is_format (inline y rest))) in
    record { shown = c; needs = next_needs line None (text s) y rest v.text (c.text ++ []) m c.begins }

-- ---- a text behind a box

-- the text that is written of a text behind a box is the box and this
record IsParted (line : Line) (w : Written) (f : Following) (d : Bool) (s : List ℕ) : Type 0 where
  marked : ℕ → Bool
  marks : MarksAll (behind_space (place_of line w.text f.after)) s marked
  is : (with_inline line w f (text (32 ∷ s))).text ≡ box d ++ with_backslashes marked 0 s
  definitions : (with_inline line w f (text (32 ∷ s))).definitions ≡ w.definitions

parted : (line : Line) (w : Written) (f : Following) (d : Bool) (s : List ℕ) → w.text ≡ written_task d
    → IsParted line w f d s
parted line w f d s e =
    let v = text_written line w f (32 ∷ s) refl in
    let space : v.marked 0 ≡ false =
    test (v.marked 0) (λ m. let x = v.marks.punctuation [] s 32 refl m in absurd (cc)) (λ m. m) in
    let bare : with_backslashes v.marked 0 (32 ∷ s) ≡ 32 ∷ with_backslashes (λ k. v.marked (suc k)) 0 s =
    rw space (ap (λ l. 32 ∷ l) (behind_written v.marked 0 s)) in
    record {
      marked = λ k. v.marked (suc k);
      marks = marks_behind (place_of line w.text f.after) s v.marked v.marks;
      is = ap (λ (x : Written). x.text) v.is ∙ ap (λ l. w.text ++ l) bare
          ∙ ap (λ l. l ++ (32 ∷ with_backslashes (λ k. v.marked (suc k)) 0 s)) e
          ∙ box_text d (with_backslashes (λ k. v.marked (suc k)) 0 s);
      definitions = ap (λ (x : Written). x.definitions) v.is;
    }

-- what is written of a text's characters begins with one
written_first : (marked : ℕ → Bool) (c : ℕ) (s : List ℕ)
    → (h : ℕ) × ((z : List ℕ) × ((with_backslashes marked 0 (c ∷ s) ≡ h ∷ z) ×
    ((h ≡ 92) ⊎ (h ≡ c))))
written_first marked c s =
    test (marked 0) (λ m. (92, (c ∷ with_backslashes marked 1 s, (rw m refl, inl refl))))
    (λ m. (c, (with_backslashes marked 1 s, (rw m refl, inr refl))))

-- the inlines behind the text are written as at a text's beginning
alike_behind : (line : Line) (d : Bool) (w v : Written) (s : List ℕ) (more : Inlines) (marked : ℕ → Bool)
    → w.text ≡ box d ++ with_backslashes marked 0 s → v.text ≡ with_backslashes marked 0 s
    → w.definitions ≡ v.definitions → IsSound v.text → are_normal line.in_link [] more ≡ true
    → meets (text (32 ∷ s)) more ≡ true
    → IsAlikeWritten w v (written line w None more) (written line v None more)
alike_behind line d w v (c ∷ s) more marked e g q h n m =
    let t = written_first marked c s in
    let text_is : v.text ≡ t.0 ∷ t.1.0 = g ∙ t.1.1.0 in
    let same = same_behind (box d) t.0 t.1.0 (a_box d) (utf8_firm t.0 t.1.0 (subst IsUtf8 text_is h.utf8)) in
    alike_all line w v None more
    (subst (λ l. IsSame l v.text) (sym (e ∙ ap (λ l. box d ++ l) t.1.1.0))
    (subst (IsSame (box d ++ (t.0 ∷ t.1.0))) (sym text_is) same))
    q
alike_behind line d w v [] no_inlines marked e g q h n m = alike_all_none w v q
  where
    alike_all_none : (w v : Written) → w.definitions ≡ v.definitions → IsAlikeWritten w v w v
    alike_all_none w v q =
        record { piece = []; is = sym (append-nil w.text); same = sym (append-nil v.text); definitions = q }
alike_behind line d w v [] (inline y rest) marked e g q h n m =
    let f = follows line.kind None rest in
    let next = with_inline line w f y in
    let other = with_inline line v f y in
    let no_text = no_two_texts (32 ∷ []) y m in
    let k = and_parts (is_normal line.in_link [] y && meets y rest) (are_normal line.in_link [] rest) n in
    let y_normal = (and_parts (is_normal line.in_link [] y) (meets y rest) k.0).0 in
    let head : w.text ≡ box d = e ∙ append-nil (box d) in
    let alike : AreAlike w.text v.text =
    subst (λ l. AreAlike l v.text) (sym head) (subst (AreAlike (box d)) (sym g) (box_alike (box d) (a_box d))) in
    let p = alike_one line w v f y alike (λ i. absurd (cc)) q in
    let sound = sound_one line [] v f y y_normal (λ i. absurd (cc)) h in
    let whole : other.text ≡ p.piece = p.same ∙ ap (λ l. l ++ p.piece) g in
    let end = ends_one line [] v f y y_normal no_text in
    let same : IsSame (box d ++ p.piece) p.piece =
    piece_same (box d) p.piece end.1.0 end.0 (sym whole ∙ end.1.1) (a_box d) (subst IsUtf8 whole sound.utf8) in
    then_alike w v next other (written line next None rest) (written line other None rest) p
    (alike_all line next other None rest
    (subst (λ l. IsSame l other.text) (sym (p.is ∙ ap (λ l. l ++ p.piece) head))
    (subst (IsSame (box d ++ p.piece)) (sym whole) same))
    p.definitions)
  where
    piece_same : (head z front : List ℕ) (c : ℕ) → z ≡ front ++ (c ∷ []) → IsBox head → IsUtf8 z
        → IsSame (head ++ z) z
    piece_same head z [] c i b u =
        subst (λ l. IsSame (head ++ l) l) (sym i) (same_behind head c [] b (utf8_firm c [] (subst IsUtf8 i u)))
    piece_same head z (x ∷ front) c i b u =
        subst (λ l. IsSame (head ++ l) l) (sym i)
        (same_behind head x (front ++ (c ∷ [])) b (utf8_firm x (front ++ (c ∷ [])) (subst IsUtf8 i u)))

-- ---- an item with a task

-- a text without the space that it begins with
record IsTail (s : List ℕ) : Type 0 where
  utf8 : IsUtf8 s
  plain : list_all is_line_byte s ≡ true
  no_space : first_is 32 s ≡ false

tail_of : (s : List ℕ) → is_text (32 ∷ s) ≡ true → IsTail s
tail_of s h =
    let t = textual (32 ∷ s) h in
    record {
      utf8 = IsUtf8-past_char (32 ∷ s) s 32 t.utf8 (ap (λ l. l ++ s) (sym (encode_ascii 32 (omega arith))));
      plain = (and_parts (is_line_byte 32) (list_all is_line_byte s) t.plain).1;
      no_space = (or_parts (first_is 32 s) (has_double_space s) t.single).0;
    }

space_end : (s : List ℕ) → ends_in_space s ≡ true → ends_in_space (32 ∷ s) ≡ true
space_end [] h = absurd (cc)
space_end (c ∷ s) h = last_space 32 c s ∙ h

-- what stands behind the box and its space begins with no white space
bare_behind : (refs : References) (line : Line) (v : Written) (s : List ℕ) (more : Inlines) (marked : ℕ → Bool)
    → v.text ≡ with_backslashes marked 0 s → IsTail s → meets (text (32 ∷ s)) more ≡ true
    → last_passes ends_with_space (inline (text (32 ∷ s)) more) ≡ false
    → (c : AreShown [] refs line v (written line v None more) more [])
    → behind_run is_white (v.text ++ c.text) ≡ v.text ++ c.text
bare_behind refs line v (x ∷ s) more marked e t m n c =
    let w = written_first marked x s in
    let plain = (and_parts (is_line_byte x) (list_all is_line_byte s) t.plain).0 in
    let start : v.text ++ c.text ≡ w.0 ∷ (w.1.0 ++ c.text) = ap (λ l. l ++ c.text) (e ∙ w.1.1.0) in
    let no_white : is_white w.0 ≡ false =
    elim (w.1.1.1) as (λ q. is_white w.0 ≡ false) [
      | inl q ↦ ap is_white q
      | inr q ↦ ap is_white q
          ∙ rw (t.no_space, differs is_line_byte x 9 plain refl) (differs is_line_byte x 10 plain refl)
    ] in
    ap (behind_run is_white) start ∙ rw no_white refl ∙ sym start
bare_behind refs line v [] no_inlines marked e t m n c = absurd (cc)
bare_behind refs line v [] (inline y rest) marked e t m n c =
    let w = no_two_texts (32 ∷ []) y m in
    let bare = begins_bare line v.text y (c.text ++ []) w (no_break_after (text (32 ∷ [])) y m refl) c.begins in
    let whole : v.text ++ c.text ≡ c.text ++ [] = ap (λ l. l ++ c.text) e ∙ sym (append-nil c.text) in
    ap (behind_run is_white) whole ∙ bare ∙ sym whole

-- what a box and the text behind it are read as
record IsTaskRead (line : Line) (before after : List (List ℕ)) (d : Bool) (s : List ℕ)
    (more : Inlines) : Type 0 where
  raw : markup.Inlines
  read : item_text (references_of line before after (inline (task d) (inline (text (32 ∷ s)) more)))
      (written_line line before (inline (task d) (inline (text (32 ∷ s)) more))).text ≡ markup.task d raw
  shows : AreSeen raw (markup.letters s (meant more))
  plain : is_read_plainly (is_one_line line.kind) raw ≡ true

task_read : (line : Line) (before after : List (List ℕ)) (d : Bool) (s : List ℕ) (more : Inlines)
    → line.in_link ≡ false → are_numbered 1 before ≡ true
    → is_normal_item (inline (task d) (inline (text (32 ∷ s)) more)) ≡ true
    → AreFew (written_line line before (inline (task d) (inline (text (32 ∷ s)) more))).definitions
    → IsTaskRead line before after d s more
task_read line before after d s more l db n few =
    let rest = inline (text (32 ∷ s)) more in
    let xs = inline (task d) rest in
    let n1 = and_parts (first_passes begins_with_space rest && not (last_passes ends_with_space rest)
    && not (last_passes is_break rest)) (are_normal false [] rest) n in
    let n2 = and_parts (first_passes begins_with_space rest && not (last_passes ends_with_space rest))
    (not (last_passes is_break rest)) n1.0 in
    let n3 = and_parts (first_passes begins_with_space rest) (not (last_passes ends_with_space rest)) n2.0 in
    let m1 = and_parts (is_text (32 ∷ s) && meets (text (32 ∷ s)) more) (are_normal false [] more) n1.1 in
    let m2 = and_parts (is_text (32 ∷ s)) (meets (text (32 ∷ s)) more) m1.0 in
    let there : are_normal line.in_link [] more ≡ true = subst (λ b. are_normal b [] more ≡ true) (sym l) m1.1 in
    let t = tail_of s m2.0 in
    let w : Written = record { text = written_task d; definitions = before } in
    let f = follows line.kind None more in
    let p = parted line w f d s refl in
    let next = with_inline line w f (text (32 ∷ s)) in
    let start = with_backslashes p.marked 0 s in
    let v : Written = record { text = start; definitions = before } in
    let place = behind_space (place_of line w.text f.after) in
    let sound : IsSound start =
    sound_text place p.marked [] s nothing_sound t.utf8 p.marks
    (mark_follows line.kind None (text (32 ∷ s)) more m2.1 refl refl) in
    let all = (written_line line before xs).definitions in
    let refs = references_of line before after xs in
    let alike = alike_behind line d next v s more p.marked p.is refl p.definitions sound there m2.1 in
    let finds = numbers_found all after (numbered_all line [] next None more there
    (ap (are_numbered 1) p.definitions ∙ db)) few in
    let c = is_behind refs all finds line v (32 ∷ s) more there sound
    ([], alike.definitions ∙ sym (append-nil (written line v None more).definitions)) m2.1 in
    let ks = c.shown.text in
    let raw = markup.joined (markup.letters s markup.no_inlines) c.shown.shown.raw_inlines in
    let whole : (written line next None more).text ≡ box d ++ (start ++ ks) =
    alike.is ∙ ap (λ u. u ++ alike.piece) p.is ∙ append_assoc (box d) start alike.piece
    ∙ ap (λ u. box d ++ u) (sym alike.same ∙ c.shown.is) in
    let text_in : IsReadIn [] refs line.in_link [] start (ks ++ []) (markup.letters s markup.no_inlines) =
    anywhere [] refs line.in_link [] start (ks ++ []) (markup.letters s markup.no_inlines)
    (text_read refs place s p.marked [] (ks ++ []) p.marks t.utf8
    (spaced_before s (ks ++ []) t.plain (λ e. c.needs.no_end (space_end s e))) (c.needs.follows refl)
    (λ e. absurd (cc))) in
    let reads : IsReadIn [] refs false [] (start ++ ks) [] raw =
    subst (λ b. IsReadIn [] refs b [] (start ++ ks) [] raw) l
    (both_in [] refs line.in_link [] start ks [] (markup.letters s markup.no_inlines) c.shown.shown.raw_inlines text_in
    c.shown.shown.reads) in
    let shows : AreSeen raw (markup.letters s (meant more)) =
    subst (AreSeen raw) (letters_joined s (meant more))
    (both_seen (markup.letters s markup.no_inlines) (markup.letters s markup.no_inlines) c.shown.shown.raw_inlines
    (meant more) (letters_seen s) c.shown.shown.shows) in
    record {
      raw = raw;
      read =
          ap (item_text refs) whole ∙ box_read refs d (start ++ ks)
          ∙ ap (λ u. markup.task d (inlines refs u))
          (bare_behind refs line v s more p.marked refl t m2.1 (not-true (last_passes ends_with_space rest) n3.1)
          c.shown)
          ∙ ap (markup.task d) (reads_whole refs (start ++ ks) raw reads);
      shows = shows;
      plain = joined_plain (is_one_line line.kind) (markup.letters s markup.no_inlines) c.shown.shown.raw_inlines
          (letters_plain (is_one_line line.kind) s) c.shown.shown.plain;
    }

-- an item's first paragraph is read back, and plainly
abbrev IsBack : Line → List (List ℕ) → List (List ℕ) → Inlines → Type 0
IsBack line before after xs = is_normal_item xs ≡ true
    → AreFew (written_line line before xs).definitions
    → (seen_document (item_text (references_of line before after xs) (written_line line before xs).text) ≡ Some xs)
    × (is_read_plainly (is_one_line line.kind)
    (item_text (references_of line before after xs) (written_line line before xs).text) ≡ true)

task_back : (line : Line) (before after : List (List ℕ)) (d : Bool) (s : List ℕ) (more : Inlines)
    → line.in_link ≡ false → are_numbered 1 before ≡ true
    → IsBack line before after (inline (task d) (inline (text (32 ∷ s)) more))
task_back line before after d s more l db n few =
    let r = task_read line before after d s more l db n few in
    let rest = inline (text (32 ∷ s)) more in
    let n1 = and_parts (first_passes begins_with_space rest && not (last_passes ends_with_space rest)
    && not (last_passes is_break rest)) (are_normal false [] rest) n in
    let m1 = and_parts (is_text (32 ∷ s) && meets (text (32 ∷ s)) more) (are_normal false [] more) n1.1 in
    let m2 = and_parts (is_text (32 ∷ s)) (meets (text (32 ∷ s)) more) m1.0 in (
      ap seen_document r.read ∙ ap document_inlines (task_seen d r.raw (markup.letters s (meant more)) r.shows)
          ∙ ap (with_first (task d))
          (text_document 32 s (meant more) more (document_of false [] more m1.1) (no_text_meets (32 ∷ s) more m2.1)),
      subst (λ u. is_read_plainly (is_one_line line.kind) u ≡ true) (sym r.read) r.plain,
    )

-- ---- items

other_item : (line : Line) (before after : List (List ℕ)) (xs : Inlines) → line.in_link ≡ false
    → are_numbered 1 before ≡ true → is_normal_line xs ≡ true
    → AreFew (written_line line before xs).definitions
    → (seen_document (item_text (references_of line before after xs) (written_line line before xs).text) ≡ Some xs)
    × (is_read_plainly (is_one_line line.kind)
    (item_text (references_of line before after xs) (written_line line before xs).text) ≡ true)
other_item line before after xs l db n few =
    let p = and_parts (are_whole xs) (are_normal false [] xs) n in
    let q = and_parts (are_trimmed xs && not (first_passes is_break xs)) (not (last_passes is_break xs)) p.0 in
    let r = and_parts (are_trimmed xs) (not (first_passes is_break xs)) q.0 in
    let s = (written_line line before xs).text in
    let refs = references_of line before after xs in
    let no_task = line_no_task line before xs (subst (λ b. are_normal b [] xs ≡ true) (sym l) p.1)
    (not-true (first_passes is_break xs) r.1) in
    let same : item_text refs s ≡ inlines refs s =
    ap (λ b. if b then markup.task (is_checked s) (inlines refs (behind_run is_white (drop 3 s))) else inlines refs s)
    no_task in (
      ap seen_document same ∙ inlines_read_back line before after xs l db n few,
      subst (λ u. is_read_plainly (is_one_line line.kind) u ≡ true) (sym same)
          (inlines_are_plain line before after xs l db n few),
    )

-- a space stands behind a task
space_task : (line : Line) (before after : List (List ℕ)) (d : Bool) (c : ℕ) (s : List ℕ) (more : Inlines)
    → line.in_link ≡ false → are_numbered 1 before ≡ true
    → IsBack line before after (inline (task d) (inline (text (c ∷ s)) more))
space_task line before after d c s more l db n few =
    let rest = inline (text (c ∷ s)) more in
    let n1 = and_parts (first_passes begins_with_space rest && not (last_passes ends_with_space rest)
    && not (last_passes is_break rest)) (are_normal false [] rest) n in
    let n2 = and_parts (first_passes begins_with_space rest && not (last_passes ends_with_space rest))
    (not (last_passes is_break rest)) n1.0 in
    let n3 = and_parts (first_passes begins_with_space rest) (not (last_passes ends_with_space rest)) n2.0 in
    subst (λ x. IsBack line before after (inline (task d) (inline (text (x ∷ s)) more))) (sym (eqb-true c 32 n3.0))
    (λ n few. task_back line before after d s more l db n few) n few

items_back : (line : Line) (before after : List (List ℕ)) (xs : Inlines) → line.in_link ≡ false
    → are_numbered 1 before ≡ true → IsBack line before after xs
items_back line before after (inline (task d) no_inlines) l db n few = absurd (cc)
items_back line before after (inline (task d) (inline (text []) more)) l db n few = absurd (cc)
items_back line before after (inline (task d) (inline (text (c ∷ s)) more)) l db n few =
    space_task line before after d c s more l db n few
items_back line before after (inline (task d) (inline (code s) more)) l db n few = absurd (cc)
items_back line before after (inline (task d) (inline (formatted f content) more)) l db n few = absurd (cc)
items_back line before after (inline (task d) (inline (link a t content) more)) l db n few = absurd (cc)
items_back line before after (inline (task d) (inline (image a t s) more)) l db n few = absurd (cc)
items_back line before after (inline (task d) (inline (anchor i) more)) l db n few = absurd (cc)
items_back line before after (inline (task d) (inline line_break more)) l db n few = absurd (cc)
items_back line before after (inline (task d) (inline (task e) more)) l db n few = absurd (cc)
items_back line before after no_inlines l db n few = other_item line before after no_inlines l db n few
items_back line before after (inline (text s) rest) l db n few =
    other_item line before after (inline (text s) rest) l db n few
items_back line before after (inline (code s) rest) l db n few =
    other_item line before after (inline (code s) rest) l db n few
items_back line before after (inline (formatted f content) rest) l db n few =
    other_item line before after (inline (formatted f content) rest) l db n few
items_back line before after (inline (link a t content) rest) l db n few =
    other_item line before after (inline (link a t content) rest) l db n few
items_back line before after (inline (image a t s) rest) l db n few =
    other_item line before after (inline (image a t s) rest) l db n few
items_back line before after (inline (anchor id) rest) l db n few =
    other_item line before after (inline (anchor id) rest) l db n few
items_back line before after (inline line_break rest) l db n few =
    other_item line before after (inline line_break rest) l db n few

-- the paragraph that an item begins with is read back, in each place
pub items_read_back : ItemsReadBack
items_read_back line before after xs l db n few = (items_back line before after xs l db n few).0

pub items_are_plain : ItemsArePlain
items_are_plain line before after xs l db n few = (items_back line before after xs l db n few).1
