-- Flat blocks are read as they are written.
use Rattle.std.proofs.Common.{◌≡◌, ◌∙◌, refl, sym, ap, subst, ℕ, zero, suc, Bool, true, false, List, [], ◌∷◌, ◌++◌}
use Rattle.std.proofs.Common.{length, append_assoc, arith}
use Rattle.std.proofs.lemmas.Bool.Decides.{nat_tests}
use Rattle.std.proofs.lemmas.List.{append-nil}
use Rattle.std.specs.Prelude.{◌==◌, nat_le, if◌then◌else◌, replicate, Option, Some, None}
use Rattle.std.specs.List.{list_all}
use Rattle.htmd_document.specs.declared.document.Alignment.{Alignment}
use Rattle.htmd_commonmark_reading.specs.Characters.{is_space_or_tab, stripped_end}
use Rattle.htmd_commonmark_reading.specs.Lines.{Line, line, is_blank, cut}
use Rattle.htmd_commonmark_reading.specs.LinkDefinitions.{Definitions, definitions}
use Rattle.htmd_commonmark_reading.specs.Tables.{cells}
use Rattle.htmd_commonmark_reading.specs.Boxes.{ClosedBlock, text, headed, code, rule, html, grid, ClosedBlocks}
use Rattle.htmd_commonmark_reading.specs.Boxes.{defined, boxed, no_closed_blocks, closed_block, Leaf, paragraph, fenced, raw, table, nothing}
use Rattle.htmd_commonmark_reading.specs.Boxes.{leaf, Box, box, joined, joined_lines, parts_of, closed_leaf}
use Rattle.htmd_commonmark_reading.specs.Boxes.{fitted_rows, language}
use Rattle.htmd_commonmark_reading.specs.BlockStarts.{alone, under, Start, no_start, whole, first_line, opened, started}
use Rattle.htmd_commonmark_reading.specs.BlockStarts.{is_same, heading_text, closes_fence}
use Rattle.htmd_commonmark_reading.specs.LeafBlocks.{begun, on_underline, on_text, table_or_text, delimiter_row_of}
use Rattle.htmd_commonmark_reading.specs.LeafBlocks.{underline, underline_of, is_header, ended, with_leaf, after_leaf}
use Rattle.htmd_commonmark_reading.specs.LeafBlocks.{on_table, is_row}
use Rattle.htmd_commonmark_reading.specs.Containers.{holds_nothing, fed, fed_all}
use Rattle.htmd_law_blocks.specs.LineTexts.{IsBlack, AreBlack, IsFirstLine, IsFurtherLine, AreFurtherLines}
use Rattle.htmd_law_blocks.proofs.LinesLemmas.{joined_none, Columns, tail, place, shift, fed_append, not_blank}
use Rattle.htmd_law_blocks.proofs.LinesLemmas.{black_past}
use Rattle.htmd_law_blocks.proofs.EndsLemmas.{stripped_end_black, stripped_black}
use Rattle.htmd_law_blocks.proofs.ChainsLemmas.{Boxed, other, anything, Ends, not_blank_text}
use Rattle.htmd_law_blocks.proofs.PiecesLemmas.{FlatReads, Safe, safe_append, kind_of}

-- ---- what is open behind a block that is no container

nothing_boxed : (p : ClosedBlock) → Boxed (kind_of p) nothing
nothing_boxed (text s) = tt
nothing_boxed (headed level s) = tt
nothing_boxed (code l s) = tt
nothing_boxed rule = tt
nothing_boxed (html s) = tt
nothing_boxed (grid alignments header rows) = tt
nothing_boxed (defined d) = tt
nothing_boxed (boxed kind content) = tt

text_boxed : (p : ClosedBlock) (earlier : List (List ℕ)) (last : List ℕ)
    → Boxed (kind_of p) (leaf (paragraph earlier last))
text_boxed (text s) earlier last = tt
text_boxed (headed level s) earlier last = tt
text_boxed (code l s) earlier last = tt
text_boxed rule earlier last = tt
text_boxed (html s) earlier last = tt
text_boxed (grid alignments header rows) earlier last = tt
text_boxed (defined d) earlier last = tt
text_boxed (boxed kind content) earlier last = tt

-- ---- one line that is all

ends_whole : (done : ClosedBlocks) (g : Bool) (p : ClosedBlock) (b : Box) → b
    ≡ box (joined done (closed_block g p no_closed_blocks)) false
    nothing
    → Ends (kind_of p) b (joined done (closed_block g p no_closed_blocks))
ends_whole done g p b e =
    let qs = joined done (closed_block g p no_closed_blocks) in
    subst (λ (x : Box). Ends (kind_of p) x qs) (sym e)
    record { parts = joined_none qs; calm = tt; filled = refl; in_box = nothing_boxed p }

whole_fed : (done : ClosedBlocks) (g : Bool) (x : Line) (p : ClosedBlock) → is_blank x ≡ false → started alone x
    ≡ whole p
    → fed done g nothing x ≡ box (joined done (closed_block g p no_closed_blocks)) false nothing
whole_fed done g x p b e = rw b (ap (λ (s : Start). opened done g x s) e)

pub whole_reads : (l : List ℕ) (p : ClosedBlock) → IsBlack l
    → ((k : ℕ) → started alone (line k l) ≡ whole p)
    → FlatReads (l ∷ []) p no_closed_blocks
whole_reads l p b h = record {
  reads = λ k done g. ends_whole done g p (fed done g nothing (line (k zero) l))
      (whole_fed done g (line (k zero) l) p (not_blank l b) (h (k zero)));
  safe = λ k done g. ((λ f. absurd (let w = not_blank l b in cc)), tt);
  black = b;
}

-- ---- thematic breaks (CommonMark 0.31.2, 4.1)

abbrev pub rule_line : ℕ → List ℕ
rule_line c = c ∷ 32 ∷ c ∷ 32 ∷ c ∷ []

pub asterisks_read : FlatReads (rule_line 42 ∷ []) rule no_closed_blocks
asterisks_read = whole_reads (rule_line 42) rule refl (λ k. refl)

pub hyphens_read : FlatReads (rule_line 45 ∷ []) rule no_closed_blocks
hyphens_read = whole_reads (rule_line 45) rule refl (λ k. refl)

pub underscores_read : FlatReads (rule_line 95 ∷ []) rule no_closed_blocks
underscores_read = whole_reads (rule_line 95) rule refl (λ k. refl)

-- ---- headings (4.2)

abbrev pub heading_line : ℕ → List ℕ → List ℕ
heading_line level s = replicate level 35 ++ (32 ∷ s)

heading_whole : (level : ℕ) (s t : List ℕ) → heading_text s ≡ t → (x : Start)
    → x ≡ whole (headed level (heading_text s)) → x ≡ whole (headed level t)
heading_whole level s t e x f = f ∙ ap (λ (u : List ℕ). whole (headed level u)) e

pub heading_reads : (level : ℕ) (s : List ℕ) → nat_le 1 level ≡ true → nat_le level 6 ≡ true
    → heading_text s ≡ s
    → FlatReads (heading_line level s ∷ []) (headed level s) no_closed_blocks
heading_reads zero s a b h = absurd (cc)
heading_reads (suc zero) s a b h =
    whole_reads (heading_line 1 s) (headed 1 s) refl (λ k. heading_whole 1 s s h
    (started alone (line k (heading_line 1 s))) refl)
heading_reads (suc (suc zero)) s a b h =
    whole_reads (heading_line 2 s) (headed 2 s) refl (λ k. heading_whole 2 s s h
    (started alone (line k (heading_line 2 s))) refl)
heading_reads (suc (suc (suc zero))) s a b h =
    whole_reads (heading_line 3 s) (headed 3 s) refl (λ k. heading_whole 3 s s h
    (started alone (line k (heading_line 3 s))) refl)
heading_reads (suc (suc (suc (suc zero)))) s a b h =
    whole_reads (heading_line 4 s) (headed 4 s) refl (λ k. heading_whole 4 s s h
    (started alone (line k (heading_line 4 s))) refl)
heading_reads (suc (suc (suc (suc (suc zero))))) s a b h =
    whole_reads (heading_line 5 s) (headed 5 s) refl (λ k. heading_whole 5 s s h
    (started alone (line k (heading_line 5 s))) refl)
heading_reads (suc (suc (suc (suc (suc (suc zero)))))) s a b h =
    whole_reads (heading_line 6 s) (headed 6 s) refl (λ k. heading_whole 6 s s h
    (started alone (line k (heading_line 6 s))) refl)
heading_reads (suc (suc (suc (suc (suc (suc (suc n))))))) s a b h =
    let w : nat_le (suc (suc (suc (suc (suc (suc (suc n))))))) 6 ≡ false = grind (arith, nat_tests) in
    absurd (cc)

-- ---- paragraphs (4.8)

first_text : (done : ClosedBlocks) (g : Bool) (k : ℕ) (l : List ℕ) → IsFirstLine l
    → fed done g nothing (line k l) ≡ box done g (leaf (paragraph [] l))
first_text done g k l h =
    let x = line k l in
    let b : is_blank x ≡ false = not_blank l h.black in
    not_blank_begun b ∙ ap (λ (s : Start). opened done g x s) (h.starts k)
    ∙ ap (λ (t : List ℕ). box done g (leaf (paragraph [] t))) (black_past l h.black)
  where
    not_blank_begun : is_blank (line k l) ≡ false
        → begun done g (line k l) (started alone (line k l)) ≡ opened done g (line k l) (started alone (line k l))
    not_blank_begun b = rw b refl

further_text : (done : ClosedBlocks) (g : Bool) (earlier : List (List ℕ)) (last : List ℕ) (k : ℕ) (l : List ℕ)
    →
    IsFurtherLine l
    → fed done g (leaf (paragraph earlier last)) (line k l)
    ≡ box done g (leaf (paragraph (earlier ++ (last ∷ [])) l))
further_text done g earlier last k l h =
    let x = line k l in
    let d = definitions (joined_lines (earlier ++ (last ∷ []))) in
    not_blank_text done g earlier last x (not_blank l h.black)
    ∙ ap (λ (i : Option ℕ). on_underline done g i d (on_text done g earlier last x (started under x)))
    (h.no_underline k)
    ∙ ap (λ (s : Start). on_text done g earlier last x s) (h.starts k)
    ∙ ap (λ (a : Option (List Alignment)). table_or_text done g earlier last x a) (h.no_delimiters k)
    ∙ ap (λ (t : List ℕ). box done g (leaf (paragraph (earlier ++ (last ∷ [])) t))) (black_past l h.black)

abbrev grown : List (List ℕ) → List ℕ → List (List ℕ) → Leaf
grown earlier last [] = paragraph earlier last
grown earlier last (l ∷ ls) = grown (earlier ++ (last ∷ [])) l ls

further_texts : (ls earlier : List (List ℕ)) (last : List ℕ) (k : Columns) (done : ClosedBlocks) (g : Bool)
    → AreFurtherLines ls
    → (fed_all (box done g (leaf (paragraph earlier last))) (place k ls) ≡ box done g
    (leaf (grown earlier last ls)))
    × Safe (box done g (leaf (paragraph earlier last))) (place k ls)
further_texts [] earlier last k done g h = (refl, tt)
further_texts (l ∷ ls) earlier last k done g h =
    let e = further_text done g earlier last (k zero) l h.0 in
    let r = further_texts ls (earlier ++ (last ∷ [])) l (tail k) done g h.1 in (
      ap (λ (x : Box). fed_all x (place (tail k) ls)) e ∙ r.0,
      (
        (λ f. absurd (let w = not_blank l h.0.black in cc)),
        subst (λ (x : Box). Safe x (place (tail k) ls)) (sym e) r.1,
      ),
    )

grown_closed : (ls earlier : List (List ℕ)) (last : List ℕ) (g : Bool)
    → closed_leaf g (grown earlier last ls) ≡ parts_of g text
    (definitions (joined_lines (earlier ++ (last ∷ ls))))
grown_closed [] earlier last g = refl
grown_closed (l ∷ ls) earlier last g =
    grown_closed ls (earlier ++ (last ∷ [])) l g
    ∙ ap (λ (ms : List (List ℕ)). parts_of g text (definitions (joined_lines ms)))
    (append_assoc earlier (last ∷ []) (l ∷ ls))

-- the lines of a paragraph that leaves these parts
pub record IsParagraph (l : List ℕ) (ls : List (List ℕ)) (p : ClosedBlock) (more : ClosedBlocks) : Type 0 where
  pub first : IsFirstLine l
  pub further : AreFurtherLines ls
  pub leaves : (g : Bool) → parts_of g text (definitions (joined_lines (l ∷ ls))) ≡ closed_block g p more

ends_grown : (p : ClosedBlock) (done : ClosedBlocks) (g : Bool) (ls earlier : List (List ℕ)) (last : List ℕ)
    (qs : ClosedBlocks) → joined done (closed_leaf g (grown earlier last ls)) ≡ qs
    → Ends (kind_of p) (box done g (leaf (grown earlier last ls))) qs
ends_grown p done g [] earlier last qs e =
    record { parts = e; calm = tt; filled = refl; in_box = text_boxed p earlier last }
ends_grown p done g (l ∷ ls) earlier last qs e = ends_grown p done g ls (earlier ++ (last ∷ [])) l qs e

pub paragraph_reads : (l : List ℕ) (ls : List (List ℕ)) (p : ClosedBlock) (more : ClosedBlocks)
    → IsParagraph l ls p more
    → FlatReads (l ∷ ls) p more
paragraph_reads l ls p more h = record {
  reads = λ k done g. subst (λ (x : Box). Ends (kind_of p) x (joined done (closed_block g p more)))
      (sym (step k done g ∙ (further_texts ls [] l (tail k) done g h.further).0))
      (ends_grown p done g ls [] l (joined done (closed_block g p more))
      (ap (λ (ps : ClosedBlocks). joined done ps) (grown_closed ls [] l g ∙ h.leaves g)));
  safe = λ k done g. (
    (λ f. absurd (let w = not_blank l h.first.black in cc)),
    subst (λ (x : Box). Safe x (place (tail k) ls)) (sym (first_text done g (k zero) l h.first))
        (further_texts ls [] l (tail k) done g h.further).1,
  );
  black = h.first.black;
}
  where
    step : (k : Columns) (done : ClosedBlocks) (g : Bool) → fed_all (box done g nothing) (place k (l ∷ ls))
        ≡ fed_all (box done g (leaf (paragraph [] l))) (place (tail k) ls)
    step k done g = ap (λ (x : Box). fed_all x (place (tail k) ls)) (first_text done g (k zero) l h.first)

-- ---- underlined headings (4.3)

stripped_run : (c n : ℕ) → is_space_or_tab c ≡ false
    → stripped_end is_space_or_tab (replicate n c) ≡ replicate n c
stripped_run c zero h = refl
stripped_run c (suc n) h =
    stripped_end_black is_space_or_tab c (replicate n c) h ∙ ap (◌∷◌ c) (stripped_run c n h)

is_itself : (c : ℕ) → is_same c c ≡ true
is_itself c = grind (arith, nat_tests)

all_itself : (c n : ℕ) → list_all (is_same c) (replicate n c) ≡ true
all_itself c zero = refl
all_itself c (suc n) = rw (is_itself c) (all_itself c n)

-- the sign under a heading of this level
abbrev pub underline_sign : ℕ → ℕ
underline_sign level = if level == 1 then 61 else 45

underlined_by : (k n : ℕ) → (underline_of (line k (replicate (suc n) 61)) ≡ Some 1)
    × (underline_of (line k (replicate (suc n) 45)) ≡ Some 2)
underlined_by k n =
    let e = stripped_black 61 (replicate n 61) refl ∙ ap (◌∷◌ 61) (stripped_run 61 n refl) in
    let f = stripped_black 45 (replicate n 45) refl ∙ ap (◌∷◌ 45) (stripped_run 45 n refl) in
    (ap underline e ∙ rw (all_itself 61 n) refl, ap underline f ∙ rw (all_itself 45 n) refl)

-- the text of an underlined heading: a line, and no definition
pub record IsHeadingLine (l : List ℕ) : Type 0 where
  pub first : IsFirstLine l
  pub whole : definitions (joined_lines (l ∷ [])) ≡ record { found = []; rest = l }

underlined_fed : (done : ClosedBlocks) (g : Bool) (level k : ℕ) (l u : List ℕ) → IsHeadingLine l → IsBlack u
    → underline_of (line k u) ≡ Some level
    → fed done g (leaf (paragraph [] l)) (line k u)
    ≡ box (joined done (closed_block g (headed level l) no_closed_blocks)) false
    nothing
underlined_fed done g level k [] u h b e = absurd h.first.black
underlined_fed done g level k (c ∷ s) u h b e =
    let l = c ∷ s in
    let x = line k u in
    let o = on_text done g [] l x (started under x) in
    not_blank_text done g [] l x (not_blank u b)
    ∙ ap (λ (i : Option ℕ). on_underline done g i (definitions (joined_lines (l ∷ []))) o) e
    ∙ ap (λ (d : Definitions). on_underline done g (Some level) d o) h.whole

pub underlined_reads : (level : ℕ) (l u : List ℕ) → IsHeadingLine l → IsBlack u
    → ((k : ℕ) → underline_of (line k u) ≡ Some level)
    → FlatReads (l ∷ u ∷ []) (headed level l) no_closed_blocks
underlined_reads level l u h b e = record {
  reads = λ k done g. ends_whole done g (headed level l) (fed_all (box done g nothing) (place k (l ∷ u ∷ [])))
      (step k done g ∙ underlined_fed done g level (k (suc zero)) l u h b (e (k (suc zero))));
  safe = λ k done g. (
    (λ f. absurd (let w = not_blank l h.first.black in cc)),
    ((λ f. absurd (let w = not_blank u b in cc)), tt),
  );
  black = h.first.black;
}
  where
    step : (k : Columns) (done : ClosedBlocks) (g : Bool) → fed_all (box done g nothing) (place k (l ∷ u ∷ []))
        ≡ fed done g (leaf (paragraph [] l)) (line (k (suc zero)) u)
    step k done g = ap (λ (x : Box). fed_all x (place (tail k) (u ∷ []))) (first_text done g (k zero) l h.first)

pub setext_reads : (level n : ℕ) (l : List ℕ) → nat_le 1 level ≡ true → nat_le level 2 ≡ true
    → IsHeadingLine l
    → FlatReads (l ∷ replicate (suc n) (underline_sign level) ∷ []) (headed level l) no_closed_blocks
setext_reads zero n l a b h = absurd (cc)
setext_reads (suc zero) n l a b h = underlined_reads 1 l (replicate (suc n) 61) h refl (λ k. (underlined_by k n).0)
setext_reads (suc (suc zero)) n l a b h =
    underlined_reads 2 l (replicate (suc n) 45) h refl (λ k. (underlined_by k n).1)
setext_reads (suc (suc (suc m))) n l a b h =
    let w : nat_le (suc (suc (suc m))) 2 ≡ false = grind (arith, nat_tests) in
    absurd (cc)

-- ---- fences (4.5)

-- no line of code closes the fence, whatever its column (CommonMark 0.31.2, 4.5)
abbrev pub StaysOpen : ℕ → ℕ → List (List ℕ) → Type 0
StaysOpen sign count [] = Unit {0}
StaysOpen sign count (l ∷ ls) =
    ((k : ℕ) → closes_fence sign count (line k l) ≡ false) × StaysOpen sign count ls

code_fed : (ls rows : List (List ℕ)) (sign count : ℕ) (info : List ℕ) (k : Columns) (done : ClosedBlocks)
    (g : Bool)
    → StaysOpen sign count ls
    → (fed_all (box done g (leaf (fenced 0 sign count info rows))) (place k ls)
    ≡ box done g (leaf (fenced 0 sign count info (rows ++ ls))))
    × Safe (box done g (leaf (fenced 0 sign count info rows))) (place k ls)
code_fed [] rows sign count info k done g h =
    (ap (λ (x : List (List ℕ)). box done g (leaf (fenced 0 sign count info x))) (sym (append-nil rows)), tt)
code_fed (l ∷ ls) rows sign count info k done g h =
    let x = line (k zero) l in
    let e : fed done g (leaf (fenced 0 sign count info rows)) x
    ≡ box done g (leaf (fenced 0 sign count info (rows ++ (l ∷ [])))) =
    ap (λ (b : Bool). if b then ended done g (fenced 0 sign count info rows)
    else with_leaf done g (fenced 0 sign count info (rows ++ (l ∷ [])))) (h.0 (k zero)) in
    let r = code_fed ls (rows ++ (l ∷ [])) sign count info (tail k) done g h.1 in (
      ap (λ (b : Box). fed_all b (place (tail k) ls)) e ∙ r.0
          ∙ ap (λ (y : List (List ℕ)). box done g (leaf (fenced 0 sign count info y)))
          (append_assoc rows (l ∷ []) ls),
      ((λ f. holds done), subst (λ (b : Box). Safe b (place (tail k) ls)) (sym e) r.1),
    )
  where
    holds : (d : ClosedBlocks) → holds_nothing d (leaf (fenced 0 sign count info rows)) ≡ false
    holds no_closed_blocks = refl
    holds (closed_block g p ps) = refl

-- how an opening and a closing fence are read
pub record IsFence (sign count : ℕ) (opening closing info : List ℕ) : Type 0 where
  pub opening_black : IsBlack opening
  pub opens : (k : ℕ) → started alone (line k opening) ≡ first_line (leaf (fenced 0 sign count info []))
  pub closes : (k : ℕ) → closes_fence sign count (line k closing) ≡ true
  pub closing_black : IsBlack closing

open_fence : (done : ClosedBlocks) (g : Bool) (k sign count : ℕ) (o c info : List ℕ) → IsFence sign count o c info
    → fed done g nothing (line k o) ≡ box done g (leaf (fenced 0 sign count info []))
open_fence done g k sign count o c info h =
    let x = line k o in
    let b : is_blank x ≡ false = not_blank o h.opening_black in
    rw b (ap (λ (s : Start). opened done g x s) (h.opens k))

close_fence : (done : ClosedBlocks) (g : Bool) (k sign count : ℕ) (o c info : List ℕ) (ls : List (List ℕ))
    → IsFence sign count o c info
    → fed done g (leaf (fenced 0 sign count info ls)) (line k c)
    ≡ box (joined done (closed_block g (code (language info) (joined_lines ls)) no_closed_blocks)) false nothing
close_fence done g k sign count o c info ls h =
    ap (λ (b : Bool). if b then ended done g (fenced 0 sign count info ls)
    else with_leaf done g (fenced 0 sign count info (ls ++ ((cut 0 (line k c)).text ∷ [])))) (h.closes k)

pub fence_reads : (sign count : ℕ) (o c info : List ℕ) (ls : List (List ℕ)) → IsFence sign count o c info
    → StaysOpen sign count ls
    → FlatReads (o ∷ (ls ++ (c ∷ []))) (code (language info) (joined_lines ls)) no_closed_blocks
fence_reads sign count o c info ls h w = record {
  reads = λ k done g. ends_whole done g (code (language info) (joined_lines ls))
      (fed_all (box done g nothing) (place k (o ∷ (ls ++ (c ∷ [])))))
      (ap (λ (b : Box). fed_all b (place (tail k) (ls ++ (c ∷ []))))
      (open_fence done g (k zero) sign count o c info h)
      ∙ fed_append (box done g (leaf (fenced 0 sign count info []))) (tail k) ls (c ∷ [])
      ∙ ap (λ (b : Box). fed_all b (place (shift ls (tail k)) (c ∷ [])))
      (code_fed ls [] sign count info (tail k) done g w).0
      ∙ close_fence done g (shift ls (tail k) zero) sign count o c info ls h);
  safe = λ k done g. (
    (λ f. absurd (let v = not_blank o h.opening_black in cc)),
    subst (λ (b : Box). Safe b (place (tail k) (ls ++ (c ∷ []))))
        (sym (open_fence done g (k zero) sign count o c info h))
        (safe_append (box done g (leaf (fenced 0 sign count info []))) (tail k) ls (c ∷ [])
        (code_fed ls [] sign count info (tail k) done g w).1
        ((λ f. absurd (let v = not_blank c h.closing_black in cc)), tt)),
  );
  black = h.opening_black;
}

-- ---- HTML blocks that a blank line ends (4.6)

html_fed : (ls rows : List (List ℕ)) (k : Columns) (done : ClosedBlocks) (g : Bool) → AreBlack ls
    → (fed_all (box done g (leaf (raw [] rows))) (place k ls) ≡ box done g (leaf (raw [] (rows ++ ls))))
    × Safe (box done g (leaf (raw [] rows))) (place k ls)
html_fed [] rows k done g h = (ap (λ (x : List (List ℕ)). box done g (leaf (raw [] x))) (sym (append-nil rows)), tt)
html_fed (l ∷ ls) rows k done g h =
    let x = line (k zero) l in
    let b : is_blank x ≡ false = not_blank l h.0 in
    let e : fed done g (leaf (raw [] rows)) x ≡ box done g (leaf (raw [] (rows ++ (l ∷ [])))) = rw b refl in
    let r = html_fed ls (rows ++ (l ∷ [])) (tail k) done g h.1 in (
      ap (λ (y : Box). fed_all y (place (tail k) ls)) e ∙ r.0
          ∙ ap (λ (y : List (List ℕ)). box done g (leaf (raw [] y))) (append_assoc rows (l ∷ []) ls),
      (
        (λ f. absurd (let w = not_blank l h.0 in cc)),
        subst (λ (y : Box). Safe y (place (tail k) ls)) (sym e) r.1,
      ),
    )

pub html_reads : (l : List ℕ) (ls : List (List ℕ)) → IsBlack l
    → ((k : ℕ) → started alone (line k l) ≡ first_line (leaf (raw [] (l ∷ [])))) → AreBlack ls
    → FlatReads (l ∷ ls) (html (joined_lines (l ∷ ls))) no_closed_blocks
html_reads l ls b h w = record {
  reads = λ k done g.
      subst (λ (x : Box). Ends anything x
      (joined done (closed_block g (html (joined_lines (l ∷ ls))) no_closed_blocks)))
      (sym (ap (λ (x : Box). fed_all x (place (tail k) ls)) (first k done g)
      ∙ (html_fed ls (l ∷ []) (tail k) done g w).0))
      record { parts = refl; calm = tt; filled = refl; in_box = tt };
  safe = λ k done g. (
    (λ f. absurd (let v = not_blank l b in cc)),
    subst (λ (x : Box). Safe x (place (tail k) ls)) (sym (first k done g))
        (html_fed ls (l ∷ []) (tail k) done g w).1,
  );
  black = b;
}
  where
    first : (k : Columns) (done : ClosedBlocks) (g : Bool)
        → fed done g nothing (line (k zero) l) ≡ box done g (leaf (raw [] (l ∷ [])))
    first k done g =
        let x = line (k zero) l in
        let e : is_blank x ≡ false = not_blank l b in
        rw e (ap (λ (s : Start). opened done g x s) (h (k zero)))

-- ---- tables (GFM 4.10)

abbrev pub AreRows : List (List ℕ) → Type 0
AreRows [] = Unit {0}
AreRows (r ∷ rs) =
    (IsBlack r × ((k : ℕ) → started alone (line k r) ≡ no_start) × (is_row (cells r) no_start ≡ true))
    × AreRows rs

-- the lines of a table: its header, what stands under that, and its rows
pub record IsTable (alignments : List Alignment) (h d : List ℕ) (rs : List (List ℕ)) : Type 0 where
  pub header : IsFirstLine h
  pub delimiters_black : IsBlack d
  pub delimiters_start : (k : ℕ) → started under (line k d) ≡ no_start
  pub delimiters_underline : (k : ℕ) → underline_of (line k d) ≡ None
  pub delimiters : (k : ℕ) → delimiter_row_of (line k d) ≡ Some alignments
  pub fits : is_header h alignments ≡ true
  pub rows : AreRows rs

delimiters_fed : (done : ClosedBlocks) (g : Bool) (k : ℕ) (a : List Alignment) (h d : List ℕ) (rs : List (List ℕ))
    → IsTable a h d rs
    → fed done g (leaf (paragraph [] h)) (line k d) ≡ box done g (leaf (table a (cells h) []))
delimiters_fed done g k a h d rs t =
    let x = line k d in
    let e = definitions (joined_lines (h ∷ [])) in
    not_blank_text done g [] h x (not_blank d t.delimiters_black)
    ∙ ap (λ (i : Option ℕ). on_underline done g i e (on_text done g [] h x (started under x)))
    (t.delimiters_underline k)
    ∙ ap (λ (s : Start). on_text done g [] h x s) (t.delimiters_start k)
    ∙ ap (λ (b : Option (List Alignment)). table_or_text done g [] h x b) (t.delimiters k)
    ∙ fitting (t.fits)
  where
    fitting : is_header h a ≡ true
        → table_or_text done g [] h (line k d) (Some a) ≡ box done g (leaf (table a (cells h) []))
    fitting f = rw f refl

rows_fed : (rs ls : List (List ℕ)) (a : List Alignment) (h : List (List ℕ)) (k : Columns) (done : ClosedBlocks)
    (g : Bool)
    → AreRows rs
    → (fed_all (box done g (leaf (table a h ls))) (place k rs) ≡ box done g (leaf (table a h (ls ++ rs))))
    × Safe (box done g (leaf (table a h ls))) (place k rs)
rows_fed [] ls a h k done g w =
    (ap (λ (x : List (List ℕ)). box done g (leaf (table a h x))) (sym (append-nil ls)), tt)
rows_fed (r ∷ rs) ls a h k done g w =
    let x = line (k zero) r in
    let e = row_fed (w.0.1 (k zero)) w.0.2 in
    let i = rows_fed rs (ls ++ (r ∷ [])) a h (tail k) done g w.1 in (
      ap (λ (b : Box). fed_all b (place (tail k) rs)) e ∙ i.0
          ∙ ap (λ (y : List (List ℕ)). box done g (leaf (table a h y))) (append_assoc ls (r ∷ []) rs),
      (
        (λ f. absurd (let v = not_blank r w.0.0 in cc)),
        subst (λ (b : Box). Safe b (place (tail k) rs)) (sym e) i.1,
      ),
    )
  where
    row_fed : started alone (line (k zero) r) ≡ no_start → is_row (cells r) no_start ≡ true
        → fed done g (leaf (table a h ls)) (line (k zero) r) ≡ box done g (leaf (table a h (ls ++ (r ∷ []))))
    row_fed e f =
        ap (λ (s : Start). on_table done g a h ls (line (k zero) r) s) e
        ∙ ap (λ (b : Bool). if b then with_leaf done g (table a h (ls ++ (r ∷ [])))
        else after_leaf done g (table a h ls) (line (k zero) r) no_start) f

pub table_reads : (a : List Alignment) (h d : List ℕ) (rs : List (List ℕ)) → IsTable a h d rs
    → FlatReads (h ∷ d ∷ rs) (grid a (cells h) (fitted_rows (length a) rs)) no_closed_blocks
table_reads a h d rs t = record {
  reads = λ k done g.
      let qs = joined done (closed_block g (grid a (cells h) (fitted_rows (length a) rs)) no_closed_blocks) in
      subst (λ (b : Box). Ends other b qs)
      (sym (ap (λ (b : Box). fed_all b (place (tail (tail k)) rs))
      (steps k done g) ∙ (rows_fed rs [] a (cells h) (tail (tail k)) done g t.rows).0))
      record { parts = refl; calm = tt; filled = refl; in_box = tt };
  safe = λ k done g. (
    (λ f. absurd (let v = not_blank h t.header.black in cc)),
    (
      (λ f. absurd (let v = not_blank d t.delimiters_black in cc)),
      subst (λ (b : Box). Safe b (place (tail (tail k)) rs)) (sym (steps k done g))
          (rows_fed rs [] a (cells h) (tail (tail k)) done g t.rows).1,
    ),
  );
  black = t.header.black;
}
  where
    second : Box → Columns → Box
    second b k = fed b.done b.gap b.inner (line (k (suc zero)) d)

    steps : (k : Columns) (done : ClosedBlocks) (g : Bool)
        → second (fed done g nothing (line (k zero) h)) k ≡ box done g (leaf (table a (cells h) []))
    steps k done g =
        ap (λ (b : Box). second b k) (first_text done g (k zero) h t.header)
        ∙ delimiters_fed done g (k (suc zero)) a h d rs t
