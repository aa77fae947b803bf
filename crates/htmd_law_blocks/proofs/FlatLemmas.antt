-- What is written of a flat block is read as it.
use Rattle.std.proofs.Common.{◌≡◌, ◌∙◌, refl, sym, ap, subst, ℕ, zero, suc, ◌≤◌, Bool, true, false, List, [], ◌∷◌, ◌+◌}
use Rattle.std.proofs.Common.{◌-◌, ◌++◌, length, map, append_assoc, arith}
use Rattle.std.proofs.lemmas.Bool.Decides.{nat_tests}
use Rattle.std.proofs.lemmas.List.{append-nil, length-replicate}
use Rattle.std.proofs.lemmas.List.Splits.{slice_split-cons_yes, slice_split-cons_no}
use Rattle.std.specs.Prelude.{◌&&◌, ◌||◌, ◌==◌, nat_le, max, if◌then◌else◌, replicate, drop, Option, Some, None}
use Rattle.std.specs.List.{list_all, onto_first}
use Rattle.std.specs.Str.{chars}
use Rattle.htmd_lexical.specs.CharacterClasses.{is_empty, first_is, leading_run, behind_run, lacks}
use Rattle.htmd_lexical.specs.Characters.{line_feed}
use Rattle.htmd_text.specs.Trims.{is_line_feed}
use Rattle.htmd_markdown.specs.Headings.{underline}
use Rattle.htmd_markdown.specs.Runs.{longest_run}
use Rattle.htmd_markdown.specs.Fences.{fence_len, info_string, between_fences}
use Rattle.htmd_markdown.specs.declared.fence.CodeBlockFence.{CodeBlockFence}
use Rattle.htmd_markdown.specs.declared.fence.CodeBlockFence.TheVariants.{Tildes, Backticks}
use Rattle.htmd_markdown.specs.declared.thematic_break.HrStyle.{HrStyle}
use Rattle.htmd_markdown.specs.declared.thematic_break.HrStyle.TheVariants.{Dashes, Asterisks, Underscores}
use Rattle.htmd_document.specs.declared.document.Alignment.{Alignment}
use Rattle.htmd_commonmark.specs.Fences as fences
use Rattle.htmd_commonmark.specs.BlockMarkdown as writing
use Rattle.htmd_commonmark_reading.specs.Characters.{is_space_or_tab, stripped, stripped_end}
use Rattle.htmd_commonmark_reading.specs.Lines.{line, indent_at}
use Rattle.htmd_commonmark_reading.specs.LinkDefinitions.{Definitions, definitions}
use Rattle.htmd_commonmark_reading.specs.Boxes.{ClosedBlock, text, headed, code, rule, html, grid, no_closed_blocks}
use Rattle.htmd_commonmark_reading.specs.Boxes.{closed_block, leaf, fenced, fitted_rows, joined_lines, parts_of}
use Rattle.htmd_commonmark_reading.specs.Boxes.{language}
use Rattle.htmd_commonmark_reading.specs.BlockStarts.{alone, under, started, first_line, no_start, is_same, fence_start}
use Rattle.htmd_commonmark_reading.specs.BlockStarts.{fence_with, closes_fence}
use Rattle.htmd_commonmark_reading.specs.Tables.{cells, fitted}
use Rattle.htmd_commonmark_reading.specs.LeafBlocks.{underline_of, is_row, is_header}
use Rattle.htmd_commonmark_reading.specs.LeafBlocks as reading
use Rattle.htmd_law_blocks.proofs.LeavesLemmas as leaves
use Rattle.htmd_law_blocks.specs.LineTexts.{IsBlack, AreBlack, IsNotOf, is_line_character, lines_of, IsFirstLine, AreFurtherLines}
use Rattle.htmd_law_blocks.specs.LineTexts.{AreTextLines, IsLineText, IsHeadingText, IsUnderlinedText}
use Rattle.htmd_law_blocks.specs.NormalBlocks.{HasLanguage, is_level, IsTags, AreTagLines}
use Rattle.htmd_law_blocks.proofs.LinesLemmas.{black_indent}
use Rattle.htmd_law_blocks.proofs.EndsLemmas.{stripped_end_black, stripped_black}
use Rattle.htmd_law_blocks.proofs.ChainsLemmas.{First}
use Rattle.htmd_law_blocks.proofs.PiecesLemmas.{FlatReads}
use Rattle.htmd_law_blocks.proofs.LeavesLemmas.{StaysOpen, rule_line, asterisks_read, hyphens_read}
use Rattle.htmd_law_blocks.proofs.LeavesLemmas.{underscores_read, heading_line, heading_reads}
use Rattle.htmd_law_blocks.proofs.LeavesLemmas.{paragraph_reads, setext_reads, underline_sign, IsFence}
use Rattle.htmd_law_blocks.proofs.LeavesLemmas.{fence_reads, html_reads, IsTable, table_reads}
use Rattle.htmd_law_blocks.proofs.RunsLemmas.{stays_open}
use Rattle.htmd_law_blocks.proofs.TablesLemmas.{IsSomeCells, AreBarred, TableLines}
use Rattle.htmd_law_blocks.proofs.TextsLemmas.{IsClean, AreClean, IsSome, IsFull, full_append, clean_append}
use Rattle.htmd_law_blocks.proofs.TextsLemmas.{are_clean_append, written_one, written_last, written_lines, clean_lines}
use Rattle.htmd_law_blocks.proofs.TextsLemmas.{joined_append, joined_onto}

-- the text of a block, with what it is read as
pub record Flat (s : List ℕ) (p : ClosedBlock) : Type 0 where
  pub reads : FlatReads (lines_of s) p no_closed_blocks
  pub clean : AreClean (lines_of s)
  pub full : IsFull (lines_of s)

flat_by : (s : List ℕ) (ls : List (List ℕ)) (p : ClosedBlock) → lines_of s ≡ ls
    → FlatReads ls p no_closed_blocks
    → AreClean ls
    → IsFull ls → Flat s p
flat_by s ls p e r c f = record {
  reads = subst (λ (x : List (List ℕ)). FlatReads x p no_closed_blocks) (sym e) r;
  clean = subst AreClean (sym e) c;
  full = subst IsFull (sym e) f;
}

-- ---- lines and their text

pub lines_some : (s : List ℕ) → lines_of s ≡ [] → ⊥
lines_some [] e = absurd (cc)
lines_some (c ∷ s) e = go (c == line_feed) refl
  where
    onto_some : (ls : List (List ℕ)) → onto_first c ls ≡ [] → ⊥
    onto_some [] e = absurd (cc)
    onto_some (l ∷ ls) e = absurd (cc)

    go : (b : Bool) → (c == line_feed) ≡ b → ⊥
    go true f = let w = sym (slice_split-cons_yes is_line_feed c s f) ∙ e in absurd (cc)
    go false f = onto_some (lines_of s) (sym (slice_split-cons_no is_line_feed c s f) ∙ e)

is_feed : (c : ℕ) → (c == line_feed) ≡ true → c ≡ 10
is_feed c e = grind (arith, nat_tests)

joined_empty : (ls : List (List ℕ)) → (ls ≡ [] → ⊥) → joined_lines ([] ∷ ls) ≡ 10 ∷ joined_lines ls
joined_empty [] h = absurd (h refl)
joined_empty (l ∷ ls) h = refl

pub lines_back : (s : List ℕ) → joined_lines (lines_of s) ≡ s
lines_back [] = refl
lines_back (c ∷ s) = go (c == line_feed) refl (lines_back s)
  where
    go : (b : Bool) → (c == line_feed) ≡ b → joined_lines (lines_of s) ≡ s
        → joined_lines (lines_of (c ∷ s)) ≡ c ∷ s
    go true e i =
        ap joined_lines (slice_split-cons_yes is_line_feed c s e) ∙ joined_empty (lines_of s) (lines_some s)
        ∙ ap (◌∷◌ 10) i ∙ ap (λ (d : ℕ). d ∷ s) (sym (is_feed c e))
    go false e i =
        ap joined_lines (slice_split-cons_no is_line_feed c s e) ∙ joined_onto c (lines_of s) (lines_some s)
        ∙ ap (◌∷◌ c) i

black_some : (l : List ℕ) → IsBlack l → IsSome l
black_some [] h = absurd h
black_some (c ∷ s) h = tt

pub one_clean : (s : List ℕ) → list_all is_line_character s ≡ true → lines_of s ≡ s ∷ [] → IsClean s
one_clean s p e = let w : AreClean (s ∷ []) = subst AreClean e (clean_lines s p) in w.0

-- ---- paragraphs

pub further_full : (l : List ℕ) (ls : List (List ℕ)) → IsBlack l → AreFurtherLines ls → IsFull (l ∷ ls)
further_full l [] b h = black_some l b
further_full l (m ∷ ls) b h = further_full m ls h.0.black h.1

joined_is_some : (l : List ℕ) (ls : List (List ℕ)) (s : List ℕ) → IsBlack l → joined_lines (l ∷ ls) ≡ s
    → is_empty s ≡ false
joined_is_some [] ls s b e = absurd b
joined_is_some (c ∷ l) ls s b e = ap is_empty (sym e)

whole_parts : (g : Bool) (s : List ℕ) → is_empty s ≡ false → definitions s ≡ record { found = []; rest = s }
    → parts_of g text (definitions s) ≡ closed_block g (text s) no_closed_blocks
whole_parts g s e w = ap (λ (d : Definitions). parts_of g text d) w ∙ rw e refl

pub paragraph_flat : (s : List ℕ) → IsLineText s → Flat s (text s)
paragraph_flat s h = go (lines_of s) refl h.lines
  where
    go : (ls : List (List ℕ)) → lines_of s ≡ ls → AreTextLines ls → Flat s (text s)
    go [] e t = absurd t
    go (l ∷ ls) e t =
        let back : joined_lines (l ∷ ls) ≡ s = ap joined_lines (sym e) ∙ lines_back s in
        let some = joined_is_some l ls s t.0.black back in
        flat_by s (l ∷ ls) (text s) e
        (paragraph_reads l ls (text s) no_closed_blocks record {
          first = t.0;
          further = t.1;
          leaves = λ g. ap (λ (x : List ℕ). parts_of g text (definitions x)) back ∙ whole_parts g s some h.whole;
        })
        (subst AreClean e (clean_lines s h.plain))
        (further_full l ls t.0.black t.1)

-- ---- breaks

pub rule_flat : (style : HrStyle) (in_item : Bool) → Flat (writing.rule style in_item) rule
rule_flat style true =
    flat_by (rule_line 95) (rule_line 95 ∷ []) rule refl underscores_read (clean_lines (rule_line 95) refl) tt
rule_flat Dashes false =
    flat_by (rule_line 45) (rule_line 45 ∷ []) rule refl hyphens_read (clean_lines (rule_line 45) refl) tt
rule_flat Asterisks false =
    flat_by (rule_line 42) (rule_line 42 ∷ []) rule refl asterisks_read (clean_lines (rule_line 42) refl) tt
rule_flat Underscores false =
    flat_by (rule_line 95) (rule_line 95 ∷ []) rule refl underscores_read (clean_lines (rule_line 95) refl) tt

-- ---- headings

signs_clean : (n : ℕ) (s : List ℕ) → IsClean s → IsClean (replicate n 35 ++ (32 ∷ s))
signs_clean zero s h = (refl, refl, refl, h)
signs_clean (suc n) s h = (refl, refl, refl, signs_clean n s h)

some_line : (level : ℕ) (s : List ℕ) → IsSome (heading_line level s)
some_line zero s = tt
some_line (suc n) s = tt

both_left : (a b : Bool) → (a && b) ≡ true → a ≡ true
both_left true b h = refl
both_left false b h = absurd (cc)

both_right : (a b : Bool) → (a && b) ≡ true → b ≡ true
both_right true b h = h
both_right false b h = absurd (cc)

pub heading_flat : (level : ℕ) (s : List ℕ) → is_level level ≡ true → IsHeadingText s
    → Flat (writing.number_signs level ++ s) (headed level s)
heading_flat level s b h =
    let c = signs_clean level s (one_clean s h.plain h.one_line) in
    let e : writing.number_signs level ++ s ≡ heading_line level s =
    append_assoc (replicate level 35) (32 ∷ []) s in
    flat_by (writing.number_signs level ++ s) (heading_line level s ∷ []) (headed level s)
    (ap lines_of e ∙ written_last (heading_line level s) c)
    (heading_reads level s (both_left (nat_le 1 level) (nat_le level 6) b)
    (both_right (nat_le 1 level) (nat_le level 6) b) h.whole)
    (c, tt) (some_line level s)

run_clean : (c n : ℕ) → IsClean (c ∷ []) → IsClean (replicate n c)
run_clean c zero h = tt
run_clean c (suc n) h = (h.0, h.1, h.2, run_clean c n h)

underline_clean : (level : ℕ) → IsClean (underline_sign level ∷ [])
underline_clean level = go (level == 1)
  where
    go : (b : Bool) → IsClean ((if b then 61 else 45) ∷ [])
    go true = (refl, refl, refl, tt)
    go false = (refl, refl, refl, tt)

pub underlined_flat : (level : ℕ) (s : List ℕ) → nat_le 1 level ≡ true → nat_le level 2 ≡ true
    → IsUnderlinedText s
    → Flat (writing.underlined level s) (headed level s)
underlined_flat level s a b h =
    let n = max (length (chars s)) 1 in
    let m = n - 1 in
    let u = replicate (suc m) (underline_sign level) in
    let e : n ≡ suc m = omega arith in
    let c : AreClean (s ∷ u ∷ []) =
    (one_clean s h.plain h.one_line, (run_clean (underline_sign level) (suc m) (underline_clean level), tt)) in
    let t : writing.underlined level s ≡ joined_lines (s ∷ u ∷ []) =
    append_assoc s (10 ∷ []) (replicate n (underline level))
    ∙ ap (λ (i : ℕ). s ++ (10 ∷ replicate i (underline level))) e
    ∙ ap (λ (x : List ℕ). s ++ (10 ∷ x)) (sym (append-nil u)) in
    flat_by (writing.underlined level s) (s ∷ u ∷ []) (headed level s)
    (ap lines_of t ∙ written_lines s (u ∷ []) c)
    (setext_reads level m s a b record {
      first = h.line;
      whole = ap definitions (append-nil s) ∙ h.whole;
    })
    c tt

-- ---- fences

itself : (c : ℕ) → is_same c c ≡ true
itself c = grind (arith, nat_tests)

sign_run : (c n : ℕ) (s : List ℕ) → first_is c s ≡ false
    → (leading_run (is_same c) (replicate n c ++ s) ≡ replicate n c) ×
    (behind_run (is_same c) (replicate n c ++ s) ≡ s)
sign_run c zero [] h = (refl, refl)
sign_run c zero (d ∷ s) h = (rw h refl, rw h refl)
sign_run c (suc n) s h =
    let r = sign_run c n s h in
    (rw (itself c) (ap (◌∷◌ c) r.0), rw (itself c) r.1)

all_of_run : (c n : ℕ) → list_all (is_same c) (replicate n c) ≡ true
all_of_run c zero = refl
all_of_run c (suc n) = rw (itself c) (all_of_run c n)

end_of_run : (c n : ℕ) → is_space_or_tab c ≡ false
    → stripped_end is_space_or_tab (replicate n c) ≡ replicate n c
end_of_run c zero h = refl
end_of_run c (suc n) h = stripped_end_black is_space_or_tab c (replicate n c) h ∙ ap (◌∷◌ c) (end_of_run c n h)

-- what a fence's sign does
pub record IsFenceSign (c : ℕ) : Type 0 where
  pub starts : (k : ℕ) (t : List ℕ) → started alone (line k (c ∷ t)) ≡ fence_start 0 c (c ∷ t)
  pub black : is_space_or_tab c ≡ false
  pub clean : IsClean (c ∷ [])

-- what stands after the opening fence
pub record IsInfo (c : ℕ) (info : List ℕ) (word : Option (List ℕ)) : Type 0 where
  pub clean : IsClean info
  pub bare : stripped info ≡ info
  pub is_word : language info ≡ word
  pub fits : ((c == 126) || lacks 96 info) ≡ true
  pub apart : first_is c info ≡ false

fence_is : (c m : ℕ) (info : List ℕ) (word : Option (List ℕ)) → IsFenceSign c → IsInfo c info word
    → nat_le 3 (suc m) ≡ true
    → IsFence c (suc m) (replicate (suc m) c ++ info) (replicate (suc m) c) info
fence_is c m info word f i three = record {
  opening_black = f.black;
  opens = λ k. f.starts k (replicate m c ++ info) ∙ opened_with;
  closes = λ k. closed k;
  closing_black = f.black;
}
  where
    x : List ℕ
    x = replicate (suc m) c ++ info

    r : (leading_run (is_same c) x ≡ replicate (suc m) c) × (behind_run (is_same c) x ≡ info)
    r = sign_run c (suc m) info i.apart

    tests : (nat_le 3 (suc m) && ((c == 126) || lacks 96 info)) ≡ true
    tests = rw (three, i.fits) refl

    opened_with : fence_start 0 c x ≡ first_line (leaf (fenced 0 c (suc m) info []))
    opened_with =
        ap (λ (l : List ℕ). fence_with 0 c (length l) (behind_run (is_same c) x)) r.0
        ∙ ap (λ (l : List ℕ). fence_with 0 c (length (replicate (suc m) c)) l) r.1
        ∙ ap (λ (n : ℕ). fence_with 0 c n info) (length-replicate (suc m) c)
        ∙ ap (λ (b : Bool). if b then first_line (leaf (fenced 0 c (suc m) (stripped info) [])) else no_start) tests
        ∙ ap (λ (l : List ℕ). first_line (leaf (fenced 0 c (suc m) l []))) i.bare

    bare : stripped (replicate (suc m) c) ≡ replicate (suc m) c
    bare = stripped_black c (replicate m c) f.black ∙ ap (◌∷◌ c) (end_of_run c m f.black)

    closed : (k : ℕ) → closes_fence c (suc m) (line k (replicate (suc m) c)) ≡ true
    closed k =
        let a : nat_le (indent_at k (replicate (suc m) c)) 3 ≡ true =
        ap (λ (n : ℕ). nat_le n 3) (black_indent k (replicate (suc m) c) f.black) in
        let b : nat_le (suc m) (length (stripped (replicate (suc m) c))) ≡ true =
        ap (λ (l : List ℕ). nat_le (suc m) (length l)) bare ∙ ap (nat_le (suc m))
        (length-replicate (suc m) c) ∙ itself_le (suc m) in
        let d : list_all (is_same c) (stripped (replicate (suc m) c)) ≡ true =
        ap (list_all (is_same c)) bare ∙ all_of_run c (suc m) in
        three_true (nat_le (indent_at k (replicate (suc m) c)) 3)
        (nat_le (suc m) (length (stripped (replicate (suc m) c))))
        (list_all (is_same c) (stripped (replicate (suc m) c))) a b d
      where
        itself_le : (n : ℕ) → nat_le n n ≡ true
        itself_le n = grind (arith, nat_tests)

        three_true : (a b d : Bool) → a ≡ true → b ≡ true → d ≡ true → (a && b && d) ≡ true
        three_true a b d e f g = rw (e, f, g) refl

-- the text between two fences
between_text : (f info s : List ℕ)
    → between_fences f info s ≡ joined_lines ((f ++ info) ∷ (lines_of s ++ (f ∷ [])))
between_text f info s = go (lines_of s) (lines_some s) (lines_back s)
  where
    o : List ℕ
    o = f ++ info

    go : (ls : List (List ℕ)) → (ls ≡ [] → ⊥) → joined_lines ls ≡ s
        → between_fences f info s ≡ joined_lines (o ∷ (ls ++ (f ∷ [])))
    go [] h e = absurd (h refl)
    go (k ∷ ks) h e =
        append_assoc (((o ++ (10 ∷ [])) ++ s)) (10 ∷ []) f
        ∙ ap (λ (x : List ℕ). x ++ (10 ∷ f)) (append_assoc o (10 ∷ []) s)
        ∙ ap (λ (x : List ℕ). (o ++ (10 ∷ x)) ++ (10 ∷ f)) (sym e)
        ∙ ap (λ (x : List ℕ). (o ++ (10 ∷ joined_lines (k ∷ ks))) ++ (10 ∷ x)) (sym (append-nil f))
        ∙ sym (joined_append o (k ∷ ks) f [])

some_run : (c m : ℕ) → IsSome (replicate (suc m) c)
some_run c m = tt

code_by : (c m : ℕ) (word : Option (List ℕ)) (info s : List ℕ) → IsFenceSign c → IsInfo c info word
    → nat_le 3 (suc m) ≡ true → list_all is_line_character s ≡ true → StaysOpen c (suc m) (lines_of s)
    → Flat (between_fences (replicate (suc m) c) info s) (code word s)
code_by c m word info s f i three p w =
    let u = replicate (suc m) c in
    let o = u ++ info in
    let ls = lines_of s in
    let v = run_clean c (suc m) f.clean in
    let a : AreClean (o ∷ (ls ++ (u ∷ []))) =
    (clean_append u info v i.clean, are_clean_append ls (u ∷ []) (clean_lines s p) (v, tt)) in
    let e : code (language info) (joined_lines ls) ≡ code word s =
    ap (λ (x : Option (List ℕ)). code x (joined_lines ls)) i.is_word ∙ ap (code word) (lines_back s) in
    flat_by (between_fences u info s) (o ∷ (ls ++ (u ∷ []))) (code word s)
    (ap lines_of (between_text u info s) ∙ written_lines o (ls ++ (u ∷ [])) a)
    (subst (λ (x : ClosedBlock). FlatReads (o ∷ (ls ++ (u ∷ []))) x no_closed_blocks) e
    (fence_reads c (suc m) o u info ls (fence_is c m info word f i three) w))
    a (full_append (o ∷ ls) (u ∷ []) (some_run c m))

accent_sign : IsFenceSign 96
accent_sign = record { starts = λ k t. refl; black = refl; clean = (refl, refl, refl, tt) }

tilde_sign : IsFenceSign 126
tilde_sign = record { starts = λ k t. refl; black = refl; clean = (refl, refl, refl, tt) }

lacks_first : (c : ℕ) (s : List ℕ) → lacks c s ≡ true → first_is c s ≡ false
lacks_first c [] h = refl
lacks_first c (d ∷ s) h = go (d == c) refl
  where
    go : (b : Bool) → (d == c) ≡ b → (d == c) ≡ false
    go false e = e
    go true e = absurd (let w = rw e at h in cc)

accent_info : (word : Option (List ℕ)) → HasLanguage word → IsInfo 96 (info_string word) word
accent_info None h = record { clean = tt; bare = refl; is_word = refl; fits = refl; apart = refl }
accent_info (Some s) h = record {
  clean = one_clean s h.plain h.one_line;
  bare = h.bare;
  is_word = h.word;
  fits = h.no_accent;
  apart = lacks_first 96 s h.no_accent;
}

tilde_info : (word : Option (List ℕ)) → HasLanguage word → IsInfo 126 (info_string word) word
tilde_info None h = record { clean = tt; bare = refl; is_word = refl; fits = refl; apart = refl }
tilde_info (Some s) h = record {
  clean = one_clean s h.plain h.one_line;
  bare = h.bare;
  is_word = h.word;
  fits = refl;
  apart = h.no_tilde;
}

three_at_least : (c : ℕ) (s : List ℕ) → (nat_le 3 (fence_len c s) ≡ true) ×
    (fence_len c s ≡ suc (fence_len c s - 1))
three_at_least c s = go (longest_run c s + 1)
  where
    go : (n : ℕ) → (nat_le 3 (max 3 n) ≡ true) × (max 3 n ≡ suc (max 3 n - 1))
    go n = (grind (arith, nat_tests), omega arith)

code_with : (c : ℕ) (word : Option (List ℕ)) (s : List ℕ) → IsFenceSign c → IsInfo c (info_string word) word
    → list_all is_line_character s ≡ true → StaysOpen c (fence_len c s) (lines_of s)
    → Flat (between_fences (replicate (fence_len c s) c) (info_string word) s) (code word s)
code_with c word s f i p w =
    let t = three_at_least c s in
    let m = fence_len c s - 1 in
    subst (λ (n : ℕ). Flat (between_fences (replicate n c) (info_string word) s) (code word s)) (sym t.1)
    (code_by c m word (info_string word) s f i (subst (λ (n : ℕ). nat_le 3 n ≡ true) t.1 t.0) p
    (subst (λ (n : ℕ). StaysOpen c n (lines_of s)) t.1 w))

fence_stays : (c : ℕ) (s : List ℕ) → StaysOpen c (fence_len c s) (lines_of s)
fence_stays c s =
    let e : longest_run c (joined_lines (lines_of s)) ≡ longest_run c s = ap (longest_run c) (lines_back s) in
    stays_open c (fence_len c s) (lines_of s) (omega (arith, e))

pub code_flat : (style : CodeBlockFence) (word : Option (List ℕ)) (s : List ℕ) → HasLanguage word
    → list_all is_line_character s ≡ true → Flat (fences.fence s word style) (code word s)
code_flat Tildes word s h p = code_with 126 word s tilde_sign (tilde_info word h) p (fence_stays 126 s)
code_flat Backticks word s h p = code_with 96 word s accent_sign (accent_info word h) p (fence_stays 96 s)

-- ---- tags

angle_line : (l : List ℕ) → first_is 60 l ≡ true → l ≡ 60 ∷ drop 1 l
angle_line [] h = absurd (cc)
angle_line (c ∷ t) h =
    let e : c ≡ 60 = grind (arith, nat_tests) in
    ap (λ (d : ℕ). d ∷ t) e

angle_black : (l : List ℕ) → first_is 60 l ≡ true → IsBlack l
angle_black l h = subst IsBlack (sym (angle_line l h)) refl

black_full : (l : List ℕ) (ls : List (List ℕ)) → IsBlack l → AreBlack ls → IsFull (l ∷ ls)
black_full l [] b h = black_some l b
black_full l (m ∷ ls) b h = black_full m ls h.0 h.1

pub tags_flat : (s : List ℕ) → IsTags s → Flat s (html s)
tags_flat s h = go (lines_of s) refl h.lines
  where
    go : (ls : List (List ℕ)) → lines_of s ≡ ls → AreTagLines ls → Flat s (html s)
    go [] e t = absurd t
    go (l ∷ ls) e t =
        let b = angle_black l t.0 in
        let back : joined_lines (l ∷ ls) ≡ s = ap joined_lines (sym e) ∙ lines_back s in
        flat_by s (l ∷ ls) (html s) e
        (subst (λ (x : List ℕ). FlatReads (l ∷ ls) (html x) no_closed_blocks) back (html_reads l ls b t.1 t.2))
        (subst AreClean e (clean_lines s h.plain)) (black_full l ls b t.2)

-- ---- tables

bar_line : (l : List ℕ) → first_is 124 l ≡ true → l ≡ 124 ∷ drop 1 l
bar_line [] h = absurd (cc)
bar_line (c ∷ t) h =
    let e : c ≡ 124 = grind (arith, nat_tests) in
    ap (λ (d : ℕ). d ∷ t) e

bar_first : (l : List ℕ) → first_is 124 l ≡ true → IsFirstLine l
bar_first l h = subst IsFirstLine (sym (bar_line l h)) record {
  black = refl;
  starts = λ k. refl;
  no_asterisks = refl;
  no_hyphens = refl;
}

bar_under : (l : List ℕ) → first_is 124 l ≡ true → (k : ℕ) → started under (line k l) ≡ no_start
bar_under l h k = subst (λ (x : List ℕ). started under (line k x) ≡ no_start) (sym (bar_line l h)) refl

bar_no_underline : (l : List ℕ) → first_is 124 l ≡ true → (k : ℕ) → underline_of (line k l) ≡ None
bar_no_underline l h k =
    subst (λ (x : List ℕ). underline_of (line k x) ≡ None) (sym (bar_line l h))
    (ap reading.underline (stripped_black 124 (drop 1 l) refl))

table_rows : (rs : List (List ℕ)) → AreBarred rs → leaves.AreRows rs
table_rows [] h = tt
table_rows (r ∷ rs) h =
    let f = bar_first r h.0 in
    ((f.black, f.starts, some (cells r) h.1), table_rows rs h.2)
  where
    some : (cs : List (List ℕ)) → IsSomeCells cs → is_row cs no_start ≡ true
    some [] h = absurd h
    some (c ∷ cs) h = refl

header_fits : (al : List Alignment) (hs : List (List ℕ)) (h : List ℕ) → cells h ≡ hs → length al ≡ length hs
    → IsSomeCells hs → is_header h al ≡ true
header_fits [] [] h e n s = absurd s
header_fits [] (x ∷ hs) h e n s = absurd (let o : 1 ≤ 0 = omega arith in omega (arith, o))
header_fits (a ∷ al) hs h e n s =
    ap (λ (x : List (List ℕ)). length x == length (a ∷ al)) e ∙ ap (λ (i : ℕ). length hs == i) n ∙ same
    (length hs)
  where
    same : (n : ℕ) → (n == n) ≡ true
    same n = grind (arith, nat_tests)

rows_full : (l : List ℕ) (rs : List (List ℕ)) → IsBlack l → AreBarred rs → IsFull (l ∷ rs)
rows_full l [] b h = black_some l b
rows_full l (r ∷ rs) b h = rows_full r rs (bar_first r h.0).black h.2

pub table_flat : (al : List Alignment) (hs : List (List ℕ)) (rows : List (List (List ℕ))) (s : List ℕ)
    → TableLines al hs rows s → length al ≡ length hs → IsSomeCells hs
    → Flat s (grid al hs (map (fitted (length hs)) rows))
table_flat al hs rows s t n some =
    let h = t.header in
    let d = t.under in
    let rs = t.below in
    let same : grid al (cells h) (fitted_rows (length al) rs) ≡ grid al hs (map (fitted (length hs)) rows) =
    ap (λ (x : List (List ℕ)). grid al x (fitted_rows (length al) rs)) t.header_cells
    ∙ ap (grid al hs) t.below_cells in
    let under = bar_first d t.bars.1 in
    let is : IsTable al h d rs = record {
      header = bar_first h t.bars.0;
      delimiters_black = under.black;
      delimiters_start = bar_under d t.bars.1;
      delimiters_underline = bar_no_underline d t.bars.1;
      delimiters = t.delimiters_are;
      fits = header_fits al hs h t.header_cells n some;
      rows = table_rows rs t.below_bars;
    } in
    flat_by s (h ∷ d ∷ rs) (grid al hs (map (fitted (length hs)) rows)) t.is
    (subst (λ (x : ClosedBlock). FlatReads (h ∷ d ∷ rs) x no_closed_blocks) same (table_reads al h d rs is))
    t.clean (rows_full d rs under.black t.below_bars)

-- ---- the first line after a bullet

-- the first line of a text isn't of a bullet's sign alone
abbrev pub Apart : List ℕ → Type 0
Apart s = First (IsNotOf 42) (lines_of s) × First (IsNotOf 45) (lines_of s)

apart_by : (s : List ℕ) (ls : List (List ℕ)) → lines_of s ≡ ls → First (IsNotOf 42) ls
    → First (IsNotOf 45) ls → Apart s
apart_by s ls e a b = (subst (First (IsNotOf 42)) (sym e) a, subst (First (IsNotOf 45)) (sym e) b)

pub not_of : (sign c : ℕ) (s : List ℕ) → is_space_or_tab c ≡ false → (c == sign) ≡ false → IsNotOf sign
    (c ∷ s)
not_of sign c s b e = rw b (rw e refl)

pub begins_apart : (c : ℕ) (s : List ℕ) → (c == line_feed) ≡ false → is_space_or_tab c ≡ false →
    (c == 42) ≡ false
    → (c == 45) ≡ false → Apart (c ∷ s)
begins_apart c s f b a d = go (lines_of s) refl
  where
    is : lines_of (c ∷ s) ≡ onto_first c (lines_of s)
    is = slice_split-cons_no is_line_feed c s f

    go : (ls : List (List ℕ)) → lines_of s ≡ ls → Apart (c ∷ s)
    go [] e = absurd (lines_some s e)
    go (l ∷ ls) e =
        apart_by (c ∷ s) ((c ∷ l) ∷ ls) (is ∙ ap (onto_first c) e) (not_of 42 c l b a) (not_of 45 c l b d)

pub paragraph_apart : (s : List ℕ) → IsLineText s → Apart s
paragraph_apart s h = go (lines_of s) refl h.lines
  where
    go : (ls : List (List ℕ)) → lines_of s ≡ ls → AreTextLines ls → Apart s
    go [] e t = absurd t
    go (l ∷ ls) e t = apart_by s (l ∷ ls) e t.0.no_asterisks t.0.no_hyphens

pub heading_apart : (level : ℕ) (s : List ℕ) → is_level level ≡ true → Apart (writing.number_signs level ++ s)
heading_apart zero s h = absurd (cc)
heading_apart (suc n) s h = begins_apart 35 ((replicate n 35 ++ (32 ∷ [])) ++ s) refl refl refl refl

pub underlined_apart : (level : ℕ) (s : List ℕ) → IsUnderlinedText s → Apart (writing.underlined level s)
underlined_apart level s h =
    let u = replicate (max (length (chars s)) 1) (underline level) in
    let e : writing.underlined level s ≡ s ++ (10 ∷ u) = append_assoc s (10 ∷ []) u in
    apart_by (writing.underlined level s) (s ∷ lines_of u)
    (ap lines_of e ∙ written_one s u (one_clean s h.plain h.one_line)) h.line.no_asterisks h.line.no_hyphens

code_apart_with : (c n : ℕ) (info s : List ℕ) → nat_le 3 n ≡ true → (c == line_feed) ≡ false
    → is_space_or_tab c ≡ false
    → (c == 42) ≡ false → (c == 45) ≡ false → Apart (between_fences (replicate n c) info s)
code_apart_with c zero info s h f b a d = absurd (cc)
code_apart_with c (suc n) info s h f b a d =
    begins_apart c (((((replicate n c ++ info) ++ (10 ∷ [])) ++ s) ++ (10 ∷ [])) ++ (c ∷ replicate n c)) f b a d

pub code_apart : (style : CodeBlockFence) (word : Option (List ℕ)) (s : List ℕ) → Apart
    (fences.fence s word style)
code_apart Tildes word s =
    code_apart_with 126 (fence_len 126 s) (info_string word) s (three_at_least 126 s).0 refl refl refl refl
code_apart Backticks word s =
    code_apart_with 96 (fence_len 96 s) (info_string word) s (three_at_least 96 s).0 refl refl refl refl

pub rule_apart : (style : HrStyle) → Apart (writing.rule style true)
rule_apart style = begins_apart 95 (32 ∷ 95 ∷ 32 ∷ 95 ∷ []) refl refl refl refl

pub tags_apart : (s : List ℕ) → IsTags s → Apart s
tags_apart s h = go (lines_of s) refl h.lines
  where
    not_angle : (sign : ℕ) (l : List ℕ) → (60 == sign) ≡ false → first_is 60 l ≡ true → IsNotOf sign l
    not_angle sign l e f = subst (IsNotOf sign) (sym (angle_line l f)) (not_of sign 60 (drop 1 l) refl e)

    go : (ls : List (List ℕ)) → lines_of s ≡ ls → AreTagLines ls → Apart s
    go [] e t = absurd t
    go (l ∷ ls) e t = apart_by s (l ∷ ls) e (not_angle 42 l refl t.0) (not_angle 45 l refl t.0)

pub table_apart : (al : List Alignment) (hs : List (List ℕ)) (rows : List (List (List ℕ))) (s : List ℕ)
    → TableLines al hs rows s → Apart s
table_apart al hs rows s t =
    let f = bar_first t.header t.bars.0 in
    apart_by s (t.header ∷ t.under ∷ t.below) t.is f.no_asterisks f.no_hyphens
