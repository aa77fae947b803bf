-- Lines as one text, and the text as lines again.
use Rattle.std.proofs.Common.{◌≡◌, ◌∙◌, refl, sym, ap, subst, ℕ, zero, suc, Bool, true, false, List, [], ◌∷◌, ◌+◌, ◌++◌}
use Rattle.std.proofs.Common.{length, map, append_assoc}
use Rattle.std.proofs.lemmas.List.{append-nil}
use Rattle.std.proofs.lemmas.List.Splits.{slice_split-cons_yes, slice_split-cons_no}
use Rattle.std.specs.Prelude.{◌==◌, replicate}
use Rattle.std.specs.List.{list_all, onto_first, flat_map}
use Rattle.htmd_lexical.specs.Characters.{null, line_feed, carriage_return, space}
use Rattle.htmd_text.specs.Trims.{is_line_feed}
use Rattle.htmd_text.specs.Joins.{joined_texts}
use Rattle.htmd_text.specs.Indents as indents
use Rattle.htmd_commonmark.specs.Pages as pages
use Rattle.htmd_commonmark_reading.specs.Lines as reading
use Rattle.htmd_commonmark_reading.specs.Lines.{split_lines, without_null, spaces}
use Rattle.htmd_commonmark_reading.specs.Boxes.{joined_lines, end_line}
use Rattle.htmd_law_blocks.specs.LineTexts.{is_line_character, lines_of}
use Rattle.htmd_law_blocks.proofs.PiecesLemmas.{each, quoted, indented}

-- ---- lines without ends of lines and U+0000

abbrev pub IsClean : List ℕ → Type 0
IsClean [] = Unit {0}
IsClean (c ∷ s) =
    ((c == line_feed) ≡ false) × ((c == carriage_return) ≡ false) × ((c == null) ≡ false) × IsClean s

abbrev pub AreClean : List (List ℕ) → Type 0
AreClean [] = Unit {0}
AreClean (l ∷ ls) = IsClean l × AreClean ls

pub clean_append : (s t : List ℕ) → IsClean s → IsClean t → IsClean (s ++ t)
clean_append [] t a b = b
clean_append (c ∷ s) t a b = (a.0, a.1, a.2, clean_append s t a.3 b)

pub are_clean_append : (ls ms : List (List ℕ)) → AreClean ls → AreClean ms → AreClean (ls ++ ms)
are_clean_append [] ms a b = b
are_clean_append (l ∷ ls) ms a b = (a.0, are_clean_append ls ms a.1 b)

pub clean_spaces : (n : ℕ) (l : List ℕ) → IsClean l → IsClean (spaces n l)
clean_spaces zero l h = h
clean_spaces (suc n) l h = (refl, refl, refl, clean_spaces n l h)

-- the last line isn't empty
abbrev pub IsSome : List ℕ → Type 0
IsSome [] = ⊥
IsSome (c ∷ s) = Unit {0}

abbrev pub IsFull : List (List ℕ) → Type 0
IsFull [] = ⊥
IsFull (l ∷ []) = IsSome l
IsFull (l ∷ m ∷ ls) = IsFull (m ∷ ls)

pub full_cons : (l : List ℕ) (ls : List (List ℕ)) → IsFull ls → IsFull (l ∷ ls)
full_cons l [] h = absurd h
full_cons l (m ∷ ls) h = h

pub full_append : (ls ms : List (List ℕ)) → IsFull ms → IsFull (ls ++ ms)
full_append [] ms h = h
full_append (l ∷ ls) ms h = full_cons l (ls ++ ms) (full_append ls ms h)

-- ---- a reader's lines

split_one : (l rest : List ℕ) → IsClean l → split_lines (l ++ (10 ∷ rest)) ≡ l ∷ split_lines rest
split_one [] rest h = refl
split_one (c ∷ l) rest h = rw (h.0, h.1) (ap (reading.onto_first c) (split_one l rest h.3))

split_last : (c : ℕ) (l : List ℕ) → IsClean (c ∷ l) → split_lines (c ∷ l) ≡ (c ∷ l) ∷ []
split_last c [] h = rw (h.0, h.1) refl
split_last c (d ∷ l) h = rw (h.0, h.1) (ap (reading.onto_first c) (split_last d l h.3))

pub split_joined : (ls : List (List ℕ)) → AreClean ls → IsFull ls → split_lines (joined_lines ls) ≡ ls
split_joined [] a f = absurd f
split_joined ([] ∷ []) a f = absurd f
split_joined ((c ∷ l) ∷ []) a f = ap split_lines (append-nil (c ∷ l)) ∙ split_last c l a.0
split_joined (l ∷ m ∷ ls) a f =
    split_one l (joined_lines (m ∷ ls)) a.0 ∙ ap (◌∷◌ l) (split_joined (m ∷ ls) a.1 f)

abbrev HasNoNull : List ℕ → Type 0
HasNoNull [] = Unit {0}
HasNoNull (c ∷ s) = ((c == null) ≡ false) × HasNoNull s

null_free : (s : List ℕ) → HasNoNull s → without_null s ≡ s
null_free [] h = refl
null_free (c ∷ s) h = rw h.0 (ap (◌∷◌ c) (null_free s h.1))

clean_then : (l s : List ℕ) → IsClean l → HasNoNull s → HasNoNull (l ++ s)
clean_then [] s a b = b
clean_then (c ∷ l) s a b = (a.2, clean_then l s a.3 b)

joined_null_free : (ls : List (List ℕ)) → AreClean ls → HasNoNull (joined_lines ls)
joined_null_free [] a = tt
joined_null_free (l ∷ []) a = clean_then l [] a.0 tt
joined_null_free (l ∷ m ∷ ls) a =
    clean_then l (10 ∷ joined_lines (m ∷ ls)) a.0 (refl, joined_null_free (m ∷ ls) a.1)

pub read_lines : (ls : List (List ℕ)) → AreClean ls → IsFull ls → split_lines
    (without_null (joined_lines ls)) ≡ ls
read_lines ls a f = ap split_lines (null_free (joined_lines ls) (joined_null_free ls a)) ∙ split_joined ls a f

-- ---- the writer's lines

pub written_one : (l rest : List ℕ) → IsClean l → lines_of (l ++ (10 ∷ rest)) ≡ l ∷ lines_of rest
written_one [] rest h = slice_split-cons_yes is_line_feed 10 rest refl
written_one (c ∷ l) rest h =
    slice_split-cons_no is_line_feed c (l ++ (10 ∷ rest)) h.0 ∙ ap (onto_first c) (written_one l rest h.3)

pub written_last : (l : List ℕ) → IsClean l → lines_of l ≡ l ∷ []
written_last [] h = refl
written_last (c ∷ l) h = slice_split-cons_no is_line_feed c l h.0 ∙ ap (onto_first c) (written_last l h.3)

pub written_lines : (l : List ℕ) (ls : List (List ℕ)) → AreClean (l ∷ ls)
    → lines_of (joined_lines (l ∷ ls)) ≡ l ∷ ls
written_lines l [] a = ap lines_of (append-nil l) ∙ written_last l a.0
written_lines l (m ∷ ls) a = written_one l (joined_lines (m ∷ ls)) a.0 ∙ ap (◌∷◌ l) (written_lines m ls a.1)

-- a plain text's lines are clean, and joined they are the text
plain_first : (c : ℕ) (s : List ℕ) → list_all is_line_character (c ∷ s) ≡ true
    → ((c == carriage_return) ≡ false) × ((c == null) ≡ false) × (list_all is_line_character s ≡ true)
plain_first c s h = go (c == carriage_return) (c == null) refl refl
  where
    go : (a b : Bool) → (c == carriage_return) ≡ a → (c == null) ≡ b
        → ((c == carriage_return) ≡ false) × ((c == null) ≡ false) × (list_all is_line_character s ≡ true)
    go true b e f = absurd (let w = rw e at h in cc)
    go false true e f = absurd (let w = rw (e, f) at h in cc)
    go false false e f = (e, f, let w = rw (e, f) at h in w)

clean_onto : (c : ℕ) (ls : List (List ℕ)) → (c == line_feed) ≡ false → (c == carriage_return) ≡ false
    → (c == null) ≡ false → AreClean ls → AreClean (onto_first c ls)
clean_onto c [] a b d h = ((a, b, d, tt), tt)
clean_onto c (l ∷ ls) a b d h = ((a, b, d, h.0), h.1)

pub clean_lines : (s : List ℕ) → list_all is_line_character s ≡ true → AreClean (lines_of s)
clean_lines [] h = (tt, tt)
clean_lines (c ∷ s) h =
    let p = plain_first c s h in
    go (c == line_feed) refl p.0 p.1 (clean_lines s p.2)
  where
    go : (b : Bool) → (c == line_feed) ≡ b → (c == carriage_return) ≡ false → (c == null) ≡ false
        → AreClean (lines_of s) → AreClean (lines_of (c ∷ s))
    go true e a d i = subst AreClean (sym (slice_split-cons_yes is_line_feed c s e)) (tt, i)
    go false e a d i = subst AreClean (sym (slice_split-cons_no is_line_feed c s e)) (clean_onto c (lines_of s) e a d i)

-- ---- joining

pub joined_more : (ls : List (List ℕ)) → flat_map (λ (n : List ℕ). (10 ∷ []) ++ n) ls ≡ end_line ls
    (joined_lines ls)
joined_more [] = refl
joined_more (l ∷ ls) = ap (λ (t : List ℕ). 10 ∷ (l ++ t)) (joined_more ls)

pub joined_text : (ls : List (List ℕ)) → joined_texts (10 ∷ []) ls ≡ joined_lines ls
joined_text [] = refl
joined_text (l ∷ ls) = ap (λ (t : List ℕ). l ++ t) (joined_more ls)

pub joined_append : (l : List ℕ) (ls : List (List ℕ)) (m : List ℕ) (ms : List (List ℕ))
    → joined_lines ((l ∷ ls) ++ (m ∷ ms)) ≡ joined_lines (l ∷ ls) ++ (10 ∷ joined_lines (m ∷ ms))
joined_append l [] m ms = ap (λ (t : List ℕ). t ++ (10 ∷ joined_lines (m ∷ ms))) (sym (append-nil l))
joined_append l (k ∷ ls) m ms =
    ap (λ (t : List ℕ). l ++ (10 ∷ t)) (joined_append k ls m ms)
    ∙ sym (append_assoc l (10 ∷ joined_lines (k ∷ ls)) (10 ∷ joined_lines (m ∷ ms)))

pub joined_onto : (c : ℕ) (ls : List (List ℕ)) → (ls ≡ [] → ⊥)
    → joined_lines (onto_first c ls) ≡ c ∷ joined_lines ls
joined_onto c [] h = absurd (h refl)
joined_onto c (l ∷ ls) h = refl

-- ---- quotes and items

quoted_same : (l : List ℕ) → pages.quoted_line l ≡ quoted l
quoted_same [] = refl
quoted_same (c ∷ s) = refl

map_quoted : (ls : List (List ℕ)) → map pages.quoted_line ls ≡ each quoted ls
map_quoted [] = refl
map_quoted (l ∷ ls) =
    ap (λ (x : List ℕ). x ∷ map pages.quoted_line ls) (quoted_same l) ∙ ap (◌∷◌ (quoted l)) (map_quoted ls)

pub quoted_text : (l : List ℕ) (ls : List (List ℕ)) → AreClean (l ∷ ls)
    → pages.quoted (joined_lines (l ∷ ls)) ≡ joined_lines (each quoted (l ∷ ls))
quoted_text l ls a =
    ap (λ (x : List (List ℕ)). joined_texts (10 ∷ []) (map pages.quoted_line x)) (written_lines l ls a)
    ∙ ap (joined_texts (10 ∷ [])) (map_quoted (l ∷ ls))
    ∙ joined_text (each quoted (l ∷ ls))

spaces_replicate : (n : ℕ) (l : List ℕ) → replicate n space ++ l ≡ spaces n l
spaces_replicate zero l = refl
spaces_replicate (suc n) l = ap (◌∷◌ 32) (spaces_replicate n l)

indented_same : (n : ℕ) (l : List ℕ) → indents.indented_line n l ≡ indented n l
indented_same n [] = refl
indented_same n (c ∷ s) = spaces_replicate n (c ∷ s)

indented_more : (n : ℕ) (ls : List (List ℕ))
    → flat_map (indents.next_line n) ls ≡ end_line (each (indented n) ls) (joined_lines (each (indented n) ls))
indented_more n [] = refl
indented_more n (l ∷ ls) =
    ap (λ (t : List ℕ). 10 ∷ (t ++ flat_map (indents.next_line n) ls)) (indented_same n l)
    ∙ ap (λ (t : List ℕ). 10 ∷ (indented n l ++ t)) (indented_more n ls)

pub item_text : (marker : List ℕ) (n columns : ℕ) (c : ℕ) (s : List ℕ) (ls : List (List ℕ)) → AreClean
    ((c ∷ s) ∷ ls)
    → length marker + n ≡ columns
    → pages.indented marker n (joined_lines ((c ∷ s) ∷ ls))
    ≡ joined_lines ((marker ++ spaces n (c ∷ s)) ∷ each (indented columns) ls)
item_text marker n columns c s ls a e =
    let t = joined_lines ((c ∷ s) ∷ ls) in
    let more = flat_map (indents.next_line columns) ls in
    append_assoc marker (replicate n space) (indents.indented_lines (length marker + n) (lines_of t))
    ∙ ap (λ (x : List (List ℕ)). marker ++ (replicate n space ++ indents.indented_lines (length marker + n) x))
    (written_lines (c ∷ s) ls a)
    ∙ ap (λ (m : ℕ). marker ++ (replicate n space ++ ((c ∷ s) ++ flat_map (indents.next_line m) ls))) e
    ∙ ap (λ (x : List ℕ). marker ++ x) (sym (append_assoc (replicate n space) (c ∷ s) more))
    ∙ ap (λ (x : List ℕ). marker ++ (x ++ more)) (spaces_replicate n (c ∷ s))
    ∙ sym (append_assoc marker (spaces n (c ∷ s)) more)
    ∙ ap (λ (x : List ℕ). (marker ++ spaces n (c ∷ s)) ++ x) (indented_more columns ls)

pub empty_text : (marker : List ℕ) (n : ℕ) → pages.indented marker n [] ≡ marker
empty_text marker n = append-nil (marker ++ []) ∙ append-nil marker
