-- Lines of tags: each begins an HTML block wherever it stands, and none is blank.
use Rattle.std.proofs.Common.{◌≡◌, ◌∙◌, refl, ap, sym, subst, ℕ, Bool, true, false, List, [], ◌∷◌, ◌++◌, codes, Some}
use Rattle.std.proofs.Common.{arith}
use Rattle.std.specs.Prelude.{◌||◌, ◌==◌}
use Rattle.std.specs.List.{list_all, list_any}
use Rattle.std.proofs.lemmas.Bool.{and_parts, and_from}
use Rattle.std.proofs.lemmas.Bool.Decides.{nat_tests}
use Rattle.std.proofs.lemmas.List.Folds.{list_all-append}
use Rattle.htmd_lexical.specs.CharacterClasses.{begins_with, first_is}
use Rattle.htmd_document.specs.NormalInlines.{is_kept}
use Rattle.htmd_document.specs.NormalDocuments.{names, begins_with_tag_of, is_tag_line, are_tag_lines}
use Rattle.htmd_commonmark_reading.specs.Boxes.{raw, leaf, joined_lines}
use Rattle.htmd_commonmark_reading.specs.BlockStarts.{alone, started, first_line, block_ends, html_with}
use Rattle.htmd_commonmark_reading.specs.Lines.{line}
use Rattle.htmd_law_blocks.specs.LineTexts.{IsBlack, AreBlack, is_line_character, lines_of}
use Rattle.htmd_law_blocks.specs.NormalBlocks.{AreTagLines, IsTags}
use Rattle.htmd_law_blocks.proofs.FlatLemmas.{lines_back, lines_some}
use Rattle.htmd_law_inlines.proofs.TextPieces.{differs}
use Rattle.htmd_law_texts.proofs.LineStarts.{black_start}

-- ---- what begins a line

equal : (b c : ℕ) → (b == c) ≡ true → b ≡ c
equal b c h = grind (arith, nat_tests, h)

-- the rest of a text behind its beginning
behind : (p s : List ℕ) → begins_with p s ≡ true → (t : List ℕ) × (s ≡ p ++ t)
behind [] s h = (s, refl)
behind (c ∷ p) [] h = absurd (cc)
behind (c ∷ p) (b ∷ s) h =
    let q = and_parts (b == c) (begins_with p s) h in
    let r = behind p s q.1 in
    (r.0, ap (λ d. d ∷ s) (equal b c q.0) ∙ ap (λ l. c ∷ l) r.1)

-- a line that begins an HTML block which a blank line ends
abbrev Begins : List ℕ → Type 0
Begins l = (t : List ℕ) × ((l ≡ 60 ∷ t) × (block_ends alone t ≡ Some []))

-- a tag that these characters begin, after the angle bracket
by_start : (p l : List ℕ) → ((t : List ℕ) → block_ends alone (p ++ t) ≡ Some [])
    → begins_with (60 ∷ p) l ≡ true → Begins l
by_start p l starts h = let r = behind (60 ∷ p) l h in (p ++ r.0, (r.1, starts r.0))

either : {P : Type 0} (a b : Bool) → (a || b) ≡ true → (a ≡ true → P) → (b ≡ true → P) → P
either true b h f g = f refl
either false b h f g = g h

by_name : (name l : List ℕ) → ((t : List ℕ) → block_ends alone ((name ++ codes ">") ++ t) ≡ Some [])
    → ((t : List ℕ) → block_ends alone ((name ++ codes " ") ++ t) ≡ Some [])
    → ((t : List ℕ) → block_ends alone (((47 ∷ name) ++ codes ">") ++ t) ≡ Some [])
    → begins_with_tag_of l name ≡ true → Begins l
by_name name l x y z h =
    either (begins_with (60 ∷ (name ++ codes ">")) l || begins_with (60 ∷ (name ++ codes " ")) l)
    (begins_with (60 ∷ ((47 ∷ name) ++ codes ">")) l) h
    (λ e. either (begins_with (60 ∷ (name ++ codes ">")) l) (begins_with (60 ∷ (name ++ codes " ")) l) e
    (by_start (name ++ codes ">") l x) (by_start (name ++ codes " ") l y))
    (by_start ((47 ∷ name) ++ codes ">") l z)

any_name : (l : List ℕ) → list_any (begins_with_tag_of l) names ≡ true → Begins l
any_name l h =
    either (begins_with_tag_of l (codes "details")) _ h
    (by_name (codes "details") l (λ t. refl) (λ t. refl) (λ t. refl))
    (λ e. either (begins_with_tag_of l (codes "summary")) _ e
    (by_name (codes "summary") l (λ t. refl) (λ t. refl) (λ t. refl))
    (λ e. either (begins_with_tag_of l (codes "dl")) _ e
    (by_name (codes "dl") l (λ t. refl) (λ t. refl) (λ t. refl))
    (λ e. either (begins_with_tag_of l (codes "dt")) _ e
    (by_name (codes "dt") l (λ t. refl) (λ t. refl) (λ t. refl))
    (λ e. either (begins_with_tag_of l (codes "dd")) _ e
    (by_name (codes "dd") l (λ t. refl) (λ t. refl) (λ t. refl))
    (λ e. either (begins_with_tag_of l (codes "figure")) _ e
    (by_name (codes "figure") l (λ t. refl) (λ t. refl) (λ t. refl))
    (λ e. either (begins_with_tag_of l (codes "figcaption")) _ e
    (by_name (codes "figcaption") l (λ t. refl) (λ t. refl) (λ t. refl))
    (λ e. either (begins_with_tag_of l (codes "table")) _ e
    (by_name (codes "table") l (λ t. refl) (λ t. refl) (λ t. refl))
    (λ e. either (begins_with_tag_of l (codes "caption")) _ e
    (by_name (codes "caption") l (λ t. refl) (λ t. refl) (λ t. refl))
    (λ e. either (begins_with_tag_of l (codes "tr")) _ e
    (by_name (codes "tr") l (λ t. refl) (λ t. refl) (λ t. refl))
    (λ e. either (begins_with_tag_of l (codes "td")) _ e
    (by_name (codes "td") l (λ t. refl) (λ t. refl) (λ t. refl))
    (λ e. either (begins_with_tag_of l (codes "th")) false e
    (by_name (codes "th") l (λ t. refl) (λ t. refl) (λ t. refl)) (λ f. absurd (cc)))))))))))))

starts_html : (l : List ℕ) → Begins l
    → (first_is 60 l ≡ true) × ((k : ℕ) → started alone (line k l) ≡ first_line (leaf (raw [] (l ∷ []))))
starts_html l (t, (is, ends)) =
    subst (λ (x : List ℕ). (first_is 60 x ≡ true)
    × ((k : ℕ) → started alone (line k x) ≡ first_line (leaf (raw [] (x ∷ []))))) (sym is)
    (refl, λ k. black_start alone k 60 t refl ∙ ap (html_with (60 ∷ t)) ends)

begins_black : (l : List ℕ) → Begins l → IsBlack l
begins_black l (t, (is, ends)) = subst IsBlack (sym is) refl

-- ---- lines

line_begins : (l : List ℕ) → is_tag_line l ≡ true → Begins l
line_begins l h = any_name l (and_parts (list_all is_kept l) (list_any (begins_with_tag_of l) names) h).1

are_black : (ls : List (List ℕ)) → list_all is_tag_line ls ≡ true → AreBlack ls
are_black [] h = tt
are_black (l ∷ ls) h =
    let p = and_parts (is_tag_line l) (list_all is_tag_line ls) h in
    (begins_black l (line_begins l p.0), are_black ls p.1)

kept_character : (c : ℕ) → is_kept c ≡ true → is_line_character c ≡ true
kept_character c h = rw (differs is_kept c 13 h refl, differs is_kept c 0 h refl) refl

kept_line : (l : List ℕ) → list_all is_kept l ≡ true → list_all is_line_character l ≡ true
kept_line [] h = refl
kept_line (c ∷ l) h =
    let p = and_parts (is_kept c) (list_all is_kept l) h in
    and_from (is_line_character c) (list_all is_line_character l) (kept_character c p.0) (kept_line l p.1)

plain_joined : (ls : List (List ℕ)) → list_all is_tag_line ls ≡ true
    → list_all is_line_character (joined_lines ls) ≡ true
plain_joined [] h = refl
plain_joined (l ∷ []) h =
    let p = and_parts (is_tag_line l) true h in
    let q = (and_parts (list_all is_kept l) (list_any (begins_with_tag_of l) names) p.0).0 in
    list_all-append is_line_character l []
    ∙ and_from (list_all is_line_character l) true (kept_line l q) refl
plain_joined (l ∷ m ∷ ls) h =
    let p = and_parts (is_tag_line l) (list_all is_tag_line (m ∷ ls)) h in
    let q = (and_parts (list_all is_kept l) (list_any (begins_with_tag_of l) names) p.0).0 in
    list_all-append is_line_character l (10 ∷ joined_lines (m ∷ ls))
    ∙ and_from (list_all is_line_character l) (list_all is_line_character (joined_lines (m ∷ ls)))
    (kept_line l q) (plain_joined (m ∷ ls) p.1)

are_tags : (ls : List (List ℕ)) → (ls ≡ [] → ⊥) → list_all is_tag_line ls ≡ true → AreTagLines ls
are_tags [] some h = absurd (some refl)
are_tags (l ∷ ls) some h =
    let p = and_parts (is_tag_line l) (list_all is_tag_line ls) h in
    let s = starts_html l (line_begins l p.0) in
    (s.0, s.1, are_black ls p.1)

pub tags_are : (s : List ℕ) → are_tag_lines s ≡ true → IsTags s
tags_are s h = record {
  plain = subst (λ (x : List ℕ). list_all is_line_character x ≡ true) (lines_back s) (plain_joined (lines_of s) h);
  lines = are_tags (lines_of s) (lines_some s) h;
}
