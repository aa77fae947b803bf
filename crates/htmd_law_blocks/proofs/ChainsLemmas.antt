-- A line that begins a block closes the chain of open blocks before it; an empty line settles one.
use Rattle.std.proofs.Common.{◌≡◌, ◌∙◌, refl, sym, ap, subst, ℕ, zero, suc, Bool, true, false, not, List, [], ◌∷◌, ◌++◌}
use Rattle.std.specs.Prelude.{◌&&◌, Option, None}
use Rattle.htmd_lexical.specs.Characters.{greater_than_sign}
use Rattle.htmd_lexical.specs.CharacterClasses.{first_is}
use Rattle.htmd_commonmark_reading.specs.Lines.{Line, line, is_blank}
use Rattle.htmd_commonmark_reading.specs.LinkDefinitions.{definitions}
use Rattle.htmd_commonmark_reading.specs.Tables.{cells}
use Rattle.htmd_commonmark_reading.specs.Boxes.{Container, quoting, listing, boxed, ClosedBlocks, no_closed_blocks}
use Rattle.htmd_commonmark_reading.specs.Boxes.{closed_block, paragraph, indented, fenced, raw, table, Open, nothing}
use Rattle.htmd_commonmark_reading.specs.Boxes.{leaf, within, Box, box, joined, joined_lines, closed_leaf, closed, shut}
use Rattle.htmd_commonmark_reading.specs.Boxes.{was_blank, in_paragraph}
use Rattle.htmd_commonmark_reading.specs.BlockStarts.{alone, under, lazy, Start, no_start, whole, first_line, started}
use Rattle.htmd_commonmark_reading.specs.LeafBlocks.{begun, is_row, on_table, on_paragraph, on_text, on_underline}
use Rattle.htmd_commonmark_reading.specs.LeafBlocks.{underline_of}
use Rattle.htmd_commonmark_reading.specs.Containers.{holds_nothing, taken, after_container, after_open, left}
use Rattle.htmd_commonmark_reading.specs.Containers.{may_be_lazy, fed, fed_all}
use Rattle.htmd_law_blocks.specs.LineTexts.{IsBlack}
use Rattle.htmd_law_blocks.proofs.LinesLemmas.{joined_none, Columns, tail, place, shift, fed_append, not_blank}
use Rattle.htmd_law_blocks.proofs.LinesLemmas.{black_cut, item_left, cut_empty}

-- ---- what a line begins

abbrev pub is_first_line : Start → Bool
is_first_line no_start = false
is_first_line (whole p) = false
is_first_line (first_line o) = true

-- A line that begins a block wherever it stands, but in code; under a paragraph too, if that is asked for.
pub record Interrupts (u : Bool) (l : List ℕ) : Type 0 where
  pub black : IsBlack l
  pub starts : (k : ℕ) → is_first_line (started alone (line k l)) ≡ true
  pub in_lazy : (k : ℕ) → started lazy (line k l) ≡ started alone (line k l)
  pub in_text : u ≡ true → (k : ℕ) → started under (line k l) ≡ started alone (line k l)
  pub no_underline : u ≡ true → (k : ℕ) → underline_of (line k l) ≡ None
  pub no_quote : first_is greater_than_sign l ≡ false

-- ---- chains

abbrev pub IsWide : Container → Type 0
IsWide quoting = Unit {0}
IsWide (listing sign number zero) = ⊥
IsWide (listing sign number (suc n)) = Unit {0}

-- no code is open, and no HTML that a blank line doesn't end
abbrev pub Calm : Open → Type 0
Calm nothing = Unit {0}
Calm (leaf (paragraph earlier last)) = Unit {0}
Calm (leaf (indented ls)) = ⊥
Calm (leaf (fenced columns sign count info ls)) = ⊥
Calm (leaf (raw [] ls)) = Unit {0}
Calm (leaf (raw (e ∷ es) ls)) = ⊥
Calm (leaf (table alignments header ls)) = Unit {0}
Calm (within k d h o) = IsWide k × Calm o

-- an empty line was read
abbrev pub IsWithoutLeaf : Open → Type 0
IsWithoutLeaf nothing = Unit {0}
IsWithoutLeaf (leaf l) = ⊥
IsWithoutLeaf (within quoting d h o) = ⊥
IsWithoutLeaf (within (listing sign number n) d h o) = IsWide (listing sign number n) × IsWithoutLeaf o

-- no HTML is open right there, and no paragraph, where that is asked for
abbrev pub Firm : Bool → Open → Type 0
Firm u nothing = Unit {0}
Firm true (leaf (paragraph earlier last)) = Unit {0}
Firm false (leaf (paragraph earlier last)) = ⊥
Firm u (leaf (indented ls)) = Unit {0}
Firm u (leaf (fenced columns sign count info ls)) = Unit {0}
Firm u (leaf (raw ends ls)) = ⊥
Firm u (leaf (table alignments header ls)) = Unit {0}
Firm u (within k d h o) = Unit {0}

no_leaf_text : (o : Open) → IsWithoutLeaf o → in_paragraph o ≡ false
no_leaf_text nothing h = refl
no_leaf_text (leaf l) h = absurd h
no_leaf_text (within quoting d h o) s = absurd s
no_leaf_text (within (listing sign number n) d h o) s = no_leaf_text o s.1

-- ---- what a container doesn't take

not_taken : (done : ClosedBlocks) (g : Bool) (t : Container) (d : ClosedBlocks) (h : Bool) (o : Open) (x : Line)
    → taken t (holds_nothing d o) x ≡ None
    → fed done g (within t d h o) x
    ≡ left (may_be_lazy o x) done g (within t d h o) x (started (after_container (may_be_lazy o x)) x)
not_taken done g t d h o x e = rw (e, fed) refl

item_not_taken : (sign : ℕ) (number : Option ℕ) (n : ℕ) (e : Bool) (k : ℕ) (l : List ℕ)
    → IsWide (listing sign number n) → IsBlack l → taken (listing sign number n) e (line k l) ≡ None
item_not_taken sign number zero e k l w h = absurd w
item_not_taken sign number (suc n) e k l w h = rw (item_left e n k l h) refl

kind_not_taken : (t : Container) (e : Bool) (k : ℕ) (l : List ℕ) → IsWide t → IsBlack l
    → first_is greater_than_sign l ≡ false → taken t e (line k l) ≡ None
kind_not_taken quoting e k l w h q = rw (black_cut 3 k l h, q) refl
kind_not_taken (listing sign number n) e k l w h q = item_not_taken sign number n e k l w h

-- ---- a line that begins a block closes all before

abbrev pub Closes : ClosedBlocks → Bool → Open → Line → Type 0
Closes done g o x = fed done g o x ≡ fed (joined done (closed g o)) (was_blank g o) nothing x

nothing_closes : (done : ClosedBlocks) (g : Bool) (x : Line) → Closes done g nothing x
nothing_closes done g x = ap (λ (d : ClosedBlocks). fed d g nothing x) (sym (joined_none done))

no_leaf_closes : (o : Open) → IsWithoutLeaf o → (done : ClosedBlocks) (g : Bool) (k : ℕ) (l : List ℕ)
    → IsBlack l
    → Closes done g o (line k l)
no_leaf_closes nothing s done g k l h = nothing_closes done g (line k l)
no_leaf_closes (leaf f) s done g k l h = absurd s
no_leaf_closes (within quoting d m o) s done g k l h = absurd s
no_leaf_closes (within (listing sign number n) d m o) s done g k l h =
    let x = line k l in
    let i = within (listing sign number n) d m o in
    let e : may_be_lazy o x ≡ false = ap (λ (b : Bool). b && not (is_blank x)) (no_leaf_text o s.1) in
    not_taken done g (listing sign number n) d m o x (item_not_taken sign number n (holds_nothing d o) k l s.0 h)
    ∙ ap (λ (b : Bool). left b done g i x (started (after_container b) x)) e

left_starts : (b : Bool) (done : ClosedBlocks) (g : Bool) (o : Open) (x : Line) (s : Start) → is_first_line s ≡ true
    → left b done g o x s ≡ after_open done g o x s
left_starts true done g o x no_start e = absurd (cc)
left_starts true done g o x (whole p) e = absurd (cc)
left_starts true done g o x (first_line i) e = refl
left_starts false done g o x s e = refl

after_any : (b : Bool) (x : Line) → started lazy x ≡ started alone x
    → started (after_container b) x ≡ started alone x
after_any true x e = e
after_any false x e = refl

text_closes : (done : ClosedBlocks) (g : Bool) (earlier : List (List ℕ)) (last : List ℕ) (x : Line) (s : Start)
    → is_blank x ≡ false → is_first_line s ≡ true
    → on_text done g earlier last x s
    ≡ begun (joined done (closed_leaf g (paragraph earlier last))) false x s
text_closes done g earlier last x no_start b e = absurd (cc)
text_closes done g earlier last x (whole p) b e = absurd (cc)
text_closes done g earlier last x (first_line o) b e = rw b refl

pub not_blank_text : (done : ClosedBlocks) (g : Bool) (earlier : List (List ℕ)) (last : List ℕ) (x : Line)
    → is_blank
    x ≡ false
    → on_paragraph done g earlier last x
    ≡ on_underline done g (underline_of x) (definitions (joined_lines (earlier ++ (last ∷ []))))
    (on_text done g earlier last x (started under x))
not_blank_text done g earlier last x b = rw b refl

no_row : (cs : List (List ℕ)) (s : Start) → is_first_line s ≡ true → is_row cs s ≡ false
no_row cs no_start e = absurd (cc)
no_row [] (whole p) e = absurd (cc)
no_row (c ∷ cs) (whole p) e = absurd (cc)
no_row [] (first_line o) e = refl
no_row (c ∷ cs) (first_line o) e = refl

line_closes : (u : Bool) (o : Open) → Calm o → Firm u o
    → (done : ClosedBlocks) (g : Bool) (k : ℕ) (l : List ℕ)
    → Interrupts u l → Closes done g o (line k l)
line_closes u nothing c f done g k l h = nothing_closes done g (line k l)
line_closes false (leaf (paragraph earlier last)) c f done g k l h = absurd f
line_closes true (leaf (paragraph earlier last)) c f done g k l h =
    let x = line k l in
    let d = definitions (joined_lines (earlier ++ (last ∷ []))) in
    let b : is_blank x ≡ false = not_blank l h.black in
    not_blank_text done g earlier last x b
    ∙ ap (λ (i : Option ℕ). on_underline done g i d (on_text done g earlier last x (started under x)))
    (h.no_underline refl k)
    ∙ ap (λ (s : Start). on_text done g earlier last x s) (h.in_text refl k)
    ∙ text_closes done g earlier last x (started alone x) b (h.starts k)
line_closes u (leaf (indented ls)) c f done g k l h = absurd c
line_closes u (leaf (fenced columns sign count info ls)) c f done g k l h = absurd c
line_closes u (leaf (raw ends ls)) c f done g k l h = absurd f
line_closes u (leaf (table alignments header ls)) c f done g k l h =
    rw (no_row (cells l) (started alone (line k l)) (h.starts k), on_table) refl
line_closes u (within t d m o) c f done g k l h =
    let x = line k l in
    let b = may_be_lazy o x in
    not_taken done g t d m o x (kind_not_taken t (holds_nothing d o) k l c.0 h.black h.no_quote)
    ∙ ap (λ (s : Start). left b done g (within t d m o) x s) (after_any b x (h.in_lazy k))
    ∙ left_starts b done g (within t d m o) x (started alone x) (h.starts k)

-- ---- an empty line: nothing is lost

abbrev pub HasNoLeaf : Box → ClosedBlocks → Type 0
HasNoLeaf b qs = IsWithoutLeaf b.inner × (was_blank b.gap b.inner ≡ true) × (shut b ≡ qs)

abbrev pub Settles : Open → Type 0
Settles o = (done : ClosedBlocks) (g : Bool) (k : ℕ)
    → HasNoLeaf (fed done g o (line k [])) (joined done (closed g o))

-- an empty line that a container doesn't take
closes_blank : (done : ClosedBlocks) (g : Bool) (t : Container) (d : ClosedBlocks) (h : Bool) (o : Open) (k : ℕ)
    → taken t (holds_nothing d o) (line k []) ≡ None
    → fed done g (within t d h o) (line k []) ≡ box (joined done (closed g (within t d h o))) true nothing
closes_blank done g t d h o k e = not_taken done g t d h o (line k []) e ∙ go (in_paragraph o)
  where
    go : (b : Bool) → left (b && false) done g (within t d h o) (line k [])
        (started (after_container (b && false)) (line k []))
        ≡ box (joined done (closed g (within t d h o))) true nothing
    go true = refl
    go false = refl

box_settles : (b : Box) (ps qs : ClosedBlocks) → b ≡ box ps true nothing → ps ≡ qs → HasNoLeaf b qs
box_settles b ps qs e f =
    subst (λ (c : Box). HasNoLeaf c qs) (sym e) (tt, refl, joined_none ps ∙ f)

item_settles : (sign : ℕ) (number : Option ℕ) (n : ℕ) (d : ClosedBlocks) (h : Bool) (o : Open)
    → IsWide (listing sign number n) → Settles o → (e : Bool) → holds_nothing d o ≡ e
    → Settles (within (listing sign number n) d h o)
item_settles sign number n d h o w s true e done g k =
    let ps = joined done (closed g (within (listing sign number n) d h o)) in
    let t : taken (listing sign number n) (holds_nothing d o) (line k []) ≡ None = rw e refl in
    box_settles (fed done g (within (listing sign number n) d h o) (line k [])) ps ps
    (closes_blank done g (listing sign number n) d h o k t) refl
item_settles sign number n d h o w s false e done g k =
    let r = s d h k in
    rw (e, fed) (rw (cut_empty n k) (
      (w, r.0),
      r.1,
      ap (λ (ps : ClosedBlocks). joined done
          (closed_block g (boxed (listing sign number n) ps) no_closed_blocks)) r.2,
    ))

pub settles : (o : Open) → Calm o → Settles o
settles nothing c done g k = (tt, refl, refl)
settles (leaf (paragraph earlier last)) c done g k =
    let ps = joined done (closed g (leaf (paragraph earlier last))) in
    (tt, refl, joined_none ps)
settles (leaf (indented ls)) c done g k = absurd c
settles (leaf (fenced columns sign count info ls)) c done g k = absurd c
settles (leaf (raw [] ls)) c done g k =
    let ps = joined done (closed g (leaf (raw [] ls))) in
    (tt, refl, joined_none ps)
settles (leaf (raw (e ∷ es) ls)) c done g k = absurd c
settles (leaf (table alignments header ls)) c done g k =
    let ps = joined done (closed g (leaf (table alignments header ls))) in
    (tt, refl, joined_none ps)
settles (within quoting d h o) c done g k =
    let ps = joined done (closed g (within quoting d h o)) in
    box_settles (fed done g (within quoting d h o) (line k [])) ps ps (closes_blank done g quoting d h o k refl) refl
settles (within (listing sign number n) d h o) c done g k =
    item_settles sign number n d h o c.0 (settles o c.1) (holds_nothing d o) refl done g k

-- ---- the end of a closed block and the beginning of the next

-- what was read last: a container, a block that a line may end, or anything
pub data Last : Type 0 where
  container : Last
  other : Last
  anything : Last

-- what is open then
abbrev pub Boxed : Last → Open → Type 0
Boxed container nothing = ⊥
Boxed container (leaf l) = ⊥
Boxed container (within k d h o) = Unit {0}
Boxed other nothing = Unit {0}
Boxed other (leaf (paragraph earlier last)) = Unit {0}
Boxed other (leaf (indented ls)) = Unit {0}
Boxed other (leaf (fenced columns sign count info ls)) = Unit {0}
Boxed other (leaf (raw ends ls)) = ⊥
Boxed other (leaf (table alignments header ls)) = Unit {0}
Boxed other (within k d h o) = Unit {0}
Boxed anything o = Unit {0}

-- a line that may stand right after that; the flag: it may stand under a paragraph
abbrev pub Fits : Last → Bool → Type 0
Fits container u = Unit {0}
Fits other u = u ≡ true
Fits anything u = ⊥

-- where the lines of some parts have been read
pub record Ends (m : Last) (b : Box) (qs : ClosedBlocks) : Type 0 where
  pub parts : shut b ≡ qs
  pub calm : Calm b.inner
  pub filled : was_blank b.gap b.inner ≡ false
  pub in_box : Boxed m b.inner

pub ends_by : (m : Last) (b c : Box) (qs rs : ClosedBlocks) → b ≡ c → qs ≡ rs → Ends m c qs → Ends m b rs
ends_by m b c qs rs p q e = subst (λ (x : Box). Ends m x rs) (sym p) (subst (λ (y : ClosedBlocks). Ends m c y) q e)

boxed_firm : (o : Open) → Boxed container o → (u : Bool) → Firm u o
boxed_firm nothing b u = tt
boxed_firm (leaf l) b u = absurd b
boxed_firm (within k d h o) b u = tt

other_firm : (o : Open) → Boxed other o → Firm true o
other_firm nothing b = tt
other_firm (leaf (paragraph earlier last)) b = tt
other_firm (leaf (indented ls)) b = tt
other_firm (leaf (fenced columns sign count info ls)) b = tt
other_firm (leaf (raw ends ls)) b = absurd b
other_firm (leaf (table alignments header ls)) b = tt
other_firm (within k d h o) b = tt

any_firm : (m : Last) (u : Bool) (o : Open) → Boxed m o → Fits m u → Firm u o
any_firm container u o b e = boxed_firm o b u
any_firm other true o b e = other_firm o b
any_firm other false o b e = absurd (cc)
any_firm anything u o b e = absurd e

same_box : (b : Box) (qs : ClosedBlocks) (g : Bool) (x : Line) → shut b ≡ qs → was_blank b.gap b.inner ≡ g
    → Closes b.done b.gap b.inner x → fed b.done b.gap b.inner x ≡ fed qs g nothing x
same_box b qs g x e f c =
    c ∙ ap (λ (ps : ClosedBlocks). fed ps (was_blank b.gap b.inner) nothing x) e
    ∙ ap (λ (m : Bool). fed qs m nothing x) f

abbrev pub gap_columns : Bool → Columns → Columns
gap_columns true k = tail k
gap_columns false k = k

abbrev pub gap_line : Bool → List (List ℕ) → List (List ℕ)
gap_line true ls = [] ∷ ls
gap_line false ls = ls

-- the first line after an empty one
pub after_empty : (m : Last) (b : Box) (qs : ClosedBlocks) (k j : ℕ) (l : List ℕ) → Ends m b qs → IsBlack l
    → (let c = fed b.done b.gap b.inner (line k []) in
    fed c.done c.gap c.inner (line j l) ≡ fed qs true nothing (line j l))
after_empty m b qs k j l e g =
    let s = settles b.inner e.calm b.done b.gap k in
    let c = fed b.done b.gap b.inner (line k []) in
    same_box c qs true (line j l) (s.2 ∙ e.parts) s.1 (no_leaf_closes c.inner s.0 c.done c.gap j l g)

-- a line right after others
pub right_after : (m : Last) (u : Bool) (b : Box) (qs : ClosedBlocks) (k : ℕ) (l : List ℕ) → Ends m b qs
    → Interrupts u l → Fits m u
    → fed b.done b.gap b.inner (line k l) ≡ fed qs false nothing (line k l)
right_after m u b qs k l e i f =
    same_box b qs false (line k l) e.parts e.filled
    (line_closes u b.inner e.calm (any_firm m u b.inner e.in_box f) b.done b.gap k l i)

next_line : (h : Bool) (m : Last) (u : Bool) (b : Box) (qs : ClosedBlocks) (k : Columns) (l : List ℕ)
    (ls : List (List ℕ))
    → Ends m b qs
    → IsBlack l → (h ≡ false → Interrupts u l × Fits m u)
    → fed_all b (place k (gap_line h (l ∷ ls))) ≡ fed_all (box qs h nothing) (place (gap_columns h k) (l ∷ ls))
next_line true m u b qs k l ls e g i =
    ap (λ (x : Box). fed_all x (place (tail (tail k)) ls)) (after_empty m b qs (k zero) (k (suc zero)) l e g)
next_line false m u b qs k l ls e g i =
    let w = i refl in
    ap (λ (x : Box). fed_all x (place (tail k) ls)) (right_after m u b qs (k zero) l e w.0 w.1)

abbrev pub First : (List ℕ → Type 0) → List (List ℕ) → Type 0
First P [] = ⊥
First P (l ∷ ls) = P l

pub next_lines : (h : Bool) (m : Last) (u : Bool) (b : Box) (qs : ClosedBlocks) (k : Columns) (ls ms : List (List ℕ))
    → Ends m b qs
    → First IsBlack ls → (h ≡ false → First (Interrupts u) ls × Fits m u)
    → fed_all b (place k (gap_line h (ls ++ ms)))
    ≡ fed_all (fed_all (box qs h nothing) (place (gap_columns h k) ls)) (place (shift ls (gap_columns h k)) ms)
next_lines h m u b qs k [] ms e f i = absurd f
next_lines h m u b qs k (l ∷ ls) ms e f i =
    next_line h m u b qs k l (ls ++ ms) e f i ∙ fed_append (box qs h nothing) (gap_columns h k) (l ∷ ls) ms
