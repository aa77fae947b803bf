-- Whether parts are a paragraph at most: by what kinds of parts there are alone.
use Rattle.std.proofs.Common.{◌≡◌, ℕ, ◌+◌, ◌≤◌, min, Bool, true, false, cond, not, ◌&&◌, ◌||◌, List, [], ◌∷◌, ◌++◌}
use Rattle.std.proofs.Common.{refl, sym, ap, ◌∙◌, subst, fold, length, arith}
use Rattle.std.specs.Prelude.{nat_le, ◌==◌}
use Rattle.std.specs.List.{list_all}
use Rattle.std.specs.Str.{chars}
use Rattle.std.specs.Char.{encode_utf8}
use Rattle.htmd_lexical.proofs.Cases.{test}
use Rattle.htmd_document.specs.Documents.{Inline, image, Block}
use Rattle.htmd_document.specs.Documents as value
use Rattle.htmd_document.specs.TightItems.{is_paragraph}
use Rattle.htmd_flow.specs.Flows.{blocks_of, is_paragraph_at_most}
use Rattle.htmd_flow.specs.Nesting.{text_or_code}
use Rattle.htmd_flow.specs.Paragraphs.{Writing, begun, is_leaf, open_paragraph, ended, parted, broken_off, spaced_out}
use Rattle.htmd_flow.specs.Paragraphs.{latest_of, after_leaf, boxed, with_task, tasked, with_anchor, is_box}
use Rattle.htmd_flow.specs.Paragraphs.{is_boxed_item, edged, blocked, after_character, fed, fed_all}
use Rattle.htmd_flow.specs.declared.paragraphs.Met.TheVariants as met
use Rattle.htmd_flow.specs.Parts.{Around, Part, run, picture, break, place, box, edge, whole}
use Rattle.htmd_shown.specs.Spaces.{is_white, is_blank_text}
use Rattle.htmd_law_documents.proofs.ElementLemmas.{true-false}
use Rattle.htmd_law_anchors.proofs.ShapeWritingLemmas.{nonnil, bit, bit-small, block_weight, weight, weight-append, opens}
use Rattle.htmd_law_anchors.proofs.ShapeWritingLemmas.{D, O, St, ended-weight, started, either-st, white-st, leaf-st}
use Rattle.htmd_law_anchors.proofs.ShapeWritingLemmas.{parted-st, fed-st}

-- nothing yet, a paragraph that is open with so many breaks at its end, one that has ended, or more than one
pub data Shape : Type 0 where
  nothing : Shape
  opened : (breaks : ℕ) → Shape
  closed : Shape
  many : Shape

abbrev pub leaf : Shape → Shape
leaf nothing = opened 0
leaf (opened n) = cond (nat_le 2 n) many (opened 0)
leaf closed = many
leaf many = many

abbrev pub broken : Shape → Shape
broken (opened n) = opened (min 2 (n + 1))
broken s = s

abbrev pub with_box : Shape → Shape
with_box (opened n) = cond (nat_le 2 n) closed (opened 0)
with_box s = s

abbrev pub at_edge : Shape → Shape
at_edge (opened n) = closed
at_edge s = s

abbrev pub with_paragraph : Shape → Shape
with_paragraph nothing = closed
with_paragraph s = many

abbrev pub step : Shape → Part → Shape
step s (run t around is_code) = cond (is_blank_text t) s (leaf s)
step s (picture address title description around) = leaf s
step s break = broken s
step s (place id) = leaf s
step s (box is_checked) = with_box s
step s edge = at_edge s
step s (whole b) = cond (is_paragraph b) (with_paragraph (at_edge s)) many

abbrev Has : ℕ → ℕ → ℕ → Shape → Type 0
Has d o n nothing = d + o ≡ 0
Has d o n (opened k) = (d ≡ 0) × (o ≡ 1) × (n ≡ k)
Has d o n closed = (d ≡ 1) × (o ≡ 0)
Has d o n many = 2 ≤ d + o

either-has : (d o n : ℕ) (b : Bool) (s t : Shape) → (b ≡ true → Has d o n s) → (b ≡ false → Has d o n t)
    → Has d o n (cond b s t)
either-has d o n true s t g h = g refl
either-has d o n false s t g h = h refl

-- a leaf after two breaks, and another
leaf-ended : (d o n : ℕ) (s : Shape) → nat_le 2 n ≡ true → Has d o n s → Has (d + o) 1 0 (leaf s)
leaf-ended d o n nothing e h = (h, refl, refl)
leaf-ended d o n (opened k) e h =
    either-has (d + o) 1 0 (nat_le 2 k) many (opened 0) (λ f. omega arith)
    (λ f. true-false (sym e ∙ (ap (nat_le 2) h.2 ∙ f)))
leaf-ended d o n closed e h = omega arith
leaf-ended d o n many e h = omega arith

leaf-here : (d o n : ℕ) (s : Shape) → nat_le 2 n ≡ false → o ≤ 1 → Has d o n s → Has d 1 0 (leaf s)
leaf-here d o n nothing e l h = (omega arith, refl, refl)
leaf-here d o n (opened k) e l h =
    either-has d 1 0 (nat_le 2 k) many (opened 0)
    (λ f. true-false (sym f ∙ (sym (ap (nat_le 2) h.2) ∙ e))) (λ f. (h.0, refl, refl))
leaf-here d o n closed e l h = omega arith
leaf-here d o n many e l h = omega arith

box-ended : (d o n : ℕ) (s : Shape) → nat_le 2 n ≡ true → Has d o n s → Has (d + o) 0 0 (with_box s)
box-ended d o n nothing e h = omega arith
box-ended d o n (opened k) e h =
    either-has (d + o) 0 0 (nat_le 2 k) closed (opened 0) (λ f. (omega arith, refl))
    (λ f. true-false (sym e ∙ (ap (nat_le 2) h.2 ∙ f)))
box-ended d o n closed e h = (omega arith, refl)
box-ended d o n many e h = omega arith

box-here : (d o n : ℕ) (s : Shape) → nat_le 2 n ≡ false → Has d o n s → Has d o 0 (with_box s)
box-here d o n nothing e h = h
box-here d o n (opened k) e h =
    either-has d o 0 (nat_le 2 k) closed (opened 0)
    (λ f. true-false (sym f ∙ (sym (ap (nat_le 2) h.2) ∙ e))) (λ f. (h.0, h.1, refl))
box-here d o n closed e h = h
box-here d o n many e h = h

edge-has : (d o n m : ℕ) (s : Shape) → Has d o n s → Has (d + o) 0 m (at_edge s)
edge-has d o n m nothing h = omega arith
edge-has d o n m (opened k) h = (omega arith, refl)
edge-has d o n m closed h = (omega arith, refl)
edge-has d o n m many h = omega arith

break-has : (d o n : ℕ) (s : Shape) → Has d o n s → Has d o (min 2 (n + 1)) (broken s)
break-has d o n nothing h = h
break-has d o n (opened k) h = (h.0, h.1, ap (λ x. min 2 (x + 1)) h.2)
break-has d o n closed h = h
break-has d o n many h = h

as-number : (d e o n : ℕ) (s : Shape) → d ≡ e → Has d o n s → Has e o n s
as-number d e o n s f h = subst (λ (x : ℕ). Has x o n s) f h

paragraph-has : (d : ℕ) (s : Shape) → Has d 0 0 (at_edge s) → Has (d + 1) 0 0 (with_paragraph (at_edge s))
paragraph-has d nothing h = (omega arith, refl)
paragraph-has d (opened k) h = omega arith
paragraph-has d closed h = omega arith
paragraph-has d many h = omega arith

pub leaf-twice : (s : Shape) → leaf (leaf s) ≡ leaf s
leaf-twice nothing = refl
leaf-twice (opened n) = at (nat_le 2 n)
  where
    at : (b : Bool) → leaf (cond b many (opened 0)) ≡ cond b many (opened 0)
    at true = refl
    at false = refl
leaf-twice closed = refl
leaf-twice many = refl

-- what is begun in no item and not in one line
abbrev HasShape : Writing → Shape → Type 0
HasShape w s = Has (D w) (O w) w.breaks s

abbrev Here : Writing → Type 0
Here w = St false false w

shown-one : (k : Bool) → bit (is_leaf (latest_of k) || false) ≡ 1
shown-one true = refl
shown-one false = refl

leaf-has : (w : Writing) (around : List Around) (k : Bool) (x : Inline) (s : Shape) → Here w → HasShape w s
    → HasShape (after_leaf w around k x) (leaf s)
leaf-has w around k x s h g =
    subst (λ (o : ℕ). Has (D (parted w)) o 0 (leaf s)) (sym (shown-one k))
    (subst (λ (b : Bool). Has (D (cond (not b && nat_le 2 w.breaks) (ended w) w)) 1 0 (leaf s)) (sym h.line)
    (either (nat_le 2 w.breaks) refl))
  where
    either : (b : Bool) → nat_le 2 w.breaks ≡ b → Has (D (cond b (ended w) w)) 1 0 (leaf s)
    either true e =
        as-number (D w + O w) (weight (w.done ++ open_paragraph w)) 1 0 (leaf s) (sym (ended-weight false false w h))
        (leaf-ended (D w) (O w) w.breaks s e g)
    either false e = leaf-here (D w) (O w) w.breaks s e (bit-small (opens w)) g

run-has : (cs : List ℕ) (w : Writing) (around : List Around) (k : Bool) (s : Shape) → Here w → HasShape w s
    → HasShape (fold (λ v c. after_character v around k c) w cs) (cond (list_all is_white cs) s (leaf s))
run-has [] w around k s h g = g
run-has (c ∷ cs) w around k s h g =
    let v : Writing = after_character w around k c in
    let next : Here v =
    either-st false false (is_white c) (spaced_out w c k) (after_leaf w around k (text_or_code k (encode_utf8 c)))
    (λ e. white-st false false w c k h)
    (λ e. leaf-st false false w around k (text_or_code k (encode_utf8 c)) h) in
    test (is_white c)
    (λ e. subst (λ (b : Bool). HasShape (fold (λ v c. after_character v around k c) v cs)
    (cond (b && list_all is_white cs) s (leaf s))) (sym e)
    (run-has cs v around k s next
    (subst (λ (b : Bool). HasShape (cond b (spaced_out w c k) (after_leaf w around k (text_or_code k (encode_utf8 c))))
    s) (sym e) g)))
    (λ e. subst (λ (b : Bool). HasShape (fold (λ v c. after_character v around k c) v cs)
    (cond (b && list_all is_white cs) s (leaf s))) (sym e)
    (subst (λ (t : Shape). HasShape (fold (λ v c. after_character v around k c) v cs) t)
    (twice (list_all is_white cs))
    (run-has cs v around k (leaf s) next
    (subst (λ (b : Bool). HasShape (cond b (spaced_out w c k) (after_leaf w around k (text_or_code k (encode_utf8 c))))
    (leaf s)) (sym e) (leaf-has w around k (text_or_code k (encode_utf8 c)) s h g)))))
  where
    twice : (b : Bool) → cond b (leaf s) (leaf (leaf s)) ≡ leaf s
    twice true = refl
    twice false = leaf-twice s

place-one : (l : Bool) (ids : List (List ℕ)) (id : List ℕ) → bit (l || nonnil (ids ++ id ∷ [])) ≡ 1
place-one true ids id = refl
place-one false [] id = refl
place-one false (other ∷ ids) id = refl

place-has : (w : Writing) (id : List ℕ) (s : Shape) → Here w → HasShape w s
    → HasShape (with_anchor (parted w) id) (leaf s)
place-has w id s h g =
    subst (λ (o : ℕ). Has (D (parted w)) o 0 (leaf s))
    (sym (place-one (is_leaf (parted w).latest) (parted w).anchors id))
    (subst (λ (b : Bool). Has (D (cond (not b && nat_le 2 w.breaks) (ended w) w)) 1 0 (leaf s)) (sym h.line)
    (either (nat_le 2 w.breaks) refl))
  where
    either : (b : Bool) → nat_le 2 w.breaks ≡ b → Has (D (cond b (ended w) w)) 1 0 (leaf s)
    either true e =
        as-number (D w + O w) (weight (w.done ++ open_paragraph w)) 1 0 (leaf s) (sym (ended-weight false false w h))
        (leaf-ended (D w) (O w) w.breaks s e g)
    either false e = leaf-here (D w) (O w) w.breaks s e (bit-small (opens w)) g

box-has : (w : Writing) (c : Bool) (s : Shape) → Here w → HasShape w s
    → HasShape (tasked (parted w) c) (with_box s)
box-has w c s h g =
    subst (λ (b : Bool). HasShape (cond (b && (length (parted w).done == 0) && (parted w).is_blank)
    (with_task (boxed (parted w)) c) (boxed (parted w))) (with_box s)) (sym (parted-st false false w h).item)
    (subst (λ (b : Bool). Has (D (cond (not b && nat_le 2 w.breaks) (ended w) w))
    (O (cond (not b && nat_le 2 w.breaks) (ended w) w)) 0 (with_box s)) (sym h.line) (either (nat_le 2 w.breaks) refl))
  where
    either : (b : Bool) → nat_le 2 w.breaks ≡ b
        → Has (D (cond b (ended w) w)) (O (cond b (ended w) w)) 0 (with_box s)
    either true e =
        as-number (D w + O w) (weight (w.done ++ open_paragraph w)) 0 0 (with_box s)
        (sym (ended-weight false false w h))
        (box-ended (D w) (O w) w.breaks s e g)
    either false e = box-here (D w) (O w) w.breaks s e g

ended-has : (w : Writing) (s : Shape) → Here w → HasShape w s
    → Has (weight (w.done ++ open_paragraph w)) 0 0 (at_edge s)
ended-has w s h g =
    as-number (D w + O w) (weight (w.done ++ open_paragraph w)) 0 0 (at_edge s) (sym (ended-weight false false w h))
    (edge-has (D w) (O w) w.breaks 0 s g)

edged-has : (w : Writing) (s : Shape) → Here w → HasShape w s → HasShape (edged w) (at_edge s)
edged-has w s h g =
    subst (λ (b : Bool). HasShape (cond b (broken_off w) (cond (is_boxed_item w) w
    (record (ended w) { met = met.Nothing }))) (at_edge s)) (sym h.line)
    (subst (λ (b : Bool). HasShape
    (cond (b && (length w.done == 0) && is_box w.met) w (record (ended w) { met = met.Nothing }))
    (at_edge s)) (sym h.item) (ended-has w s h g))

blocked-has : (w : Writing) (b : Block) (s : Shape) → Here w → HasShape w s
    → HasShape (blocked w b) (cond (is_paragraph b) (with_paragraph (at_edge s)) many)
blocked-has w b s h g =
    subst (λ (x : Bool). HasShape (cond x (broken_off w) (record (ended w) {
      done = (ended w).done ++ b ∷ [];
      met = met.Nothing;
    })) (cond (is_paragraph b) (with_paragraph (at_edge s)) many)) (sym h.line)
    (as-number (E + (block_weight b + 0)) (weight ((w.done ++ open_paragraph w) ++ b ∷ [])) 0 0
    (cond (is_paragraph b) (with_paragraph (at_edge s)) many)
    (sym (weight-append (w.done ++ open_paragraph w) (b ∷ []))) (either (is_paragraph b)))
  where
    E : ℕ
    E = weight (w.done ++ open_paragraph w)

    either : (x : Bool) → Has (E + (cond x 1 2 + 0)) 0 0 (cond x (with_paragraph (at_edge s)) many)
    either true = paragraph-has E s (ended-has w s h g)
    either false = two E
      where
        two : (n : ℕ) → 2 ≤ (n + 2) + 0
        two n = omega arith

fed-has : (p : Part) (w : Writing) (s : Shape) → Here w → HasShape w s → HasShape (fed w p) (step s p)
fed-has (run t around k) w s h g = run-has (chars t) w around k s h g
fed-has (picture address title description around) w s h g =
    leaf-has w around false (image address title description) s h g
fed-has break w s h g = break-has (D w) (O w) w.breaks s g
fed-has (place id) w s h g = place-has w id s h g
fed-has (box b) w s h g = box-has w b s h g
fed-has edge w s h g = edged-has w s h g
fed-has (whole b) w s h g = blocked-has w b s h g

abbrev pub shape_after : Shape → List Part → Shape
shape_after s ps = fold step s ps

all-has : (ps : List Part) (w : Writing) (s : Shape) → Here w → HasShape w s
    → HasShape (fed_all w ps) (shape_after s ps)
all-has [] w s h g = g
all-has (p ∷ ps) w s h g = all-has ps (fed w p) (step s p) (fed-st false false p w h) (fed-has p w s h g)

all-st : (ps : List Part) (w : Writing) → Here w → Here (fed_all w ps)
all-st [] w h = h
all-st (p ∷ ps) w h = all-st ps (fed w p) (fed-st false false p w h)

abbrev pub is_few : Shape → Bool
is_few many = false
is_few _ = true

at-most-weight : (bs : List Block) → weight bs ≤ 1 → is_paragraph_at_most (value.blocks_of bs) ≡ true
at-most-weight [] l = refl
at-most-weight (b ∷ []) l = at (is_paragraph b) l
  where
    at : (x : Bool) → cond x 1 2 + 0 ≤ 1 → x ≡ true
    at true l = refl
    at false l = absurd (omega arith)
at-most-weight (b ∷ c ∷ bs) l = absurd (at (is_paragraph b) (is_paragraph c) (weight bs) l)
  where
    at : (x y : Bool) (n : ℕ) → cond x 1 2 + (cond y 1 2 + n) ≤ 1 → ⊥
    at true true n l = omega arith
    at true false n l = omega arith
    at false true n l = omega arith
    at false false n l = omega arith

more-weight : (bs : List Block) → 2 ≤ weight bs → is_paragraph_at_most (value.blocks_of bs) ≡ false
more-weight [] l = absurd (omega arith)
more-weight (b ∷ []) l = at (is_paragraph b) l
  where
    at : (x : Bool) → 2 ≤ cond x 1 2 + 0 → x ≡ false
    at true l = absurd (omega arith)
    at false l = refl
more-weight (b ∷ c ∷ bs) l = refl

few-blocks : (bs : List Block) (d o n : ℕ) (s : Shape) → weight bs ≡ d + o → Has d o n s
    → is_paragraph_at_most (value.blocks_of bs) ≡ is_few s
few-blocks bs d o n nothing e h = at-most-weight bs (omega arith)
few-blocks bs d o n (opened k) e h = at-most-weight bs (least (weight bs) d o e h.0 h.1)
  where
    least : (w d o : ℕ) → w ≡ d + o → d ≡ 0 → o ≡ 1 → w ≤ 1
    least w d o e f g = omega arith
few-blocks bs d o n closed e h = at-most-weight bs (least (weight bs) d o e h.0 h.1)
  where
    least : (w d o : ℕ) → w ≡ d + o → d ≡ 1 → o ≡ 0 → w ≤ 1
    least w d o e f g = omega arith
few-blocks bs d o n many e h = more-weight bs (omega arith)

pub paragraph-few : (ps : List Part) → is_paragraph_at_most (blocks_of false ps) ≡ is_few (shape_after nothing ps)
paragraph-few ps =
    let w : Writing = fed_all (begun false false) ps in
    few-blocks (w.done ++ open_paragraph w) (D w) (O w) w.breaks (shape_after nothing ps)
    (ended-weight false false w (all-st ps (begun false false) (started false false)))
    (all-has ps (begun false false) nothing (started false false) refl)
