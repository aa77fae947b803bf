-- What a text leaves when it is closed: definitions, and the rest.
use Rattle.std.proofs.Common.{◌≡◌, ◌∙◌, ◌≤◌, ◌+◌, ◌-◌, ℕ, zero, suc, Bool, true, false, ◌&&◌, List, [], ◌∷◌}
use Rattle.std.proofs.Common.{◌++◌, map, length}
use Rattle.std.proofs.Common.{refl, ap, ap₂, sym, subst, append_assoc, append-nil, if◌then◌else◌, add-one, arith}
use Rattle.htmd_lexical.specs.CharacterClasses.{is_empty}
use Rattle.htmd_commonmark_reading.specs.LinkDefinitions.{Definition, Definitions}
use Rattle.htmd_commonmark_reading.specs.Boxes.{ClosedBlock, ClosedBlocks, no_closed_blocks}
use Rattle.htmd_commonmark_reading.specs.Boxes.{one_closed_block, definition_parts, is_first, parts_of}
use Rattle.htmd_commonmark_reading.specs.Lists.{collected}
use Rattle.htmd_commonmark_reader.specs.ClosedParts as flat
use Rattle.htmd_commonmark_reader.specs.ClosedParts.{definition, closed_parts}
use Rattle.htmd_commonmark_reader.specs.Definitions.{held_of, encoded}
use Rattle.htmd_commonmark_reader.specs.OpenBlocks.{before_first, definition_marks, is_none, Closes}
use Rattle.htmd_commonmark_reader.specs.declared.blocks.Blocks.{Blocks}
use Rattle.std.proofs.lemmas.List.{map-append, length-append, length-map}
use Rattle.htmd_commonmark_reader.specs.declared.definitions.Definition as declared
use Rattle.htmd_commonmark_reader.proofs.OpenBlocksLemmas.{and-true}

never_first : (n : ℕ) → before_first false n ≡ false
never_first zero = refl
never_first (suc n) = refl

marks_next : (g : Bool) (n : ℕ) → definition_marks g (suc n) ≡ definition g ∷ definition_marks false n
marks_next g zero = refl
marks_next g (suc n) =
    ap (λ l. l ++ (definition false ∷ [])) (marks_next g n)
    ∙ ap (λ b. (definition g ∷ definition_marks false n) ++ (definition b ∷ [])) (sym (never_first n))

marks_parts : (g : Bool) (ds : List Definition) (ps : ClosedBlocks)
    → closed_parts (definition_parts g ds ps) [] ≡ definition_marks g (length ds) ++ closed_parts ps []
marks_parts g [] ps = refl
marks_parts g (d ∷ ds) ps =
    ap (λ l. definition g ∷ l) (marks_parts false ds ps)
    ∙ ap (λ l. l ++ closed_parts ps []) (sym (marks_next g (length ds)))

marks_found : (g : Bool) (ds : List Definition) (ps : ClosedBlocks)
    → collected (definition_parts g ds ps) ≡ ds ++ collected ps
marks_found g [] ps = refl
marks_found g (d ∷ ds) ps = ap (λ l. d ∷ l) (marks_found false ds ps)

marks_none : (g b : Bool) (ds : List Definition) (ps : ClosedBlocks)
    → (before_first b (length ds) && is_none ps) ≡ (b && is_none (definition_parts g ds ps))
marks_none g b [] ps = refl
marks_none g true (d ∷ ds) ps = refl
marks_none g false (d ∷ ds) ps = refl

first_flag : (g : Bool) (ds : List Definition) → is_first g ds ≡ before_first g (length ds)
first_flag g [] = refl
first_flag g (d ∷ ds) = refl

-- the definitions, and what the rest leaves behind them
pub record Marks (ds : List Definition) (n : ℕ) (old mid : Blocks) : Type 0 where
  pub parts : flat.parts_of mid.closed.items ≡ flat.parts_of old.closed.items ++ definition_marks old.gap n
  pub found : map held_of mid.definitions.items ≡ map held_of old.definitions.items ++ map encoded ds
  pub count : n ≡ length ds
  pub boxes : mid.boxes ≡ old.boxes
  pub none : mid.is_empty ≡ before_first old.is_empty n
  pub gap : mid.gap ≡ before_first old.gap n
  pub inner : mid.leaf ≡ old.leaf

pub with_rest : (ds : List Definition) (n : ℕ) (ps : ClosedBlocks) (g : Bool) (old mid new : Blocks)
    → Marks ds n old mid → Closes ps g mid new → Closes (definition_parts old.gap ds ps) g old new
with_rest ds n ps g old mid new m c = record {
  parts = c.parts ∙ ap (λ l. l ++ closed_parts ps []) (m.parts
      ∙ ap (λ k. flat.parts_of old.closed.items ++ definition_marks old.gap k) m.count)
      ∙ append_assoc (flat.parts_of old.closed.items) (definition_marks old.gap (length ds)) (closed_parts ps [])
      ∙ ap (λ l. flat.parts_of old.closed.items ++ l) (sym (marks_parts old.gap ds ps));
  found = c.found ∙ ap (λ l. l ++ map encoded (collected ps)) m.found
      ∙ append_assoc (map held_of old.definitions.items) (map encoded ds) (map encoded (collected ps))
      ∙ ap (λ l. map held_of old.definitions.items ++ l) (sym (map-append encoded ds (collected ps)))
      ∙ ap (λ l. map held_of old.definitions.items ++ map encoded l) (sym (marks_found old.gap ds ps));
  boxes = c.boxes ∙ m.boxes;
  none = c.none ∙ ap (λ b. b && is_none ps) (m.none ∙ ap (before_first old.is_empty) m.count)
      ∙ marks_none old.gap old.is_empty ds ps;
  gap = c.gap;
  inner = c.inner ∙ m.inner;
}

-- a text that is closed
pub text_rest : (whole : List ℕ → ClosedBlock) (d : Definitions) (n : ℕ) (rest : List ℕ) (p : ClosedBlock)
    (old mid new : Blocks) → Marks d.found n old mid → rest ≡ d.rest → is_empty rest ≡ false
    → p ≡ whole rest
    → Closes (one_closed_block mid.gap p) false mid new → Closes (parts_of old.gap whole d) false old new
text_rest whole d n rest p old mid new m e f q c =
    let some : is_empty d.rest ≡ false = ap is_empty (sym e) ∙ f in
    let first : mid.gap ≡ is_first old.gap d.found =
    m.gap ∙ ap (before_first old.gap) m.count ∙ sym (first_flag old.gap d.found) in
    let same : one_closed_block mid.gap p
    ≡ (if is_empty d.rest then no_closed_blocks else one_closed_block (is_first old.gap d.found) (whole d.rest)) =
    ap₂ one_closed_block first (q ∙ ap whole e) ∙ (rw some refl) in
    with_rest d.found n
    (if is_empty d.rest then no_closed_blocks else one_closed_block (is_first old.gap d.found) (whole d.rest)) false
    old mid new m (subst (λ ps. Closes ps false mid new) same c)

pub text_none : (whole : List ℕ → ClosedBlock) (d : Definitions) (n : ℕ) (rest : List ℕ)
    (old mid new : Blocks) → Marks d.found n old mid → rest ≡ d.rest → is_empty rest ≡ true
    → Closes no_closed_blocks false mid new → Closes (parts_of old.gap whole d) false old new
text_none whole d n rest old mid new m e f c =
    let none : is_empty d.rest ≡ true = ap is_empty (sym e) ∙ f in
    let same : no_closed_blocks
    ≡ (if is_empty d.rest then no_closed_blocks else one_closed_block (is_first old.gap d.found) (whole d.rest)) =
    rw none refl in
    with_rest d.found n
    (if is_empty d.rest then no_closed_blocks else one_closed_block (is_first old.gap d.found) (whole d.rest)) false
    old mid new m (subst (λ ps. Closes ps false mid new) same c)

-- ---- in code

pub marks_push : (g : Bool) (n : ℕ) → definition_marks g n ++ (definition (before_first g n) ∷ [])
    ≡ definition_marks g (n + 1)
marks_push g n = ap (definition_marks g) (sym (add-one n))

pub count_found : (xs ys : List declared.Definition) (ds : List Definition) (a b : ℕ) → a ≡ length xs
    → b ≡ length ys → map held_of ys ≡ map held_of xs ++ map encoded ds → (a ≤ b) × (b - a ≡ length ds)
count_found xs ys ds a b e f g =
    let size = ap length g ∙ length-append (map held_of xs) (map encoded ds) in
    let one = length-map ys held_of in
    let two = length-map xs held_of in
    let three = length-map ds encoded in
    (omega (arith, e, f, size, one, two, three), omega (arith, e, f, size, one, two, three))

-- a text that leaves nothing else
pub closes_none : (g : Bool) (old new : Blocks) → new.closed ≡ old.closed → new.definitions ≡ old.definitions
    → new.boxes ≡ old.boxes → new.is_empty ≡ old.is_empty → new.gap ≡ g → new.leaf ≡ old.leaf
    → Closes no_closed_blocks g old new
closes_none g old new a b c d e f = record {
  parts = ap (λ v. flat.parts_of v.items) a ∙ sym (append-nil (flat.parts_of old.closed.items));
  found = ap (λ v. map held_of v.items) b ∙ sym (append-nil (map held_of old.definitions.items));
  boxes = c;
  none = d ∙ sym (and-true old.is_empty);
  gap = e;
  inner = f;
}
