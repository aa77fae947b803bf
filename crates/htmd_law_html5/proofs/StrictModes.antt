-- The mode in which the content of an element of the strict grammar is read, and names that it reads as the body does.
use Rattle.std.proofs.Common.{◌≡◌, ◌⊎◌, ℕ, Bool, true, false, not, ◌||◌, if◌then◌else◌, List, [], ◌∷◌, None, refl}
use Rattle.std.proofs.Common.{sym}
use Rattle.std.proofs.Common.{ap, ◌∙◌, codes, rules, inl, inr}
use Rattle.std.specs.List.{list_all}
use Rattle.std.proofs.lemmas.Bool.{and_parts, not-true, true≢false}
use Rattle.htmd_lexical.proofs.Cases.{test}
use Rattle.htmd_lexical.specs.CharacterClasses.{is_among}
use Rattle.htmd_values.specs.Serialisation.{is_void}
use Rattle.htmd_values.specs.ValueTrees.{ValueForest}
use Rattle.htmd_grammar.specs.Grammar.{begins_with_row}
use Rattle.htmd_grammar.specs.Nesting.{is_table_part, is_tbody, is_row, holds_rows, holds_parts, fits_table}
use Rattle.htmd_grammar.specs.RawContent.{drops_line_feed}
use Rattle.htmd_grammar.proofs.NestingLemmas.{among_passes, one_name}
use Rattle.htmd_lexical.specs.declared.content_model.ContentModel.TheVariants.{Normal}
use Rattle.htmd_html5_state.specs.Names.{NameValue, known, other, html, name_of_text, text_of_name, spelling}
use Rattle.htmd_html5_state.specs.OpenElements.{OpenValue}
use Rattle.htmd_html5_state.specs.Resetting.{mode_for_name}
use Rattle.htmd_html5_state.specs.State.{StateValue}
use Rattle.htmd_html5_state.specs.declared.names.TagName.{TagName}
use Rattle.htmd_html5_state.specs.declared.modes.InsertionMode.{InsertionMode}
use Rattle.htmd_html5_state.specs.declared.modes.InsertionMode.TheVariants.{InBody, InTable, InTableBody, InRow}
use Rattle.htmd_html5_state.specs.declared.modes.InsertionMode.TheVariants.{InCell, InCaption}
use Rattle.htmd_html5.specs.BodyEnds.{end_in_body}
use Rattle.htmd_html5.specs.BodyStarts.{start_in_body}
use Rattle.htmd_html5.specs.InCell.{start_in_cell, end_in_cell, leaves_cell}
use Rattle.htmd_html5.specs.Outcomes.{done}
use Rattle.htmd_html5.specs.Tokens.{StartTagValue}
use Rattle.htmd_html5.proofs.TableTagLemmas.{cell_other_start, caption_other_start}
use Rattle.htmd_html5.specs.InCaption.{start_in_caption, end_in_caption}
use Rattle.htmd_law_html5.specs.StrictTrees.{is_unknown_name, ordinary_names, formatting_names, block_names}
use Rattle.htmd_law_html5.specs.StrictTrees.{heading_names, other_names, is_plain_name, table_names, is_plain_element}
use Rattle.htmd_law_html5.specs.StrictTrees.{is_plain_body}
use Rattle.htmd_law_html5.specs.StrictTokens.{content_in}
use Rattle.htmd_law_html5.proofs.StrictNames.{among_each}
use Rattle.htmd_law_html5.proofs.StrictOpen.{name_kept}
use Rattle.htmd_html5_state.specs.declared.names.TagName.TheVariants as tags

-- ---- modes

-- where the rules of the body are followed
abbrev pub IsFlow : InsertionMode → Type 0
IsFlow m = (m ≡ InBody) ⊎ ((m ≡ InCell) ⊎ (m ≡ InCaption))

-- that inside an element with this name
pub data ModeIn (n : List ℕ) (m : InsertionMode) : Type 0 where
  in_table : n ≡ codes "table" → m ≡ InTable → ModeIn n m
  in_section : holds_rows n ≡ true → m ≡ InTableBody → ModeIn n m
  in_row : n ≡ codes "tr" → m ≡ InRow → ModeIn n m
  in_flow : holds_parts n ≡ false → IsFlow m → ModeIn n m

-- ---- what stands in a table

abbrev pub section_names : List (List ℕ)
section_names = codes "thead" ∷ codes "tbody" ∷ codes "tfoot" ∷ []

abbrev pub cell_names : List (List ℕ)
cell_names = codes "td" ∷ codes "th" ∷ []

-- a part of a table, a row, a cell or a column
abbrev pub is_part : List ℕ → Bool
is_part n = is_table_part n || is_row n || is_among cell_names n || is_among (codes "col" ∷ []) n

holds_none : (names : List (List ℕ)) (p : List ℕ) → list_all holds_parts names ≡ true
    → holds_parts p ≡ false
    → is_among names p ≡ true → ⊥
holds_none names p l o e = true≢false (sym (among_passes holds_parts names p e l) ∙ o)

-- elsewhere there are none of these
pub flow_fits : (p n : List ℕ) → holds_parts p ≡ false → fits_table p n ≡ true → is_part n ≡ false
flow_fits p n o e =
    test (is_table_part n)
    (λ t. absurd (holds_none (codes "table" ∷ []) p refl o (rw t at e)))
    (λ a. test (is_row n)
    (λ t. absurd (holds_none section_names p refl o (rw (a, t) at e)))
    (λ b. test (is_among cell_names n)
    (λ t. absurd (holds_none (codes "tr" ∷ []) p refl o (rw (a, b, t) at e)))
    (λ d. test (is_among (codes "col" ∷ []) n)
    (λ t. absurd (holds_none (codes "colgroup" ∷ []) p refl o (rw (a, b, d, t) at e)))
    (λ f. rw (a, b, d, f) refl))))

only_part : (a b d f : Bool) → (if a then true else if b then false else if d then false else if f then false else
    false)
    ≡ true → a ≡ true
only_part true b d f e = refl
only_part false true d f e = absurd (cc)
only_part false false true f e = absurd (cc)
only_part false false false true e = absurd (cc)
only_part false false false false e = absurd (cc)

only_row : (a b d f : Bool) → (if a then false else if b then true else if d then false else if f then false else
    false)
    ≡ true → b ≡ true
only_row true b d f e = absurd (cc)
only_row false true d f e = refl
only_row false false true f e = absurd (cc)
only_row false false false true e = absurd (cc)
only_row false false false false e = absurd (cc)

only_cell : (a b d f : Bool) → (if a then false else if b then false else if d then true else if f then false else
    false)
    ≡ true → d ≡ true
only_cell true b d f e = absurd (cc)
only_cell false true d f e = absurd (cc)
only_cell false false true f e = refl
only_cell false false false true e = absurd (cc)
only_cell false false false false e = absurd (cc)

pub table_fits : (n : List ℕ) → fits_table (codes "table") n ≡ true → is_table_part n ≡ true
table_fits n e = only_part (is_table_part n) (is_row n) (is_among cell_names n) (is_among (codes "col" ∷ []) n) e

pub row_fits : (n : List ℕ) → fits_table (codes "tr") n ≡ true → is_among cell_names n ≡ true
row_fits n e = only_cell (is_table_part n) (is_row n) (is_among cell_names n) (is_among (codes "col" ∷ []) n) e

pub section_fits : (p n : List ℕ) → holds_rows p ≡ true → fits_table p n ≡ true → is_row n ≡ true
section_fits p n r e =
    among_each (λ m. fits_table m n ≡ true → is_row n ≡ true) section_names p r (
      λ f. only_row (is_table_part n) (is_row n) (is_among cell_names n) (is_among (codes "col" ∷ []) n) f,
      (
        λ f. only_row (is_table_part n) (is_row n) (is_among cell_names n) (is_among (codes "col" ∷ []) n) f,
        (λ f. only_row (is_table_part n) (is_row n) (is_among cell_names n) (is_among (codes "col" ∷ []) n) f, tt),
      ),
    ) e

-- tables and their parts that may be plain
abbrev pub table_part_names : List (List ℕ)
table_part_names = codes "tbody" ∷ table_names

abbrev HasContent : List ℕ → Type 0
HasContent n = (is_void n ≡ false) × (drops_line_feed n ≡ false) × ((z : Bool) → content_in z n ≡ Normal)

pub part_tags : (n : List ℕ) → is_among table_part_names n ≡ true → HasContent n
unfolding is_void
part_tags n e =
    among_each HasContent table_part_names n e (
      (refl, refl, λ z. refl),
      (
        (refl, refl, λ z. refl),
        (
          (refl, refl, λ z. refl),
          (
            (refl, refl, λ z. refl),
            (
              (refl, refl, λ z. refl),
              (
                (refl, refl, λ z. refl),
                ((refl, refl, λ z. refl), ((refl, refl, λ z. refl), tt)),
              ),
            ),
          ),
        ),
      ),
    )

-- of the parts only these are plain
pub section_plain : (n : List ℕ) (children : ValueForest) → is_table_part n ≡ true
    → (is_plain_element n || is_plain_body n children) ≡ true
    → (holds_rows n ≡ true) ⊎ (n ≡ codes "caption")
unfolding is_void
section_plain n children r e =
    among_each (λ m. (is_plain_element m || is_plain_body m children) ≡ true
    → (holds_rows m ≡ true) ⊎ (m ≡ codes "caption"))
    (codes "caption" ∷ codes "colgroup" ∷ codes "thead" ∷ codes "tbody" ∷ codes "tfoot" ∷ []) n r
    (λ f. inr refl, (λ f. absurd (cc), (λ f. inl refl, (λ f. inl refl, (λ f. inl refl, tt))))) e

pub plain_in_flow : (n : List ℕ) (children : ValueForest) → is_part n ≡ false
    → (is_plain_element n || is_plain_body n children) ≡ true → is_plain_element n ≡ true
plain_in_flow n children o e =
    test (is_plain_element n) (λ t. t)
    (λ t. let b = and_parts (is_tbody n) (not (begins_with_row children)) (rw t at e) in
    absurd (let w = rw (one_name (codes "tbody") n b.0) at o in cc))

pub table_alone : (n : List ℕ) → is_among table_names n ≡ true → is_part n ≡ false → n ≡ codes "table"
table_alone n e o =
    among_each (λ m. is_part m ≡ false → m ≡ codes "table") table_names n e (
      λ k. refl,
      (
        λ k. absurd (cc),
        (λ k. absurd (cc), (λ k. absurd (cc), (λ k. absurd (cc), (λ k. absurd (cc), (λ k. absurd (cc), tt))))),
      ),
    )
    o

-- ---- names that are nothing to a table

-- the reset of the mode looks for it, or its tag leaves a cell
abbrev sets_mode : NameValue → Bool
sets_mode (known tags.Select) = true
sets_mode (known tags.Td) = true
sets_mode (known tags.Th) = true
sets_mode (known tags.Tr) = true
sets_mode (known tags.TBody) = true
sets_mode (known tags.THead) = true
sets_mode (known tags.TFoot) = true
sets_mode (known tags.Caption) = true
sets_mode (known tags.ColGroup) = true
sets_mode (known tags.Col) = true
sets_mode (known tags.Table) = true
sets_mode (known tags.Template) = true
sets_mode (known tags.Head) = true
sets_mode (known tags.Body) = true
sets_mode (known tags.FrameSet) = true
sets_mode (known tags.Html) = true
sets_mode name = false

abbrev pub flows : List ℕ → Bool
flows n = not (sets_mode (name_of_text n))

pub reset_past : (n : List ℕ) → flows n ≡ true → (es : List OpenValue) (s : StateValue)
    → mode_for_name (html (name_of_text n)) es s ≡ None
reset_past n e es s = by_name (name_of_text n) (not-true (sets_mode (name_of_text n)) e)
  where
    by_name : (name : NameValue) → sets_mode name ≡ false → mode_for_name (html name) es s ≡ None
    by_name (known t) f = search rules
    by_name (other u) f = refl

pub ends_in_cell : (n : List ℕ) → flows n ≡ true → (s : StateValue)
    → end_in_cell (name_of_text n) s ≡ end_in_body (name_of_text n) s
ends_in_cell n e s = by_name (name_of_text n) (not-true (sets_mode (name_of_text n)) e)
  where
    by_name : (name : NameValue) → sets_mode name ≡ false → end_in_cell name s ≡ end_in_body name s
    by_name (known t) f = search rules
    by_name (other u) f = refl

pub starts_in_cell : (n : List ℕ) → is_part n ≡ false → (x : StartTagValue) (s : StateValue)
    → start_in_cell (name_of_text n) x s ≡ done (start_in_body x s)
starts_in_cell n e x s = by_name (name_of_text n) (ap is_part (name_kept n) ∙ e)
  where
    leaving : (t : TagName) → leaves_cell t ≡ true → is_part (spelling t) ≡ true
    leaving tags.Td e = refl
    leaving _ e = cc

    by_name : (name : NameValue) → is_part (text_of_name name) ≡ false
        → start_in_cell name x s ≡ done (start_in_body x s)
    by_name (other u) f = refl
    by_name (known t) f =
        test (leaves_cell t) (λ k. absurd (true≢false (sym (leaving t k) ∙ f))) (λ k. cell_other_start t x s k)

pub ends_in_caption : (n : List ℕ) → flows n ≡ true → (s : StateValue)
    → end_in_caption (name_of_text n) s ≡ end_in_body (name_of_text n) s
ends_in_caption n e s = by_name (name_of_text n) (not-true (sets_mode (name_of_text n)) e)
  where
    by_name : (name : NameValue) → sets_mode name ≡ false → end_in_caption name s ≡ end_in_body name s
    by_name (known t) f = search rules
    by_name (other u) f = refl

pub starts_in_caption : (n : List ℕ) → is_part n ≡ false → (x : StartTagValue) (s : StateValue)
    → start_in_caption (name_of_text n) x s ≡ done (start_in_body x s)
starts_in_caption n e x s = by_name (name_of_text n) (ap is_part (name_kept n) ∙ e)
  where
    leaving : (t : TagName) → leaves_cell t ≡ true → is_part (spelling t) ≡ true
    leaving tags.Td e = refl
    leaving _ e = cc

    by_name : (name : NameValue) → is_part (text_of_name name) ≡ false
        → start_in_caption name x s ≡ done (start_in_body x s)
    by_name (other u) f = refl
    by_name (known t) f =
        test (leaves_cell t) (λ k. absurd (true≢false (sym (leaving t k) ∙ f))) (λ k. caption_other_start t x s k)

pub plain_flows : (n : List ℕ) → is_plain_name n ≡ true → flows n ≡ true
plain_flows n e =
    test (is_unknown_name (name_of_text n)) (λ t. unknown (name_of_text n) t)
    (λ a. test (is_among ordinary_names n) (λ t. among_passes flows ordinary_names n t refl)
    (λ b. test (is_among formatting_names n) (λ t. among_passes flows formatting_names n t refl)
    (λ c. test (is_among block_names n) (λ t. among_passes flows block_names n t refl)
    (λ d. test (is_among heading_names n) (λ t. among_passes flows heading_names n t refl)
    (λ f. among_passes flows other_names n (rw (a, b, c, d, f) at e) refl)))))
  where
    unknown : (name : NameValue) → is_unknown_name name ≡ true → not (sets_mode name) ≡ true
    unknown (known t) e = absurd (cc)
    unknown (other u) e = refl

-- such an element holds no parts
pub flows_hold : (n : List ℕ) → flows n ≡ true → holds_parts n ≡ false
flows_hold n e =
    test (holds_parts n)
    (λ t. absurd (true≢false (sym e ∙ not-true (flows n) (among_passes (λ m. not (flows m))
    (codes "table" ∷ codes "thead" ∷ codes "tbody" ∷ codes "tfoot" ∷ codes "tr" ∷ codes "colgroup" ∷ []) n t
    refl))))
    (λ t. t)
