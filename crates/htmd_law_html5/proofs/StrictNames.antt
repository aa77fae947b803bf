-- Which rules plain names have.
use Rattle.std.proofs.Common.{◌≡◌, ℕ, Bool, true, false, not, List, [], ◌∷◌, map, refl, sym, subst, codes}
use Rattle.std.specs.Str.{bytes_eq}
use Rattle.std.proofs.lemmas.Bool.{not-true, true≢false}
use Rattle.std.specs.List.{list_all}
use Rattle.htmd_lexical.proofs.Cases.{test}
use Rattle.htmd_lexical.specs.CharacterClasses.{is_among}
use Rattle.htmd_grammar.specs.Nesting.{closes_paragraph, is_outside}
use Rattle.htmd_lexical.proofs.BytesLemmas.{same_bytes, bytes_same}
use Rattle.htmd_grammar.proofs.NestingLemmas.{among_passes}
use Rattle.htmd_values.specs.Serialisation.{is_void, void_elements}
use Rattle.htmd_html5_state.specs.Names.{NameValue, known, other, html, name_of_text, spelling, same_name, text_of_name}
use Rattle.htmd_html5_state.specs.Sets.{is_of}
use Rattle.htmd_html5_state.specs.declared.names.TagName.{TagName}
use Rattle.htmd_html5_state.specs.declared.sets.NameSet.TheVariants.{Headings}
use Rattle.htmd_html5.specs.BodyStarts.{start_rule, block_rule, formatting_rule, phrasing_rule}
use Rattle.htmd_html5.specs.SharedRules.{insert_head_element, insert_void_tag}
use Rattle.htmd_html5.specs.Tokens.{StartTagValue}
use Rattle.htmd_html5_state.specs.State.{StateValue}
use Rattle.htmd_html5.specs.BodyEnds.{end_rule, text_end_rule}
use Rattle.htmd_law_html5.specs.StrictTrees.{is_unknown_name, ordinary_names, formatting_names, block_names}
use Rattle.htmd_law_html5.specs.StrictTrees.{heading_names, other_names, is_plain_name}
use Rattle.htmd_law_html5.proofs.StrictOpen.{name_kept}
use Rattle.htmd_grammar.specs.Nesting as nesting
use Rattle.htmd_html5_state.specs.declared.names.TagName.TheVariants as tags

-- ---- names and their rules

pub same_itself : (name : NameValue) → same_name name name ≡ true
same_itself (known tag) = bytes_same (spelling tag)
same_itself (other s) = bytes_same s

-- what each of these names has
abbrev pub Each : (List ℕ → Type 0) → List (List ℕ) → Type 0
Each Q [] = Unit {0}
Each Q (n ∷ names) = Q n × Each Q names

pub among_each : (Q : List ℕ → Type 0) (names : List (List ℕ)) (n : List ℕ) → is_among names n ≡ true →
    Each Q names → Q n
among_each Q [] n e h = absurd (cc)
among_each Q (m ∷ names) n e h =
    test (bytes_eq n m) (λ t. subst Q (sym (same_bytes n m t)) h.0)
    (λ t. let f = rw t at e in among_each Q names n f h.1)

-- a known tag with the rules of another one
abbrev pub Like : TagName → List ℕ → Type 0
Like model n =
    (tag : TagName) × (name_of_text n ≡ known tag) × (start_rule tag ≡ start_rule model)
    × (end_rule tag ≡ end_rule model)

-- a block, which closes a paragraph by the grammar too
abbrev pub LikeBlock : List ℕ → Type 0
LikeBlock n = Like tags.Div n × (closes_paragraph n ≡ true)

abbrev pub LikeHeading : List ℕ → Type 0
LikeHeading n = Like tags.H1 n × (closes_paragraph n ≡ true) × (nesting.is_heading n ≡ true)
    × (is_of Headings (html (name_of_text n)) ≡ true)

abbrev pub LikePart : List ℕ → Type 0
LikePart n = Like tags.Dd n × (closes_paragraph n ≡ true) × (is_among (codes "dd" ∷ codes "dt" ∷ []) n ≡ true)

-- one of these names, all of which are known
known_among : (names : List (List ℕ)) (n : List ℕ) → is_among names n ≡ true
    → list_all (λ m. not (is_unknown_name (name_of_text m))) names ≡ true
    → (tag : TagName) × (name_of_text n ≡ known tag) × (spelling tag ≡ n)
known_among names n e all =
    by_name (name_of_text n) (name_kept n) (among_passes (λ m. not (is_unknown_name (name_of_text m))) names n e all)
  where
    by_name : (name : NameValue) → text_of_name name ≡ n → not (is_unknown_name name) ≡ true
        → (tag : TagName) × (name ≡ known tag) × (spelling tag ≡ n)
    by_name (other t) k f = absurd (cc)
    by_name (known tag) k f = (tag, refl, k)

-- the tags of these names have the rules of one
like : (names : List (List ℕ)) (all : List TagName) (model : TagName) → map name_of_text names ≡ map known all
    → map start_rule all ≡ map (λ tag. start_rule model) all
    → map end_rule all ≡ map (λ tag. end_rule model) all → (n : List ℕ) → is_among names n ≡ true
    → Like model n
like [] all model k s e n h = absurd (cc)
like (m ∷ names) [] model k s e n h = absurd (cc)
like (m ∷ names) (tag ∷ all) model k s e n h =
    test (bytes_eq n m) (λ t. subst (Like model) (sym (same_bytes n m t)) (tag, (cc), (cc), (cc)))
    (λ t. let f = rw t at h in like names all model (cc) (cc) (cc) n f)

abbrev part_names : List (List ℕ)
part_names = codes "dd" ∷ codes "dt" ∷ []

-- ---- void elements

-- a known tag that starts as another one
abbrev pub Starts : TagName → List ℕ → Type 0
Starts model n = (tag : TagName) × (name_of_text n ≡ known tag) × (start_rule tag ≡ start_rule model)

-- one of the head, which holds nothing
abbrev pub InHead : List ℕ → Type 0
InHead n =
    (tag : TagName) × (name_of_text n ≡ known tag) × (start_rule tag ≡ start_rule tags.Base)
    × ((x : StartTagValue) (s : StateValue) → insert_head_element (known tag) x s ≡ insert_void_tag x s)

pub data VoidCase (n : List ℕ) : Type 0 where
  in_text : Starts tags.Br n → VoidCase n
  of_another : Starts tags.Param n → VoidCase n
  input : n ≡ codes "input" → VoidCase n
  separator : n ≡ codes "hr" → VoidCase n
  in_head : InHead n → VoidCase n

void_tag : (n : List ℕ) (tag : TagName) → name_of_text n ≡ known tag → spelling tag ≡ n
    → is_among void_elements (spelling tag) ≡ true → is_among (codes "col" ∷ []) (spelling tag) ≡ false
    → is_outside (spelling tag) ≡ false → VoidCase n
unfolding block_rule formatting_rule phrasing_rule
void_tag n tags.Input k s v e o = input (sym s)
void_tag n tags.Hr k s v e o = separator (sym s)
void_tag n tags.Base k s v e o = in_head (tags.Base, k, refl, λ x y. refl)
void_tag n tags.BaseFont k s v e o = in_head (tags.BaseFont, k, refl, λ x y. refl)
void_tag n tags.BgSound k s v e o = in_head (tags.BgSound, k, refl, λ x y. refl)
void_tag n tags.Link k s v e o = in_head (tags.Link, k, refl, λ x y. refl)
void_tag n tags.Meta k s v e o = in_head (tags.Meta, k, refl, λ x y. refl)
void_tag n tags.Param k s v e o = of_another (tags.Param, k, refl)
void_tag n tags.Source k s v e o = of_another (tags.Source, k, refl)
void_tag n tags.Track k s v e o = of_another (tags.Track, k, refl)
void_tag n tags.Area k s v e o = in_text (tags.Area, k, refl)
void_tag n tags.Br k s v e o = in_text (tags.Br, k, refl)
void_tag n tags.Embed k s v e o = in_text (tags.Embed, k, refl)
void_tag n tags.Img k s v e o = in_text (tags.Img, k, refl)
void_tag n tags.KeyGen k s v e o = in_text (tags.KeyGen, k, refl)
void_tag n tags.Wbr k s v e o = in_text (tags.Wbr, k, refl)
void_tag n tags.Col k s v e o = absurd (true≢false e)
void_tag n tags.Frame k s v e o = absurd (true≢false o)
void_tag n _ k s v e o = absurd (true≢false (sym v))

pub void_case : (n : List ℕ) → is_void n ≡ true → not (is_among (codes "col" ∷ []) n) ≡ true
    → is_outside n ≡ false → VoidCase n
unfolding is_void
void_case n v e o =
    let k = known_among void_elements n v refl in
    void_tag n k.0 k.1 k.2 (subst (λ m. is_among void_elements m ≡ true) (sym k.2) v)
    (subst (λ m. is_among (codes "col" ∷ []) m ≡ false) (sym k.2) (not-true (is_among (codes "col" ∷ []) n) e))
    (subst (λ m. is_outside m ≡ false) (sym k.2) o)

-- which rules a plain name has
pub data PlainCase (n : List ℕ) : Type 0 where
  unknown : (t : List ℕ) → name_of_text n ≡ other t → PlainCase n
  ordinary : Like tags.Span n → PlainCase n
  formatting : Like tags.B n → PlainCase n
  anchor : n ≡ codes "a" → PlainCase n
  no_break : n ≡ codes "nobr" → PlainCase n
  paragraph : n ≡ codes "p" → PlainCase n
  block : LikeBlock n → PlainCase n
  heading : LikeHeading n → PlainCase n
  list_item : n ≡ codes "li" → PlainCase n
  button : n ≡ codes "button" → PlainCase n
  part : LikePart n → PlainCase n

unknown_name : (name : NameValue) → is_unknown_name name ≡ true → (t : List ℕ) × (name ≡ other t)
unknown_name (known tag) e = absurd (cc)
unknown_name (other t) e = (t, refl)

pub plain_case : (n : List ℕ) → is_plain_name n ≡ true → PlainCase n
unfolding block_rule formatting_rule phrasing_rule text_end_rule
plain_case n e =
    test (is_unknown_name (name_of_text n)) (λ t. let u = unknown_name (name_of_text n) t in unknown u.0 u.1)
    (λ a. test (is_among ordinary_names n)
    (λ t. ordinary (like ordinary_names (tags.Ruby ∷ tags.Span ∷ tags.Sub ∷ tags.Sup ∷ tags.Var ∷ [])
    tags.Span refl refl refl n t))
    (λ b. test (is_among formatting_names n) (λ t. formatting (like_b n t))
    (λ c. test (is_among block_names n) (λ t. block (like_block n t))
    (λ d. test (is_among heading_names n) (λ t. heading (like_heading n t))
    (λ f. others n (rw (a, b, c, d, f) at e))))))
  where
    like_b : (n : List ℕ) → is_among formatting_names n ≡ true → Like tags.B n
    like_b n t =
        like formatting_names (tags.B ∷ tags.Big ∷ tags.Code ∷ tags.Em ∷ tags.Font ∷ tags.I ∷ tags.S
        ∷ tags.Small ∷ tags.Strike ∷ tags.Strong ∷ tags.Tt ∷ tags.U ∷ []) tags.B refl refl refl n t

    like_block : (n : List ℕ) → is_among block_names n ≡ true → LikeBlock n
    like_block n t = (
      like block_names (tags.Address ∷ tags.Article ∷ tags.Aside ∷ tags.BlockQuote ∷ tags.Center
          ∷ tags.Details ∷ tags.Dialog ∷ tags.Dir ∷ tags.Div ∷ tags.Dl ∷ tags.FieldSet ∷ tags.FigCaption
          ∷ tags.Figure ∷ tags.Footer ∷ tags.Header ∷ tags.HGroup ∷ tags.Main ∷ tags.Menu ∷ tags.Nav
          ∷ tags.Ol ∷ tags.Search ∷ tags.Section ∷ tags.Summary ∷ tags.Ul ∷ []) tags.Div refl refl refl n t,
      among_passes closes_paragraph block_names n t refl,
    )

    like_heading : (n : List ℕ) → is_among heading_names n ≡ true → LikeHeading n
    like_heading n t = (
      like heading_names (tags.H1 ∷ tags.H2 ∷ tags.H3 ∷ tags.H4 ∷ tags.H5 ∷ tags.H6 ∷ []) tags.H1
          refl refl refl n t,
      among_passes closes_paragraph heading_names n t refl,
      among_passes nesting.is_heading heading_names n t refl,
      among_passes (λ m. is_of Headings (html (name_of_text m))) heading_names n t refl,
    )

    like_part : (n : List ℕ) → is_among part_names n ≡ true → LikePart n
    like_part n t = (
      like part_names (tags.Dd ∷ tags.Dt ∷ []) tags.Dd refl refl refl n t,
      among_passes closes_paragraph part_names n t refl,
      t,
    )

    others : (n : List ℕ) → is_among other_names n ≡ true → PlainCase n
    others n e =
        test (bytes_eq n (codes "a")) (λ t. anchor (same_bytes n (codes "a") t))
        (λ a. test (bytes_eq n (codes "nobr")) (λ t. no_break (same_bytes n (codes "nobr") t))
        (λ b. test (bytes_eq n (codes "p")) (λ t. paragraph (same_bytes n (codes "p") t))
        (λ c. test (bytes_eq n (codes "li")) (λ t. list_item (same_bytes n (codes "li") t))
        (λ d. test (bytes_eq n (codes "button")) (λ t. button (same_bytes n (codes "button") t))
        (λ f. part (like_part n (rw (a, b, c, d, f) at e)))))))

-- whether its end tag runs the adoption agency
abbrev pub is_formatting_case : {n : List ℕ} → PlainCase n → Bool
is_formatting_case (formatting x) = true
is_formatting_case (anchor x) = true
is_formatting_case (no_break x) = true
is_formatting_case _ = false
