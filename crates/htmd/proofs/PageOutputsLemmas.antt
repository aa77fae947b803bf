-- What the bytes of an input become, and why they become nothing.
use Rattle.std.proofs.Common.{◌≡◌, ◌∙◌, ◌||◌, ap, sym, subst, ℕ, Bool, true, false, List, [], ◌∷◌, ◌++◌, length, map}
use Rattle.std.proofs.Common.{eqb}
use Rattle.std.proofs.Common.{MatchBool, Option, Some, None, arith, codes, refl}
use Rattle.std.specs.Option.{option_or}
use Rattle.std.proofs.lemmas.Bool.Decides.{nat_tests}
use Rattle.std.specs.Borrow.{Bor}
use Rattle.std.specs.Str.{IsUtf8}
use Rattle.htmd_walk.specs.Choice.{Config, no_handler, with_handler}
use Rattle.htmd_nodes.specs.Items.{Item, document_item, new_item, element_node, text_node}
use Rattle.htmd_lexical.specs.AttributePairs.{AttributePair}
use Rattle.htmd_encodings.specs.Decoding.{page_text}
use Rattle.htmd.specs.PageSettings.{PageInRun, Settings, alone, is_any_page, is_markdown, settings_for, writes_html}
use Rattle.htmd.specs.declared.page_error.PageError.{PageError}
use Rattle.htmd.specs.declared.page_error.PageError.TheVariants.{Memory}
use Rattle.htmd.specs.PageOutputs.{skipping, IsFaultOf, IsOutputBy, IsOutputOf, IsReadable, IsUnselected}
use Rattle.htmd.specs.PageOutputs.{SelectsNothing, html_of_markdown, reads_any, text_in, empty_paragraph, paragraph}

-- one equation after the other
pub then_same : (x y z : Config) → x ≡ y → y ≡ z → x ≡ z
then_same x y z p q = p ∙ q

abbrev pub texts : List (Bor (List ℕ)) → List (List ℕ)
texts names = map (λ t. t.now) names

pub skips_nothing : (names : List (Bor (List ℕ))) (config : Config) → eqb (length names) 0 ≡ true
    → config ≡ skipping (texts names) config
skips_nothing [] config e = refl
skips_nothing (name ∷ names) config e = absurd (grind (arith, nat_tests))

pub skips_some : (names : List (Bor (List ℕ))) (config : Config) → eqb (length names) 0 ≡ false
    → with_handler config (texts names) no_handler ≡ skipping (texts names) config
skips_some [] config e = absurd (grind (arith, nat_tests))
skips_some (name ∷ names) config e = refl

pub no_names : (names : List (Bor (List ℕ))) → eqb (length names) 0 ≡ true → [] ≡ texts names
no_names [] e = refl
no_names (name ∷ names) e = absurd (grind (arith, nat_tests))

pub match_true : (P Q : Type 0) (b : Bool) → b ≡ true → P → MatchBool b P Q
match_true P Q true e p = p
match_true P Q false e p = absurd (cc)

pub match_false : (P Q : Type 0) (b : Bool) → b ≡ false → Q → MatchBool b P Q
match_false P Q true e p = absurd (cc)
match_false P Q false e p = p

-- ---- the tree of a text that is one paragraph

-- an element under the Document
pub element_added : (document after : List Item) (root : ℕ) (attributes : List AttributePair)
    → document ≡ document_item ∷ [] → root ≡ 0 → attributes ≡ []
    → after ≡ document ++ new_item document root (element_node (codes "p") attributes) ∷ [] → after
    ≡ empty_paragraph
element_added document after root attributes d r n e = e ∙ rw (d, r, n) refl

-- and a text in it
pub text_added : (document before after : List Item) (element : ℕ) (text : List ℕ) → document ≡ document_item
    ∷ []
    → before ≡ empty_paragraph → element ≡ length document → eqb (length text) 0 ≡ false
    → after ≡ before ++ new_item before element (text_node text) ∷ [] → after ≡ paragraph text
text_added document before after element [] d b i e a = absurd (grind (arith, nat_tests))
text_added document before after element (c ∷ s) d b i e a = a ∙ rw (b, i ∙ ap length d) refl

-- or none, since it is empty
pub none_added : (before : List Item) (text : List ℕ) → before ≡ empty_paragraph → eqb (length text) 0 ≡ true
    → before ≡ paragraph text
none_added before [] b e = b
none_added before (c ∷ s) b e = absurd (grind (arith, nat_tests))

-- ---- the text that the bytes of an input hold

-- of any page
pub readable_page : (settings : Settings) (any : Bool) (input text : List ℕ) → any ≡ reads_any settings
    → any ≡ true
    → text ≡ page_text settings.encoding input
    → IsReadable settings input × (text ≡ text_in settings input)
readable_page settings any input text a t e =
    let reads : reads_any settings ≡ true = sym a ∙ t in
    (match_true _ _ (reads_any settings) reads tt, rw (reads, e) refl)

-- of UTF-8 alone
pub readable_utf8 : (settings : Settings) (any markdown : Bool) (input text : List ℕ) → any ≡ reads_any settings
    → any ≡ false
    → IsUtf8 input → markdown ≡ is_markdown settings → markdown ≡ false → text ≡ input
    → IsReadable settings input × (text ≡ text_in settings input)
readable_utf8 settings any markdown input text a f u m n e =
    let strict : reads_any settings ≡ false = sym a ∙ f in
    let html : is_markdown settings ≡ false = sym m ∙ n in
    (match_false _ _ (reads_any settings) strict u, rw (strict, html) e)

-- of Markdown
pub readable_markdown : (settings : Settings) (any markdown : Bool) (input given text : List ℕ)
    → any ≡ reads_any settings → any ≡ false
    → IsUtf8 input → markdown ≡ is_markdown settings → markdown ≡ true → given ≡ input
    → text ≡ html_of_markdown given
    → IsReadable settings input × (text ≡ text_in settings input)
readable_markdown settings any markdown input given text a f u m n g e =
    let strict : reads_any settings ≡ false = sym a ∙ f in
    let html : is_markdown settings ≡ true = sym m ∙ n in
    (match_false _ _ (reads_any settings) strict u, rw (strict, html) (e ∙ ap html_of_markdown g))

-- or there is no memory for it
pub out_of_memory : (settings : Settings) (input : List ℕ) (e : PageError) → e ≡ Memory
    → IsFaultOf settings input e
out_of_memory settings input e m = subst (IsFaultOf settings input) (sym m) tt

-- ---- the strict reader reads it

neither : (a b : Bool) → (a || b) ≡ false → (a ≡ false) × (b ≡ false)
neither true b e = absurd (cc)
neither false b e = (refl, e)

pub no_markdown : (settings : Settings) (any : Bool) → any ≡ is_any_page settings → any ≡ false
    → settings.from_markdown ≡ false
no_markdown settings any a f = (neither settings.from_markdown settings.html5 (sym a ∙ f)).0

pub no_html5 : (settings : Settings) (any : Bool) → any ≡ is_any_page settings → any ≡ false
    → settings.html5 ≡ false
no_html5 settings any a f = (neither settings.from_markdown settings.html5 (sym a ∙ f)).1

-- ---- what the text becomes

-- its tree, and what is written of it
pub of_readable : (settings : Settings) (input text found output : List ℕ)
    → IsReadable settings input × (text ≡ text_in settings input)
    → writes_html settings ≡ false → found ≡ text
    → IsOutputBy settings found output → IsOutputOf settings input output
of_readable settings input text found output (r, t) h f m =
    (r, match_false _ _ (writes_html settings) h (subst (λ x. IsOutputBy settings x output) (f ∙ t) m))

-- the text itself, as HTML of Markdown
pub of_html : (settings : Settings) (input text output : List ℕ)
    → IsReadable settings input × (text ≡ text_in settings input)
    → writes_html settings ≡ true → output ≡ text
    → IsOutputOf settings input output
of_html settings input text output (r, t) h o = (r, match_true _ _ (writes_html settings) h (o ∙ t))

-- nothing of it is selected
pub of_unselected : (settings : Settings) (input text found : List ℕ)
    → IsReadable settings input × (text ≡ text_in settings input) → found ≡ text
    → SelectsNothing settings found → IsUnselected settings input
of_unselected settings input text found (r, t) f n = (r, subst (SelectsNothing settings) (f ∙ t) n)

-- ---- a page of a run

-- what it is called, since no settings say that
pub named : (name : Option (List ℕ)) → option_or name None ≡ name
named None = refl
named (Some s) = refl

-- a page by itself has nothing added
pub alone_adds_nothing : (page : PageInRun) (settings : Settings) → page ≡ alone
    → settings_for page settings ≡ settings
alone_adds_nothing page settings e = ap (λ (p : PageInRun). settings_for p settings) e

-- how the text of a page is read
pub ruleset readable_steps = (readable_page, readable_markdown, readable_utf8, out_of_memory)
