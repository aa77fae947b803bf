-- The names that a rule speaks of by number, and the members of sets.
use Rattle.std.proofs.Common.{◌≡◌, ℕ, zero, suc, ◌<◌, Bool, true, false, not, cond, List, [], ◌∷◌, get_or, map, refl}
use Rattle.std.proofs.Common.{sym, ap, ◌∙◌, arith}
use Rattle.std.proofs.lemmas.Bool.{true≢false, eq-eqb, ne_eqb}
use Rattle.std.proofs.Math.ListN as math
use Rattle.std.proofs.lemmas.Bool.Decides.{nat_tests}
use Rattle.std.proofs.lemmas.List.{get_or-map}
use Rattle.std.specs.Borrow.{Bor}
use Rattle.std.specs.List.{list_any, list_all}
use Rattle.std.specs.Prelude.{◌==◌, nat_lt}
use Rattle.htmd_lexical.proofs.Cases.{test}
use Rattle.htmd_lexical.proofs.BytesLemmas.{bytes_same, same_bytes}
use Rattle.htmd_html5_state.specs.Names.{spelling, same_tag, NameValue, ElementNameValue, html, svg, math, known, other}
use Rattle.htmd_html5_state.specs.Names.{same_name}
use Rattle.htmd_html5_state.specs.OpenElements.{OpenValue, is_in, has_name}
use Rattle.htmd_html5_state.specs.SetMembers.{members}
use Rattle.htmd_html5_state.specs.Sets.{has, is_of}
use Rattle.htmd_html5_state.specs.TagNumbers.{number, tags}
use Rattle.htmd_html5_state.specs.declared.names.TagName.{TagName}
use Rattle.htmd_html5_state.specs.declared.sets.NameSet.{NameSet}
use Rattle.htmd_html5_state.specs.declared.sets.NameSet.TheVariants.{Only, Headings, DescriptionParts, Cells}
use Rattle.htmd_html5_state.specs.declared.sets.NameSet.TheVariants.{TableSections, Options, ImpliedEnd}
use Rattle.htmd_html5_state.specs.declared.sets.NameSet.TheVariants.{ImpliedEndInRuby, Fostering, TableContext}
use Rattle.htmd_html5_state.specs.declared.sets.NameSet.TheVariants.{TableBodyContext, TableRowContext}
use Rattle.htmd_html5_state.proofs.NamesLemmas.{same_spelling}
use Rattle.htmd_html5_state.specs.declared.names.TagName.TheVariants.{A, Address, Applet, Area, Article, Aside, B, Base}
use Rattle.htmd_html5_state.specs.declared.names.TagName.TheVariants.{BaseFont, BgSound, Big, BlockQuote, Body, Br}
use Rattle.htmd_html5_state.specs.declared.names.TagName.TheVariants.{Button, Caption, Center, Code, Col, ColGroup, Dd}
use Rattle.htmd_html5_state.specs.declared.names.TagName.TheVariants.{Details, Dialog, Dir, Div, Dl, Dt, Em, Embed}
use Rattle.htmd_html5_state.specs.declared.names.TagName.TheVariants.{FieldSet, FigCaption, Figure, Font, Footer, Form}
use Rattle.htmd_html5_state.specs.declared.names.TagName.TheVariants.{Frame, FrameSet, H1, H2, H3, H4, H5, H6, Head}
use Rattle.htmd_html5_state.specs.declared.names.TagName.TheVariants.{Header, HGroup, Hr, Html, I, Iframe, Image, Img}
use Rattle.htmd_html5_state.specs.declared.names.TagName.TheVariants.{Input, KeyGen, Li, Link, Listing, Main}
use Rattle.htmd_html5_state.specs.declared.names.TagName.TheVariants.{MalignMark, Marquee, Math, Menu, Meta, MGlyph}
use Rattle.htmd_html5_state.specs.declared.names.TagName.TheVariants.{Nav, NoBr, NoEmbed, NoFrames, NoScript, Object}
use Rattle.htmd_html5_state.specs.declared.names.TagName.TheVariants.{Ol, OptGroup, OptionTag, P, Param, PlainText, Pre}
use Rattle.htmd_html5_state.specs.declared.names.TagName.TheVariants.{Rb, Rp, Rt, Rtc, Ruby, S, Script, Search, Section}
use Rattle.htmd_html5_state.specs.declared.names.TagName.TheVariants.{Select, Small, Source, Span, Strike, Strong}
use Rattle.htmd_html5_state.specs.declared.names.TagName.TheVariants.{Style, Sub, Summary, Sup, Svg, Table, TBody, Td}
use Rattle.htmd_html5_state.specs.declared.names.TagName.TheVariants.{Template, TextArea, TFoot, Th, THead, Title, Tr}
use Rattle.htmd_html5_state.specs.declared.names.TagName.TheVariants.{Track, Tt, U, Ul, Var, Wbr, Xmp}

-- ---- numbers

-- each name stands at its number
tag_at : (tag : TagName) → get_or tags (number tag) A ≡ tag
tag_at A = refl
tag_at Address = refl
tag_at Applet = refl
tag_at Area = refl
tag_at Article = refl
tag_at Aside = refl
tag_at B = refl
tag_at Base = refl
tag_at BaseFont = refl
tag_at BgSound = refl
tag_at Big = refl
tag_at BlockQuote = refl
tag_at Body = refl
tag_at Br = refl
tag_at Button = refl
tag_at Caption = refl
tag_at Center = refl
tag_at Code = refl
tag_at Col = refl
tag_at ColGroup = refl
tag_at Dd = refl
tag_at Details = refl
tag_at Dialog = refl
tag_at Dir = refl
tag_at Div = refl
tag_at Dl = refl
tag_at Dt = refl
tag_at Em = refl
tag_at Embed = refl
tag_at FieldSet = refl
tag_at FigCaption = refl
tag_at Figure = refl
tag_at Font = refl
tag_at Footer = refl
tag_at Form = refl
tag_at Frame = refl
tag_at FrameSet = refl
tag_at H1 = refl
tag_at H2 = refl
tag_at H3 = refl
tag_at H4 = refl
tag_at H5 = refl
tag_at H6 = refl
tag_at Head = refl
tag_at Header = refl
tag_at HGroup = refl
tag_at Hr = refl
tag_at Html = refl
tag_at I = refl
tag_at Iframe = refl
tag_at Image = refl
tag_at Img = refl
tag_at Input = refl
tag_at KeyGen = refl
tag_at Li = refl
tag_at Link = refl
tag_at Listing = refl
tag_at Main = refl
tag_at MalignMark = refl
tag_at Marquee = refl
tag_at Math = refl
tag_at Menu = refl
tag_at Meta = refl
tag_at MGlyph = refl
tag_at Nav = refl
tag_at NoBr = refl
tag_at NoEmbed = refl
tag_at NoFrames = refl
tag_at NoScript = refl
tag_at Object = refl
tag_at Ol = refl
tag_at OptGroup = refl
tag_at OptionTag = refl
tag_at P = refl
tag_at Param = refl
tag_at PlainText = refl
tag_at Pre = refl
tag_at Rb = refl
tag_at Rp = refl
tag_at Rt = refl
tag_at Rtc = refl
tag_at Ruby = refl
tag_at S = refl
tag_at Script = refl
tag_at Search = refl
tag_at Section = refl
tag_at Select = refl
tag_at Small = refl
tag_at Source = refl
tag_at Span = refl
tag_at Strike = refl
tag_at Strong = refl
tag_at Style = refl
tag_at Sub = refl
tag_at Summary = refl
tag_at Sup = refl
tag_at Svg = refl
tag_at Table = refl
tag_at TBody = refl
tag_at Td = refl
tag_at Template = refl
tag_at TextArea = refl
tag_at TFoot = refl
tag_at Th = refl
tag_at THead = refl
tag_at Title = refl
tag_at Tr = refl
tag_at Track = refl
tag_at Tt = refl
tag_at U = refl
tag_at Ul = refl
tag_at Var = refl
tag_at Wbr = refl
tag_at Xmp = refl

number-same : (t u : TagName) → number t ≡ number u → t ≡ u
number-same t u e = sym (tag_at t) ∙ (ap (λ (n : ℕ). get_or tags n A) e ∙ tag_at u)

at-all : (p : TagName → Bool) (ts : List TagName) (n : ℕ) (d : TagName) → p d ≡ true → list_all p ts ≡ true
    → p (get_or ts n d) ≡ true
at-all p [] n d e h = e
at-all p (t ∷ ts) zero d e h = test (p t) (λ r. r) (λ r. absurd (true≢false (sym h ∙ rw r refl)))
at-all p (t ∷ ts) (suc n) d e h =
    at-all p ts n d e (test (p t) (λ r. rw r at h) (λ r. absurd (true≢false (sym h ∙ rw r refl))))

-- what holds for each holds for all
for-all : (p : TagName → Bool) → p A ≡ true → list_all p tags ≡ true → (t : TagName) → p t ≡ true
for-all p e h t = ap p (sym (tag_at t)) ∙ at-all p tags (number t) A e h

is-small : (t : TagName) → nat_lt (number t) 114 ≡ true
is-small t = for-all (λ u. nat_lt (number u) 114) refl refl t

pub number-within : (t : TagName) → number t < 114
number-within t = let h = is-small t in grind (arith, nat_tests)

-- a table of all spellings has a name's at the name's number
pub spelled_at : (spellings : List (Bor (List ℕ))) (none : Bor (List ℕ)) (n : ℕ) (t : TagName)
    → map (λ text. text.now) spellings ≡ map spelling tags → n ≡ number t
    → (get_or spellings n none).now ≡ spelling t
spelled_at spellings none n t e k =
    sym (math.get_or-map (λ text. text.now) spellings n none) ∙ ap (λ xs. get_or xs n none.now) e
    ∙ ap (λ i. get_or (map spelling tags) i none.now) k
    ∙ get_or-map spelling tags (number t) A none.now (number-within t)
    ∙ ap spelling (tag_at t)

pub same_tag-true : (t u : TagName) → same_tag t u ≡ true → t ≡ u
same_tag-true t u e = same_spelling t u (same_bytes (spelling t) (spelling u) e)

pub same_tag-self : (t : TagName) → same_tag t t ≡ true
same_tag-self t = bytes_same (spelling t)

pub same_tag-turned : (t u : TagName) → same_tag t u ≡ same_tag u t
same_tag-turned t u =
    test (same_tag t u) (λ r. r
    ∙ sym (ap (λ (x : TagName). same_tag u x) (same_tag-true t u r) ∙ same_tag-self u))
    (λ r. test (same_tag u t)
    (λ s. absurd (true≢false
    (sym (ap (λ (x : TagName). same_tag t x) (same_tag-true u t s) ∙ same_tag-self t) ∙ r)))
    (λ s. r ∙ sym s))

pub number-apart : (t u : TagName) → same_tag t u ≡ false → number u ≡ number t → ⊥
number-apart t u r e =
    true≢false (sym (ap (λ (x : TagName). same_tag t x) (number-same u t e) ∙ same_tag-self t) ∙ r)

pub number-tests : (t u : TagName) → (number t == number u) ≡ same_tag t u
number-tests t u =
    test (same_tag t u)
    (λ r. eq-eqb (number t) (number u) (ap number (same_tag-true t u r)) ∙ sym r)
    (λ r. ne_eqb (number t) (number u) (λ e. number-apart t u r (sym e)) ∙ sym r)

pub same_name-true : (n m : NameValue) → same_name n m ≡ true → n ≡ m
same_name-true (known t) (known u) e = ap known (same_tag-true t u e)
same_name-true (known t) (other v) e = absurd (true≢false (sym e))
same_name-true (other s) (known u) e = absurd (true≢false (sym e))
same_name-true (other s) (other v) e = ap other (same_bytes s v e)

-- ---- members

abbrev alike : Bool → Bool → Bool
alike a b = cond a b (not b)

alike-same : (a b : Bool) → alike a b ≡ true → a ≡ b
alike-same true true e = refl
alike-same true false e = sym e
alike-same false true e = e
alike-same false false e = refl

abbrev has_member : NameSet → TagName → Bool
has_member set t = list_any (λ u. same_tag u t) (members set)

-- a set of several names
abbrev pub is_several : NameSet → Bool
is_several (Only t) = false
is_several _ = true

pub several : (set : NameSet) → ((t : TagName) → set ≡ Only t → ⊥) → is_several set ≡ true
several (Only u) h = absurd (h u refl)
several Headings h = refl
several DescriptionParts h = refl
several Cells h = refl
several TableSections h = refl
several Options h = refl
several ImpliedEnd h = refl
several ImpliedEndInRuby h = refl
several Fostering h = refl
several TableContext h = refl
several TableBodyContext h = refl
several TableRowContext h = refl

of-members : (set : NameSet) → is_several set ≡ true → (t : TagName)
    → alike (has set t) (has_member set t) ≡ true
of-members (Only u) e t = absurd (true≢false (sym e))
of-members Headings e t = for-all (λ u. alike (has Headings u) (has_member Headings u)) refl refl t
of-members DescriptionParts e t = for-all
    (λ u. alike (has DescriptionParts u) (has_member DescriptionParts u)) refl refl t
of-members Cells e t = for-all (λ u. alike (has Cells u) (has_member Cells u)) refl refl t
of-members TableSections e t = for-all (λ u. alike (has TableSections u) (has_member TableSections u)) refl refl t
of-members Options e t = for-all (λ u. alike (has Options u) (has_member Options u)) refl refl t
of-members ImpliedEnd e t = for-all (λ u. alike (has ImpliedEnd u) (has_member ImpliedEnd u)) refl refl t
of-members ImpliedEndInRuby e t = for-all
    (λ u. alike (has ImpliedEndInRuby u) (has_member ImpliedEndInRuby u)) refl refl t
of-members Fostering e t = for-all (λ u. alike (has Fostering u) (has_member Fostering u)) refl refl t
of-members TableContext e t = for-all (λ u. alike (has TableContext u) (has_member TableContext u)) refl refl t
of-members TableBodyContext e t = for-all
    (λ u. alike (has TableBodyContext u) (has_member TableBodyContext u)) refl refl t
of-members TableRowContext e t = for-all
    (λ u. alike (has TableRowContext u) (has_member TableRowContext u)) refl refl t

pub has-members : (set : NameSet) → is_several set ≡ true → (t : TagName) → has set t ≡ has_member set t
has-members set e t = alike-same (has set t) (has_member set t) (of-members set e t)

none : (ts : List TagName) → list_any (λ u. false) ts ≡ false
none [] = refl
none (t ∷ ts) = none ts

pub in-members : (set : NameSet) → is_several set ≡ true → (e : OpenValue)
    → is_in set e ≡ list_any (λ t. is_in (Only t) e) (members set)
in-members set s e = by_name set s e.name
  where
    by_name : (set : NameSet) → is_several set ≡ true → (name : ElementNameValue)
        → is_of set name ≡ list_any (λ t. is_of (Only t) name) (members set)
    by_name set s (html (known t)) = has-members set s t
    by_name set s (html (other v)) = sym (none (members set))
    by_name set s (svg v) = sym (none (members set))
    by_name set s (math v) = sym (none (members set))

-- an element of a known name
pub only-named : (t : TagName) (e : OpenValue) → is_in (Only t) e ≡ has_name (html (known t)) e
only-named t e = by_name e.name
  where
    by_name : (name : ElementNameValue)
        → is_of (Only t) name ≡ has_name (html (known t)) (record { node = 0; name = name })
    by_name (html (known u)) = same_tag-turned t u
    by_name (html (other v)) = refl
    by_name (svg v) = refl
    by_name (math v) = refl
