-- What a refusal says of the text that was refused.
use Rattle.std.proofs.Common.{◌≡◌, ◌∙◌, sym, ap, subst, ℕ, ◌+◌, ◌≤◌, Bool, List, ◌∷◌, ◌++◌, length, arith, inl, inr}
use Rattle.std.proofs.Common.{Result, Err, IfOk, IsErrAnd, true, length-append}
use Rattle.htmd_lexical.specs.Characters.{null}
use Rattle.htmd_grammar.specs.Faults.{IsFault}
use Rattle.htmd_grammar.specs.Rules.{project}
use Rattle.htmd_grammar.specs.declared.fault.FaultKind.{FaultKind}
use Rattle.htmd_tree.specs.declared.reader.ReadError.{ReadError}
use Rattle.htmd_tree.specs.declared.reader.ReadError.TheVariants as read
use Rattle.htmd.specs.declared.convert_error.ConvertError.{ConvertError}
use Rattle.htmd.specs.declared.convert_error.ConvertError.TheVariants as convert
use Rattle.htmd_tree.specs.Bodies.{body_part, body_place, StandsAt}
use Rattle.htmd_walk.specs.BuiltIn.{built_in}
use Rattle.htmd_walk.specs.Choice.{Config}
use Rattle.htmd_walk.specs.Defaults.{default_options}
use Rattle.htmd.specs.Conversions.{conversion_error, IsMarkdownOf, IsRefused, IsPageRefused}

-- a refusal to convert comes from a refusal to read, with its place and kind
refused_reading : (e : ReadError) (place : ℕ) (kind : FaultKind)
    → convert.Refused place kind ≡ conversion_error e → e ≡ read.Refused place kind
refused_reading (read.Refused p k) place kind q = cc
refused_reading read.Memory place kind q = absurd cc

pub read_before : {T U : Type 0} (r : Result T ConvertError) (x : Result U ReadError) (e : ReadError)
    (place : ℕ) (kind : FaultKind) → x ≡ Err e → IsErrAnd r (λ error. error ≡ conversion_error e)
    → r ≡ Err (convert.Refused place kind) → x ≡ Err (read.Refused place kind)
read_before r x e place kind was given q =
    was ∙ ap Err (refused_reading e place kind
    (subst (λ y. IsErrAnd y (λ error. error ≡ conversion_error e)) q given))

pub refused_before : {T U : Type 0} (r : Result T ConvertError) (x : Result U ConvertError) (e : ConvertError)
    (place : ℕ) (kind : FaultKind) → x ≡ Err e → IsErrAnd r (λ error. error ≡ e)
    → r ≡ Err (convert.Refused place kind) → x ≡ Err (convert.Refused place kind)
refused_before r x e place kind was given q =
    was ∙ ap Err (sym (subst (λ y. IsErrAnd y (λ error. error ≡ e)) q given))

-- the place of a refusal lies in the text
pub place_within : (scripting : Bool) (html : List ℕ) (place : ℕ) (kind : FaultKind)
    → IsRefused scripting html place kind
    → place ≤ length html
place_within scripting html place kind r = within r.is_fault
  where
    within : IsFault (project scripting) html place kind → place ≤ length html
    within (inl f) =
        let n = f.1 in
        let l : length html ≡ length n.before + length (null ∷ n.behind) =
        ap length n.text_is ∙ length-append n.before (null ∷ n.behind) in
        let p = n.place_is in
        omega arith
    within (inr f) = let p = (f.1).place_is in omega arith

-- a refusal of the part is one of the page, as many bytes later
pub page_place : (part page : List ℕ) (start place : ℕ) → StandsAt part start page → place ≤ length part
    → start + place ≤ length page
page_place part page start place s l =
    let e : length page ≡ length s.before + length (part ++ s.behind) =
    ap length s.text_is ∙ length-append s.before (part ++ s.behind) in
    let f = length-append part s.behind in
    let p = s.place_is in
    omega arith

refused_parts : (p q : ℕ) (k l : FaultKind) → convert.Refused p k ≡ convert.Refused q l → (p ≡ q) × (k ≡ l)
refused_parts p q k l e = (cc, cc)

same_error : {T : Type 0} (r : Result T ConvertError) (x y : ConvertError) → r ≡ Err x → r ≡ Err y → x ≡ y
same_error r x y p q = cc

pub page_refused : {T : Type 0} (r : Result T ConvertError) (scripting : Bool) (page part : List ℕ)
    (start within : ℕ) (found : FaultKind)
    (place : ℕ) (kind : FaultKind) → part ≡ body_part page → start ≡ body_place page
    → IsRefused scripting part within found
    → r ≡ Err (convert.Refused (start + within) found) → r ≡ Err (convert.Refused place kind)
    → IsPageRefused scripting page place kind
page_refused r scripting page part start within found place kind p s f d e =
    let q = refused_parts (start + within) place found kind (same_error r _ _ d e) in (
      within,
      sym q.0 ∙ ap (λ n. n + within) s,
      subst (λ k. IsRefused scripting (body_part page) within k) q.1
          (subst (λ x. IsRefused scripting x within found) p f),
    )

-- as `convert` gives it
pub markdown_by_default : {E T : Type 0} (config : Config) (scripting : Bool) (html : List ℕ)
    (written : T → List ℕ)
    (r : Result T E) → config ≡ built_in default_options → scripting ≡ true
    → IfOk r (λ s. IsMarkdownOf config scripting html (written s))
    → IfOk r (λ s. IsMarkdownOf (built_in default_options) true html (written s))
markdown_by_default config scripting html written r c on h =
    subst (λ k. IfOk r (λ s. IsMarkdownOf k true html (written s))) c
    (subst (λ k. IfOk r (λ s. IsMarkdownOf config k html (written s))) on h)
