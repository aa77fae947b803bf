-- Where a text may be cut after characters with which it begins, and what follows a doctype.
use Rattle.std.proofs.Common.{◌≡◌, ℕ, ◌<◌, Bool, true, false, cond, ◌==◌, List, [], ◌∷◌, length}
use Rattle.std.proofs.Common.{drop, refl, sym, ap, ◌∙◌, Option, Some, None, codes}
use Rattle.htmd_lexical.proofs.Cases.{test}
use Rattle.htmd_lexical.specs.WhiteSpace.{is_ascii_white_space}
use Rattle.htmd_lexical.specs.CharacterClasses.{is_empty, begins_in_any_case, leading_run, behind_run}
use Rattle.htmd_grammar.specs.Comments.{white_space_and_name, doctype_name, behind_doctype}

pub white_and_name : (t : List ℕ)
    → white_space_and_name t ≡ cond (is_empty (leading_run is_ascii_white_space t)) None
    (doctype_name (behind_run is_ascii_white_space t))
white_and_name [] = refl
white_and_name (b ∷ t) = test (is_ascii_white_space b) (λ e. rw e refl) (λ e. rw e refl)

filled : (s : List ℕ) → (length s == 0) ≡ false → is_empty s ≡ false
filled [] e = absurd (cc)
filled (b ∷ s) e = refl

stripped : (b : Bool) (t u : List ℕ) → ◌≡◌ {A = Option (List ℕ)} (Some t) (cond b (Some u) None)
    → (b ≡ true) × (t ≡ u)
stripped true t u e = (refl, cc)
stripped false t u e = absurd (cc)

pub doctype_read : (s t white name : List ℕ) (r : Option (List ℕ))
    → ◌≡◌ {A = Option (List ℕ)} (Some t)
    (cond (begins_in_any_case (codes "<!doctype") s) (Some (drop 9 s)) None)
    → white ≡ leading_run is_ascii_white_space t → name ≡ behind_run is_ascii_white_space t
    → (length white == 0) ≡ false → r ≡ doctype_name name → r ≡ behind_doctype s
doctype_read s t white name r e w n f d =
    let p = stripped (begins_in_any_case (codes "<!doctype") s) t (drop 9 s) e in
    let more : is_empty (leading_run is_ascii_white_space t) ≡ false = ap is_empty (sym w) ∙ filled white f in
    d ∙ (ap doctype_name n ∙ (branch (is_empty (leading_run is_ascii_white_space t))
    (doctype_name (behind_run is_ascii_white_space t)) more
    ∙ (sym (white_and_name t) ∙ (ap white_space_and_name (p.1)
    ∙ taken (begins_in_any_case (codes "<!doctype") s) (white_space_and_name (drop 9 s)) (p.0)))))
  where
    branch : (b : Bool) (x : Option (List ℕ)) → b ≡ false → x ≡ cond b None x
    branch true x e = absurd (cc)
    branch false x e = refl

    taken : (b : Bool) (x : Option (List ℕ)) → b ≡ true → x ≡ cond b x None
    taken true x e = refl
    taken false x e = absurd (cc)
