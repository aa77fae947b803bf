-- What the calls on tags answer, by the grammar's steps.
use Rattle.std.proofs.Common.{◌≡◌, ℕ, ◌<◌, ◌≤◌, Bool, true, List, [], ◌∷◌, length, refl, sym, ◌∙◌, ap, subst, arith}
use Rattle.std.proofs.Common.{Ok, Err, OnOk}
use Rattle.htmd_grammar.specs.HtmlDocuments.{above_body}
use Rattle.std.specs.Prelude.{◌&&◌, cond, codes}
use Rattle.std.specs.Str.{bytes_eq}
use Rattle.htmd_lexical.proofs.Cases.{test}
use Rattle.htmd_lexical.specs.AttributePairs.{AttributePair}
use Rattle.htmd_grammar.specs.Rules.{project}
use Rattle.htmd_grammar.specs.Nesting.{is_row}
use Rattle.htmd_grammar.specs.ReaderSteps.{OpenElement, Step, fault, between, fresh, closed, with_tree, is_too_deep}
use Rattle.htmd_grammar.specs.ReaderSteps.{open_step, place_step, close_step}
use Rattle.htmd_grammar.specs.declared.fault.FaultKind.{FaultKind}
use Rattle.htmd_grammar.specs.declared.fault.FaultKind.TheVariants.{TooDeep}
use Rattle.htmd_tree.specs.OpenNodes.{Holds, IsReading, innermost_name}
use Rattle.htmd_tree.specs.Advances.{Answer, Follows, rules_of}
use Rattle.htmd_tree.specs.declared.reader.Reader.{Reader}
use Rattle.htmd_tree.specs.declared.reader.Stop.{Stop}
use Rattle.htmd_tree.specs.declared.reader.Stop.TheVariants.{Memory, Refused}
use Rattle.htmd_tree.proofs.TagStepsLemmas.{Within}

-- a fault where the text that is left begins
pub refused_follows : (old new : Reader) (has_doctype : Bool) (stop : Stop) (kind : FaultKind) (s : Step)
    → stop ≡ Refused (length old.rest.now) kind → s ≡ fault kind → Follows old new has_doctype (Err stop) s
refused_follows old new has_doctype stop kind s e f = rw (e, f) (refl, refl)

pub same_follows : (old new : Reader) (has_doctype : Bool) (r : Answer) (s t : Step) → s ≡ t
    → Follows old new has_doctype r t → Follows old new has_doctype r s
same_follows old new has_doctype r s t e h = subst (λ (x : Step). Follows old new has_doctype r x) (sym e) h

-- a call before it, that took nothing of the text
pub later_follows : (old middle new : Reader) (has_doctype : Bool) (r : Answer) (s : Step)
    → middle.rest.now ≡ old.rest.now → middle.scripting ≡ old.scripting → Follows middle new has_doctype r s
    → Follows old new has_doctype r s
later_follows old middle new has_doctype (Ok x) (Ok st) e f at =
    record { holds = at.holds; run = at.run; rest = at.rest; scripting = at.scripting ∙ f }
later_follows old middle new has_doctype (Ok x) (Err kind) e f at = at
later_follows old middle new has_doctype (Err Memory) (Ok st) e f at = tt
later_follows old middle new has_doctype (Err Memory) (Err kind) e f at = tt
later_follows old middle new has_doctype (Err (Refused left kind)) (Ok st) e f at = at
later_follows old middle new has_doctype (Err (Refused left kind)) (Err other) e f at = (at.0, at.1 ∙ ap length e)

left_within : (old new : Reader) (has_doctype : Bool) (n : ℕ) (s : Step) → Follows old new has_doctype (Ok tt) s
    → Within n s → length new.rest.now ≤ n
left_within old new has_doctype n (Ok st) at w = let e = ap length at.rest in omega arith
left_within old new has_doctype n (Err kind) at w = absurd at

-- what is left is shorter
pub shorter_follows : (old new : Reader) (r : Answer) (s : List OpenElement → Step) (n : ℕ) → IsReading old
    → ((has_doctype : Bool) (fs : List OpenElement) → Holds old has_doctype fs
    → Follows old new has_doctype r (s fs))
    → ((fs : List OpenElement) → Within n (s fs)) → n < length old.rest.now
    → OnOk r (length new.rest.now < length old.rest.now)
shorter_follows old new (Err stop) s n reading h w l = tt
shorter_follows old new (Ok x) s n reading h w l =
    let fs : List OpenElement = reading.1 ∷ reading.2 in
    let k = left_within old new reading.0 n (s fs) (h reading.0 fs reading.3) (w fs) in
    omega arith

-- the innermost element is closed
pub closed_follows : (old new : Reader) (has_doctype : Bool) (fs : List OpenElement) (inner n rest : List ℕ)
    → Holds old has_doctype fs → 2 ≤ length old.stack.items → inner ≡ innermost_name fs
    → bytes_eq inner n ≡ true
    → ((has_doctype : Bool) (f g : OpenElement) (fs : List OpenElement) → Holds old has_doctype (f ∷ g ∷ fs)
    → Holds new has_doctype (with_tree (g ∷ fs) (closed f)))
    → new.rest.now ≡ rest → new.scripting ≡ old.scripting
    → Follows old new has_doctype (Ok tt) (close_step (rules_of old) above_body fs n rest)
closed_follows old new has_doctype [] inner n rest h l i e c left scripting = absurd h.are_open
closed_follows old new has_doctype (f ∷ []) inner n rest h l i e c left scripting =
    let k = ap length h.stack_is in absurd (omega arith)
closed_follows old new has_doctype (f ∷ g ∷ fs) inner n rest h l i e c left scripting =
    let t : bytes_eq f.name n ≡ true = rw i at e in
    rw t (record { holds = c has_doctype f g fs h; run = refl; rest = left; scripting = scripting })

-- a row in a table, once the `tbody` that it implies is open
pub implied_follows : (old middle new : Reader) (has_doctype : Bool) (fs : List OpenElement) (r : Answer) (n : List ℕ)
    (attributes : List AttributePair) (rest : List ℕ)
    → (is_row n && bytes_eq (innermost_name fs) (codes "table")) ≡ true
    → Follows old middle has_doctype (Ok tt) (cond (is_too_deep (rules_of old) above_body fs) (fault TooDeep)
    (between (fresh (codes "tbody") [] true ∷ fs) old.rest.now))
    → ((has_doctype : Bool) (gs : List OpenElement) → Holds middle has_doctype gs
    → Follows middle new has_doctype r (open_step (rules_of middle) above_body gs n attributes rest))
    → Follows old new has_doctype r (place_step (rules_of old) above_body fs n attributes rest)
implied_follows old middle new has_doctype fs r n attributes rest t m go =
    test (is_too_deep (rules_of old) above_body fs) (λ e. absurd (rw e at m)) (λ e. rw (t, e) (opened (rw e at m)))
  where
    inside : List OpenElement
    inside = fresh (codes "tbody") [] true ∷ fs

    opened : Follows old middle has_doctype (Ok tt) (between inside old.rest.now)
        → Follows old new has_doctype r (open_step (rules_of old) above_body inside n attributes rest)
    opened at =
        later_follows old middle new has_doctype r (open_step (rules_of old) above_body inside n attributes rest)
        at.rest at.scripting
        (subst (λ (b : Bool). Follows middle new has_doctype r
        (open_step (project b) above_body inside n attributes rest))
        at.scripting (go has_doctype inside at.holds))
