-- What is done to a page, and lines of front matter.
use Rattle.std.proofs.Common.{◌≡◌, ◌∙◌, ap, sym, refl, inl, inr, ℕ, not, eqb, List, [], ◌∷◌, ◌++◌}
use Rattle.std.proofs.Common.{cond, is_some, length, take, Option, Some, None, append_assoc, append-nil, arith}
use Rattle.std.proofs.Common.{codes, flat_map, length-append, Bor}
use Rattle.std.specs.Option.{option_copied, option_or, unwrap_or}
use Rattle.std.proofs.lemmas.List.{take-append-le, take_all}
use Rattle.std.proofs.lemmas.Bool.Decides.{nat_tests}
use Rattle.htmd_lexical.specs.Characters.{line_feed}
use Rattle.htmd_addresses.specs.Leads.{RunPage}
use Rattle.htmd_nodes.specs.Items.{Item}
use Rattle.htmd_document.specs.Documents.{Blocks}
use Rattle.htmd_document.specs.Mdast.{mdast_with_front_matter}
use Rattle.htmd_selectors.specs.SelectorSteps.{Step}
use Rattle.htmd_nodes.specs.NumberedTrees.{value_at}
use Rattle.json.specs.Print.{quoted}
use Rattle.htmd_front_matter.specs.Lines.{front_matter, line_if, keys, tidied}
use Rattle.htmd_front_matter.specs.Values.{name_of, value_in}
use Rattle.url.specs.Parts.{Parts}
use Rattle.htmd.specs.PageChanges.{AreLines, are_given, with_addresses}
use Rattle.htmd.specs.PageOutputs.{mdast_after}

pub are_some : (steps : List Step) → not (eqb (length steps) 0) ≡ are_given steps
are_some [] = refl
are_some (step ∷ steps) = grind (arith, nat_tests)

-- ---- addresses

-- the base that a page names, or its URL
pub own_or_url : (own : Option Parts) (url : Parts) → option_or own (Some url) ≡ Some (unwrap_or own url)
own_or_url None url = refl
own_or_url (Some base) url = refl

pub first_copied : (a b : Option (Bor Parts)) → option_copied (option_or a b)
    ≡ option_or (option_copied a) (option_copied b)
first_copied None b = refl
first_copied (Some base) b = refl

-- what a page names counts for a page of a run alone
pub named_in_run : (run_page : Option RunPage) (base : Option Parts) (named : Option (List ℕ)) (part : List Item)
    → with_addresses run_page base (cond (is_some run_page) named None) part
    ≡ with_addresses run_page base named part
named_in_run None None named part = refl
named_in_run None (Some base) named part = refl
named_in_run (Some page) base named part = refl

-- ---- lines

pub no_lines : AreLines []
no_lines = inl refl

lines_append : (a b : List ℕ) → AreLines a → AreLines b → AreLines (a ++ b)
lines_append a b h (inr (front, e)) =
    inr (a ++ front, ap (λ x. a ++ x) e ∙ sym (append_assoc a front (line_feed ∷ [])))
lines_append a b (inl n) (inl m) = inl (rw (n, m) refl)
lines_append a b (inr (front, e)) (inl m) = inr (front, rw m (append-nil a ∙ e))

line_ends : (front : List ℕ) → AreLines (front ++ line_feed ∷ [])
line_ends front = inr (front, refl)

line_if_said : (f : Option (List ℕ) → List ℕ) → f None ≡ [] → ((s : List ℕ) → AreLines (f (Some s)))
    → (value : Option (List ℕ)) → AreLines (f value)
line_if_said f n h None = inl n
line_if_said f n h (Some s) = h s

all_lines : {K : Type 0} (f : K → List ℕ) → ((key : K) → AreLines (f key)) → (some : List K)
    → AreLines (flat_map f some)
all_lines f h [] = inl refl
all_lines f h (key ∷ others) = lines_append (f key) (flat_map f others) (h key) (all_lines f h others)

pub are_lines : (page : List Item) → AreLines (front_matter page)
are_lines page =
    all_lines (λ key. line_if key (value_in key (value_at page 0)))
    (λ key. line_if_said (line_if key) refl (λ s. line_ends (name_of key ++ codes ": " ++ quoted (tidied s)))
    (value_in key (value_at page 0))) keys

-- ---- what is written after the head

pub no_end : (head : List ℕ) → AreLines head → ((front : List ℕ) → head ≡ front ++ line_feed ∷ [] → ⊥)
    → head ≡ []
no_end head (inl e) n = e
no_end head (inr (front, e)) n = absurd (n front e)

pub without_end : (head yaml : List ℕ) (document : Blocks) → head ≡ yaml ++ line_feed ∷ []
    → mdast_with_front_matter yaml document ≡ mdast_after head document
without_end [] [] document e = absurd (cc)
without_end [] (b ∷ s) document e = absurd (cc)
without_end (b ∷ s) yaml document e = ap (λ x. mdast_with_front_matter x document) (sym kept)
  where
    count : length s ≡ length yaml
    count = omega (arith, length-append yaml (line_feed ∷ []), ap length e)

    kept : take (length s) (b ∷ s) ≡ yaml
    kept = ap (λ n. take n (b ∷ s)) count ∙ (ap (take (length yaml)) e
        ∙ (take-append-le (length yaml) yaml (line_feed ∷ []) (omega arith)
        ∙ take_all (length yaml) yaml (omega arith)))
