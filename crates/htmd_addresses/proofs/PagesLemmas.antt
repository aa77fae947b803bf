-- What is kept of the pages of a run, after one page more.
use Rattle.std.proofs.Common.{◌≡◌, ℕ, ◌+◌, ◌<◌, List, ◌∷◌, length, drop, get_or, refl, sym, ap, ◌∙◌, subst}
use Rattle.std.proofs.Common.{Option, Some, Bool, true, false, cond, Vec, Global, Ordering, ⊎_elim, string_bytes}
use Rattle.std.specs.BTreeMap.{BTreeMap, UpdatesBy, get_by}
use Rattle.std.specs.Cmp.{eq_by_cmp_equiv}
use Rattle.std.specs.Cmp.Lexicographic.{slice_cmp, bytes_decides, nat_list_cmp_total, nat_list_eq_equiv, texts_ties}
use Rattle.std.specs.Map.{AreApart, IsKeyTest, KeepsOthers, lookup}
use Rattle.std.specs.Option.{option_and_then, option_map}
use Rattle.std.specs.Ordering.{eq_by_cmp, is_eq, nat_cmp}
use Rattle.std.specs.Str.{bytes_eq}
use Rattle.std.proofs.lemmas.Bool.{cases_Bool, cond-true, cond-false}
use Rattle.std.proofs.lemmas.List.{drop_more}
use Rattle.std.proofs.lemmas.Option.{slice_get-get_or}
use Rattle.htmd_addresses.specs.Leads.{output_at}
use Rattle.htmd_addresses.specs.PageViews.{output_in, output_there, pages_of}
use Rattle.htmd_addresses.specs.Paths.{plain_path}
use Rattle.htmd_addresses.specs.declared.pages.Page.{Page}

-- keys as bytes are compared
abbrev key_cmp : Vec ℕ Global → Vec ℕ Global → Ordering
key_cmp a b = slice_cmp nat_cmp a.items b.items

abbrev is_at : List ℕ → Vec ℕ Global → Bool
is_at path key = is_eq (slice_cmp nat_cmp path key.items)

kept-others : {X : Type 0} (test : Vec ℕ Global → Bool) (old new : List (Vec ℕ Global × X))
    → KeepsOthers (eq_by_cmp key_cmp) test old new → (other : Vec ℕ Global → Bool)
    → IsKeyTest (eq_by_cmp key_cmp) other → AreApart test other → lookup other new ≡ lookup other old
unfolding KeepsOthers
kept-others test old new h = h

-- no key is at two paths
at-one : (a b : List ℕ) (key : Vec ℕ Global) → bytes_eq a b ≡ false → is_at a key ≡ true
    → is_at b key ≡ false
at-one a b key differ here =
    sym (texts_ties b key.items)
    ∙ (nat_list_eq_equiv.symm b key.items
    ∙ (sym (nat_list_eq_equiv.congr a key.items b (texts_ties a key.items ∙ here)) ∙ differ))

-- what is kept at a path after a value was put at a key
put-at : {X : Type 0} (old new : BTreeMap (Vec ℕ Global) X) (key : Vec ℕ Global) (w : Option X)
    → UpdatesBy key_cmp (key_cmp key) old new w → (path : List ℕ)
    → get_by (λ k. slice_cmp nat_cmp path k.items) new
    ≡ cond (bytes_eq key.items path) w (get_by (λ k. slice_cmp nat_cmp path k.items) old)
put-at old new key w h path =
    ⊎_elim
    (λ same. subst (λ l. get_by (λ k. slice_cmp nat_cmp l k.items) new ≡ w)
    ((bytes_decides key.items path).0 same) h.1
    ∙ sym (cond-true _ _ _ same))
    (λ differ. kept-others (is_at key.items) old.entries new.entries h.3 (is_at path)
    (λ x y. (eq_by_cmp_equiv nat_list_cmp_total).congr path x.items y.items)
    (λ k. at-one key.items path k differ)
    ∙ sym (cond-false _ _ _ differ))
    (cases_Bool (bytes_eq key.items path))

option-cond : (b : Bool) (there : ℕ → Option (List ℕ)) (place : ℕ) (other : Option ℕ)
    → option_and_then there (cond b (Some place) other) ≡ cond b (there place) (option_and_then there other)
option-cond true there place other = refl
option-cond false there place other = refl

-- one page more in front of those that are kept
pub page-more : (pages : List Page) (left : ℕ) (page : Page) (old new : BTreeMap (Vec ℕ Global) ℕ)
    (key : Vec ℕ Global) → left < length pages → page ≡ get_or pages left page
    → key.items ≡ plain_path (string_bytes page.input) → UpdatesBy key_cmp (key_cmp key) old new (Some left)
    → ((path : List ℕ) → output_in pages old path ≡ output_at (pages_of (drop (left + 1) pages)) path)
    → (path : List ℕ) → output_in pages new path ≡ output_at (pages_of (drop left pages)) path
page-more pages left page old new key l is at h kept path =
    let rest : List Page = drop (left + 1) pages in
    let there : ℕ → Option (List ℕ) = output_there pages in
    let here : there left ≡ Some (string_bytes page.output) =
    ap (option_map (λ p. string_bytes p.output)) (slice_get-get_or pages left page l)
    ∙ ap (λ p. Some (string_bytes p.output)) (sym is) in
    ap (option_and_then there) (put-at old new key (Some left) h path)
    ∙ (option-cond (bytes_eq key.items path) there left (get_by (λ k. slice_cmp nat_cmp path k.items) old)
    ∙ (ap (λ o. cond (bytes_eq key.items path) o (output_in pages old path)) here
    ∙ (ap (λ b. cond b (Some (string_bytes page.output)) (output_in pages old path)) (ap (λ x. bytes_eq x path) at)
    ∙ (ap (cond (bytes_eq (plain_path (string_bytes page.input)) path) (Some (string_bytes page.output))) (kept path)
    ∙ ap (λ (x : List Page). output_at (pages_of x) path)
    (ap (λ p. p ∷ rest) is ∙ sym (drop_more pages left page l))))))
