-- Ways between folders, as addresses.
use Rattle.std.proofs.Common.{◌≡◌, ℕ, ◌+◌, ◌<◌, List, [], ◌∷◌, ◌++◌, length, drop, map, sym, ap, ◌∙◌, Bor, Option}
use Rattle.std.proofs.Common.{append_assoc}
use Rattle.std.specs.List.{common_prefix_len}
use Rattle.std.specs.Str.{bytes_eq}
use Rattle.std.proofs.lemmas.Grind.{flat_map-append}
use Rattle.std.proofs.lemmas.List.{drop_more, drop-map}
use Rattle.percent_encoding.specs.Percent.{percent_encode}
use Rattle.htmd_lexical.specs.Characters.{slash}
use Rattle.htmd_addresses.specs.Leads.{Folders, PageValue, escaped, lead, lead_to, output_for}
use Rattle.htmd_addresses.specs.Leads.{path_len, relative, trimmed}
use Rattle.htmd_addresses.specs.PageViews.{names_of}
use Rattle.htmd_addresses.specs.Paths.{Folder, folder_of, name_of, parent, way}
use Rattle.htmd_addresses.specs.declared.leads.TheConstants.{SEGMENT}
use Rattle.url.specs.Parts.{Parts}

-- a way up for each of these names
abbrev pub parents : List (Bor (List ℕ)) → Folder
parents names = map (λ name. parent) (names_of names)

-- one way up more
pub parents-more : (names : List (Bor (List ℕ))) (i : ℕ) (a b whole : List ℕ) → i < length names
    → b ≡ (a ++ percent_encode SEGMENT parent) ++ slash ∷ []
    → a ++ escaped (parents (drop i names)) ≡ whole → b ++ escaped (parents (drop (i + 1) names)) ≡ whole
parents-more names i a b whole l e h =
    let p : List ℕ = percent_encode SEGMENT parent in
    let rest : List ℕ = escaped (parents (drop (i + 1) names)) in
    ap (λ x. x ++ rest) (e ∙ append_assoc a p (slash ∷ []))
    ∙ (append_assoc a (p ++ slash ∷ []) rest
    ∙ (ap (λ (x : List (Bor (List ℕ))). a ++ escaped (parents x))
    (sym (drop_more names i (record { ref_ptr = (0, 0); now = [] }) l))
    ∙ h))

-- a way is up and then down
way-escaped : (from to : List (Bor (List ℕ))) (same : ℕ)
    → same ≡ common_prefix_len bytes_eq (names_of from) (names_of to)
    → escaped (parents (drop same from)) ++ escaped (names_of (drop same to))
    ≡ escaped (way (names_of from) (names_of to))
way-escaped from to same e =
    sym (flat_map-append (λ name. percent_encode SEGMENT name ++ slash ∷ []) (parents (drop same from))
    (names_of (drop same to)))
    ∙ ap escaped
    (ap (λ (x : Folder). map (λ name. parent) x ++ names_of (drop same to))
    (sym (drop-map (λ name. name.now) same from))
    ∙ (ap (λ (x : Folder). map (λ name. parent) (drop same (names_of from)) ++ x)
    (sym (drop-map (λ name. name.now) same to))
    ∙ ap (λ n. map (λ name. parent) (drop n (names_of from)) ++ drop n (names_of to)) e))

-- the address of a file, piece by piece
pub relative-at : (from folder : List (Bor (List ℕ))) (to start up down address : List ℕ) (same : ℕ)
    → names_of folder ≡ folder_of to → same ≡ common_prefix_len bytes_eq (names_of from) (names_of folder)
    → start ≡ [] → up ≡ start ++ escaped (parents (drop same from))
    → down ≡ up ++ escaped (names_of (drop same folder)) → address ≡ down ++ percent_encode SEGMENT (name_of to)
    → address ≡ relative (names_of from) to
relative-at from folder to start up down address same at count none first second third =
    third
    ∙ ap (λ x. x ++ percent_encode SEGMENT (name_of to))
    (second
    ∙ (ap (λ x. x ++ escaped (names_of (drop same folder)))
    (first ∙ ap (λ x. x ++ escaped (parents (drop same from))) none)
    ∙ (way-escaped from folder same count ∙ ap (λ x. escaped (way (names_of from) x)) at)))

-- what an address becomes, by the output that was found
pub lead-at : (pages : List PageValue) (folders : Folders) (own : Folder) (base : Option Parts)
    (address inner : List ℕ) → inner ≡ trimmed address
    → (output : Option (List ℕ)) → output ≡ output_for pages folders inner
    → lead_to own base address output (drop (path_len inner) inner) ≡ lead pages folders own base address
lead-at pages folders own base address inner e output found =
    ap (λ o. lead_to own base address o (drop (path_len inner) inner)) found
    ∙ ap (λ x. lead_to own base address (output_for pages folders x) (drop (path_len x) x)) e
