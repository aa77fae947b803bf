-- Names of a path, as the code keeps them.
use Rattle.std.proofs.Common.{◌≡◌, ℕ, suc, ◌+◌, ◌-◌, ◌<◌, ◌≤◌, Bool, true, false, not, ◌&&◌, ◌||◌, List, [], ◌∷◌, ◌++◌}
use Rattle.std.proofs.Common.{length, take, drop, reverse, get_or, refl, sym, ap, ◌∙◌, arith, append_assoc, cond}
use Rattle.std.proofs.Common.{Some, None, Bor}
use Rattle.std.specs.Prelude.{codes, slice_get, option_map}
use Rattle.std.proofs.Math.ListN.{drop_of_length-le}
use Rattle.std.proofs.Math.Seq.{drop-length}
use Rattle.std.specs.List.{common_prefix_len, list_any}
use Rattle.std.specs.Cmp.Lexicographic.{pointwise}
use Rattle.std.specs.Str.{bytes_eq}
use Rattle.std.proofs.lemmas.Bool.{false≢true}
use Rattle.std.proofs.lemmas.List.{map_push, drop_more, drop-map, reverse-append, get_or-reverse, length-reverse}
use Rattle.std.proofs.lemmas.List.{reverse-reverse}
use Rattle.std.proofs.lemmas.List.{length-map}
use Rattle.std.proofs.lemmas.Option.{slice_get-map, get_or_from_slice_get, slice_get-get_or, slice_get_within}
use Rattle.std.proofs.lemmas.Slice.Eq.{bytes_eq-Decides}
use Rattle.htmd_lexical.specs.Characters.{slash}
use Rattle.htmd_files.specs.Paths.{Place, is_up, above, alike, names_after, lead_down, leads_down, is_below}
use Rattle.htmd_files.specs.Paths.{with_slashes}
use Rattle.htmd_files.specs.Paths.{parts, is_absolute, place, led, further, joined}
use Rattle.htmd_files.specs.Relative.{folder_of, ups, up_and_down, way, way_between, relative_place}
use Rattle.htmd_files.specs.PlaceViews.{texts}
use mathlib.Core.Bool.{beq}

-- either way, with what the test says
pub test : {P : Type 0} (b : Bool) → (b ≡ true → P) → (b ≡ false → P) → P
test true f g = f refl
test false f g = g refl

-- ---- the last name

-- a name at the end comes first, if the last comes first
pub name_pushed : (names now : List (Bor (List ℕ))) (name : Bor (List ℕ)) → now ≡ names ++ name ∷ []
    → reverse (texts now) ≡ name.now ∷ reverse (texts names)
name_pushed names now name e =
    ap (λ (x : List (Bor (List ℕ))). reverse (texts x)) e
    ∙ (ap (λ (x : List (List ℕ)). reverse x) (map_push (λ (n : Bor (List ℕ)). n.now) names name)
    ∙ reverse-append (texts names) (name.now ∷ []))

head_is : (names : List (List ℕ)) (name : List ℕ) → 0 < length names → get_or names 0 [] ≡ name
    → (others : List (List ℕ)) × (names ≡ name ∷ others)
head_is [] name l e = absurd (omega arith)
head_is (first ∷ others) name l e = (others, ap (λ (x : List ℕ). x ∷ others) e)

-- the last one, and those before it
pub last_read : (names : List (Bor (List ℕ))) (name : Bor (List ℕ))
    → slice_get names (length names - 1) ≡ Some name
    → (others : List (List ℕ)) × (reverse (texts names) ≡ name.now ∷ others)
last_read names name e =
    let n : length (texts names) ≡ length names = length-map names (λ (n : Bor (List ℕ)). n.now) in
    let l : length names - 1 < length names = slice_get_within names _ name e in
    let m = slice_get-map (λ (n : Bor (List ℕ)). n.now) names (length names - 1)
    ∙ ap (option_map (λ (n : Bor (List ℕ)). n.now)) e in
    let g : get_or (texts names) (length names - 1) [] ≡ name.now =
    get_or_from_slice_get (texts names) (length names - 1) name.now [] m in
    let k : length (texts names) - 1 - 0 ≡ length names - 1 = omega arith in
    let r : get_or (reverse (texts names)) 0 [] ≡ name.now =
    get_or-reverse (texts names) 0 [] (omega arith)
    ∙ (ap (λ (i : ℕ). get_or (texts names) i []) k ∙ g) in
    head_is (reverse (texts names)) name.now (rw length-reverse (omega arith)) r

pub none_left : (names : List (Bor (List ℕ))) → slice_get names (length names - 1) ≡ None → names ≡ []
none_left [] e = refl
none_left (name ∷ names) e =
    absurd (let s = slice_get-get_or (name ∷ names) (length (name ∷ names) - 1) name (omega arith) in cc)

-- `..` after names that end with it
pub up_again : (absolute : Bool) (now back : List (List ℕ)) (name last : List ℕ) (others : List (List ℕ))
    → is_up name ≡ true → is_up last ≡ true → back ≡ last ∷ others → now ≡ name ∷ back
    → now ≡ above absolute back
up_again absolute now back name last others u v e f =
    f ∙ (ap (λ (x : List ℕ). x ∷ back) ((bytes_eq-Decides name (codes "..")).0 u)
    ∙ (ap (λ (x : List (List ℕ)). codes ".." ∷ x) e
    ∙ (ap (λ (b : Bool). cond b (codes ".." ∷ last ∷ others) others) (sym v)
    ∙ ap (above absolute) (sym e))))

-- `..` at the beginning
pub up_first : (absolute : Bool) (now back : List (List ℕ)) (name : List ℕ) → is_up name ≡ true
    → absolute ≡ false
    → back ≡ [] → now ≡ name ∷ back → now ≡ above absolute back
up_first absolute now back name u a e f =
    f ∙ (ap (λ (x : List (List ℕ)). name ∷ x) e
    ∙ (ap (λ (x : List ℕ). x ∷ []) ((bytes_eq-Decides name (codes "..")).0 u)
    ∙ (ap (λ (b : Bool). cond b [] (codes ".." ∷ [])) (sym a) ∙ ap (above absolute) (sym e))))

-- ---- below a folder

pub alike_same : (a b : Bool) → not (beq a b) ≡ false → alike b a ≡ true
alike_same true true e = refl
alike_same true false e = absurd (false≢true (sym e))
alike_same false true e = absurd (false≢true (sym e))
alike_same false false e = refl

abbrev pub same_name : Bor (List ℕ) → Bor (List ℕ) → Bool
same_name x y = bytes_eq x.now y.now

pub names_stripped : (first names : List (Bor (List ℕ)))
    → pointwise same_name (take (length first) names) first ≡ true
    → names_after (texts first) (texts names) ≡ Some (texts (drop (length first) names))
names_stripped [] names e = refl
names_stripped (f ∷ first) [] e = absurd (false≢true e)
names_stripped (f ∷ first) (n ∷ names) e =
    test (bytes_eq n.now f.now)
    (λ q. let z = rw q at e in rw q (names_stripped first names z))
    (λ q. let z = rw q at e in absurd (false≢true z))

pub names_differ : (first names : List (Bor (List ℕ)))
    → pointwise same_name (take (length first) names) first ≡ false
    → names_after (texts first) (texts names) ≡ None
names_differ [] names e = absurd (false≢true (sym e))
names_differ (f ∷ first) [] e = refl
names_differ (f ∷ first) (n ∷ names) e =
    test (bytes_eq n.now f.now)
    (λ q. let z = rw q at e in rw q (names_differ first names z))
    (λ q. rw q refl)

abbrev place_by : Bool → List (Bor (List ℕ)) → Place
place_by absolute names = record { is_absolute = absolute; names = texts names }

pub below_found : (fa sa r : Bool) (fs ns given_fs given_ns rest : List (Bor (List ℕ))) → not (beq sa fa) ≡ false
    → given_ns ≡ ns
    → given_fs ≡ fs → pointwise same_name (take (length given_fs) given_ns) given_fs ≡ true
    → rest ≡ drop (length given_fs) given_ns → r ≡ lead_down (texts rest)
    → r ≡ is_below (place_by fa fs) (place_by sa ns)
below_found fa sa r fs ns given_fs given_ns rest same e f p d h =
    let n : names_after (texts fs) (texts ns) ≡ Some (texts rest) =
    ap (λ (x : List (Bor (List ℕ))). names_after (texts fs) (texts x)) (sym e)
    ∙ (ap (λ (x : List (Bor (List ℕ))). names_after (texts x) (texts given_ns)) (sym f)
    ∙ (names_stripped given_fs given_ns p ∙ ap (λ (x : List (Bor (List ℕ))). Some (texts x)) (sym d))) in
    h ∙ (ap leads_down (sym n)
    ∙ ap (λ (b : Bool). b && leads_down (names_after (texts fs) (texts ns))) (sym (alike_same sa fa same)))

pub below_missed : (fa sa : Bool) (fs ns given_fs given_ns : List (Bor (List ℕ))) → not (beq sa fa) ≡ false
    → given_ns ≡ ns
    → given_fs ≡ fs → pointwise same_name (take (length given_fs) given_ns) given_fs ≡ false
    → false ≡ is_below (place_by fa fs) (place_by sa ns)
below_missed fa sa fs ns given_fs given_ns same e f p =
    let n : names_after (texts fs) (texts ns) ≡ None =
    ap (λ (x : List (Bor (List ℕ))). names_after (texts fs) (texts x)) (sym e)
    ∙ (ap (λ (x : List (Bor (List ℕ))). names_after (texts x) (texts given_ns)) (sym f)
    ∙ names_differ given_fs given_ns p) in
    ap leads_down (sym n)
    ∙ ap (λ (b : Bool). b && leads_down (names_after (texts fs) (texts ns))) (sym (alike_same sa fa same))

-- ---- a path, name by name

pub led_turn : (absolute : Bool) (names : List (List ℕ)) (i : ℕ) (name : List ℕ) (old new whole : List (List ℕ))
    → (i < length names) × (name ≡ get_or names i name) → led absolute old (drop i names) ≡ whole
    → new ≡ further absolute old name → led absolute new (drop (i + 1) names) ≡ whole
led_turn absolute names i name old new whole h so_far e =
    ap (λ (x : List (List ℕ)). led absolute x (drop (i + 1) names)) e
    ∙ (ap (λ (x : List ℕ). led absolute (further absolute old x) (drop (i + 1) names)) h.1
    ∙ (ap (λ (x : List (List ℕ)). led absolute old x) (sym (drop_more names i name h.0)) ∙ so_far))

-- after the last name
pub led_end : (start : Bool) (path : List ℕ) (names : List (Bor (List ℕ))) (i : ℕ) → i ≡ length (parts path)
    → start ≡ is_absolute path
    → led (is_absolute path) (reverse (texts names)) (drop i (parts path)) ≡ led (is_absolute path) [] (parts path)
    → place_by start names ≡ place path
led_end start path names i n s e =
    let back : reverse (texts names) ≡ led (is_absolute path) [] (parts path) =
    ap (λ (x : List (List ℕ)). led (is_absolute path) (reverse (texts names)) x)
    (sym (drop-length (parts path)) ∙ ap (λ (k : ℕ). drop k (parts path)) (sym n))
    ∙ e in
    let t : texts names ≡ reverse (led (is_absolute path) [] (parts path)) =
    sym (reverse-reverse (texts names)) ∙ ap (λ (x : List (List ℕ)). reverse x) back in
    ap (λ (b : Bool). place_by b names) s
    ∙ ap (λ (x : List (List ℕ)). place_with (is_absolute path) x) t
  where
    place_with : Bool → List (List ℕ) → Place
    place_with b x = record { is_absolute = b; names = x }

-- ---- names with slashes

pub slashes_turn : (names : List (Bor (List ℕ))) (i : ℕ) (name : Bor (List ℕ)) (old new whole : List ℕ)
    → i < length names → name ≡ get_or names i name
    → old ++ with_slashes (texts (drop i names)) ≡ whole → new ≡ (old ++ slash ∷ []) ++ name.now
    → new ++ with_slashes (texts (drop (i + 1) names)) ≡ whole
slashes_turn names i name old new whole l is so_far e =
    let rest : List ℕ = with_slashes (texts (drop (i + 1) names)) in
    let d : drop i names ≡ name ∷ drop (i + 1) names =
    drop_more names i name l ∙ ap (λ (x : Bor (List ℕ)). x ∷ drop (i + 1) names) (sym is) in
    ap (λ (x : List ℕ). x ++ rest) e
    ∙ (append_assoc (old ++ slash ∷ []) name.now rest
    ∙ (append_assoc old (slash ∷ []) (name.now ++ rest)
    ∙ (ap (λ (x : List (Bor (List ℕ))). old ++ with_slashes (texts x)) (sym d) ∙ so_far)))

pub ups_turn : (names : List (Bor (List ℕ))) (i : ℕ) (d : Bor (List ℕ)) (old new whole : List ℕ)
    → i < length names
    → old ++ ups (texts (drop i names)) ≡ whole → new ≡ old ++ codes "../"
    → new ++ ups (texts (drop (i + 1) names)) ≡ whole
ups_turn names i d old new whole l so_far e =
    let rest : List ℕ = ups (texts (drop (i + 1) names)) in
    ap (λ (x : List ℕ). x ++ rest) e
    ∙ (append_assoc old (codes "../") rest
    ∙ (ap (λ (x : List (Bor (List ℕ))). old ++ ups (texts x)) (sym (drop_more names i d l)) ∙ so_far))

-- ---- the folder of a file

pub folder_read : (names : List (Bor (List ℕ))) → texts (take (length names - 1) names) ≡ folder_of (texts names)
folder_read [] = refl
folder_read (a ∷ []) = refl
folder_read (a ∷ b ∷ names) =
    let n : length (a ∷ b ∷ names) - 1 ≡ suc (length (b ∷ names) - 1) = omega arith in
    ap (λ (k : ℕ). texts (take k (a ∷ b ∷ names))) n
    ∙ ap (λ (x : List (List ℕ)). a.now ∷ x) (folder_read (b ∷ names))

pub shared_texts : (a b : List (Bor (List ℕ)))
    → common_prefix_len same_name a b ≡ common_prefix_len bytes_eq (texts a) (texts b)
shared_texts [] b = refl
shared_texts (x ∷ a) [] = refl
shared_texts (x ∷ a) (y ∷ b) =
    ap (λ (n : ℕ). cond (bytes_eq x.now y.now) (1 + n) 0) (shared_texts a b)

pub any_up : (names : List (Bor (List ℕ)))
    → list_any (λ y. bytes_eq y.now (codes "..")) names ≡ list_any is_up (texts names)
any_up [] = refl
any_up (n ∷ names) = ap (λ (b : Bool). is_up n.now || b) (any_up names)

pub not_up : (left : List (Bor (List ℕ))) (names : List (List ℕ)) (r : Bool)
    → r ≡ list_any (λ y. bytes_eq y.now (codes "..")) left → r ≡ true
    → None ≡ up_and_down (texts left) names
not_up left names r e t =
    ap (λ (b : Bool). cond b None (Some (ups (texts left) ++ joined names))) (sym t ∙ (e ∙ any_up left))

pub up_then_down : (left : List (Bor (List ℕ))) (names : List (List ℕ)) (r : Bool) (path : List ℕ)
    → r ≡ list_any (λ y. bytes_eq y.now (codes "..")) left → r ≡ false
    → path ≡ ups (texts left) ++ joined names
    → Some path ≡ up_and_down (texts left) names
up_then_down left names r path e t f =
    ap Some f
    ∙ ap (λ (b : Bool). cond b None (Some (ups (texts left) ++ joined names))) (sym t ∙ (e ∙ any_up left))

-- past what is shared
pub way_past : (folder names above left down : List (Bor (List ℕ))) (n : ℕ)
    → texts above ≡ folder_of (texts names) → n ≡ common_prefix_len bytes_eq (texts folder) (texts above)
    → left ≡ drop n folder → down ≡ drop n names
    → up_and_down (texts left) (texts down) ≡ way (texts folder) (texts names)
way_past folder names above left down n a e f g =
    let s : n ≡ common_prefix_len bytes_eq (texts folder) (folder_of (texts names)) =
    e ∙ ap (λ (x : List (List ℕ)). common_prefix_len bytes_eq (texts folder) x) a in
    ap (λ (x : List (List ℕ)). up_and_down x (texts down))
    (ap texts f ∙ sym (drop-map (λ (x : Bor (List ℕ)). x.now) n folder))
    ∙ (ap (λ (x : List (List ℕ)). up_and_down (drop n (texts folder)) x)
    (ap texts g ∙ sym (drop-map (λ (x : Bor (List ℕ)). x.now) n names))
    ∙ ap (λ (k : ℕ). up_and_down (drop k (texts folder)) (drop k (texts names))) s)

pub way_of_files : (from to above : List (Bor (List ℕ))) → 0 < length from → 0 < length to
    → texts above ≡ folder_of (texts from) → way (texts above) (texts to) ≡ way_between (texts from) (texts to)
way_of_files [] to above l m e = absurd (omega arith)
way_of_files (f ∷ from) [] above l m e = absurd (omega arith)
way_of_files (f ∷ from) (t ∷ to) above l m e = ap (λ (x : List (List ℕ)). way x (texts (t ∷ to))) e

pub relative_found : (fa ta : Bool) (from to given_from given_to : List (Bor (List ℕ))) → not (beq fa ta) ≡ false
    → given_from ≡ from → given_to ≡ to
    → way_between (texts given_from) (texts given_to) ≡ relative_place (place_by fa from) (place_by ta to)
relative_found fa ta from to given_from given_to e f g =
    ap (λ (x : List (Bor (List ℕ))). way_between (texts x) (texts given_to)) f
    ∙ (ap (λ (x : List (Bor (List ℕ))). way_between (texts from) (texts x)) g
    ∙ ap (λ (b : Bool). cond b (way_between (texts from) (texts to)) None) (sym (alike_same_back fa ta e)))
  where
    alike_same_back : (a b : Bool) → not (beq a b) ≡ false → alike a b ≡ true
    alike_same_back true true e = refl
    alike_same_back true false e = absurd (false≢true (sym e))
    alike_same_back false true e = absurd (false≢true (sym e))
    alike_same_back false false e = refl

-- ---- what two lists share

nothing_shared : (a : List (Bor (List ℕ))) → common_prefix_len same_name a [] ≡ 0
nothing_shared [] = refl
nothing_shared (x ∷ a) = refl

pub shared_past_a : (a b : List (Bor (List ℕ))) (i : ℕ) → length a ≤ i
    → common_prefix_len same_name (drop i a) (drop i b) ≡ 0
shared_past_a a b i l =
    ap (λ (x : List (Bor (List ℕ))). common_prefix_len same_name x (drop i b)) (drop_of_length-le a l)

pub shared_past_b : (a b : List (Bor (List ℕ))) (i : ℕ) → length b ≤ i
    → common_prefix_len same_name (drop i a) (drop i b) ≡ 0
shared_past_b a b i l =
    ap (λ (x : List (Bor (List ℕ))). common_prefix_len same_name (drop i a) x) (drop_of_length-le b l)
    ∙ nothing_shared (drop i a)
