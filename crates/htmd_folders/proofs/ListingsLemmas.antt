-- The files below a folder, from change to change.
use Rattle.std.proofs.Common.{◌≡◌, ◌≢◌, ◌⊎◌, ◌∙◌, refl, sym, ap, inl, inr, ℕ, suc, ◌+◌, ◌<◌, ◌≤◌, Bool, true, false}
use Rattle.std.proofs.Common.{cond}
use Rattle.std.proofs.Common.{◌||◌, ◌&&◌, List, [], ◌∷◌, ◌++◌, length, take, drop, map, get_or, subst, is_some, codes}
use Rattle.std.proofs.Common.{string_bytes}
use Rattle.std.proofs.Common.{append_assoc, Option, Some, None, IfSome, MatchOption}
use Rattle.std.specs.Prelude.{if◌then◌else◌}
use Rattle.std.specs.Borrow.{Bor}
use Rattle.std.specs.List.{list_any}
use Rattle.std.specs.Str.{bytes_eq}
use Rattle.std.specs.Str.Pattern.{FindsTextPrefix, StripsPrefix}
use Rattle.std.proofs.Math.Nat.{suc-ne-zero}
use Rattle.std.proofs.lemmas.Bool.{false≢true, false_from_ne_true}
use Rattle.std.proofs.lemmas.List.{drop_more, map_more, map-append, take_all}
use Rattle.std.proofs.lemmas.Slice.Eq.{bytes_eq-Decides}
use Rattle.std.specs.declared.alloc.Global.{Global}
use Rattle.std.specs.declared.string.String.{String}
use Rattle.htmd_files.specs.Paths.{below, slash_after, ends_with_slash}
use Rattle.htmd_files.specs.WordViews.{texts_of}
use Rattle.htmd_folders.specs.Changes.{Change, placed, created, moved, removed, obstructed}
use Rattle.htmd_folders.specs.Listings.{is_file, times, IsFolder, IsListing}
use Rattle.htmd_folders.specs.declared.memory.MemoryChange.{MemoryChange}
use Rattle.htmd_folders.specs.MemoryViews.{change_in, name_of, IsFileBelow}

either : {P : Type 0} (b : Bool) → (b ≡ true → P) → (b ≡ false → P) → P
either true f g = f refl
either false f g = g refl

same : (a b : List ℕ) → bytes_eq a b ≡ true → a ≡ b
same a b e = (bytes_eq-Decides a b).0 e

equal : (a b : List ℕ) → a ≡ b → bytes_eq a b ≡ true
equal a b e = (bytes_eq-Decides a b).1 e

differs : (a b : List ℕ) → a ≢ b → bytes_eq a b ≡ false
differs a b n = false_from_ne_true (bytes_eq a b) (λ t. n (same a b t))

-- the change has this name
abbrev pub named : List ℕ → Change → Bool
named name change = bytes_eq name (name_of change)

-- a file that is there has the name of a change
pub file_is_named : (name : List ℕ) (past : List Change) → is_file past name ≡ true
    → list_any (named name) past ≡ true
file_is_named name [] e = absurd (false≢true e)
file_is_named name (placed other bytes ∷ past) e =
    either (bytes_eq name other)
    (λ t. ap (λ (b : Bool). b || list_any (named name) past) t)
    (λ f. let z = rw f at e in rw f (file_is_named name past z))
file_is_named name (created other ∷ past) e =
    either (bytes_eq name other)
    (λ t. ap (λ (b : Bool). b || list_any (named name) past) t)
    (λ f. let z = rw f at e in rw f (file_is_named name past z))
file_is_named name (moved from to bytes ∷ past) e =
    either (bytes_eq name to)
    (λ t. ap (λ (b : Bool). b || list_any (named name) past) t)
    (λ f. let z = rw f at e in
    either (bytes_eq name from)
    (λ t. let y = rw t at z in absurd (false≢true y))
    (λ g. let y = rw g at z in rw f (file_is_named name past y)))
file_is_named name (removed other ∷ past) e =
    either (bytes_eq name other)
    (λ t. ap (λ (b : Bool). b || list_any (named name) past) t)
    (λ f. let z = rw f at e in rw f (file_is_named name past z))
file_is_named name (obstructed other ∷ past) e =
    either (bytes_eq name other)
    (λ t. ap (λ (b : Bool). b || list_any (named name) past) t)
    (λ f. let z = rw f at e in rw f (file_is_named name past z))

-- two paths below one folder are the same if their names are
append_same : (a b c : List ℕ) → a ++ b ≡ a ++ c → b ≡ c
append_same [] b c e = e
append_same (x ∷ a) b c e = append_same a b c (cc)

below_same : (folder a b : List ℕ) → below folder a ≡ below folder b → a ≡ b
below_same folder a b e =
    append_same (folder ++ slash_after folder) a b e

-- one more change
any_more : (test : Change → Bool) (seen : List Change) (c : Change)
    → list_any test (seen ++ c ∷ []) ≡ (list_any test seen || test c)
any_more test [] c = either (test c) (λ t. rw t refl) (λ f. rw f refl)
any_more test (s ∷ seen) c =
    either (test s) (λ t. rw t refl) (λ f. rw f (any_more test seen c))

-- one more path
times_other : (path more : List ℕ) (files : List (List ℕ)) → bytes_eq path more ≡ false
    → times path (files ++ more ∷ []) ≡ times path files
times_other path more [] f = rw f refl
times_other path more (file ∷ files) f =
    either (bytes_eq path file)
    (λ t. rw t (ap suc (times_other path more files f)))
    (λ g. rw g (times_other path more files f))

times_same : (path more : List ℕ) (files : List (List ℕ)) → bytes_eq path more ≡ true
    → times path (files ++ more ∷ []) ≡ suc (times path files)
times_same path more [] t = rw t refl
times_same path more (file ∷ files) t =
    either (bytes_eq path file)
    (λ u. rw u (ap suc (times_same path more files t)))
    (λ g. rw g (times_same path more files t))

-- ---- the files of the changes so far

-- how often the path of a file that is there, and has the name of one of these changes, is listed
abbrev once : Bool → Bool → ℕ
once seen is = cond (seen && is) 1 0

abbrev pub Listed : List Change → List ℕ → List Change → List (List ℕ) → Type 0
Listed past folder seen files =
    (path : List ℕ)
    → times path files ≡ once (list_any (named (below folder path)) seen) (is_file past (below folder path))

seen_before : (seen is : Bool) (n : ℕ) → n ≡ once seen is → n ≢ 0 → (seen ≡ true) × (is ≡ true)
seen_before true true n e d = (refl, refl)
seen_before true false n e d = absurd (d e)
seen_before false is n e d = absurd (d e)

-- a change that leaves no further file
pub listed_same : (past : List Change) (folder : List ℕ) (seen : List Change) (files : List (List ℕ)) (c : Change)
    → Listed past folder seen files
    → ((path : List ℕ) → name_of c ≡ below folder path
    → (is_file past (below folder path) ≡ false) ⊎ (times path files ≢ 0))
    → Listed past folder (seen ++ c ∷ []) files
listed_same past folder seen files c l h = λ path.
    let name = below folder path in
    let is = is_file past name in
    let before = list_any (named name) seen in
    either (bytes_eq name (name_of c))
    (λ t.
    let after : list_any (named name) (seen ++ c ∷ []) ≡ (before || true) =
    any_more (named name) seen c ∙ ap (λ (b : Bool). before || b) t in
    l path ∙ (by_cases before is (times path files) (l path) (h path (sym (same name (name_of c) t)))
    ∙ ap (λ (b : Bool). once b is) (sym after)))
    (λ f.
    let after : list_any (named name) (seen ++ c ∷ []) ≡ (before || false) =
    any_more (named name) seen c ∙ ap (λ (b : Bool). before || b) f in
    l path ∙ (or_false before is ∙ ap (λ (b : Bool). once b is) (sym after)))
  where
    or_false : (before is : Bool) → once before is ≡ once (before || false) is
    or_false true is = refl
    or_false false is = refl

    by_cases : (before is : Bool) (n : ℕ) → n ≡ once before is → (is ≡ false) ⊎ (n ≢ 0)
        → once before is ≡ once (before || true) is
    by_cases true is n e h = refl
    by_cases false is n e (inl f) = rw f refl
    by_cases false is n e (inr d) = absurd (d e)

-- a change that leaves a file which isn't listed
pub listed_more : (past : List Change) (folder : List ℕ) (seen : List Change) (files : List (List ℕ)) (c : Change)
    (more : List ℕ) → Listed past folder seen files → name_of c ≡ below folder more
    → is_file past (below folder more) ≡ true → times more files ≡ 0
    → Listed past folder (seen ++ c ∷ []) (files ++ more ∷ [])
listed_more past folder seen files c more l n i z = λ path.
    let name = below folder path in
    let is = is_file past name in
    let before = list_any (named name) seen in
    either (bytes_eq path more)
    (λ t.
    let p : path ≡ more = same path more t in
    let there : is ≡ true = ap (λ (x : List ℕ). is_file past (below folder x)) p ∙ i in
    let at : bytes_eq name (name_of c) ≡ true =
    equal name (name_of c) (ap (below folder) p ∙ sym n) in
    let none : times path files ≡ 0 = ap (λ (x : List ℕ). times x files) p ∙ z in
    let after : list_any (named name) (seen ++ c ∷ []) ≡ (before || true) =
    any_more (named name) seen c ∙ ap (λ (b : Bool). before || b) at in
    times_same path more files t ∙ (ap suc none
    ∙ sym (ap (λ (b : Bool). once b is) (after ∙ or_true before) ∙ ap (λ (b : Bool). once true b) there)))
    (λ f.
    let d : bytes_eq name (name_of c) ≡ false =
    differs name (name_of c) (λ e. false≢true (sym f ∙ equal path more (below_same folder path more (e ∙ n)))) in
    let after : list_any (named name) (seen ++ c ∷ []) ≡ (before || false) =
    any_more (named name) seen c ∙ ap (λ (b : Bool). before || b) d in
    times_other path more files f ∙ (l path ∙ ap (λ (b : Bool). once b is) (sym (after ∙ or_false before))))
  where
    or_true : (b : Bool) → (b || true) ≡ true
    or_true true = refl
    or_true false = refl

    or_false : (b : Bool) → (b || false) ≡ b
    or_false true = refl
    or_false false = refl

-- all changes
pub listed_all : (past : List Change) (folder : List ℕ) (files : List (List ℕ)) → Listed past folder past files
    → IsListing past folder files
listed_all past folder files l = λ path.
    let name = below folder path in
    either (is_file past name)
    (λ t. l path ∙ (ap (λ (b : Bool). once b (is_file past name)) (file_is_named name past t)
    ∙ rw t refl))
    (λ f. l path ∙ (ap (λ (b : Bool). once (list_any (named name) past) b) f
    ∙ (never (list_any (named name) past) ∙ rw f refl)))
  where
    never : (b : Bool) → once b false ≡ 0
    never true = refl
    never false = refl

-- ---- names below a folder

-- what `strip_prefix` says of a text
pub strip_text : (p bs : List ℕ) (r : Option (Bor (List ℕ)))
    → MatchOption r (FindsTextPrefix p bs None) (λ x. StripsPrefix (FindsTextPrefix p) bs x.now)
    → MatchOption r ((rest : List ℕ) → bs ≢ p ++ rest) (λ x. bs ≡ p ++ x.now)
strip_text p bs None h = λ rest e. h rest e
strip_text p bs (Some x) (n, k, d, l) = k.1 ∙ ap (λ (t : List ℕ). p ++ t) (sym d)

-- a name below a folder whose path doesn't end with a slash
pub below_slash : (name folder rest : List ℕ) (ends : Bool) (r : Option (Bor (List ℕ))) → name ≡ folder ++ rest
    → ends ≡ ends_with_slash folder → ends ≡ false
    → MatchOption r (FindsTextPrefix (codes "/") rest None)
    (λ x. StripsPrefix (FindsTextPrefix (codes "/")) rest x.now)
    → MatchOption r ((path : List ℕ) → name ≢ below folder path) (λ path. name ≡ below folder path.now)
below_slash name folder rest ends r e s f h =
    let slash : slash_after folder ≡ codes "/" =
    ap (λ (b : Bool). if b then [] else codes "/") (sym s ∙ f) in
    found r (strip_text (codes "/") rest r h)
    (λ (path : List ℕ). ap (λ (t : List ℕ). folder ++ t ++ path) slash ∙ append_assoc folder (codes "/") path)
  where
    found : (r : Option (Bor (List ℕ)))
        → MatchOption r ((more : List ℕ) → rest ≢ codes "/" ++ more) (λ x. rest ≡ codes "/" ++ x.now)
        → ((path : List ℕ) → below folder path ≡ folder ++ (codes "/" ++ path))
        → MatchOption r ((path : List ℕ) → name ≢ below folder path) (λ path. name ≡ below folder path.now)
    found None h b = λ path n.
        h path (append_same folder rest (codes "/" ++ path) (sym e ∙ (n ∙ b path)))
    found (Some x) h b = e ∙ (ap (λ (t : List ℕ). folder ++ t) h ∙ sym (b x.now))

-- ---- paths among files

pub among_next : (path : List ℕ) (files : List (String Global)) (i : ℕ) (file : String Global) → i < length files
    → file ≡ get_or files i file
    → times path (texts_of (drop i files)) ≡ times path (string_bytes file ∷ texts_of (drop (i + 1) files))
among_next path files i file l is =
    ap (λ (x : List (String Global)). times path (texts_of x))
    (drop_more files i file l ∙ ap (λ (x : String Global). x ∷ drop (i + 1) files) (sym is))

pub among_found : (path file : List ℕ) (files others : List (List ℕ))
    → times path files ≡ times path (file ∷ others) → file ≡ path → times path files ≢ 0
among_found path file files others e s z =
    let t : bytes_eq path file ≡ true = equal path file (sym s) in
    suc-ne-zero (times path others)
    (sym (e ∙ ap (λ (b : Bool). cond b (suc (times path others)) (times path others)) t) ∙ z)

pub among_not : (path file : List ℕ) (others : List (List ℕ)) → file ≢ path
    → times path (file ∷ others) ≡ times path others
among_not path file others n =
    ap (λ (b : Bool). cond b (suc (times path others)) (times path others)) (differs path file (λ e. n (sym e)))

-- ---- the loops

abbrev pub changes_of : List MemoryChange → List Change
changes_of changes = map change_in changes

-- the changes so far, with the next one
changes_next : (changes : List MemoryChange) (i : ℕ) (change : MemoryChange) → i < length changes
    → change ≡ get_or changes i change
    → changes_of (take (i + 1) changes) ≡ changes_of (take i changes) ++ change_in change ∷ []
changes_next changes i change l is =
    map_more change_in changes i change l
    ∙ ap (λ (x : MemoryChange). changes_of (take i changes) ++ change_in x ∷ []) (sym is)

-- no file below the folder has the name of one of these changes
abbrev pub HasNone : List Change → List ℕ → List Change → Type 0
HasNone past folder seen = Listed past folder seen []

pub none_more : (past : List Change) (folder : List ℕ) (changes : List MemoryChange) (i : ℕ) (change : MemoryChange)
    (r : Option (Bor (List ℕ))) → i < length changes → change ≡ get_or changes i change
    → IsFileBelow past folder (name_of (change_in change)) r → is_some r ≡ false
    → HasNone past folder (changes_of (take i changes))
    → HasNone past folder (changes_of (take (i + 1) changes))
none_more past folder changes i change (Some path) l is f n h = absurd (false≢true (sym n))
none_more past folder changes i change None l is f n h =
    subst (HasNone past folder) (sym (changes_next changes i change l is))
    (listed_same past folder (changes_of (take i changes)) [] (change_in change) h (λ path e. inl (f path e)))

pub none_there : (past : List Change) (folder : List ℕ) → HasNone past folder past → ¬ IsFolder past folder
none_there past folder h = λ f.
    let z = listed_all past folder [] h f.0 in
    suc-ne-zero 0 (sym (z ∙ ap (λ (b : Bool). cond b 1 0) f.1))

pub some_there : (past : List Change) (folder name : List ℕ) (r : Option (Bor (List ℕ)))
    → IsFileBelow past folder name r → is_some r ≡ true → IsFolder past folder
some_there past folder name None f t = absurd (false≢true t)
some_there past folder name (Some path) f t = (path.now, f.1)

-- a file below the folder that isn't among those that are listed
pub listed_push : (past : List Change) (folder : List ℕ) (changes : List MemoryChange) (i : ℕ)
    (change : MemoryChange) (path : List ℕ) (files now : List (String Global)) (text : String Global)
    → i < length changes
    → change ≡ get_or changes i change → name_of (change_in change) ≡ below folder path
    → is_file past (below folder path) ≡ true → times path (texts_of files) ≡ 0 → string_bytes text ≡ path
    → now ≡ files ++ text ∷ [] → Listed past folder (changes_of (take i changes)) (texts_of files)
    → Listed past folder (changes_of (take (i + 1) changes)) (texts_of now)
listed_push past folder changes i change path files now text l is n f z t e h =
    let pushed : texts_of now ≡ texts_of files ++ path ∷ [] =
    ap texts_of e ∙ (map-append (λ (x : String Global). string_bytes x) files (text ∷ [])
    ∙ ap (λ (x : List ℕ). texts_of files ++ x ∷ []) t) in
    subst (λ seen. Listed past folder seen (texts_of now)) (sym (changes_next changes i change l is))
    (subst (Listed past folder (changes_of (take i changes) ++ change_in change ∷ [])) (sym pushed)
    (listed_more past folder (changes_of (take i changes)) (texts_of files) (change_in change) path h n f z))

-- no file below the folder, or one that is listed
pub listed_skip : (past : List Change) (folder : List ℕ) (changes : List MemoryChange) (i : ℕ)
    (change : MemoryChange) (r : Option (Bor (List ℕ))) (files : List (String Global)) → i < length changes
    → change ≡ get_or changes i change → IsFileBelow past folder (name_of (change_in change)) r
    → IfSome r (λ path. times path.now (texts_of files) ≢ 0)
    → Listed past folder (changes_of (take i changes)) (texts_of files)
    → Listed past folder (changes_of (take (i + 1) changes)) (texts_of files)
listed_skip past folder changes i change None files l is f n h =
    subst (λ seen. Listed past folder seen (texts_of files)) (sym (changes_next changes i change l is))
    (listed_same past folder (changes_of (take i changes)) (texts_of files) (change_in change) h
    (λ path e. inl (f path e)))
listed_skip past folder changes i change (Some path) files l is f n h =
    subst (λ seen. Listed past folder seen (texts_of files)) (sym (changes_next changes i change l is))
    (listed_same past folder (changes_of (take i changes)) (texts_of files) (change_in change) h
    (λ other e. inr (λ z. n (ap (λ (p : List ℕ). times p (texts_of files))
    (below_same folder path.now other (sym f.0 ∙ e)) ∙ z))))

-- all changes are done
pub changes_done : (changes : List MemoryChange) (i : ℕ) → length changes ≤ i
    → changes_of (take i changes) ≡ changes_of changes
changes_done changes i l = ap changes_of (take_all i changes l)
