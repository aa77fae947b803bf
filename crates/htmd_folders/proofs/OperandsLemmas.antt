-- What names lead to, one name after the other.
use Rattle.std.proofs.Common.{◌≡◌, ◌∙◌, refl, ap, sym, subst, ℕ, Bool, true, false, List, [], ◌∷◌, ◌++◌, map, codes}
use Rattle.std.proofs.Common.{append_assoc}
use Rattle.std.proofs.Common.{Option, Some, None, IfSome, ◌↔◌, ◌≢◌, ◌||◌, ◌+◌, ◌<◌, length, drop, get_or, string_bytes}
use Rattle.std.proofs.lemmas.Bool.{false≢true}
use Rattle.std.proofs.lemmas.List.{append-nil, drop_more}
use Rattle.std.specs.List.{list_any}
use Rattle.std.specs.declared.alloc.Global.{Global}
use Rattle.std.specs.declared.string.String.{String}
use Rattle.htmd_files.specs.declared.planning.Operand.{Operand}
use Rattle.htmd_files.specs.FilePlans as plans
use Rattle.htmd_files.specs.Names.{Kind, is_page}
use Rattle.htmd_files.specs.PlanViews.{operand_of}
use Rattle.htmd_files.specs.WordViews.{texts_of}
use Rattle.htmd_folders.specs.Changes.{Change, Makes}
use Rattle.htmd_folders.specs.Listings.{IsFolder}
use Rattle.htmd_folders.specs.Plans.{LeadTo, LeadsTo, missed_in}
use Rattle.htmd_folders.specs.PlanViews.{Finds, FindsFiles}

-- no file is changed by what changes none
pub nothing_made : (files : Option (List Change)) → Makes files files []
nothing_made None = tt
nothing_made (Some past) = refl

pub made_then : (before between after : Option (List Change)) → Makes before between [] → Makes between after []
    → Makes before after []
made_then None between after m n = tt
made_then (Some past) between after m n =
    let N : Option (List Change) → Type 0 = λ o. Makes o after [] in
    subst N m n

-- what is known before the changes, and after none
pub still_known : (P : List Change → Type 0) (before between : Option (List Change)) → Makes before between []
    → IfSome between P → IfSome before P
still_known P None between m h = tt
still_known P (Some past) between m h = subst (λ o. IfSome o P) m h

-- the operands of names, with one more
operands_more : (operands : List Operand) (operand : Operand)
    → map operand_of (operands ++ operand ∷ []) ≡ map operand_of operands ++ operand_of operand ∷ []
operands_more [] operand = refl
operands_more (first ∷ operands) operand =
    ap (λ others. operand_of first ∷ others) (operands_more operands operand)

paths_more : (operands : List plans.Operand) (operand : plans.Operand)
    → map plans.path_of (operands ++ operand ∷ []) ≡ map plans.path_of operands ++ plans.path_of operand ∷ []
paths_more [] operand = refl
paths_more (first ∷ operands) operand =
    ap (λ others. plans.path_of first ∷ others) (paths_more operands operand)

pub names_more : (operands now : List Operand) (operand : Operand) (names after : List (List ℕ)) (name : List ℕ)
    → now ≡ operands ++ operand ∷ [] → after ≡ names ++ name ∷ []
    → map plans.path_of (map operand_of operands) ≡ names → plans.path_of (operand_of operand) ≡ name
    → map plans.path_of (map operand_of now) ≡ after
names_more operands now operand names after name e f h p =
    ap (λ (x : List Operand). map plans.path_of (map operand_of x)) e
    ∙ (ap (λ (x : List plans.Operand). map plans.path_of x) (operands_more operands operand)
    ∙ (paths_more (map operand_of operands) (operand_of operand)
    ∙ (ap (λ (x : List (List ℕ)). x ++ plans.path_of (operand_of operand) ∷ []) h
    ∙ (ap (λ (x : List ℕ). names ++ x ∷ []) p ∙ sym f))))

lead_more : (past : List Change) (kind : Kind) (lists : Bool) (names : List (List ℕ)) (operands : List plans.Operand)
    (missed : List (List ℕ)) (name : List ℕ) (operand : plans.Operand) (more : List (List ℕ))
    → LeadTo past kind lists names operands missed → LeadsTo past kind lists name operand more
    → LeadTo past kind lists (names ++ name ∷ []) (operands ++ operand ∷ []) (missed ++ more)
lead_more past kind lists [] operands missed name operand more (e, f) h = (
  operand,
  [],
  more,
  [],
  h,
  (refl, refl),
  ap (λ (x : List plans.Operand). x ++ operand ∷ []) e,
  ap (λ (x : List (List ℕ)). x ++ more) f ∙ sym (append-nil more),
)
lead_more past kind lists (n ∷ names) operands missed name operand more (first, others, a, b, leads, rest, e, f) h = (
  first,
  others ++ operand ∷ [],
  a,
  b ++ more,
  leads,
  lead_more past kind lists names others b name operand more rest h,
  ap (λ (x : List plans.Operand). x ++ operand ∷ []) e,
  ap (λ (x : List (List ℕ)). x ++ more) f ∙ append_assoc a b more,
)

pub found_more : (before between : Option (List Change)) (kind : Kind) (lists : Bool) (names after : List (List ℕ))
    (operands now : List Operand) (missed missed_now : List (List ℕ)) (name : List ℕ) (operand : Operand)
    → Makes before between [] → now ≡ operands ++ operand ∷ [] → after ≡ names ++ name ∷ []
    → IfSome before (λ past. LeadTo past kind lists names (map operand_of operands) missed)
    → Finds between kind lists name operand missed missed_now
    → IfSome before (λ past. LeadTo past kind lists after (map operand_of now) missed_now)
found_more None between kind lists names after operands now missed missed_now name operand m e f h found = tt
found_more (Some past) between kind lists names after operands now missed missed_now name operand m e f h found =
    let here = subst (λ o. Finds o kind lists name operand missed missed_now) m found in
    let more = here.0 in
    let O : List plans.Operand → Type 0 = λ x. LeadTo past kind lists after x missed_now in
    let N : List (List ℕ) → Type 0 =
    λ x. LeadTo past kind lists x (map operand_of operands ++ operand_of operand ∷ []) missed_now in
    let M : List (List ℕ) → Type 0 =
    λ x. LeadTo past kind lists (names ++ name ∷ []) (map operand_of operands ++ operand_of operand ∷ []) x in
    subst O (sym (ap (map operand_of) e ∙ operands_more operands operand))
    (subst N (sym f) (subst M (sym here.2)
    (lead_more past kind lists names (map operand_of operands) missed name (operand_of operand) more h here.1)))

-- ---- one name

-- it is `-`
pub found_input : (before : Option (List Change)) (kind : Kind) (lists : Bool) (name : List ℕ) (operand : Operand)
    (missed : List (List ℕ)) → operand_of operand ≡ plans.standard_input → name ≡ codes "-"
    → Finds before kind lists name operand missed missed
found_input None kind lists name operand missed o e = tt
found_input (Some past) kind lists name operand missed o e =
    let P : plans.Operand → Type 0 = λ x. LeadsTo past kind lists name x [] in
    ([], subst P (sym o) (e, refl), sym (append-nil missed))

-- it is that of no folder
pub found_file : (before : Option (List Change)) (kind : Kind) (lists : Bool) (name path : List ℕ) (operand : Operand)
    (missed : List (List ℕ)) → operand_of operand ≡ plans.file path → name ≢ codes "-" → path ≡ name
    → IfSome before (λ past. ¬ IsFolder past name) → Finds before kind lists name operand missed missed
found_file None kind lists name path operand missed o n e h = tt
found_file (Some past) kind lists name path operand missed o n e h =
    let P : plans.Operand → Type 0 = λ x. LeadsTo past kind lists name x [] in
    ([], subst P (sym o) (n, e, h, refl), sym (append-nil missed))

-- a folder is there
pub folder_there : (before : Option (List Change)) (name : List ℕ) (r : Bool)
    → IfSome before (λ past. (r ≡ true) ↔ IsFolder past name) → r ≡ true
    → IfSome before (λ past. IsFolder past name)
folder_there None name r h t = tt
folder_there (Some past) name r h t = h.0 t

-- it is that of a folder, whose files are listed or not
pub found_folder : (before between : Option (List Change)) (kind : Kind) (lists : Bool) (name path : List ℕ)
    (files : List (List ℕ)) (operand : Operand) (missed missed_now : List (List ℕ)) → Makes before between []
    → operand_of operand ≡ plans.folder path files → name ≢ codes "-" → path ≡ name
    → IfSome before (λ past. IsFolder past name)
    → (lists ≡ true → FindsFiles between kind name files missed missed_now)
    → (lists ≡ false → missed_now ≡ missed) → Finds before kind lists name operand missed missed_now
found_folder None between kind lists name path files operand missed missed_now m o n e h f k = tt
found_folder (Some past) between kind true name path files operand missed missed_now m o n e h f k =
    let here = subst (λ o. FindsFiles o kind name files missed missed_now) m (f refl) in
    let P : plans.Operand → Type 0 = λ x. LeadsTo past kind true name x (missed_in kind name files) in
    (missed_in kind name files, subst P (sym o) (n, e, h, λ _. (here.0, refl)), here.1)
found_folder (Some past) between kind false name path files operand missed missed_now m o n e h f k =
    let P : plans.Operand → Type 0 = λ x. LeadsTo past kind false name x [] in
    ([], subst P (sym o) (n, e, h, λ t. absurd (false≢true t)), k refl ∙ sym (append-nil missed))

-- ---- the files of a folder

page_more : (kind : Kind) (files : List (String Global)) (i : ℕ) (file : String Global) → i < length files
    → file ≡ get_or files i file
    → list_any (is_page kind) (texts_of (drop i files))
    ≡ (is_page kind (string_bytes file) || list_any (is_page kind) (texts_of (drop (i + 1) files)))
page_more kind files i file l is =
    ap (λ (x : List (String Global)). list_any (is_page kind) (texts_of x))
    (drop_more files i file l ∙ ap (λ (x : String Global). x ∷ drop (i + 1) files) (sym is))

pub page_found : (kind : Kind) (files : List (String Global)) (i : ℕ) (file : String Global) → i < length files
    → file ≡ get_or files i file → is_page kind (string_bytes file) ≡ true
    → list_any (is_page kind) (texts_of (drop i files)) ≡ true
page_found kind files i file l is t =
    page_more kind files i file l is
    ∙ ap (λ (b : Bool). b || list_any (is_page kind) (texts_of (drop (i + 1) files))) t

pub page_next : (kind : Kind) (files : List (String Global)) (i : ℕ) (file : String Global) → i < length files
    → file ≡ get_or files i file → is_page kind (string_bytes file) ≡ false
    → list_any (is_page kind) (texts_of (drop i files)) ≡ list_any (is_page kind) (texts_of (drop (i + 1) files))
page_next kind files i file l is f =
    page_more kind files i file l is
    ∙ ap (λ (b : Bool). b || list_any (is_page kind) (texts_of (drop (i + 1) files))) f
