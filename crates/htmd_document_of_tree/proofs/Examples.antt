-- Worked rows of what a page's links and anchors are.
use Rattle.std.proofs.Common.{◌≡◌, ℕ, Bool, true, false, List, [], ◌∷◌, None, refl}
use Rattle.std.specs.Prelude.{codes}
use Rattle.std.specs.Str.{chars}
use Rattle.htmd_lexical.specs.AttributePairs.{AttributePair}
use Rattle.htmd_shown.specs.declared.role.Role.TheVariants as role
use Rattle.htmd_shown.specs.Facts.{facts_of, made}
use Rattle.htmd_shown.specs.SimpleTrees.{Simple, text, anchor, element, Simples, none, more}
use Rattle.htmd_document_of_tree.specs.declared.anchors.Anchors.TheVariants as which
use Rattle.htmd_document_of_tree.specs.Anchors.{anchored, apart, before}
use Rattle.htmd_document_of_tree.specs.FirstPieces.{cut_leaf, unlinked}
use Rattle.htmd_document_of_tree.specs.Leadings.{all_leadings}
use Rattle.htmd_document_of_tree.specs.Limits.{limited, within}
use Rattle.htmd_document_of_tree.specs.Seen.{all_seen}
use Rattle.htmd_document_of_tree.specs.Targets.{Target, firsts}
use lib.Utf8.{encode}

abbrev by : List ℕ → List ℕ → List AttributePair
by name value = record { name = name; value = value } ∷ []

abbrev said : List ℕ → Simples
said s = more (text s) none

abbrev link : List ℕ → Simples → Simple
link address content = made 1 role.Link (by (codes "href") address) content

abbrev target : List ℕ → Bool → ℕ → Target
target value is_name n = record { value = value; is_name = is_name; seen = n }

-- ---- limits

-- a small page keeps its links
pub limited-small : limited (more (link (codes "b") (said (codes "a"))) none)
    ≡ more (link (codes "b") (said (codes "a"))) none
unfolding chars encode
limited-small = refl

-- with nothing left a link is its content
pub limited-spent : within None (link (codes "b") (said (codes "a")))
    ≡ element 1 role.Target (facts_of (said (codes "a"))) (by (codes "href") (codes "b")) (said (codes "a"))
unfolding chars encode
limited-spent = refl

-- the 65th piece isn't in the link
pub piece-last : cut_leaf (record { count = 63; breaks = 2 }) (text (codes "a")) ≡ text (codes "a")
unfolding chars encode
piece-last = refl

pub piece-past : cut_leaf (record { count = 64; breaks = 2 }) (text (codes "a")) ≡ unlinked (text (codes "a"))
unfolding chars encode
piece-past = refl

-- ---- where links lead

-- white space is nothing to see
pub seen-two : all_seen (more (text (codes "a")) (more (text (codes " ")) (said (codes "b")))) ≡ 2
unfolding chars encode
seen-two = refl

-- a link that shows nothing isn't written
pub leads-nowhere : all_leadings false (more (link (codes "#x") (said (codes " "))) none) ≡ []
unfolding chars encode
leads-nowhere = refl

-- the first of each value; a name that is an id too is none
pub firsts-three : firsts
    (target (codes "x") false 0 ∷ target (codes "x") false 1 ∷ target (codes "y") true 2 ∷ [])
    ≡ target (codes "x") false 0 ∷ target (codes "y") true 2 ∷ []
firsts-three = refl

pub firsts-name : firsts (target (codes "x") true 0 ∷ target (codes "x") false 1 ∷ [])
    ≡ target (codes "x") false 1 ∷ []
firsts-name = refl

-- ---- anchors

abbrev paragraph : List ℕ → Simples → Simple
paragraph id content = made 2 role.Paragraph (by (codes "id") id) content

-- before the first thing to see from there on
pub anchored-all : anchored which.All false (more (paragraph (codes "x") (said (codes "a"))) none)
    ≡ more (element 2 role.Paragraph (facts_of (said (codes "a"))) (by (codes "id") (codes "x"))
    (more (before (more (anchor (codes "x")) none) (text (codes "a"))) none)) none
unfolding chars encode
anchored-all = refl

-- what nothing follows stands at the end
pub anchored-last : anchored which.All false (more (paragraph (codes "x") none) none)
    ≡ more (paragraph (codes "x") none) (more (apart (more (anchor (codes "x")) none)) none)
unfolding chars encode
anchored-last = refl

-- no link leads there
pub anchored-none : anchored which.Linked false (more (paragraph (codes "x") (said (codes "a"))) none)
    ≡ more (paragraph (codes "x") (said (codes "a"))) none
unfolding chars encode
anchored-none = refl
