-- Lemmas on what there is to see.
use Rattle.std.proofs.Common.{◌≡◌, ℕ, ◌+◌, Bool, true, false, cond, Some, None, List, [], ◌∷◌}
use Rattle.std.proofs.Common.{refl, ap, ◌∙◌, arith}
use Rattle.htmd_lexical.specs.AttributePairs.{AttributePair}
use Rattle.htmd_shown.specs.declared.facts.Facts.{Facts}
use Rattle.htmd_shown.specs.declared.role.Role.{Role}
use Rattle.htmd_shown.specs.Kinds.{content_of}
use Rattle.htmd_shown.specs.Roles.{is_verbatim}
use Rattle.htmd_shown.specs.SimpleTrees.{Simple, text, image, formula, embedded, anchor, element, Simples, simples_of}
use Rattle.htmd_shown.specs.Showings.{code_shows}
use Rattle.htmd_document_of_tree.specs.Seen.{seen, all_seen, leaf_shows, one_if}
use Rattle.htmd_document_of_tree.proofs.WalksLemmas.{gone}

abbrev pub after_seen : ℕ → Simple → ℕ
after_seen n tree = n + seen tree

pub all_seen-gone : (n : ℕ) (ts : List Simple) → n + all_seen (simples_of ts) ≡ gone after_seen n ts
all_seen-gone n [] = omega arith
all_seen-gone n (t ∷ ts) =
    let e : n + (seen t + all_seen (simples_of ts)) ≡ (n + seen t) + all_seen (simples_of ts) = omega arith in
    e ∙ all_seen-gone (n + seen t) ts

-- ---- leaves

some-same : (a b : Bool) → Some a ≡ Some b → a ≡ b
some-same a b e = cc

code-leaf : (v shows : Bool) (id : ℕ) (role : Role) (facts : Facts) (attributes : List AttributePair)
    (content : Simples)
    → is_verbatim role ≡ v → cond v (Some (code_shows content)) None ≡ Some shows
    → seen (element id role facts attributes content) ≡ one_if shows
code-leaf true shows id role facts attributes content verbatim e =
    rw verbatim (ap one_if (some-same (code_shows content) shows e))
code-leaf false shows id role facts attributes content verbatim e = cc

code-inside : (v : Bool) (id : ℕ) (role : Role) (facts : Facts) (attributes : List AttributePair) (content : Simples)
    → is_verbatim role ≡ v → cond v (Some (code_shows content)) None ≡ None
    → seen (element id role facts attributes content) ≡ all_seen content
code-inside true id role facts attributes content verbatim e = cc
code-inside false id role facts attributes content verbatim e = rw verbatim refl

pub seen-leaf : (shows : Bool) (tree : Simple) → leaf_shows tree ≡ Some shows → seen tree ≡ one_if shows
seen-leaf shows (text s) e = ap one_if (some-same _ shows e)
seen-leaf shows (image address attributes) e = ap one_if (some-same _ shows e)
seen-leaf shows (formula tex is_alone attributes) e = ap one_if (some-same true shows e)
seen-leaf shows (embedded id address title attributes found) e = ap one_if (some-same true shows e)
seen-leaf shows (anchor id) e = cc
seen-leaf shows (element id role facts attributes content) e =
    code-leaf (is_verbatim role) shows id role facts attributes content refl e

pub seen-inside : (tree : Simple) → leaf_shows tree ≡ None → seen tree ≡ all_seen (content_of tree)
seen-inside (text s) e = cc
seen-inside (image address attributes) e = cc
seen-inside (formula tex is_alone attributes) e = cc
seen-inside (embedded id address title attributes found) e = cc
seen-inside (anchor id) e = refl
seen-inside (element id role facts attributes content) e =
    code-inside (is_verbatim role) id role facts attributes content refl e
