-- The trees of a table with the anchors that stand before what shows in them, and where their targets stand.
use Rattle.std.proofs.Common.{◌≡◌, ℕ, Bool, true, false, List, [], ◌∷◌, ◌++◌, refl, ap, ◌∙◌, subst}
use Rattle.std.proofs.lemmas.List.{append-nil}
use Rattle.htmd_lexical.specs.AttributePairs.{AttributePair}
use Rattle.htmd_lexical.specs.Characters.{line_feed}
use Rattle.htmd_document.specs.Documents.{Inlines, no_inlines, inline}
use Rattle.htmd_flow.specs.Grids.{with_cell}
use Rattle.htmd_shown.specs.declared.facts.Facts.{Facts}
use Rattle.htmd_shown.specs.declared.role.Role.TheVariants as role
use Rattle.htmd_shown.specs.Facts.{made, facts_of}
use Rattle.htmd_shown.specs.SimpleTrees.{Simple, Simples, none, more, element}
use Rattle.htmd_law_returning.specs.LastingAnchors.{Line, line, cells_of}
use Rattle.htmd_law_returning.specs.NoAnchors.{have_no_anchors}
use Rattle.htmd_law_returning.proofs.BareLemmas.{has_no_name}
use Rattle.htmd_law_returning.proofs.LocalAnchors.{local_all, pending, pending_all}
use Rattle.htmd_law_returning.proofs.LocalLines.{IsLocal, text-local, element-local, more-local}
use Rattle.htmd_law_returning.proofs.RichCellLemmas.{cell_role, line_tree}
use Rattle.htmd_law_returning.proofs.SoundBlocks.{AreSound, IsSound, sound-none, sound-line}
use Rattle.htmd_law_returning.proofs.SoundNodes.{sound-text, sound-more, sound-element}
use Rattle.htmd_law_returning.proofs.SoundTrees.{IsSoundLine}

-- nodes between line ends
abbrev pub lined : Simples → Simples
lined ts = more line_tree ts

-- ---- what stands before them

pub lined-local : (ts : Simples)
    → (local_all [] (lined ts) ≡ lined (local_all [] ts)) × (pending_all [] (lined ts) ≡ pending_all [] ts)
lined-local ts = more-local line_tree line_tree ts (text-local (line_feed ∷ []))

pub next-local : (t u : Simple) (ts : Simples) → IsLocal t u
    → (local_all [] (more t (lined ts)) ≡ more u (lined (local_all [] ts)))
    × (pending_all [] (more t (lined ts)) ≡ pending_all [] ts)
next-local t u ts h =
    let first = more-local t u (lined ts) h in
    let rest = lined-local ts in
    (first.0 ∙ ap (more u) rest.0, first.1 ∙ rest.1)

pub cell-local : (id : ℕ) (is_header : Bool) (facts : Facts) (pairs : List AttributePair) (content : Simples)
    → pending_all [] content ≡ []
    → IsLocal (element id (cell_role is_header) facts pairs content)
    (element id (cell_role is_header) facts pairs (local_all [] content))
cell-local id true facts pairs content h = element-local id role.HeaderCell facts pairs content refl refl h
cell-local id false facts pairs content h = element-local id role.Cell facts pairs content refl refl h

-- a row of these cells, with what is known of them
abbrev pub row_with : Facts → ℕ → Simples → Simple
row_with facts id cells = element id role.Row facts [] (lined cells)

abbrev pub row_tree : ℕ → Simples → Simple
row_tree id cells = row_with (facts_of (lined cells)) id cells

pub row-local : (id : ℕ) (cells : Simples) → pending_all [] cells ≡ []
    → IsLocal (row_tree id cells) (row_with (facts_of (lined cells)) id (local_all [] cells))
row-local id cells h =
    let facts : Facts = facts_of (lined cells) in
    let inner = lined-local cells in
    let own = element-local id role.Row facts [] (lined cells) refl refl (inner.1 ∙ h) in
    (own.0 ∙ ap (element id role.Row facts []) inner.0, own.1)

-- ---- where their targets stand

pub sound-next : (t : Simple) (ts : Simples) (ks ls : List Line) → pending [] t ≡ [] → IsSound t ks
    → AreSound ts ls
    → AreSound (more t (lined ts)) (ks ++ ls)
sound-next t ts ks ls w h k = sound-more t (lined ts) ks ls w h (sound-text (line_feed ∷ []) ts ls k)

pub sound-only : (t : Simple) (ks : List Line) → pending [] t ≡ [] → IsSound t ks
    → AreSound (more t (lined none)) ks
sound-only t ks w h =
    subst (λ ls. AreSound (more t (lined none)) ls) (append-nil ks) (sound-next t none ks [] w h sound-none)

pub sound-cell : (id : ℕ) (is_header : Bool) (pairs : List AttributePair) (content : Simples) (c : Inlines)
    → has_no_name pairs ≡ true → IsSoundLine c content
    → IsSound (made id (cell_role is_header) pairs content) (line false c ∷ [])
sound-cell id true pairs content c h k =
    sound-element id role.HeaderCell pairs content (line false c ∷ []) refl h (sound-line c content k)
sound-cell id false pairs content c h k =
    sound-element id role.Cell pairs content (line false c ∷ []) refl h (sound-line c content k)

pub sound-row : (id : ℕ) (cells : Simples) (ls : List Line) → AreSound cells ls → IsSound (row_tree id cells) ls
sound-row id cells ls h =
    sound-element id role.Row [] (lined cells) ls refl refl (sound-text (line_feed ∷ []) cells ls h)

-- an empty cell at the end is cut
pub sound-trimmed : (t : Simple) (ts : Simples) (c : Inlines) (cs : List Inlines) → pending [] t ≡ []
    → (have_no_anchors c ≡ true → IsSound t []) → IsSound t (line false c ∷ []) → AreSound ts (cells_of cs)
    → AreSound (more t (lined ts)) (cells_of (with_cell c cs))
sound-trimmed t ts no_inlines [] w bare h k = sound-next t ts [] [] w (bare refl) k
sound-trimmed t ts (inline x xs) [] w bare h k = sound-next t ts (line false (inline x xs) ∷ []) [] w h k
sound-trimmed t ts no_inlines (d ∷ cs) w bare h k =
    sound-next t ts (line false no_inlines ∷ []) (cells_of (d ∷ cs)) w h k
sound-trimmed t ts (inline x xs) (d ∷ cs) w bare h k =
    sound-next t ts (line false (inline x xs) ∷ []) (cells_of (d ∷ cs)) w h k
