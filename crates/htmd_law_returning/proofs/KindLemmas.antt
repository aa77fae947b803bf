-- Nodes with anchors before what shows in them: of which kinds they are, and what stands between them.
use Rattle.std.proofs.Common.{◌≡◌, ℕ, Bool, true, false, not, ◌||◌, List, [], ◌∷◌, refl, sym, ap}
use Rattle.std.proofs.Common.{◌∙◌}
use Rattle.std.specs.List.{list_any}
use Rattle.htmd_lexical.proofs.Cases.{test}
use Rattle.htmd_lexical.specs.Characters.{line_feed}
use Rattle.htmd_document_of_tree.specs.Anchors.{is_embedded}
use Rattle.htmd_flow.specs.Levels.{list_of}
use Rattle.htmd_shown.specs.declared.role.Role.{Role}
use Rattle.htmd_shown.specs.declared.role.Role.TheVariants as role
use Rattle.htmd_shown.specs.Kinds.{has}
use Rattle.htmd_shown.specs.Roles.{is_item, is_paragraph, is_verbatim}
use Rattle.htmd_shown.specs.Showings.{code_shows, image_shows}
use Rattle.htmd_shown.specs.SimpleTrees.{Simple, text, image, formula, embedded, anchor, element, Simples, none, more}
use Rattle.htmd_shown.specs.Spaces.{is_blank_text}
use Rattle.htmd_law_returning.proofs.LocalAnchors.{local, local_all, pending, pending_all, put_if}
use Rattle.htmd_law_returning.proofs.StartLemmas.{false-true}
use lib.Utf8.{encode}
use Rattle.std.specs.Str.{chars}

-- ---- kinds

-- neither what anchors stand in, nor what is put behind some, is of this kind
pub record IsInner (p : Role → Bool) : Type 0 where
  pub plain : p role.Plain ≡ false
  pub verbatim : (r : Role) → is_verbatim r ≡ true → p r ≡ false

module _ (p : Role → Bool) (inner : IsInner p) where
  put-kind : (b : Bool) (ids : List (List ℕ)) (t : Simple) → is_embedded t ≡ false → has p t ≡ false
      → has p (put_if b ids t) ≡ false
  put-kind false ids t e h = h
  put-kind true [] t e h = rw e h
  put-kind true (id ∷ ids) t e h = rw e inner.plain

  pub kind-local : (ids : List (List ℕ)) (t : Simple) → has p (local ids t) ≡ has p t
  kind-local ids (text s) = put-kind (not (is_blank_text s)) ids (text s) refl refl
  kind-local ids (image address attributes) =
      put-kind (image_shows address attributes) ids (image address attributes) refl refl
  kind-local ids (formula tex is_alone attributes) = put-kind true ids (formula tex is_alone attributes) refl refl
  kind-local ids (embedded id address title attributes found) = refl
  kind-local ids (anchor id) = refl
  kind-local ids (element id r facts attributes content) =
      test (is_verbatim r)
      (λ e. rw e (put-kind (code_shows content) ids (element id r facts attributes content) refl (inner.verbatim r e)
      ∙ sym (inner.verbatim r e)))
      (λ e. rw e refl)

  pub kinds-local : (ids : List (List ℕ)) (ts : Simples)
      → list_any (has p) (list_of (local_all ids ts)) ≡ list_any (has p) (list_of ts)
  kinds-local ids none = refl
  kinds-local ids (more t ts) =
      ap (λ b. b || list_any (has p) (list_of (local_all (pending ids t) ts))) (kind-local ids t)
      ∙ ap (λ b. has p t || b) (kinds-local (pending ids t) ts)

pub verbatim-only : (P : Role → Type 0) → P role.Preformatted → P role.Verbatim → (r : Role)
    → is_verbatim r ≡ true → P r
verbatim-only P a b role.Preformatted h = a
verbatim-only P a b role.Verbatim h = b
verbatim-only P a b r h = false-true h

pub item-inner : IsInner is_item
item-inner = record { plain = refl; verbatim = verbatim-only (λ r. is_item r ≡ false) refl refl }

pub paragraph-inner : IsInner is_paragraph
paragraph-inner = record { plain = refl; verbatim = verbatim-only (λ r. is_paragraph r ≡ false) refl refl }

-- ---- between line ends

abbrev pub line_tree : Simple
line_tree = text (line_feed ∷ [])

pub line-blank : is_blank_text (line_feed ∷ []) ≡ true
unfolding chars encode
line-blank = refl

pub line-behind : (ids : List (List ℕ)) (ts : Simples)
    → local_all ids (more line_tree ts) ≡ more line_tree (local_all ids ts)
unfolding chars encode
line-behind ids ts = refl

pub line-keeps : (ids : List (List ℕ)) (ts : Simples) → pending_all ids (more line_tree ts) ≡ pending_all ids ts
unfolding chars encode
line-keeps ids ts = refl

-- where no anchor waits
pub line-local : (ts : Simples) → local_all [] (more line_tree ts) ≡ more line_tree (local_all [] ts)
line-local ts = line-behind [] ts

pub line-waits : (ts : Simples) → pending_all [] (more line_tree ts) ≡ pending_all [] ts
line-waits ts = line-keeps [] ts

-- a node behind which none waits
pub node-local : (ids : List (List ℕ)) (t : Simple) (ts : Simples) → pending ids t ≡ []
    → local_all ids (more t (more line_tree ts)) ≡ more (local ids t) (more line_tree (local_all [] ts))
node-local ids t ts h =
    ap (λ js. more (local ids t) (local_all js (more line_tree ts))) h ∙ ap (more (local ids t)) (line-local ts)

pub node-waits : (ids : List (List ℕ)) (t : Simple) (ts : Simples) → pending ids t ≡ []
    → pending_all ids (more t (more line_tree ts)) ≡ pending_all [] ts
node-waits ids t ts h = ap (λ js. pending_all js (more line_tree ts)) h ∙ line-waits ts
