-- Simpler trees give what a normal document is made of.
use Rattle.std.proofs.Common.{◌≡◌, ℕ, Bool, true, false, cond, List, [], ◌∷◌, ◌++◌, refl, sym, ap, ◌∙◌, subst, None}
use Rattle.std.proofs.Common.{append_assoc}
use Rattle.std.proofs.Common.{◌⊎◌, inl, inr}
use Rattle.std.specs.Prelude.{codes}
use Rattle.std.specs.Str.{is_utf8, chars}
use Rattle.std.proofs.lemmas.Str.{IsUtf8-from_is_utf8, IsUtf8-append}
use Rattle.htmd_lexical.specs.Characters.{line_feed, quotation_mark}
use Rattle.htmd_shown.specs.declared.role.Role.{Role}
use Rattle.htmd_shown.specs.declared.role.Role.TheVariants as role
use Rattle.htmd_shown.specs.AllTexts.{all_text, all_text_among, text_in, with_line_end, ends_line, formula_text}
use Rattle.htmd_shown.specs.AllTexts.{is_line, dollar_sign}
use Rattle.htmd_shown.specs.Attributes.{text_of, in_line}
use Rattle.htmd_shown.specs.Kinds.{has}
use Rattle.htmd_shown.specs.Roles as roles
use Rattle.htmd_shown.specs.Roles.{is_line_break}
use Rattle.htmd_shown.specs.SimpleTrees.{Simple, text, image, formula, embedded, anchor, element, Simples, none, more}
use Rattle.htmd_shown.specs.ShownTexts.{is_shown}
use Rattle.htmd_shown.specs.Spaces.{is_blank_text}
use Rattle.htmd_document.specs.NormalInlines.{is_attribute}
use Rattle.htmd_flow.specs.Contexts.{Context, apart}
use Rattle.htmd_flow.specs.Flows.{flow_all, node_of, nodes_of, anchors_apart, list_parts}
use Rattle.htmd_flow.specs.Parts.{Part, edge}
use Rattle.htmd_law_documents.proofs.NormalTextLemmas.{all-append}
use Rattle.htmd_law_documents.proofs.NormalLettersLemmas.{characters-append}
use Rattle.htmd_law_documents.proofs.NormalLeafLemmas.{IsId, AllIds}
use Rattle.htmd_law_documents.proofs.NormalPartsLemmas.{is_text_character, FineParts, FineFrom, Runs, Wait}
use Rattle.htmd_law_documents.proofs.NormalPartsLemmas.{Settles, alone, lone}
use Rattle.htmd_law_documents.proofs.NormalPartsLemmas.{after, good, waiting, fine-from, fine-append, fine-alone}
use Rattle.htmd_law_documents.proofs.NormalPartsLemmas.{fine-nil}
use Rattle.htmd_law_documents.proofs.NormalValueLemmas.{IsClean, IsBlack, clean-nil, shown-clean, AreTexts, value-text}
use Rattle.htmd_law_documents.proofs.NormalValueLemmas.{in_line-clean}
use Rattle.htmd_law_documents.proofs.NormalNodesLemmas.{bound, FitsIn, GivesFrom, Gives, FineNode}
use Rattle.htmd_law_documents.proofs.NormalElementLemmas.{IsSource, IsLevel}
use Rattle.htmd_law_documents.proofs.WrapperTableLemmas.{node-tree}
use lib.Utf8.{encode}

-- ---- trees

-- a node that shows in a line, right after anchors
pub record ShowsInLine (t : Simple) : Type 0 where
  pub no_item : has roles.is_item t ≡ false
  pub shows : GivesFrom waiting (node_of t).whole

-- a node that shows in a line where all is one line, and else is a code block
pub record ShowsApart (t : Simple) : Type 0 where
  pub no_item : has roles.is_item t ≡ false
  pub shows : (c : Context) → FitsIn c → c.is_flat ≡ true
      → FineFrom true (bound c) waiting ((node_of t).whole c)
  pub follows : (c : Context) → FitsIn c → c.is_flat ≡ false
      → FineFrom false (bound c) after ((node_of t).whole c)

-- nothing but anchors
abbrev pub AreIds : Simples → Type 0
AreIds none = Unit {0}
AreIds (more (anchor id) ts) = IsId id × AreIds ts
AreIds (more _ ts) = ⊥

abbrev mutual
  -- texts and values are as a document may have them, and anchors stand right before what shows
  pub IsFine : Simple → Type 0
  IsFine (text s) = IsClean s
  IsFine (image o attributes) = IsSource o × AreTexts attributes
  IsFine (formula tex is_alone attributes) = IsBlack tex
  IsFine (embedded id address title attributes ids) =
      (is_attribute address ≡ true) × IsClean title × (is_blank_text title ≡ false) × AllIds ids
  IsFine (anchor id) = ⊥
  IsFine (element id r facts attributes content) =
      AreTexts attributes × IsLevel r
      × (AreFine content ⊎ ((r ≡ role.Plain) × (IsLed content ⊎ IsLedApart content)))

  pub AreFine : Simples → Type 0
  AreFine none = Unit {0}
  AreFine (more t ts) = IsFine t × AreFine ts

  -- anchors, and a leaf
  pub IsLed : Simples → Type 0
  IsLed none = ⊥
  IsLed (more (anchor id) ts) = IsId id × IsLed ts
  IsLed (more t ts) = IsFine t × ShowsInLine t × (ts ≡ none)

  -- anchors in a paragraph of their own, and a leaf
  pub IsLedApart : Simples → Type 0
  IsLedApart (more (element id role.Anchors facts attributes inner) (more t ts)) =
      AreIds inner × IsFine t × ShowsApart t × (ts ≡ none)
  IsLedApart _ = ⊥

-- what the content of an element is
abbrev pub Content : Role → Simples → Type 0
Content r content = AreFine content ⊎ ((r ≡ role.Plain) × (IsLed content ⊎ IsLedApart content))

pub by-content : (A : Type 0) (r : Role) (content : Simples) → (AreFine content → A)
    → (r ≡ role.Plain → IsLed content → A) → (r ≡ role.Plain → IsLedApart content → A)
    → Content r content → A
by-content A r content f g h (inl k) = f k
by-content A r content f g h (inr (e, inl k)) = g e k
by-content A r content f g h (inr (e, inr k)) = h e k

-- ---- all text

clean-append : (s t : List ℕ) → IsClean s → IsClean t → IsClean (s ++ t)
clean-append s t g h = record {
  utf8 = IsUtf8-append s t g.utf8 h.utf8;
  seen = all-append is_text_character s t g.seen h.seen;
  shown = characters-append is_shown s t g.utf8 g.shown h.shown;
}

feed-clean : IsClean (line_feed ∷ [])
unfolding encode chars is_utf8
feed-clean = record { utf8 = IsUtf8-from_is_utf8 (line_feed ∷ []) refl; seen = refl; shown = refl }

pub mark-clean : IsClean (quotation_mark ∷ [])
unfolding encode chars is_utf8
mark-clean = record { utf8 = IsUtf8-from_is_utf8 (quotation_mark ∷ []) refl; seen = refl; shown = refl }

dollar-clean : IsClean (dollar_sign ∷ [])
unfolding encode chars is_utf8
dollar-clean = record { utf8 = IsUtf8-from_is_utf8 (dollar_sign ∷ []) refl; seen = refl; shown = refl }

formula-clean : (tex : List ℕ) → IsClean tex → IsClean (formula_text tex)
formula-clean tex h =
    clean-append (dollar_sign ∷ in_line tex) (dollar_sign ∷ [])
    (clean-append (dollar_sign ∷ []) (in_line tex) dollar-clean (in_line-clean tex h.utf8)) dollar-clean

line-end-clean : (s : List ℕ) → IsClean s → IsClean (with_line_end s)
line-end-clean s h = either (ends_line s)
  where
    either : (b : Bool) → IsClean (cond b s (s ++ line_feed ∷ []))
    either true = h
    either false = clean-append s (line_feed ∷ []) h feed-clean

role-clean : (r : Role) (inner : List ℕ) → IsClean inner → IsClean (text_in r inner)
role-clean r inner h = either (is_line_break r) (is_line r inner)
  where
    either : (b d : Bool) → IsClean (cond b (line_feed ∷ []) (cond d (with_line_end inner) inner))
    either true d = feed-clean
    either false true = line-end-clean inner h
    either false false = h

ids-text : (ts : Simples) → AreIds ts → IsClean (all_text_among ts)
ids-text none h = clean-nil
ids-text (more (anchor id) ts) h = ids-text ts h.1
ids-text (more (text s) ts) h = absurd h
ids-text (more (image o attributes) ts) h = absurd h
ids-text (more (formula tex is_alone attributes) ts) h = absurd h
ids-text (more (embedded id address title attributes ids) ts) h = absurd h
ids-text (more (element id r facts attributes content) ts) h = absurd h

one-text : (t : Simple) (ts : Simples) → IsClean (all_text t) → ts ≡ none → IsClean (all_text_among (more t ts))
one-text t ts h e =
    subst (λ (us : Simples). IsClean (all_text_among (more t us))) (sym e) (clean-append (all_text t) [] h clean-nil)

mutual
  pub text-fine : (t : Simple) → IsFine t → IsClean (all_text t)
  text-fine (text s) h = h
  text-fine (image o attributes) h =
      shown-clean (text_of (codes "alt") attributes) (value-text attributes (codes "alt") h.1)
  text-fine (formula tex is_alone attributes) h = formula-clean tex h.0
  text-fine (embedded id address title attributes ids) h = h.1
  text-fine (anchor id) h = absurd h
  text-fine (element id r facts attributes content) h =
      role-clean r (all_text_among content)
      (by-content (IsClean (all_text_among content)) r content (λ k. texts-fine content k) (λ e k. led-text content k)
      (λ e k. apart-text content k) h.2)

  pub texts-fine : (ts : Simples) → AreFine ts → IsClean (all_text_among ts)
  texts-fine none h = clean-nil
  texts-fine (more t ts) h = clean-append (all_text t) (all_text_among ts) (text-fine t h.0) (texts-fine ts h.1)

  led-text : (ts : Simples) → IsLed ts → IsClean (all_text_among ts)
  led-text none h = absurd h
  led-text (more (anchor id) ts) h = led-text ts h.1
  led-text (more (text s) ts) h = one-text (text s) ts (text-fine (text s) h.0) h.2
  led-text (more (image o attributes) ts) h =
      one-text (image o attributes) ts (text-fine (image o attributes) h.0) h.2
  led-text (more (formula tex is_alone attributes) ts) h =
      one-text (formula tex is_alone attributes) ts (text-fine (formula tex is_alone attributes) h.0) h.2
  led-text (more (embedded id address title attributes ids) ts) h =
      one-text (embedded id address title attributes ids) ts
      (text-fine (embedded id address title attributes ids) h.0) h.2
  led-text (more (element id r facts attributes content) ts) h =
      one-text (element id r facts attributes content) ts (text-fine (element id r facts attributes content) h.0) h.2

  apart-text : (ts : Simples) → IsLedApart ts → IsClean (all_text_among ts)
  apart-text (more (element id role.Anchors facts attributes inner) (more t ts)) h =
      clean-append (all_text_among inner) (all_text_among (more t ts)) (ids-text inner h.0)
      (one-text t ts (text-fine t h.1) h.3)
  apart-text ts h = absurd h

pub content-text : (r : Role) (content : Simples) → Content r content → IsClean (all_text_among content)
content-text r content h =
    by-content (IsClean (all_text_among content)) r content (λ k. texts-fine content k) (λ e k. led-text content k)
    (λ e k. apart-text content k) h

-- ---- anchors

module _ (n : ℕ) (c : Context) where
  -- nothing shows, and they wait there
  pub ids-lone : (E : Wait → Type 0) (ts : Simples) → AreIds ts → (ps : List Part) → Runs E false n lone ps
      → Runs E false n lone (flow_all (nodes_of ts) c ++ ps)
  unfolding node_of
  ids-lone E none h ps f = f
  ids-lone E (more (anchor id) ts) h ps f = (h.0, tt, ids-lone E ts h.1 ps f)
  ids-lone E (more (text s) ts) h ps f = absurd h
  ids-lone E (more (image o attributes) ts) h ps f = absurd h
  ids-lone E (more (formula tex is_alone attributes) ts) h ps f = absurd h
  ids-lone E (more (embedded id address title attributes ids) ts) h ps f = absurd h
  ids-lone E (more (element id r facts attributes content) ts) h ps f = absurd h

  pub ids-alone : (E : Wait → Type 0) (ts : Simples) → AreIds ts → (ps : List Part) → Runs E false n alone ps
      → Runs E false n lone ps → Runs E false n alone (flow_all (nodes_of ts) c ++ ps)
  unfolding node_of
  ids-alone E none h ps g f = g
  ids-alone E (more (anchor id) ts) h ps g f = (h.0, tt, ids-lone E ts h.1 ps f)
  ids-alone E (more (text s) ts) h ps g f = absurd h
  ids-alone E (more (image o attributes) ts) h ps g f = absurd h
  ids-alone E (more (formula tex is_alone attributes) ts) h ps g f = absurd h
  ids-alone E (more (embedded id address title attributes ids) ts) h ps g f = absurd h
  ids-alone E (more (element id r facts attributes content) ts) h ps g f = absurd h

  ids-wait : (ts : Simples) → AreIds ts → (ps : List Part) → FineFrom true n waiting ps
      → FineFrom true n waiting (flow_all (nodes_of ts) c ++ ps)
  unfolding node_of
  ids-wait none h ps f = f
  ids-wait (more (anchor id) ts) h ps f = (h.0, tt, ids-wait ts h.1 ps f)
  ids-wait (more (text s) ts) h ps f = absurd h
  ids-wait (more (image o attributes) ts) h ps f = absurd h
  ids-wait (more (formula tex is_alone attributes) ts) h ps f = absurd h
  ids-wait (more (embedded id address title attributes ids) ts) h ps f = absurd h
  ids-wait (more (element id r facts attributes content) ts) h ps f = absurd h

  ids-first : (ts : Simples) → AreIds ts → (ps : List Part) → FineFrom true n good ps
      → FineFrom true n waiting ps
      → FineFrom true n good (flow_all (nodes_of ts) c ++ ps)
  unfolding node_of
  ids-first none h ps g f = g
  ids-first (more (anchor id) ts) h ps g f = (h.0, tt, ids-wait ts h.1 ps f)
  ids-first (more (text s) ts) h ps g f = absurd h
  ids-first (more (image o attributes) ts) h ps g f = absurd h
  ids-first (more (formula tex is_alone attributes) ts) h ps g f = absurd h
  ids-first (more (embedded id address title attributes ids) ts) h ps g f = absurd h
  ids-first (more (element id r facts attributes content) ts) h ps g f = absurd h

-- ---- a leaf after anchors

-- what one node gives
pub one-flow : (t : Simple) (ts : Simples) (c : Context) (P : List Part → Type 0) → has roles.is_item t ≡ false
    → ts ≡ none
    → P ((node_of t).whole c ++ []) → P (flow_all (nodes_of (more t ts)) c)
unfolding node_of
one-flow t ts c P i e h =
    subst (λ (us : Simples). P (flow_all (nodes_of (more t us)) c)) (sym e)
    (subst (λ (b : Bool). P (cond b (list_parts None (node_of t ∷ []) c ++ []) ((node_of t).whole c ++ [])))
    (sym (ap (has roles.is_item) (node-tree t) ∙ i)) h)

pub leaf-good : (t : Simple) (ts : Simples) → FineNode (node_of t) → ShowsInLine t → ts ≡ none
    → Gives (flow_all (nodes_of (more t ts)))
leaf-good t ts n s e c f =
    one-flow t ts c (FineFrom c.is_flat (bound c) good) s.no_item e
    (fine-append c.is_flat (bound c) ((node_of t).whole c) [] (n.whole c f) (fine-nil c.is_flat (bound c)))

pub leaf-waits : (t : Simple) (ts : Simples) → ShowsInLine t → ts ≡ none
    → GivesFrom waiting (flow_all (nodes_of (more t ts)))
leaf-waits t ts s e c f =
    one-flow t ts c (FineFrom c.is_flat (bound c) waiting) s.no_item e
    (fine-from c.is_flat (bound c) waiting ((node_of t).whole c) [] (s.shows c f) (fine-nil c.is_flat (bound c)))

pub led-waits : (ts : Simples) → IsLed ts → GivesFrom waiting (flow_all (nodes_of ts))
unfolding node_of
led-waits none h c f = absurd h
led-waits (more (anchor id) ts) h c f = (h.0, tt, led-waits ts h.1 c f)
led-waits (more (text s) ts) h c f = leaf-waits (text s) ts h.1 h.2 c f
led-waits (more (image o attributes) ts) h c f = leaf-waits (image o attributes) ts h.1 h.2 c f
led-waits (more (formula tex is_alone attributes) ts) h c f =
    leaf-waits (formula tex is_alone attributes) ts h.1 h.2 c f
led-waits (more (embedded id address title attributes ids) ts) h c f =
    leaf-waits (embedded id address title attributes ids) ts h.1 h.2 c f
led-waits (more (element id r facts attributes content) ts) h c f =
    leaf-waits (element id r facts attributes content) ts h.1 h.2 c f

-- in a paragraph of their own, or in one line
module _ (c : Context) (f : FitsIn c) (inner : Simples) (ids : AreIds inner) where
  apart-first : (flat : Bool) (ps : List Part) → FineFrom flat (bound c) good ps
      → (flat ≡ true → FineFrom true (bound c) waiting ps)
      → (flat ≡ false → FineFrom false (bound c) after ps)
      → FineParts flat (bound c) (cond flat (flow_all (nodes_of inner) c) (apart (flow_all (nodes_of inner) c)) ++ ps)
  apart-first true ps g h k = ids-first (bound c) c inner ids ps g (h refl)
  apart-first false ps g h k =
      let n : ℕ = bound c in
      subst (λ (qs : List Part). FineFrom false n good (edge ∷ qs))
      (sym (append_assoc (flow_all (nodes_of inner) c) (edge ∷ []) ps))
      (tt, tt, ids-alone n c (Settles false) inner ids (edge ∷ ps) (tt, tt, fine-alone n ps g) (tt, tt, k refl))

-- the leaf after them
pub apart-good : (t : Simple) (ts inner : Simples) → FineNode (node_of t) → ShowsApart t → ts ≡ none
    → AreIds inner
    → Gives (λ c. anchors_apart (nodes_of inner) c ++ flow_all (nodes_of (more t ts)) c)
apart-good t ts inner n s e ids c f =
    let rest : List Part = flow_all (nodes_of (more t ts)) c in
    apart-first c f inner ids c.is_flat rest
    (one-flow t ts c (FineFrom c.is_flat (bound c) good) s.no_item e
    (fine-append c.is_flat (bound c) ((node_of t).whole c) [] (n.whole c f) (fine-nil c.is_flat (bound c))))
    (λ b. one-flow t ts c (FineFrom true (bound c) waiting) s.no_item e
    (fine-from true (bound c) waiting ((node_of t).whole c) [] (s.shows c f b) (fine-nil true (bound c))))
    (λ b. one-flow t ts c (FineFrom false (bound c) after) s.no_item e
    (fine-from false (bound c) after ((node_of t).whole c) [] (s.follows c f b) (fine-nil false (bound c))))
