-- What nodes of the simpler tree say as text: all text in them, and nothing where they are blank.
use Rattle.std.proofs.Common.{◌≡◌, ℕ, Bool, true, false, cond, not, ◌&&◌, List, [], ◌∷◌, ◌++◌, refl, sym, ap}
use Rattle.std.specs.Prelude.{codes}
use Rattle.std.specs.Str.{IsUtf8}
use Rattle.std.proofs.lemmas.Str.{IsUtf8-nil}
use Rattle.htmd_lexical.specs.Characters.{line_feed}
use Rattle.htmd_shown.specs.declared.facts.Facts.{Facts}
use Rattle.htmd_shown.specs.declared.role.Role.{Role}
use Rattle.htmd_shown.specs.declared.role.Role.TheVariants as role
use Rattle.htmd_shown.specs.AllTexts.{dollar_sign, formula_text, text_in, ends_line, is_line, all_text}
use Rattle.htmd_shown.specs.AllTexts.{all_text_among}
use Rattle.htmd_shown.specs.Attributes.{text_of, in_line}
use Rattle.htmd_shown.specs.Kinds.{is_blank, are_blank}
use Rattle.htmd_shown.specs.Roles.{is_void}
use Rattle.htmd_shown.specs.SimpleTrees.{Simple, text, image, formula, embedded, anchor, element, Simples, none, more}
use Rattle.htmd_flow.specs.Flows.{is_grid_of}
use Rattle.htmd_law_documents.specs.DocumentTexts.{visible}
use Rattle.htmd_law_documents.specs.SimpleForms.{IsMade, IsSound, AreSound}
use Rattle.htmd_law_documents.specs.SimpleTexts.{formula_said, flat_in, grid_in, text_of_simple, text_of_simples}
use Rattle.htmd_law_documents.proofs.VisibleLemmas.{Shows, shows-nil, shows-itself, shows-append, shows-blank}
use Rattle.htmd_law_documents.proofs.VisibleLemmas.{seen-same, shown-shows, shows-character, shows-white}
use Rattle.htmd_law_documents.proofs.VisibleLemmas.{both-true}
use Rattle.htmd_law_documents.proofs.PiecesLemmas.{in_line-shows}
use Rattle.htmd_law_documents.proofs.CodeLemmas.{blank-seen}
use lib.Utf8.{encode}

pub dollar-shows : Shows (dollar_sign ∷ []) (dollar_sign ∷ [])
unfolding encode
dollar-shows = shows-character dollar_sign refl

pub feed-shows : Shows (line_feed ∷ []) []
unfolding encode
feed-shows = shows-white line_feed refl refl

pub false-true : {A : Type 0} → false ≡ true → A
false-true e = absurd (clash e)
  where
    clash : false ≡ true → ⊥
    clash p = (cc)

pub true-false : {A : Type 0} → true ≡ false → A
true-false e = absurd (clash e)
  where
    clash : true ≡ false → ⊥
    clash p = (cc)

pub not-true : (b : Bool) → not b ≡ true → b ≡ false
not-true true e = false-true e
not-true false e = refl

-- ---- formulas

-- between dollar signs
pub dollars-show : (s cs : List ℕ) → Shows s cs
    → Shows ((dollar_sign ∷ s) ++ dollar_sign ∷ []) ((dollar_sign ∷ cs) ++ dollar_sign ∷ [])
dollars-show s cs h =
    shows-append (dollar_sign ∷ s) (dollar_sign ∷ []) (dollar_sign ∷ cs) (dollar_sign ∷ [])
    (shows-append (dollar_sign ∷ []) s (dollar_sign ∷ []) cs dollar-shows h) dollar-shows

pub said-utf8 : (b : Bool) (tex : List ℕ) → IsUtf8 tex → IsUtf8 (formula_said b tex)
said-utf8 true tex u = u
said-utf8 false tex u = (dollars-show tex (visible tex) (shows-itself tex u)).utf8

formula-shows : (tex : List ℕ) → IsUtf8 tex → Shows (formula_text tex) (visible (formula_said false tex))
formula-shows tex u =
    seen-same (formula_text tex) ((dollar_sign ∷ visible tex) ++ dollar_sign ∷ [])
    (visible (formula_said false tex))
    (sym (dollars-show tex (visible tex) (shows-itself tex u)).is)
    (dollars-show (in_line tex) (visible tex) (in_line-shows tex u))

-- ---- all text

-- a line or none, which ends or doesn't
pub line-shows : (is_line ends : Bool) (s cs : List ℕ) → Shows s cs
    → Shows (cond is_line (cond ends s (s ++ line_feed ∷ [])) s) cs
line-shows true true s cs h = h
line-shows true false s cs h = shows-blank s (line_feed ∷ []) cs h feed-shows
line-shows false ends s cs h = h

module _ (facts : Facts) (content : Simples) (inner : List ℕ) (holds_grid : Bool)
    (h : (g : Bool) → Shows inner (visible (text_of_simples true g content))) where
  -- what an element says, and in one line
  abbrev said : Role → Bool → List ℕ
  said r g = cond (is_void r) [] (text_of_simples (flat_in r true g) (grid_in r holds_grid g) content)

  element-shows : (r : Role) (g : Bool) → IsMade r facts content → Shows (text_in r inner) (visible (said r g))
  element-shows role.LineBreak g m = seen-same (line_feed ∷ []) [] (visible []) (sym shows-nil.is) feed-shows
  element-shows role.ThematicBreak g m =
      line-shows (is_line role.ThematicBreak inner) (ends_line inner) inner (visible [])
      (seen-same inner (visible (text_of_simples true g content)) (visible [])
      (ap (λ ts. visible (text_of_simples true g ts)) (m.empty refl)) (h g))
  element-shows role.Cell true m = h false
  element-shows role.Cell false m = h false
  element-shows role.HeaderCell true m = h false
  element-shows role.HeaderCell false m = h false
  element-shows r g m =
      line-shows (is_line r inner) (ends_line inner) inner
      (visible (text_of_simples (flat_in r true g) (grid_in r holds_grid g) content)) (h _)

mutual
  all-text-shows : (t : Simple) → IsSound t → (g : Bool) → Shows (all_text t) (visible (text_of_simple true g t))
  all-text-shows (text s) u g = shows-itself s u
  all-text-shows (image address attributes) u g = shown-shows (text_of (codes "alt") attributes) u
  all-text-shows (formula tex true attributes) u g = formula-shows tex u
  all-text-shows (formula tex false attributes) u g = formula-shows tex u
  all-text-shows (embedded id address title attributes anchors) u g = shows-itself title u
  all-text-shows (anchor id) u g = shows-itself [] IsUtf8-nil
  all-text-shows (element id r facts attributes content) u g =
      element-shows facts content (all_text_among content) (is_grid_of content)
      (λ k. all-texts-show content u.1 k) r g u.0

  pub all-texts-show : (ts : Simples) → AreSound ts → (g : Bool)
      → Shows (all_text_among ts) (visible (text_of_simples true g ts))
  all-texts-show none u g = shows-itself [] IsUtf8-nil
  all-texts-show (more t ts) u g =
      let s : List ℕ = text_of_simple true g t in
      let rest : List ℕ = text_of_simples true g ts in
      seen-same (all_text t ++ all_text_among ts) (visible s ++ visible rest) (visible (s ++ rest))
      (sym (shows-append s rest (visible s) (visible rest) (shows-itself s (simple-utf8 t u.0 true g))
      (shows-itself rest (simples-utf8 ts u.1 true g))).is)
      (shows-append (all_text t) (all_text_among ts) (visible s) (visible rest) (all-text-shows t u.0 g)
      (all-texts-show ts u.1 g))

  pub simple-utf8 : (t : Simple) → IsSound t → (flat g : Bool) → IsUtf8 (text_of_simple flat g t)
  simple-utf8 (text s) u flat g = u
  simple-utf8 (image address attributes) u flat g = u
  simple-utf8 (formula tex is_alone attributes) u flat g = said-utf8 (is_alone && not flat) tex u
  simple-utf8 (embedded id address title attributes anchors) u flat g = u
  simple-utf8 (anchor id) u flat g = IsUtf8-nil
  simple-utf8 (element id r facts attributes content) u flat g =
      either-utf8 (is_void r) (simples-utf8 content u.1 (flat_in r flat g) (grid_in r (is_grid_of content) g))
    where
      either-utf8 : (b : Bool) {s : List ℕ} → IsUtf8 s → IsUtf8 (cond b [] s)
      either-utf8 true h = IsUtf8-nil
      either-utf8 false h = h

  pub simples-utf8 : (ts : Simples) → AreSound ts → (flat g : Bool) → IsUtf8 (text_of_simples flat g ts)
  simples-utf8 none u flat g = IsUtf8-nil
  simples-utf8 (more t ts) u flat g =
      let s : List ℕ = text_of_simple flat g t in
      let rest : List ℕ = text_of_simples flat g ts in
      (shows-append s rest (visible s) (visible rest) (shows-itself s (simple-utf8 t u.0 flat g))
      (shows-itself rest (simples-utf8 ts u.1 flat g))).utf8

-- ---- what is blank says nothing

mutual
  blank-unsaid : (t : Simple) → IsSound t → is_blank t ≡ true → (flat g : Bool)
      → Shows (text_of_simple flat g t) []
  blank-unsaid (text s) u e flat g = record { utf8 = u; is = blank-seen s e }
  blank-unsaid (image address attributes) u e flat g = false-true e
  blank-unsaid (formula tex is_alone attributes) u e flat g = false-true e
  blank-unsaid (embedded id address title attributes anchors) u e flat g = false-true e
  blank-unsaid (anchor id) u e flat g = shows-nil
  blank-unsaid (element id r facts attributes content) u e flat g =
      let parts = both-true (not (is_void r)) facts.is_blank e in
      either (is_void r)
      (blanks-unsaid content u.1 (u.0.blank parts.1) (flat_in r flat g) (grid_in r (is_grid_of content) g))
    where
      either : (b : Bool) {s : List ℕ} → Shows s [] → Shows (cond b [] s) []
      either true h = shows-nil
      either false h = h

  pub blanks-unsaid : (ts : Simples) → AreSound ts → are_blank ts ≡ true → (flat g : Bool)
      → Shows (text_of_simples flat g ts) []
  blanks-unsaid none u e flat g = shows-nil
  blanks-unsaid (more t ts) u e flat g =
      let parts = both-true (is_blank t) (are_blank ts) e in
      shows-append (text_of_simple flat g t) (text_of_simples flat g ts) [] [] (blank-unsaid t u.0 parts.0 flat g)
      (blanks-unsaid ts u.1 parts.1 flat g)

-- all text in what is blank says nothing
pub blank-text : (ts : Simples) → AreSound ts → are_blank ts ≡ true → Shows (all_text_among ts) []
blank-text ts u e =
    seen-same (all_text_among ts) (visible (text_of_simples true false ts)) [] (blanks-unsaid ts u e true false).is
    (all-texts-show ts u false)
