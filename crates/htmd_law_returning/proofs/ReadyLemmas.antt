-- Between blocks: where a block may begin, and what the page gives then.
use Rattle.std.proofs.Common.{◌≡◌, ℕ, Bool, false, ◌&&◌, cond, List, [], ◌∷◌, ◌++◌}
use Rattle.std.proofs.Common.{refl}
use Rattle.std.proofs.Common.{ap, ◌∙◌}
use Rattle.std.proofs.Common.{◌==◌, length, sym}
use Rattle.std.specs.Str.{chars}
use Rattle.std.proofs.lemmas.List.{append-nil}
use Rattle.htmd_lexical.specs.Characters.{line_feed}
use Rattle.htmd_document.specs.Documents.{Block}
use Rattle.htmd_flow.specs.Contexts.{Context, bare_in}
use Rattle.htmd_flow.specs.declared.paragraphs.Met.TheVariants as met
use Rattle.htmd_flow.specs.Flows.{node_of, nodes_of, flow_all}
use Rattle.htmd_flow.specs.Paragraphs.{Writing, broken_off, ended, fed, is_boxed_item}
use Rattle.htmd_flow.specs.Paragraphs.{is_box}
use Rattle.htmd_flow.specs.Parts.{Part, run, edge, whole}
use Rattle.htmd_shown.specs.SimpleTrees.{Simples, text, none, more}
use Rattle.htmd_law_returning.proofs.PageLemmas.{and-false}
use Rattle.htmd_law_returning.proofs.StartLemmas.{clean}
use Rattle.htmd_law_returning.proofs.StartLemmas.{Mode, is_flat_mode}
use lib.Utf8.{encode}

-- so many quotes around
abbrev pub here : Bool → ℕ → Context
here is_rich n = record (bare_in is_rich) { nested = n }

abbrev pub parts_of : Bool → ℕ → Simples → List Part
parts_of is_rich n ts = flow_all (nodes_of ts) (here is_rich n)

-- ---- between blocks

-- nothing is boxed after what is no box
pub no-box : (w : Writing) → is_box w.met ≡ false → is_boxed_item w ≡ false
no-box w h = ap (λ b. (w.in_item && (length w.done == 0)) && b) h ∙ and-false (w.in_item && (length w.done == 0))

-- after these blocks, where the next one may begin
pub record IsReady (mode : Mode) (w : Writing) (done : List Block) : Type 0 where
  pub flat : w.is_flat ≡ false
  pub boxed : is_boxed_item w ≡ false
  pub end : record (ended w) { met = met.Nothing } ≡ clean mode done

pub clean-ready : (mode : Mode) (done : List Block) → is_flat_mode mode ≡ false → IsReady mode
    (clean mode done) done
clean-ready mode done h = record {
  flat = h;
  boxed = no-box (clean mode done) refl;
  end = ap (clean mode) (append-nil done);
}

-- white space between blocks is none
pub line-ready : (mode : Mode) (done : List Block) → is_flat_mode mode ≡ false
    → IsReady mode (fed (clean mode done) (run (line_feed ∷ []) [] false)) done
unfolding chars encode
line-ready mode done h = record {
  flat = h;
  boxed = no-box (fed (clean mode done) (run (line_feed ∷ []) [] false)) refl;
  end = ap (clean mode) (append-nil done);
}

module _ (mode : Mode) (w : Writing) (done : List Block) (h : IsReady mode w done) where
  pub edge-fed : fed w edge ≡ clean mode done
  edge-fed =
      ap (λ b. cond b (broken_off w) (cond (is_boxed_item w) w (record (ended w) { met = met.Nothing }))) h.flat
      ∙ (ap (λ b. cond b w (record (ended w) { met = met.Nothing })) h.boxed ∙ h.end)

  pub whole-fed : (b : Block) → fed w (whole b) ≡ clean mode (done ++ b ∷ [])
  whole-fed b =
      ap (λ x. cond x (broken_off w) (record (ended w) { done = (ended w).done ++ b ∷ []; met = met.Nothing }))
      h.flat
      ∙ ap (λ (v : Writing). record v { done = v.done ++ b ∷ [] }) h.end

  pub all-done : (ended w).done ≡ done
  all-done = ap (λ v. v.done) h.end

-- ---- blocks

module _ (mode : Mode) (w : Writing) (done : List Block) (h : IsReady mode w done) where
  pub ready-flat : is_flat_mode mode ≡ false
  ready-flat = sym (ap (λ v. v.is_flat) h.end) ∙ h.flat

  -- a block between edges
  pub apart-fed : (b : Block) → fed (fed (fed w edge) (whole b)) edge ≡ clean mode (done ++ b ∷ [])
  apart-fed b =
      ap (λ v. fed (fed v (whole b)) edge) (edge-fed mode w done h)
      ∙ (ap (λ v. fed v edge) (whole-fed mode (clean mode done) done (clean-ready mode done ready-flat) b)
      ∙ edge-fed mode (clean mode (done ++ b ∷ [])) (done ++ b ∷ [])
      (clean-ready mode (done ++ b ∷ []) ready-flat))

-- ---- what elements give

module _ (is_rich : Bool) (n id : ℕ) where
  pub none-parts : parts_of is_rich n none ≡ []
  unfolding node_of
  none-parts = refl

  pub text-parts : (s : List ℕ) (ts : Simples)
      → parts_of is_rich n (more (text s) ts) ≡ run s [] false ∷ parts_of is_rich n ts
  unfolding node_of
  text-parts s ts = refl
