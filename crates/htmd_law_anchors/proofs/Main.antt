-- The law of anchors.
use Rattle.std.proofs.Common.{◌≡◌, ℕ, Bool, false, true, List, refl, sym, ap, ◌∙◌, subst}
use Rattle.std.proofs.Common.{◌++◌, map}
use Rattle.std.specs.List.{All}
use Rattle.htmd_shown.specs.Shown.{shown_in}
use Rattle.htmd_shown.specs.SimpleTrees.{Simple, text, image, formula, embedded, anchor, element, Simples, none, more}
use Rattle.htmd_flow.specs.Contexts.{bare_in}
use Rattle.htmd_flow.specs.Flows.{document_of}
use Rattle.htmd_document_of_tree.specs.declared.anchors.Anchors.{Anchors}
use Rattle.htmd_document_of_tree.specs.declared.anchors.Anchors.TheVariants as which
use Rattle.htmd_document_of_tree.specs.Anchors.{Placing, placing_after_all, all_placed, values_of, last_anchors}
use Rattle.htmd_document_of_tree.specs.Anchors.{targets_by, anchored}
use Rattle.htmd_document_of_tree.specs.FirstPieces.{pieced_all}
use Rattle.htmd_document_of_tree.specs.Limits.{limited}
use Rattle.htmd_document_of_tree.specs.Targets.{Target}
use Rattle.htmd_document_of_tree.specs.TreeDocuments.{document_by, document_of_tree}
use Rattle.htmd_law_documents.specs.SimpleForms.{AreSound}
use Rattle.htmd_law_documents.proofs.Readers.{read_trees}
use Rattle.htmd_law_documents.proofs.ShownTreeLemmas.{page-sound}
use Rattle.htmd_law_documents.proofs.SoundLemmas.{limited-sound, anchored-sound, pieced-sound}
use Rattle.htmd_law_documents.proofs.WrapperTreeLemmas.{HaveAddress, HaveAddresses, document-keeps}
use Rattle.htmd_law_anchors.specs.DocumentMarks.{Mark, place, marks_of_blocks}
use Rattle.htmd_law_anchors.specs.ShownThings.{ShowAll}
use Rattle.htmd_law_anchors.specs.AnchorLaws.{with_places, ids_of, Stands, HasAnchors, LinksLeadThere, NoneStand}
use Rattle.htmd_law_anchors.proofs.MarkReader.{marks, blocks-marks}
use Rattle.htmd_law_anchors.proofs.MarkTreeLemmas.{MarkAll, trees-read}
use Rattle.htmd_law_anchors.proofs.PieceMarkLemmas.{pieced-marks}
use Rattle.htmd_law_anchors.proofs.PlacedLemmas.{AreBare, put, put-all, ArePlaced, split-marks, last-marks}
use Rattle.htmd_law_anchors.proofs.PlacedLemmas.{trees-placed}
use Rattle.htmd_law_anchors.proofs.StandLemmas.{stand-fit, anchored-stand, pieced-stand}
use Rattle.htmd_law_anchors.proofs.BareTreeLemmas.{page-bare, limited-bare}
use Rattle.htmd_law_anchors.proofs.LimitLemmas.{limited-show}
use Rattle.htmd_law_anchors.proofs.TargetLemmas.{AreTargets, targets-good}
use Rattle.htmd_law_anchors.proofs.StandingLemmas.{all-ids, all-stand}

-- nothing is taken from addresses
abbrev no-link : ℕ → Unit {0}
no-link id = tt

mutual
  no-address : (t : Simple) → HaveAddress marks no-link t
  no-address (text s) = tt
  no-address (image address attributes) = tt
  no-address (formula tex is_alone attributes) = tt
  no-address (embedded id address title attributes anchors) = refl
  no-address (anchor id) = tt
  no-address (element id r facts attributes content) = (λ e. refl, no-addresses content)

  no-addresses : (ts : Simples) → HaveAddresses marks no-link ts
  no-addresses none = tt
  no-addresses (more t ts) = (no-address t, no-addresses ts)

-- ---- of trees without anchors

record InOrder (which : Anchors) (rich : Bool) (ts : Simples) : Type 0 where
  things : List (List ℕ)
  show : ShowAll false false ts things
  is : marks_of_blocks (document_of rich (pieced_all (anchored which rich ts)))
      ≡ with_places 0 (targets_by which rich ts) things

in-order : (which : Anchors) (rich : Bool) (ts : Simples) → AreSound ts → AreBare ts → InOrder which rich ts
in-order which rich ts u b =
    let us : Simples = anchored which rich ts in
    let all : Simples = pieced_all us in
    let ms : List Mark = read_trees marks all (bare_in rich) false in
    let sound : AreSound all = pieced-sound us (anchored-sound which rich ts u) in
    let read : marks_of_blocks (document_of rich all) ≡ ms =
    sym (blocks-marks (document_of rich all))
    ∙ document-keeps marks no-link rich all
    (stand-fit marks true all sound (pieced-stand true us (anchored-stand which rich ts b))) (no-addresses all) in
    let have : MarkAll false false us ms =
    pieced-marks us false false ms (trees-read all sound (bare_in rich) false) in
    let p : Placing = record { seen = 0; targets = targets_by which rich ts } in
    let left : List Target = (placing_after_all p ts).targets in
    let parts = split-marks (all_placed p ts) (last_anchors left) false false ms have in
    let h : ArePlaced p false false ts parts.0 = trees-placed ts u b p false false parts.0 parts.3 in
    record {
      things = h.things;
      show = h.show;
      is = read
          ∙ (parts.2
          ∙ (ap (λ x. x ++ parts.1) h.is
          ∙ (ap (λ x. put p h.things ++ x)
          (last-marks left false false parts.1 parts.4 ∙ ap (λ q. map place (values_of q.targets)) h.next)
          ∙ put-all p h.things)));
    }

has-anchors : (which : Anchors) (rich : Bool) (shown ts : Simples)
    → ((things : List (List ℕ)) → ShowAll false false ts things → ShowAll false false shown things)
    → AreSound ts → AreBare ts
    → HasAnchors shown (targets_by which rich ts) (document_of rich (pieced_all (anchored which rich ts)))
has-anchors which rich shown ts same u b =
    let h : InOrder which rich ts = in-order which rich ts u b in
    let targets : List Target = targets_by which rich ts in
    let good : AreTargets targets = targets-good which rich ts in
    record {
      things = h.things;
      show = same h.things h.show;
      in_order = h.is;
      stand = subst (λ (ms : List Mark). All (Stands h.things ms) targets) (sym h.is)
          (all-stand h.things good.until targets good.climb);
      ids = ap ids_of h.is ∙ all-ids 0 targets h.things;
      unique = good.unique;
      filled = good.filled;
    }

-- ---- of pages

pub links_lead_there : LinksLeadThere
unfolding document_of_tree document_by
links_lead_there which sight tree e =
    let shown : Simples = shown_in sight tree in
    has-anchors which sight.is_rich shown (limited shown) (λ things h. limited-show shown false false things h)
    (limited-sound shown (page-sound sight tree e)) (limited-bare shown (page-bare sight tree))

pub none_stand : NoneStand
none_stand sight tree e = (links_lead_there which.None sight tree e).ids
