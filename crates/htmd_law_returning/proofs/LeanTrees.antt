-- What is known of nodes by the blocks that they give: on a rich page something shows if there is a block that isn't
-- anchors alone; and no table is among those of paragraphs.
use Rattle.std.proofs.Common.{◌≡◌, ℕ, Bool, true, false, not, ◌&&◌, ◌||◌, [], ◌∷◌}
use Rattle.std.proofs.Common.{refl, sym, ap, ◌∙◌}
use Rattle.std.specs.Str.{chars}
use Rattle.std.proofs.lemmas.Bool.{and_parts}
use Rattle.htmd_lexical.specs.Characters.{line_feed}
use Rattle.htmd_document.specs.Documents.{Inlines, Block, paragraph, code_block, quote}
use Rattle.htmd_document.specs.Documents.{thematic_break, Blocks, no_blocks, block}
use Rattle.htmd_document.specs.NormalInlines.{are_anchors}
use Rattle.htmd_document.specs.TightItems.{is_filled}
use Rattle.htmd_shown.specs.Facts.{made}
use Rattle.htmd_shown.specs.Kinds.{has_table, have_table}
use Rattle.htmd_shown.specs.Showings.{shows, show}
use Rattle.htmd_shown.specs.SimpleTrees.{Simple, Simples, text, none, more}
use Rattle.htmd_shown.specs.declared.role.Role.TheVariants as role
use Rattle.htmd_document.specs.LoneAnchors.{is_alone, stand_alone}
use Rattle.htmd_document_of_tree.specs.Seen.{seen, all_seen}
use Rattle.htmd_law_returning.proofs.KeptBlocks.{block_keeps, blocks_keep}
use Rattle.htmd_law_returning.specs.LastingAnchors.{heading_keeps, is_unseen, are_unseen, block_leads, title_keeps}
use Rattle.htmd_law_returning.specs.SettledDocuments.{behind_box}
use Rattle.htmd_law_returning.proofs.FirstTargets.{IsLead}
use Rattle.htmd_law_returning.proofs.LocalAnchors.{come_first, comes_first}
use Rattle.htmd_law_returning.proofs.LineFactLemmas.{AreLineTrees}
use Rattle.htmd_law_returning.proofs.StartLemmas.{has_task, false-true, true-false, from-not}
use lib.Utf8.{encode}

-- ---- blocks

-- a paragraph without a task, and not of anchors alone
abbrev pub is_plain : Block → Bool
is_plain (paragraph xs) = not (has_task xs) && not (are_anchors xs)
is_plain b = false

abbrev pub are_plain : Blocks → Bool
are_plain no_blocks = true
are_plain (block b bs) = is_plain b && are_plain bs

-- a block is more than anchors alone
abbrev pub is_black : Blocks → Bool
is_black no_blocks = false
is_black (block b bs) = not (is_alone b) || is_black bs

-- before a code block something is there to see
pub black-filled : (d : Blocks) → blocks_keep false d ≡ true → is_black d ≡ is_filled d
black-filled no_blocks h = refl
black-filled (block b bs) h =
    let keeps = and_parts (block_keeps b && (not (is_alone b) || stand_alone false bs)) (blocks_keep false bs) h in
    or-black (not (is_alone b)) (stand_alone false bs) (is_black bs)
    (and_parts (block_keeps b) (not (is_alone b) || stand_alone false bs) keeps.0).1 (code-black bs)
  where
    or-black : (a s c : Bool) → (a || s) ≡ true → (s ≡ true → c ≡ true) → (a || c) ≡ true
    or-black true s c h k = refl
    or-black false s c h k = k h

    code-black : (bs : Blocks) → stand_alone false bs ≡ true → is_black bs ≡ true
    code-black (block (code_block language s) bs) e = refl
    code-black bs e = false-true e

-- ---- nodes

pub record IsLeanTree (is_rich : Bool) (b : Block) (tree : Simple) : Type 0 where
  pub black : is_alone b ≡ false
  pub shows : is_rich ≡ true → shows false tree ≡ true
  pub leads : IsLead b tree
  pub tableless : is_plain b ≡ true → has_table tree ≡ false

pub record AreLeanTrees (is_rich : Bool) (d : Blocks) (ts : Simples) : Type 0 where
  pub shows : is_rich ≡ true → show false ts ≡ is_black d
  pub tableless : are_plain d ≡ true → have_table ts ≡ false

abbrev line_tree : Simple
line_tree = text (line_feed ∷ [])

-- no line's end shows
pub line-unseen : (h : Bool) (ts : Simples) → show h (more line_tree ts) ≡ show h ts
unfolding chars encode
line-unseen h ts = refl

-- of others no more is said
pub heavy-tree : {is_rich : Bool} {b : Block} {tree : Simple} → is_plain b ≡ false → is_alone b ≡ false
    → (is_rich ≡ true → shows false tree ≡ true) → (is_unseen b ≡ true → seen tree ≡ 0)
    → (block_leads b ≡ true → comes_first tree ≡ true) → IsLeanTree is_rich b tree
heavy-tree h black shown unseen first = record {
  black = black;
  shows = shown;
  leads = record { first = first; unseen = unseen };
  tableless = λ t. true-false (sym t ∙ h);
}

pub none-lean : (is_rich : Bool) → AreLeanTrees is_rich no_blocks none
none-lean is_rich = record { shows = λ r. refl; tableless = λ h. refl }

-- behind a line's end
pub line-lean : (is_rich : Bool) (d : Blocks) (ts : Simples) → AreLeanTrees is_rich d ts
    → AreLeanTrees is_rich d (more line_tree ts)
line-lean is_rich d ts all = record {
  shows = λ r. line-unseen false ts ∙ all.shows r;
  tableless = λ h. all.tableless h;
}

pub more-lean : (is_rich : Bool) (b : Block) (d : Blocks) (tree : Simple) (ts : Simples)
    → IsLeanTree is_rich b tree → AreLeanTrees is_rich d ts → AreLeanTrees is_rich (block b d) (more tree ts)
more-lean is_rich b d tree ts own all = record {
  shows = λ r. ap (λ x. x || show false ts) (own.shows r) ∙ sym (ap (λ x. not x || is_black d) own.black);
  tableless = λ h.
      let plain = and_parts (is_plain b) (are_plain d) h in
      ap (λ x. x || have_table ts) (own.tableless plain.0) ∙ all.tableless plain.1;
}

-- anchors alone, which show as nothing
pub alone-lean : (is_rich : Bool) (id : ℕ) (xs : Inlines) (d : Blocks) (content ts : Simples)
    → are_anchors xs ≡ true → show false content ≡ false → AreLeanTrees is_rich d ts
    → AreLeanTrees is_rich (block (paragraph xs) d)
    (more (made id role.Paragraph [] content) (more line_tree ts))
alone-lean is_rich id xs d content ts anchors unseen all =
    let other : are_plain (block (paragraph xs) d) ≡ false =
    ap (λ b. (not (has_task xs) && not b) && are_plain d) anchors
    ∙ ap (λ b. b && are_plain d) (and-false (not (has_task xs))) in
    record {
      shows = λ r. ap (λ x. x || show false (more line_tree ts)) unseen
          ∙ (line-unseen false ts ∙ (all.shows r ∙ sym (ap (λ x. not x || is_black d) anchors)));
      tableless = λ h. true-false (sym h ∙ other);
    }
  where
    and-false : (b : Bool) → (b && false) ≡ false
    and-false true = refl
    and-false false = refl

-- a paragraph's line without its element
pub text-lean : (is_rich : Bool) (xs : Inlines) (ts : Simples) → AreLineTrees xs ts → are_anchors xs ≡ false
    → AreLeanTrees is_rich (block (paragraph xs) no_blocks) ts
text-lean is_rich xs ts line other = record {
  shows = λ r. line.shows ∙ sym (ap (λ x. not x || false) other);
  tableless = λ h. line.tableless;
}

-- ---- blocks

module _ (is_rich : Bool) (id : ℕ) where
  pub paragraph-lean : (xs : Inlines) (content : Simples) → (has_task xs ≡ false → AreLineTrees xs content)
      → show false content ≡ true → are_anchors xs ≡ false
      → (heading_keeps (behind_box xs) ≡ true → come_first content ≡ true)
      → IsLeanTree is_rich (paragraph xs) (made id role.Paragraph [] content)
  paragraph-lean xs content line shown other first =
      record {
        black = other;
        shows = λ r. shown;
        leads = record { first = first; unseen = λ e. false-true e };
        tableless = λ h.
            (line (from-not (has_task xs) (and_parts (not (has_task xs)) (not (are_anchors xs)) h).0)).tableless;
      }

  pub break-lean : IsLeanTree is_rich thematic_break (made id role.ThematicBreak [] none)
  break-lean = record {
    black = refl;
    shows = λ r. refl;
    leads = record { first = λ e. refl; unseen = λ e. refl };
    tableless = λ h. false-true h;
  }

  pub quote-lean : (d : Blocks) (content : Simples) → is_black d ≡ true → AreLeanTrees is_rich d content
      → (title_keeps d ≡ true → come_first content ≡ true)
      → (are_unseen d ≡ true → all_seen content ≡ 0)
      → IsLeanTree is_rich (quote d) (made id role.BlockQuote [] content)
  quote-lean d content filled all first unseen = record {
    black = refl;
    shows = λ r. all.shows r ∙ filled;
    leads = record { first = first; unseen = unseen };
    tableless = λ h. false-true h;
  }
