-- The wrappers of parts, and that blocks and lines of them keep these.
use Rattle.std.proofs.Common.{◌≡◌, ℕ, Bool, true, false, List, [], ◌∷◌, ◌++◌, refl, sym, ◌∙◌, ap, append_assoc}
use Rattle.std.proofs.Common.{map}
use Rattle.std.specs.Prelude.{if◌then◌else◌, encode_utf8_all}
use Rattle.std.specs.List.{flat_map}
use Rattle.std.specs.Str.{chars, IsUtf8}
use Rattle.std.proofs.lemmas.List.{append-nil}
use Rattle.std.proofs.lemmas.Grind.{flat_map-append}
use Rattle.std.proofs.lemmas.Str.{scalars-chars}
use Rattle.htmd_flow.specs.Contexts.{apart}
use Rattle.htmd_document.specs.Documents.{image, Block}
use Rattle.htmd_flow.specs.Flows.{blocks_of, line_of}
use Rattle.htmd_flow.specs.Paragraphs.{Writing, begun, fed, fed_all}
use Rattle.htmd_flow.specs.Parts.{Around, Part, run, picture, break, place, box, edge, whole}
use Rattle.htmd_law_documents.specs.DocumentTexts.{visible}
use Rattle.htmd_law_documents.proofs.VisibleLemmas.{Shows, shows-encodes}
use Rattle.htmd_law_documents.proofs.Readers.{Reader, read_line, read_block, read_blocks, read_around}
use Rattle.htmd_law_documents.proofs.WrapperWritingLemmas.{AllAgree, Wrote, wrote-same, wrote-nothing}
use Rattle.htmd_law_documents.proofs.WrapperWritingLemmas.{broken_off-wrote, leaf-wrote, box-wrote, place-wrote}
use Rattle.htmd_law_documents.proofs.WrapperWritingLemmas.{edge-wrote, whole-wrote, characters-wrote}
use Rattle.htmd_law_documents.proofs.WrapperWritingLemmas.{blocks-in_wrappers, line-in_wrappers}

module _ (R : Reader) where
  -- the characters in wrappers of a part; a block gives none where all is one line
  abbrev pub part_wrapped : Bool → Part → List R.Seen
  part_wrapped in_line (run s around is_code) = R.read (map (read_around R) around) is_code s
  part_wrapped in_line (picture address title description around) =
      R.picture ++ R.read (map (read_around R) around) false description
  part_wrapped in_line break = []
  part_wrapped in_line (place id) = R.mark id
  part_wrapped in_line (box is_checked) = []
  part_wrapped in_line edge = []
  part_wrapped in_line (whole b) = if in_line then [] else read_block R b

  abbrev pub parts_wrapped : Bool → List Part → List R.Seen
  parts_wrapped in_line parts = flat_map (part_wrapped in_line) parts

  module _ (addr : ℕ → R.Wrap) where
    -- a part of texts whose links have these addresses
    abbrev pub IsLinked : Part → Type 0
    IsLinked (run s around is_code) = IsUtf8 s × AllAgree R addr around
    IsLinked (picture address title description around) = IsUtf8 description × AllAgree R addr around
    IsLinked break = Unit {0}
    IsLinked (place id) = Unit {0}
    IsLinked (box is_checked) = Unit {0}
    IsLinked edge = Unit {0}
    IsLinked (whole b) = Unit {0}

    abbrev pub AreLinked : List Part → Type 0
    AreLinked [] = Unit {0}
    AreLinked (p ∷ ps) = IsLinked p × AreLinked ps

    -- the parts keep these wrappers
    pub record Keep (in_line : Bool) (parts : List Part) (cs : List R.Seen) : Type 0 where
      pub linked : AreLinked parts
      pub is : parts_wrapped in_line parts ≡ cs

    linked-append : (ps qs : List Part) → AreLinked ps → AreLinked qs → AreLinked (ps ++ qs)
    linked-append [] qs g h = h
    linked-append (p ∷ ps) qs g h = (g.0, linked-append ps qs g.1 h)

    pub keep-nil : (in_line : Bool) → Keep in_line [] []
    keep-nil in_line = record { linked = tt; is = refl }

    pub keep-append : (in_line : Bool) (ps qs : List Part) (cs ds : List R.Seen) → Keep in_line ps cs
        → Keep in_line qs ds
        → Keep in_line (ps ++ qs) (cs ++ ds)
    keep-append in_line ps qs cs ds g h = record {
      linked = linked-append ps qs g.linked h.linked;
      is = flat_map-append (part_wrapped in_line) ps qs
          ∙ (ap (λ t. t ++ parts_wrapped in_line qs) g.is ∙ ap (λ t. cs ++ t) h.is);
    }

    pub keep-same : (in_line : Bool) (ps : List Part) (cs ds : List R.Seen) → cs ≡ ds → Keep in_line ps cs
        → Keep in_line ps ds
    keep-same in_line ps cs ds e h = record { linked = h.linked; is = h.is ∙ e }

    pub keep-edge : (in_line : Bool) (ps : List Part) (cs : List R.Seen) → Keep in_line ps cs
        → Keep in_line (edge ∷ ps) cs
    keep-edge in_line ps cs h = record { linked = (tt, h.linked); is = h.is }

    pub keep-edges : (in_line : Bool) → Keep in_line (edge ∷ []) []
    keep-edges in_line = keep-edge in_line [] [] (keep-nil in_line)

    pub keep-after : (in_line : Bool) (ps qs : List Part) (cs : List R.Seen) → Keep in_line ps cs
        → Keep in_line qs []
        → Keep in_line (ps ++ qs) cs
    keep-after in_line ps qs cs g h =
        keep-same in_line (ps ++ qs) (cs ++ []) cs (append-nil cs) (keep-append in_line ps qs cs [] g h)

    pub keep-apart : (in_line : Bool) (ps : List Part) (cs : List R.Seen) → Keep in_line ps cs
        → Keep in_line (apart ps) cs
    keep-apart in_line ps cs h =
        keep-edge in_line (ps ++ edge ∷ []) cs (keep-after in_line ps (edge ∷ []) cs h (keep-edges in_line))

    pub keep-run : (in_line : Bool) (s : List ℕ) (around : List Around) (is_code : Bool) → IsUtf8 s
        → AllAgree R addr around
        → Keep in_line (run s around is_code ∷ []) (R.read (map (read_around R) around) is_code s)
    keep-run in_line s around is_code u a =
        record { linked = ((u, a), tt); is = append-nil (R.read (map (read_around R) around) is_code s) }

    pub keep-whole : (b : Block) (cs : List R.Seen) → read_block R b ≡ cs → Keep false (whole b ∷ []) cs
    keep-whole b cs h = record { linked = (tt, tt); is = append-nil (read_block R b) ∙ h }

    -- ---- what is fed

    same-end : (w : Writing) (in_line : Bool) (cs : List R.Seen) → Wrote R addr w in_line cs
        → Wrote R addr w in_line (cs ++ [])
    same-end w in_line cs h = wrote-same R addr w in_line cs (cs ++ []) (sym (append-nil cs)) h

    part-wrote : (p : Part) (w : Writing) (in_line : Bool) (cs : List R.Seen) → IsLinked p
        → Wrote R addr w in_line cs
        → Wrote R addr (fed w p) in_line (cs ++ part_wrapped in_line p)
    part-wrote (run s around is_code) w in_line cs u h =
        let e : Shows (encode_utf8_all (chars s)) (visible s) = shows-encodes (chars s) (scalars-chars s u.0) in
        wrote-same R addr (fed w (run s around is_code)) in_line
        (cs ++ R.read (map (read_around R) around) is_code (encode_utf8_all (chars s)))
        (cs ++ R.read (map (read_around R) around) is_code s)
        (ap (λ t. cs ++ t)
        (R.same (map (read_around R) around) is_code (encode_utf8_all (chars s)) s e.utf8 u.0 e.is))
        (characters-wrote R addr (chars s) w in_line cs around is_code u.1 h (scalars-chars s u.0))
    part-wrote (picture address title description around) w in_line cs u h =
        leaf-wrote R addr w in_line cs around false (image address title description) u.1 h u.0
    part-wrote break w in_line cs u h = same-end (fed w break) in_line cs (broken_off-wrote R addr w in_line cs h)
    part-wrote (box is_checked) w in_line cs u h =
        same-end (fed w (box is_checked)) in_line cs (box-wrote R addr w in_line cs is_checked h)
    part-wrote (place id) w in_line cs u h = place-wrote R addr w in_line cs id h
    part-wrote edge w in_line cs u h = same-end (fed w edge) in_line cs (edge-wrote R addr w in_line cs h)
    part-wrote (whole b) w in_line cs u h = whole-wrote R addr w b in_line cs h

    pub parts-wrote : (ps : List Part) (w : Writing) (in_line : Bool) (cs : List R.Seen) → AreLinked ps
        → Wrote R addr w in_line cs → Wrote R addr (fed_all w ps) in_line (cs ++ parts_wrapped in_line ps)
    parts-wrote [] w in_line cs u h = same-end w in_line cs h
    parts-wrote (p ∷ ps) w in_line cs u h =
        wrote-same R addr (fed_all (fed w p) ps) in_line ((cs ++ part_wrapped in_line p) ++ parts_wrapped in_line ps)
        (cs ++ (part_wrapped in_line p ++ parts_wrapped in_line ps))
        (append_assoc cs (part_wrapped in_line p) (parts_wrapped in_line ps))
        (parts-wrote ps (fed w p) in_line (cs ++ part_wrapped in_line p) u.1 (part-wrote p w in_line cs u.0 h))

    -- ---- blocks and lines

    pub blocks-keep : (in_item : Bool) (ps : List Part) (cs : List R.Seen) → Keep false ps cs
        → read_blocks R (blocks_of in_item ps) ≡ cs
    blocks-keep in_item ps cs h =
        blocks-in_wrappers R addr (fed_all (begun in_item false) ps) (parts_wrapped false ps)
        (parts-wrote ps (begun in_item false) false [] h.linked (wrote-nothing R addr in_item false)) ∙ h.is

    pub line-keeps : (ps : List Part) (cs : List R.Seen) → Keep true ps cs → read_line R [] (line_of ps) ≡ cs
    line-keeps ps cs h =
        line-in_wrappers R addr (fed_all (begun false true) ps) (parts_wrapped true ps)
        (parts-wrote ps (begun false true) true [] h.linked (wrote-nothing R addr false true)) ∙ h.is
