-- The definitions that are written are read as those, and each is found by its number.
use Rattle.std.proofs.Common.{◌≡◌, ◌∙◌, refl, ap, sym, ℕ, suc, ◌+◌, ◌<◌, ◌^◌, true, false, List, [], ◌∷◌, ◌++◌, Option}
use Rattle.std.proofs.Common.{Some, None, codes, length, arith}
use Rattle.std.specs.Prelude.{not, ◌&&◌, if◌then◌else◌}
use Rattle.std.specs.Fmt.{decimal}
use Rattle.std.specs.List.{list_all}
use Rattle.std.specs.Option.{option_or}
use Rattle.std.specs.Str.{is_utf8, bytes_eq}
use Rattle.std.proofs.lemmas.Bool.{and_parts, and_from}
use Rattle.std.proofs.lemmas.List.{append_assoc, length-append}
use Rattle.std.proofs.lemmas.Fmt.{decimal_injective}
use Rattle.htmd_markdown.specs.declared.link.LinkStyle.{LinkStyle}
use Rattle.htmd_markdown.specs.declared.link.LinkStyle.TheVariants.{Inlined, InlinedPreferAutolinks, Referenced}
use Rattle.htmd_document.specs.Formats.{Format}
use Rattle.htmd_document.specs.Documents.{Inline, text, code, formatted, link, image, anchor, line_break, task}
use Rattle.htmd_document.specs.Documents.{Inlines, no_inlines, inline}
use Rattle.htmd_commonmark.specs.declared.line.Line.{Line}
use Rattle.htmd_commonmark.specs.declared.inline_ends.Following.{Following}
use Rattle.htmd_commonmark.specs.WrittenText.{Written, wrote}
use Rattle.htmd_commonmark.specs.Marks.{mark_for}
use Rattle.htmd_commonmark.specs.InlineEnds.{follows}
use Rattle.htmd_commonmark.specs.Addresses as writer
use Rattle.htmd_commonmark.specs.Addresses.{escaped_in}
use Rattle.htmd_commonmark.specs.InlineMarkdown.{written, with_inline, is_autolinked, with_address, in_link, sides_of}
use Rattle.htmd_commonmark.specs.InlineMarkdown as write
use Rattle.htmd_commonmark_reading.specs.Characters.{unescaped}
use Rattle.htmd_commonmark_reading.specs.LinkDefinitions.{Defined, definition, label_key, after_label}
use Rattle.htmd_commonmark_reading.specs.LinkDefinitions.{after_destination, destination, past_white, with_title}
use Rattle.htmd_commonmark_reading.specs.LinkDefinitions.{defined_with, past_line, title_after}
use Rattle.htmd_commonmark_reading.specs.Brackets.{References, target_of}
use Rattle.htmd_document.specs.NormalInlines.{is_normal, are_normal, meets, is_barred, has_none, are_whole}
use Rattle.htmd_document.specs.NormalInlines.{is_attribute, is_title, is_kept, has_title}
use Rattle.htmd_law_inlines.specs.ReadBack.{of_defined, references, is_number, are_numbered}
use Rattle.htmd_law_inlines.proofs.TextPieces.{test}
use Rattle.htmd_law_inlines.proofs.AddressPieces.{until_read, address_text, ends_address}
use Rattle.htmd_law_inlines.proofs.ResourcePieces.{destination_read, raw_address, raw_text, title_signs}
use Rattle.htmd_law_inlines.proofs.NumberPieces.{digits_until, decimal_digits, label_is, label_of_number, bytes_same}
use Rattle.htmd_law_inlines.proofs.NumberPieces.{same_bytes}
use Rattle.htmd_law_inlines.proofs.InlineWalk.{Finds}

-- ---- a definition

abbrev defined : ℕ → List ℕ → Option (List ℕ) → Defined
defined n a t = record { definition = record { key = label_key (decimal n); address = a; title = t }; rest = [] }

title_ends : (t : Option (List ℕ)) → ends_address (writer.title t) ≡ true
title_ends None = refl
title_ends (Some s) = refl

-- after the address its title, at the line's end
title_read : (key a : List ℕ) (t : Option (List ℕ))
    → option_or (with_title key (raw_address a) (title_after (writer.title t)))
    (defined_with key (raw_address a) None (past_line (writer.title t)))
    ≡ Some (record { definition = record { key = key; address = a; title = t }; rest = [] })
title_read key a None =
    ap (λ x. Some (record { definition = record { key = key; address = x; title = None }; rest = [] })) (raw_text a)
title_read key a (Some s) =
    ap (λ o. option_or (with_title key (raw_address a) o)
    (defined_with key (raw_address a) None (past_line (writer.title (Some s)))))
    (until_read (codes "\"") title_signs 34 34 refl refl s [])
    ∙ ap (λ x. Some (record {
      definition = record { key = key; address = x; title = Some (unescaped (escaped_in (codes "\"") s)) };
      rest = [];
    })) (raw_text a)
    ∙ ap (λ x. Some (record { definition = record { key = key; address = a; title = Some x }; rest = [] }))
    (address_text (codes "\"") title_signs s)

-- a definition that is written is read as it
pub definition_read : (n : ℕ) (a : List ℕ) (t : Option (List ℕ)) → list_all is_kept a ≡ true
    → definition (write.definition n a t) ≡ Some (defined n a t)
definition_read n a t h =
    let number = decimal n in
    let after = writer.destination a ++ writer.title t in
    let key = label_key number in
    let d = destination_read a (writer.title t) h (title_ends t) in
    let is : write.definition n a t ≡ 91 ∷ (number ++ (93 ∷ 58 ∷ 32 ∷ after)) =
    ap (λ l. 91 ∷ l) (append_assoc (number ++ codes "]: ") (writer.destination a) (writer.title t)
    ∙ append_assoc number (codes "]: ") after) in
    ap definition is
    ∙ ap after_label (digits_until number (58 ∷ 32 ∷ after) (decimal_digits n))
    ∙ ap (λ e. if not e then after_destination key (destination (past_white (32 ∷ after))) else None)
    (label_of_number n)
    ∙ ap (λ l. after_destination key (destination l)) d.1.no_white
    ∙ ap (after_destination key) d.0 ∙ title_read key a t

-- ---- all definitions

numbered_more : (ds : List (List ℕ)) (d : List ℕ) (n : ℕ) → are_numbered n ds ≡ true
    → is_number (n + length ds) (definition d) ≡ true → are_numbered n (ds ++ (d ∷ [])) ≡ true
numbered_more [] d n h k =
    let e : n + 0 ≡ n = omega arith in
    and_from (is_number n (definition d)) true (ap (λ m. is_number m (definition d)) (sym e) ∙ k) refl
numbered_more (s ∷ ds) d n h k =
    let p = and_parts (is_number n (definition s)) (are_numbered (suc n) ds) h in
    let e : suc n + length ds ≡ n + length (s ∷ ds) = omega arith in
    and_from (is_number n (definition s)) (are_numbered (suc n) (ds ++ (d ∷ []))) p.0
    (numbered_more ds d (suc n) p.1 (ap (λ m. is_number m (definition d)) e ∙ k))

own_number : (n : ℕ) (a : List ℕ) (t : Option (List ℕ)) → is_attribute a ≡ true
    → is_number n (definition (write.definition n a t)) ≡ true
own_number n a t h =
    ap (is_number n) (definition_read n a t (and_parts (is_utf8 a) (list_all is_kept a) h).1)
    ∙ ap (λ l. bytes_eq l (decimal n)) (label_is n) ∙ same_bytes (decimal n)

numbered_address : (style : LinkStyle) (w : Written) (a : List ℕ) (t : Option (List ℕ)) → is_attribute a ≡ true
    → are_numbered 1 w.definitions ≡ true → are_numbered 1 (with_address style w a t).definitions ≡ true
numbered_address Inlined w a t h k = k
numbered_address InlinedPreferAutolinks w a t h k = k
numbered_address Referenced w a t h k =
    let n = suc (length w.definitions) in
    let e : n ≡ 1 + length w.definitions = omega arith in
    numbered_more w.definitions (write.definition n a t) 1 k
    (ap (λ m. is_number m (definition (write.definition n a t))) (sym e) ∙ own_number n a t h)

mutual
  pub numbered_all : (line : Line) (around : List Format) (w : Written) (closing : Option ℕ) (xs : Inlines)
      → are_normal line.in_link around xs ≡ true → are_numbered 1 w.definitions ≡ true
      → are_numbered 1 (written line w closing xs).definitions ≡ true
  numbered_all line around w closing no_inlines n h = h
  numbered_all line around w closing (inline x rest) n h =
      let p = and_parts (is_normal line.in_link around x && meets x rest) (are_normal line.in_link around rest) n in
      let q = and_parts (is_normal line.in_link around x) (meets x rest) p.0 in
      numbered_all line around (with_inline line w (follows line.kind closing rest) x) closing rest p.1
      (numbered_one line around w (follows line.kind closing rest) x q.0 h)

  numbered_one : (line : Line) (around : List Format) (w : Written) (f : Following) (x : Inline)
      → is_normal line.in_link around x ≡ true → are_numbered 1 w.definitions ≡ true
      → are_numbered 1 (with_inline line w f x).definitions ≡ true
  numbered_one line around w f (text s) n h = h
  numbered_one line around w f (code s) n h = h
  numbered_one line around w f (formatted g content) n h =
      let m = mark_for g (sides_of line w.text f content) in
      numbered_all line (g ∷ around) (wrote w m.opener) (Some m.sign) content
      (and_parts (not (is_barred around g) && has_title g && not (has_none content) && are_whole content)
      (are_normal line.in_link (g ∷ around) content) n).1 h
  numbered_one line around w f (link a t content) n h =
      let p = and_parts (not line.in_link && is_attribute a && is_title t && not (has_none content))
      (are_normal true around content) n in
      let q = and_parts (not line.in_link && is_attribute a && is_title t) (not (has_none content)) p.0 in
      let r = and_parts (not line.in_link && is_attribute a) (is_title t) q.0 in
      let b = (and_parts (not line.in_link) (is_attribute a) r.0).1 in
      let after = written (in_link line) (wrote w (codes "[")) (Some 93) content in
      test (is_autolinked line a t content)
      (λ e. rw e h)
      (λ e. rw e (numbered_address line.link_style after a t b
      (numbered_all (in_link line) around (wrote w (codes "[")) (Some 93) content p.1 h)))
  numbered_one line around w f (image a t s) n h = h
  numbered_one line around w f (anchor id) n h = h
  numbered_one line around w f line_break n h = h
  numbered_one line around w f (task d) n h = h

-- ---- a definition is found

no_such_number : (m n : ℕ) (o : Option Defined) (refs : References) (ks : List ℕ) → is_number m o ≡ true
    → m < n
    → n < 2 ^ 64 → target_of (of_defined o ++ refs) (decimal n) ks ≡ target_of refs (decimal n) ks
no_such_number m n None refs ks h l b = absurd (cc)
no_such_number m n (Some d) refs ks h l b =
    let key = bytes_same d.definition.key (decimal m) h in
    let no : bytes_eq d.definition.key (decimal n) ≡ false =
    test (bytes_eq d.definition.key (decimal n))
    (λ e. let x = decimal_injective m n (omega arith) b (sym key ∙ bytes_same d.definition.key (decimal n) e) in
    absurd (omega arith))
    (λ e. e) in
    rw no refl

found_behind : (front rest : List (List ℕ)) (m n : ℕ) (ks : List ℕ) → are_numbered m front ≡ true
    → m + length front ≡ n → n < 2 ^ 64
    → target_of (references (front ++ rest)) (decimal n) ks ≡ target_of (references rest) (decimal n) ks
found_behind [] rest m n ks h e b = refl
found_behind (s ∷ front) rest m n ks h e b =
    let p = and_parts (is_number m (definition s)) (are_numbered (suc m) front) h in
    no_such_number m n (definition s) (references (front ++ rest)) ks p.0 (omega arith) b
    ∙ found_behind front rest (suc m) n ks p.1 (omega arith) b

numbered_front : (front rest : List (List ℕ)) (m : ℕ) → are_numbered m (front ++ rest) ≡ true
    → are_numbered m front ≡ true
numbered_front [] rest m h = refl
numbered_front (s ∷ front) rest m h =
    let p = and_parts (is_number m (definition s)) (are_numbered (suc m) (front ++ rest)) h in
    and_from (is_number m (definition s)) (are_numbered (suc m) front) p.0 (numbered_front front rest (suc m) p.1)

-- lines that define the numbers one after another are found by those, whatever comes after them
pub numbers_found : (all after : List (List ℕ)) → are_numbered 1 all ≡ true → length all < 2 ^ 64
    → Finds (references (all ++ after)) all
numbers_found all after h b front back a t i j e ks =
    let n = suc (length front) in
    let line = write.definition n a t in
    let is : all ++ after ≡ front ++ (line ∷ (back ++ after)) =
    ap (λ l. l ++ after) e ∙ append_assoc front (line ∷ back) after in
    let size = ap length e ∙ length-append front (line ∷ back) in
    ap (λ l. target_of (references l) (label_key (decimal n)) ks) is
    ∙ ap (λ l. target_of (references (front ++ (line ∷ (back ++ after)))) l ks) (label_is n)
    ∙ found_behind front (line ∷ (back ++ after)) 1 n ks
    (numbered_front front (line ∷ back) 1 (ap (are_numbered 1) (sym e) ∙ h)) (omega arith) (omega arith)
    ∙ ap (λ o. target_of (of_defined o ++ references (back ++ after)) (decimal n) ks)
    (definition_read n a t (and_parts (is_utf8 a) (list_all is_kept a) i).1)
    ∙ own_found n
  where
    own_found : (n : ℕ)
        → target_of (of_defined (Some (defined n a t)) ++ references (back ++ after)) (decimal n) ks
        ≡ Some (record { address = a; title = t; rest = ks })
    own_found n =
        ap (λ b. if b then Some (record { address = a; title = t; rest = ks })
        else target_of (references (back ++ after)) (decimal n) ks)
        (ap (λ l. bytes_eq l (decimal n)) (label_is n) ∙ same_bytes (decimal n))
