-- What is beside each other in a line, and what is normal and settled in one.
use Rattle.std.proofs.Common.{◌≡◌, ℕ, suc, Bool, true, false, not, ◌&&◌, ◌==◌, cond, List, []}
use Rattle.std.proofs.Common.{◌∷◌}
use Rattle.std.proofs.Common.{Option}
use Rattle.std.proofs.Common.{refl, sym, ap, ◌∙◌, encode_utf8_all}
use Rattle.std.proofs.Common.{◌≤◌, arith}
use Rattle.std.specs.Prelude.{encode_utf8}
use Rattle.std.specs.Prelude.{nat_le}
use Rattle.std.specs.Str.{chars}
use Rattle.std.proofs.lemmas.Bool.{and_parts}
use Rattle.std.proofs.lemmas.Bool.Decides.{nat_tests}
use Rattle.std.specs.List.{list_all}
use Rattle.htmd_lexical.specs.CharacterClasses.{is_empty}
use Rattle.htmd_document.specs.Documents.{Inline, text, code, formatted, link, image, anchor, line_break, task}
use Rattle.htmd_document.specs.Documents.{Inlines, no_inlines, inline}
use Rattle.htmd_document.specs.Formats.{Format, is_same_format}
use Rattle.htmd_document.specs.NormalInlines.{is_text, is_trimmed, has_none, meets, is_normal, are_normal}
use Rattle.htmd_document.specs.NormalInlines.{are_whole}
use Rattle.htmd_document.specs.NormalInlines.{first_passes}
use Rattle.htmd_document.specs.NormalInlines.{last_passes, is_break, is_anchor, is_barred, has_title}
use Rattle.htmd_document.specs.NormalInlines.{is_attribute, is_title}
use Rattle.htmd_flow.specs.Nesting.{Wrapper, of_format, wrapper_of, shared, text_or_code}
use Rattle.htmd_flow.specs.Nesting.{joined}
use Rattle.htmd_flow.specs.Nesting.{wrapped_by}
use Rattle.htmd_flow.specs.Nesting.{of_link}
use Rattle.htmd_flow.specs.Parts as part
use Rattle.htmd_flow.specs.Parts.{Around}
use Rattle.htmd_shown.specs.Spaces.{is_white}
use Rattle.htmd_law_returning.specs.SettledDocuments.{is_plain_text}
use Rattle.htmd_law_returning.specs.SettledDocuments.{is_settled_link, is_settled_address}
use Rattle.htmd_law_returning.specs.SettledDocuments.{is_settled_title}
use Rattle.htmd_law_returning.specs.SettledDocuments.{is_white_at_break}
use Rattle.htmd_law_returning.specs.SettledDocuments.{begins_in_white}
use Rattle.htmd_law_returning.specs.SettledDocuments.{ends_in_white}
use Rattle.htmd_law_returning.proofs.NestLemmas.{is_merging}
use Rattle.htmd_law_returning.proofs.RunLemmas.{each_joined, joined-all}
use Rattle.htmd_law_returning.proofs.TextLemmas.{IsLine, text-line}
use Rattle.htmd_law_returning.proofs.StartLemmas.{false-true, true-false, from-not}
use Rattle.htmd_law_returning.proofs.HeldLemmas.{are_black_ended, are_black_inside, is_cut_off}
use Rattle.htmd_law_returning.proofs.HeldLemmas.{are_held}
use Rattle.htmd_law_returning.proofs.HeldLemmas.{is_held}
use Rattle.htmd_law_returning.proofs.HeldLemmas.{is_held_code}
use Rattle.htmd_law_returning.proofs.HeldLemmas.{is_parted}
use Rattle.htmd_law_returning.specs.WholeLines.{begins_white, begins_white_text}
use Rattle.htmd_law_returning.specs.WholeLines.{ends_white_text}
use Rattle.htmd_law_returning.specs.WholeLines.{is_same_around}

-- ---- what is beside each other

-- after this nothing merges with what meets it
pub apart-text : (z : Inline) (s : List ℕ) (xs : Inlines) → meets z (inline (text s) xs) ≡ true
    → is_merging z (text s) ≡ false
apart-text (text t) s xs h = false-true h
apart-text (code t) s xs h = refl
apart-text (formatted f c) s xs h = refl
apart-text (link a t c) s xs h = refl
apart-text (image a t d) s xs h = refl
apart-text (anchor id) s xs h = refl
apart-text line_break s xs h = refl
apart-text (task d) s xs h = refl

pub apart-code : (z : Inline) (s : List ℕ) (xs : Inlines) → meets z (inline (code s) xs) ≡ true
    → is_merging z (code s) ≡ false
apart-code (text t) s xs h = refl
apart-code (code t) s xs h = false-true h
apart-code (formatted f c) s xs h = refl
apart-code (link a t c) s xs h = refl
apart-code (image a t d) s xs h = refl
apart-code (anchor id) s xs h = refl
apart-code line_break s xs h = refl
apart-code (task d) s xs h = refl

pub apart-image : (z : Inline) (a : List ℕ) (t : Option (List ℕ)) (d : List ℕ) → is_merging z (image a t d)
    ≡ false
apart-image (text s) a t d = refl
apart-image (code s) a t d = refl
apart-image (formatted f c) a t d = refl
apart-image (link b u c) a t d = refl
apart-image (image b u c) a t d = refl
apart-image (anchor id) a t d = refl
apart-image line_break a t d = refl
apart-image (task c) a t d = refl

pub apart-break : (z : Inline) → is_merging z line_break ≡ false
apart-break (text t) = refl
apart-break (code t) = refl
apart-break (formatted f c) = refl
apart-break (link a t c) = refl
apart-break (image a t d) = refl
apart-break (anchor id) = refl
apart-break line_break = refl
apart-break (task d) = refl

-- what doesn't merge with a text is none
pub apart-black : (z : Inline) (s : List ℕ) → is_merging z (text s) ≡ false → ends_in_white z ≡ false
apart-black (text t) s h = true-false h
apart-black (code t) s h = refl
apart-black (formatted f c) s h = refl
apart-black (link a t c) s h = refl
apart-black (image a t d) s h = refl
apart-black (anchor id) s h = refl
apart-black line_break s h = refl
apart-black (task d) s h = refl

-- two formats that meet aren't the same
pub other-format : (f g : Format) (c d xs : Inlines) → meets (formatted f c) (inline (formatted g d) xs) ≡ true
    → is_same_format f g ≡ false
other-format f g c d xs h = either (is_same_format f g) h
  where
    either : (b : Bool) → (not (b && true && true) && true && true) ≡ true → b ≡ false
    either true e = false-true e
    either false e = refl

-- white space alone ends with some
pub all-last : (cs : List ℕ) → is_empty cs ≡ false → list_all is_white cs ≡ true → ends_white_text cs
    ≡ true
all-last [] some h = true-false some
all-last (c ∷ []) some h = (and_parts (is_white c) true h).0
all-last (c ∷ d ∷ cs) some h = all-last (d ∷ cs) refl (and_parts (is_white c) (list_all is_white (d ∷ cs)) h).1

-- the same format isn't shared with another
pub none-shared : (f g : Format) (ms ns : List Wrapper) → is_same_format f g ≡ false
    → shared (of_format f ∷ ms) (of_format g ∷ ns) ≡ 0
none-shared f g ms ns h = ap (λ b. cond b (suc (shared ms ns)) 0) h

-- a format, or a link with a number from this one on
abbrev pub is_from : ℕ → Around → Bool
is_from k (part.formatted f) = true
is_from k (part.linked n a t) = nat_le k n

pub from-less : (j k : ℕ) (b : Around) → j ≤ k → is_from k b ≡ true → is_from j b ≡ true
from-less j k (part.formatted f) h e = refl
from-less j k (part.linked n a t) h e = grind (arith, nat_tests, h, e)

-- no link, or one with a lower number
abbrev pub is_before : Around → Around → Bool
is_before (part.formatted f) b = true
is_before (part.linked n a t) b = is_from (suc n) b

pub links-differ : (m n : ℕ) (ms ns : List Wrapper) → nat_le (suc m) n ≡ true
    → shared (of_link m ∷ ms) (of_link n ∷ ns) ≡ 0
links-differ m n ms ns h =
    let other : (m == n) ≡ false = grind (arith, nat_tests, h) in
    ap (λ b. cond b (suc (shared ms ns)) 0) other

-- what is beside each other isn't the same around
pub next-differs : (a b : Around) (c d r : Inlines) → meets (wrapped_by a c) (inline (wrapped_by b d) r) ≡ true
    → is_before a b ≡ true → (ms ns : List Wrapper) → shared (wrapper_of a ∷ ms) (wrapper_of b ∷ ns) ≡ 0
next-differs (part.formatted f) (part.formatted g) c d r h o ms ns =
    none-shared f g ms ns (other-format f g c d r h)
next-differs (part.formatted f) (part.linked n u v) c d r h o ms ns = refl
next-differs (part.linked m u v) (part.formatted g) c d r h o ms ns = refl
next-differs (part.linked m u v) (part.linked n w x) c d r h o ms ns = links-differ m n ms ns o

-- nor where white space or a break is between
pub around-differs : (a b : Around) (c d : Inlines) → is_same_around (wrapped_by a c) (wrapped_by b d) ≡ false
    → is_before a b ≡ true → (ms ns : List Wrapper) → shared (wrapper_of a ∷ ms) (wrapper_of b ∷ ns) ≡ 0
around-differs (part.formatted f) (part.formatted g) c d h o ms ns = none-shared f g ms ns h
around-differs (part.formatted f) (part.linked n u v) c d h o ms ns = refl
around-differs (part.linked m u v) (part.formatted g) c d h o ms ns = refl
around-differs (part.linked m u v) (part.linked n w x) c d h o ms ns = links-differ m n ms ns o

pub each-text : (k : Bool) (cs : List ℕ) (xs : Inlines) → is_empty cs ≡ false
    → each_joined k xs cs ≡ joined xs (text_or_code k (encode_utf8_all cs))
each-text k [] xs h = true-false h
each-text k (c ∷ cs) xs h = joined-all k cs xs (encode_utf8 c)

-- ---- what is normal and settled

pub record IsNormalOne (b : Bool) (fs : List Format) (x : Inline) (xs : Inlines) : Type 0 where
  pub own : is_normal b fs x ≡ true
  pub meets_next : meets x xs ≡ true
  pub rest : are_normal b fs xs ≡ true

pub normal-one : (b : Bool) (fs : List Format) (x : Inline) (xs : Inlines) → are_normal b fs (inline x xs) ≡ true
    → IsNormalOne b fs x xs
normal-one b fs x xs h =
    let parts = and_parts (is_normal b fs x && meets x xs) (are_normal b fs xs) h in
    let one = and_parts (is_normal b fs x) (meets x xs) parts.0 in
    record { own = one.0; meets_next = one.1; rest = parts.1 }

pub record IsSettledOne (x : Inline) (xs : Inlines) : Type 0 where
  pub own : is_held x ≡ true
  pub apart : is_parted x xs ≡ false
  pub beside : is_white_at_break x xs ≡ false
  pub followed : is_cut_off x xs ≡ false
  pub rest : are_held xs ≡ true

pub settled-one : (x : Inline) (xs : Inlines) → are_held (inline x xs) ≡ true → IsSettledOne x xs
settled-one x xs h =
    let held : Bool = is_held x in
    let apart : Bool = not (is_parted x xs) in
    let beside : Bool = not (is_white_at_break x xs) in
    let parts = and_parts (((held && apart) && beside) && not (is_cut_off x xs)) (are_held xs) h in
    let most = and_parts ((held && apart) && beside) (not (is_cut_off x xs)) parts.0 in
    let more = and_parts (held && apart) beside most.0 in
    let one = and_parts held apart more.0 in
    record {
      own = one.0;
      apart = from-not (is_parted x xs) one.1;
      beside = from-not (is_white_at_break x xs) more.1;
      followed = from-not (is_cut_off x xs) most.1;
      rest = parts.1;
    }

-- in a format, or in a line: no white space and no break is at the ends
pub record IsWhole (xs : Inlines) : Type 0 where
  pub some : has_none xs ≡ false
  pub begins : first_passes begins_in_white xs ≡ false
  pub starts : first_passes is_break xs ≡ false
  pub ends : last_passes ends_in_white xs ≡ false
  pub closes : last_passes is_break xs ≡ false

pub whole-inlines : (xs : Inlines) → has_none xs ≡ false → are_black_ended xs ≡ true → IsWhole xs
whole-inlines xs some h =
    let white : Bool = not (first_passes begins_in_white xs) && not (last_passes ends_in_white xs) in
    let breaks : Bool = not (first_passes is_break xs) && not (last_passes is_break xs) in
    let parts = and_parts white breaks h in
    let black = and_parts (not (first_passes begins_in_white xs)) (not (last_passes ends_in_white xs)) parts.0 in
    let broken = and_parts (not (first_passes is_break xs)) (not (last_passes is_break xs)) parts.1 in
    record {
      some = some;
      begins = from-not (first_passes begins_in_white xs) black.0;
      starts = from-not (first_passes is_break xs) broken.0;
      ends = from-not (last_passes ends_in_white xs) black.1;
      closes = from-not (last_passes is_break xs) broken.1;
    }

-- after a break a line begins anew
pub not-a-break : (y : Inline) (xs : Inlines) → meets line_break (inline y xs) ≡ true → is_break y ≡ false
not-a-break (text s) xs h = refl
not-a-break (code s) xs h = refl
not-a-break (formatted f c) xs h = refl
not-a-break (link a t c) xs h = refl
not-a-break (image a t d) xs h = refl
not-a-break (anchor id) xs h = refl
not-a-break line_break xs h = false-true h
not-a-break (task d) xs h = refl

black-behind : (y : Inline) (xs : Inlines) → meets line_break (inline y xs) ≡ true
    → is_white_at_break line_break (inline y xs) ≡ false → begins_in_white y ≡ false
black-behind (text s) xs h e = e
black-behind (code s) xs h e = refl
black-behind (formatted f c) xs h e = refl
black-behind (link a t c) xs h e = refl
black-behind (image a t d) xs h e = refl
black-behind (anchor id) xs h e = refl
black-behind line_break xs h e = refl
black-behind (task d) xs h e = refl

pub whole-after-break : (xs : Inlines) → meets line_break xs ≡ true → is_white_at_break line_break xs ≡ false
    → last_passes ends_in_white (inline line_break xs) ≡ false → last_passes is_break (inline line_break xs)
    ≡ false
    → IsWhole xs
whole-after-break no_inlines h b e u = true-false u
whole-after-break (inline y xs) h b e u = record {
  some = refl;
  begins = black-behind y xs h b;
  starts = not-a-break y xs h;
  ends = e;
  closes = u;
}

-- after an anchor stands what shows, or another one
pub whole-first : (y : Inline) (xs : Inlines) → begins_white (inline y xs) ≡ false
    → (begins_in_white y ≡ false) × (is_break y ≡ false)
whole-first (text s) xs h = (h, refl)
whole-first (code s) xs h = (refl, refl)
whole-first (formatted f c) xs h = (refl, refl)
whole-first (link a t c) xs h = (refl, refl)
whole-first (image a t d) xs h = (refl, refl)
whole-first (anchor id) xs h = (refl, refl)
whole-first line_break xs h = true-false h
whole-first (task d) xs h = (refl, refl)

pub whole-after-anchor : (x : Inline) (xs : Inlines) → is_anchor x ≡ true → is_cut_off x xs ≡ false
    → last_passes ends_in_white (inline x xs) ≡ false → last_passes is_break (inline x xs) ≡ false
    → IsWhole xs
whole-after-anchor x no_inlines a h e u = true-false (sym (ap (λ b. b && true) a) ∙ h)
whole-after-anchor x (inline y xs) a h e u =
    let first = whole-first y xs (sym (ap (λ b. b && begins_white (inline y xs)) a) ∙ h) in
    record { some = refl; begins = first.0; starts = first.1; ends = e; closes = u }

pub record IsFormat (b : Bool) (fs : List Format) (f : Format) (c : Inlines) : Type 0 where
  pub whole : IsWhole c
  pub normal : are_normal b (f ∷ fs) c ≡ true
  pub free : is_barred fs f ≡ false
  pub titled : has_title f ≡ true
  pub unled : first_passes is_anchor c ≡ false

pub format-normal : (b : Bool) (fs : List Format) (f : Format) (c : Inlines) → is_normal b fs (formatted f c) ≡ true
    → are_black_inside c ≡ true → IsFormat b fs f c
format-normal b fs f c h black =
    let parts = and_parts (((not (is_barred fs f) && has_title f) && not (has_none c)) && are_whole c)
    (are_normal b (f ∷ fs) c) h in
    let more = and_parts ((not (is_barred fs f) && has_title f) && not (has_none c)) (are_whole c) parts.0 in
    let some = and_parts (not (is_barred fs f) && has_title f) (not (has_none c)) more.0 in
    let own = and_parts (not (is_barred fs f)) (has_title f) some.0 in
    let ends = and_parts (are_black_ended c) (not (first_passes is_anchor c)) black in
    record {
      whole = whole-inlines c (from-not (has_none c) some.1) ends.0;
      normal = parts.1;
      free = from-not (is_barred fs f) own.0;
      titled = own.1;
      unled = from-not (first_passes is_anchor c) ends.1;
    }

-- what is in a link
pub record IsLink (b : Bool) (fs : List Format) (a : List ℕ) (t : Option (List ℕ)) (c : Inlines) : Type 0 where
  pub outside : b ≡ false
  pub address : is_settled_address a ≡ true
  pub title : is_title t ≡ true
  pub one_line : is_settled_title t ≡ true
  pub whole : IsWhole c
  pub normal : are_normal true fs c ≡ true
  pub settled : are_held c ≡ true

pub link-normal : (b : Bool) (fs : List Format) (a : List ℕ) (t : Option (List ℕ)) (c : Inlines)
    → is_normal b fs (link a t c) ≡ true → is_held (link a t c) ≡ true → IsLink b fs a t c
link-normal b fs a t c h e =
    let parts = and_parts (((not b && is_attribute a) && is_title t) && not (has_none c)) (are_normal true fs c) h in
    let more = and_parts ((not b && is_attribute a) && is_title t) (not (has_none c)) parts.0 in
    let some = and_parts (not b && is_attribute a) (is_title t) more.0 in
    let held = and_parts (is_settled_link a t && are_black_ended c) (are_held c) e in
    let good = and_parts (is_settled_link a t) (are_black_ended c) held.0 in
    let own = and_parts (is_settled_address a) (is_settled_title t) good.0 in
    record {
      outside = from-not b (and_parts (not b) (is_attribute a) some.0).0;
      address = own.0;
      title = some.1;
      one_line = own.1;
      whole = whole-inlines c (from-not (has_none c) more.1) good.1;
      normal = parts.1;
      settled = held.1;
    }

pub record IsCode (s : List ℕ) : Type 0 where
  pub line : IsLine s
  pub begins : begins_white_text (chars s) ≡ false
  pub ends : ends_white_text (chars s) ≡ false

pub code-normal : (s : List ℕ) → is_held_code s ≡ true → (is_text s && is_trimmed s) ≡ true
    → IsCode s
code-normal s p h =
    let parts = and_parts (is_plain_text s && not (begins_white_text (chars s))) (not (ends_white_text (chars s))) p in
    let own = and_parts (is_plain_text s) (not (begins_white_text (chars s))) parts.0 in
    record {
      line = text-line s own.0 (and_parts (is_text s) (is_trimmed s) h).0;
      begins = from-not (begins_white_text (chars s)) own.1;
      ends = from-not (ends_white_text (chars s)) parts.1;
    }
