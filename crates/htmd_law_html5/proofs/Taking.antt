-- Steps on a state that put a text into it.
use Rattle.std.proofs.Common.{◌≡◌, ◌∙◌, ℕ, zero, suc, ◌+◌, ◌≤◌, Bool, true, false, List, [], ◌∷◌, ◌++◌, get_or, set}
use Rattle.std.proofs.Common.{Option, refl, sym, ap, subst, arith, All}
use Rattle.std.specs.Prelude.{IsUtf8}
use Rattle.std.proofs.lemmas.Bool.{true≢false}
use Rattle.htmd_html5_state.specs.Nodes.{KindValue, NodeValue, document, text, kind_at, add, with_kind}
use Rattle.htmd_html5_state.specs.State.{StateValue}
use Rattle.htmd_html5_state.specs.Insertion.{insert_text, place}
use Rattle.htmd_html5_state.specs.OpenElements.{OpenValue}
use Rattle.htmd_html5.specs.InTable.{fostered}
use Rattle.htmd_law_html5.specs.PageLetters.{occurrences, occurrences_in}
use Rattle.htmd_law_html5.proofs.NodeTexts.{kinds, texts, is_element, kinds_add, kinds_with_kind, kind_read}
use Rattle.htmd_law_html5.proofs.NodeTexts.{element_before, element_set}
use Rattle.htmd_law_html5.proofs.Forests.{IsForest, forest_add, forest_with_kind}
use Rattle.htmd_law_html5.proofs.Keeping.{ElementAt, IsRooted, SoundIn, KeptIn, Sound, Keeps, rooted_new}
use Rattle.htmd_law_html5.proofs.NamedKinds.{by_text}
use Rattle.htmd_law_html5.proofs.TextsPut.{Grown, grown_by_text, grown_at}

-- a character stands in the texts at most so many times more, and no fewer times if nothing may be lost; elements are
-- elements still
pub record GrewIn (exact : Bool) (c n : ℕ) (nodes new : List NodeValue) (head : Option ℕ)
    (entries : List (Option ℕ)) (stack : List OpenValue) : Type 0 where
  pub at_most : occurrences_in c (texts (kinds new)) ≤ occurrences_in c (texts (kinds nodes)) + n
  pub at_least : exact ≡ true → occurrences_in c (texts (kinds nodes)) + n ≤ occurrences_in c (texts (kinds new))
  pub stays : (m : ℕ) → ElementAt (kinds nodes) m → ElementAt (kinds new) m
  pub sound : SoundIn new head entries stack

abbrev pub Grew : Bool → ℕ → ℕ → StateValue → StateValue → Type 0
Grew exact c n s new = GrewIn exact c n s.nodes new.nodes new.head new.formatting new.stack

pub record Puts (exact : Bool) (c n : ℕ) (f : StateValue → StateValue) : Type 0 where
  pub puts : (s : StateValue) → Sound s → Grew exact c n s (f s)

-- ---- steps put together

pub kept_grew : {exact : Bool} {c : ℕ} {nodes new : List NodeValue} {head : Option ℕ} {entries : List (Option ℕ)}
    {stack : List OpenValue} → KeptIn nodes new head entries stack → GrewIn exact c 0 nodes new head entries stack
kept_grew {exact} {c} h = record {
  at_most = let e = ap (occurrences_in c) h.same in omega arith;
  at_least = λ x. let e = ap (occurrences_in c) h.same in omega arith;
  stays = h.stays;
  sound = h.sound;
}

pub grew_then : {exact : Bool} {c m n : ℕ} (k : ℕ) {nodes more new : List NodeValue} {head first : Option ℕ}
    {entries later : List (Option ℕ)} {stack inner : List OpenValue} → m + n ≡ k
    → GrewIn exact c m nodes more head entries stack → GrewIn exact c n more new first later inner
    → GrewIn exact c k nodes new first later inner
grew_then k l a b = record {
  at_most = let e = a.at_most in let f = b.at_most in omega arith;
  at_least = λ x. let e = a.at_least x in let f = b.at_least x in omega arith;
  stays = λ i e. b.stays i (a.stays i e);
  sound = b.sound;
}

-- some may be lost, if that may be
pub grew_within : {exact : Bool} {c m : ℕ} (n : ℕ) {nodes new : List NodeValue} {head : Option ℕ}
    {entries : List (Option ℕ)} {stack : List OpenValue} → m ≤ n → (exact ≡ true → m ≡ n)
    → GrewIn exact c m nodes new head entries stack → GrewIn exact c n nodes new head entries stack
grew_within n l e h = record {
  at_most = let f = h.at_most in omega arith;
  at_least = λ x. let f = h.at_least x in let g = e x in omega arith;
  stays = h.stays;
  sound = h.sound;
}

pub grew_as : {exact : Bool} {c m : ℕ} (n : ℕ) {nodes new : List NodeValue} {head : Option ℕ}
    {entries : List (Option ℕ)} {stack : List OpenValue} → m ≡ n → GrewIn exact c m nodes new head entries stack
    → GrewIn exact c n nodes new head entries stack
grew_as n e h = grew_within n (omega arith) (λ x. e) h

pub keeps_puts : {exact : Bool} {c : ℕ} {f : StateValue → StateValue} → Keeps f → Puts exact c 0 f
keeps_puts h = record { puts = λ s sound. kept_grew (h.keeps s sound) }

pub puts_after : {exact : Bool} {c n : ℕ} {f g : StateValue → StateValue} → Puts exact c n f → Keeps g
    → Puts exact c n (λ s. f (g s))
puts_after {exact} {c} {n} {f} {g} first second = record {
  puts = λ s h.
      let a : Grew exact c 0 s (g s) = kept_grew (second.keeps s h) in
      grew_then n (omega arith) a (first.puts (g s) a.sound);
}

pub after_puts : {exact : Bool} {c n : ℕ} {f g : StateValue → StateValue} → Keeps f → Puts exact c n g
    → Puts exact c n (λ s. f (g s))
after_puts {exact} {c} {n} {f} {g} first second = record {
  puts = λ s h.
      let a : Grew exact c n s (g s) = second.puts s h in
      let b : Grew exact c 0 (g s) (f (g s)) = kept_grew (first.keeps (g s) a.sound) in
      grew_then n (omega arith) a b;
}

pub fostered_puts : {exact : Bool} {c n : ℕ} {step : StateValue → StateValue} → Puts exact c n step
    → Puts exact c n (fostered step)
fostered_puts h = record { puts = λ s sound. h.puts (record s { foster_parenting = true }) sound }

-- ---- a text is inserted

-- the kinds of the nodes are these
grew_kinds : {exact : Bool} {c n : ℕ} {nodes new : List NodeValue} {head : Option ℕ} {entries : List (Option ℕ)}
    {stack : List OpenValue} (ks : List KindValue) → kinds new ≡ ks → Grown c n (kinds nodes) ks
    → ((m : ℕ) → ElementAt (kinds nodes) m → ElementAt ks m) → IsRooted ks → IsForest new
    → SoundIn nodes head entries stack → GrewIn exact c n nodes new head entries stack
grew_kinds {exact} {c} {n} {nodes} {new} ks e g stays r f h = record {
  at_most = let a = g.grows in let b = counted in omega arith;
  at_least = λ x. let a = g.grows in let b = counted in omega arith;
  stays = stays_new;
  sound = record {
    held = λ m l. stays_new m (h.held m l);
    utf8 = subst (λ (x : List KindValue). All IsUtf8 (texts x)) (sym e) g.utf8;
    forest = f;
    root = subst IsRooted (sym e) r;
  };
}
  where
    counted : occurrences_in c (texts (kinds new)) ≡ occurrences_in c (texts ks)
    counted = ap (λ (x : List KindValue). occurrences_in c (texts x)) e

    stays_new : (m : ℕ) → ElementAt (kinds nodes) m → ElementAt (kinds new) m
    stays_new m a = subst (λ (x : List KindValue). ElementAt x m) (sym e) (stays m a)

added_grew : {exact : Bool} (c : ℕ) (t : List ℕ) (at : _) (nodes : List NodeValue) {head : Option ℕ}
    {entries : List (Option ℕ)} {stack : List OpenValue} → IsUtf8 t → SoundIn nodes head entries stack
    → GrewIn exact c (occurrences c t) nodes (add (text t) at nodes) head entries stack
added_grew c t at nodes u h =
    grew_kinds (kinds nodes ++ text t ∷ []) (kinds_add (text t) at nodes) (grown_by_text c (kinds nodes) t u h.utf8)
    (λ m f. element_before (kinds nodes) (text t) m f) (rooted_new (kinds nodes) (text t) h.root)
    (forest_add (text t) at nodes h.forest) h

-- what is no element stays so
rooted_set : (ks : List KindValue) (n : ℕ) (k : KindValue) → is_element k ≡ false → IsRooted ks
    → IsRooted (set ks n k)
rooted_set [] n k e r = absurd (true≢false r)
rooted_set (x ∷ ks) zero k e r = e
rooted_set (x ∷ ks) (suc n) k e r = r

joined_grew : {exact : Bool} (c : ℕ) (t : List ℕ) (nodes : List NodeValue) {head : Option ℕ}
    {entries : List (Option ℕ)} {stack : List OpenValue} (n : ℕ) (before : List ℕ)
    → kind_at nodes n ≡ text before → IsUtf8 t → SoundIn nodes head entries stack
    → GrewIn exact c (occurrences c t) nodes (with_kind n (text (before ++ t)) nodes) head entries stack
joined_grew c t nodes n before e u h =
    grew_kinds (set (kinds nodes) n (text (before ++ t))) (kinds_with_kind n (text (before ++ t)) nodes)
    (grown_at c (kinds nodes) n before t here u h.utf8) (λ m f. element_set (kinds nodes) n m (text (before ++ t))
    (λ g. absurd (true≢false (sym g ∙ ap is_element here))) f)
    (rooted_set (kinds nodes) n (text (before ++ t)) refl h.root)
    (forest_with_kind n (text (before ++ t)) nodes h.forest) h
  where
    here : get_or (kinds nodes) n document ≡ text before
    here = sym (kind_read nodes n) ∙ e

pub insert_text_puts : {exact : Bool} (c : ℕ) (t : List ℕ) → IsUtf8 t
    → Puts exact c (occurrences c t) (insert_text t)
insert_text_puts {exact} c t u = record {
  puts = λ s h. by_text (λ new. GrewIn exact c (occurrences c t) s.nodes new s.head s.formatting s.stack) t (place s)
      s.nodes (added_grew c t (place s) s.nodes u h) (λ n before p e. joined_grew c t s.nodes n before e u h);
}
