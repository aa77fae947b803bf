-- Where links lead, as the source keeps it: for each value what there is to see in all headings around such links.
use Rattle.std.specs.Prelude.{◌≡◌, ℕ, Bool, false, not, ◌&&◌, min, max, nat_le, nat_lt, if◌then◌else◌, List, [], ◌∷◌}
use Rattle.std.specs.Prelude.{Option, Some, None}
use Rattle.std.specs.HashMap.{get_by_text}
use Rattle.std.specs.Str.{bytes_eq}
use Rattle.htmd_document_of_tree.specs.declared.leadings.Leadings.{Leadings}
use Rattle.htmd_document_of_tree.specs.declared.leadings.Span.{Span}
use Rattle.htmd_document_of_tree.specs.Leadings.{Leading}

abbrev pub span_to : Leadings → List ℕ → Option Span
span_to found s = get_by_text found.spans s

-- nothing where there is no heading
abbrev pub span_of : Option Span → Span
span_of None = record { from = 0; until = 0 }
span_of (Some span) = span

-- what both have
abbrev pub in_both : Option Span → Span → Span
in_both None span = span
in_both (Some known) span = record { from = max known.from span.from; until = min known.until span.until }

-- what is known of a value after these
abbrev pub merged : Option Span → List ℕ → List Leading → Option Span
merged known s [] = known
merged known s (l ∷ found) =
    merged (if bytes_eq l.to s then Some (in_both known (span_of l.heading)) else known) s found

-- the second knows these as well
abbrev pub Learns : Leadings → Leadings → List Leading → Type 0
Learns old new found = (s : List ℕ) → span_to new s ≡ merged (span_to old s) s found

abbrev pub is_in_span : Span → ℕ → Bool
is_in_span span n = nat_le span.from n && nat_lt n span.until

-- a link leads to the value, and not only from the heading that the n-th thing to see is in
abbrev pub leads_elsewhere : Option Span → ℕ → Bool
leads_elsewhere None n = false
leads_elsewhere (Some span) n = not (is_in_span span n)
