-- The handler of img.
use Rattle.std.specs.Prelude.{ℕ, true, if◌then◌else◌, List, [], ◌∷◌, Option, Some, None, codes}
use Rattle.htmd_markdown.specs.Links.{image}
use Rattle.htmd_walk.specs.Handling.{ElementView, PlanView, nothing, this_result, raw_html, HandlerMeaning, of_plan}
use Rattle.htmd_walk.specs.ElementPlans.{attributes_of}
use Rattle.htmd_walk.specs.LinkAttributes.{last_value, is_raw_unless_among, title_of}

abbrev pub image_attributes : List (List ℕ)
image_attributes = codes "href" ∷ codes "src" ∷ codes "alt" ∷ codes "title" ∷ []

abbrev pub image_address : ElementView → Option (List ℕ)
image_address view = last_value (codes "href" ∷ codes "src" ∷ []) (attributes_of view)

abbrev pub alternative_text : ElementView → Option (List ℕ)
alternative_text view = last_value (codes "alt" ∷ []) (attributes_of view)

-- without an address there is no image
abbrev pub image_at : Option (List ℕ) → ElementView → PlanView
image_at None view = nothing
image_at (Some address) view = this_result (record {
  content = image address (alternative_text view) (title_of view);
  markdown_translated = true;
})

abbrev pub image_plan : ElementView → PlanView
image_plan view = if is_raw_unless_among image_attributes view then raw_html else image_at (image_address view) view

abbrev pub images : HandlerMeaning
images = of_plan image_plan (λ view content. None)
