-- If a handler adds no definition, those so far don't matter: this holds for each handler of a registry.
use Rattle.std.proofs.Common.{◌≡◌, ℕ, zero, suc, List, [], ◌∷◌, Option, Some, None, refl}
use Rattle.std.proofs.Common.{map, set}
use Rattle.std.specs.declared.dyn_box.DynBox.{DynBox}
use Rattle.std.specs.declared.alloc.Global.{Global}
use Rattle.htmd_walk.specs.declared.element_handler.built_in.BuiltIn.{BuiltIn}
use Rattle.htmd_walk.specs.declared.element_handler.built_in.BuiltIn.TheVariants.{ListElement, ListItem}
use Rattle.htmd_walk.specs.declared.element_handler.built_in.BuiltIn.TheVariants.{BlockQuote, Strong, Emphasis, Heading}
use Rattle.htmd_walk.specs.declared.element_handler.built_in.BuiltIn.TheVariants.{LineBreak, ThematicBreak, Paragraph}
use Rattle.htmd_walk.specs.declared.element_handler.built_in.BuiltIn.TheVariants.{Code, Preformatted, Image, Anchor}
use Rattle.htmd_walk.specs.declared.element_handler.built_in.BuiltIn.TheVariants.{Table, TableCell, TableRow, TablePart}
use Rattle.htmd_walk.specs.declared.element_handler.built_in.BuiltIn.TheVariants.{PagePart}
use Rattle.htmd_walk.specs.declared.element_handler.built_in.BuiltIn.TheVariants.{Page, Span, OtherBlock}
use Rattle.htmd_walk.specs.declared.element_handler.element_handlers.Handler.{Handler}
use Rattle.htmd_walk.specs.declared.element_handler.element_handlers.Handler.TheVariants as registered
use Rattle.htmd_markdown.specs.declared.link.LinkStyle.{LinkStyle}
use Rattle.htmd_markdown.specs.declared.link.LinkStyle.TheVariants.{Inlined, InlinedPreferAutolinks, Referenced}
use Rattle.htmd_walk.specs.Handling.{ElementView, ResultView, PlanView, HandlerMeaning}
use Rattle.htmd_walk.specs.Choice.{Config, handler_at, no_handler}
use Rattle.htmd_walk.specs.Layers.{with_functions, put_at}
use Rattle.htmd_walk.specs.Anchors.{anchors, anchor_address, finish_at, link_finish}
use Rattle.htmd_walk.specs.BuiltIn.{meaning_of}
use Rattle.htmd_walk.specs.RegisteredHandlers.{handler_meaning}
use Rattle.htmd_walk.specs.Staying.{HandlerStays, HandlersStay}

link-stays : (style : LinkStyle) (view : ElementView) (content address : List ℕ)
    (definitions others : List (List ℕ))
    → (link_finish style view content address definitions).added ≡ []
    → link_finish style view content address others ≡ link_finish style view content address definitions
link-stays Inlined view content address definitions others e = refl
link-stays InlinedPreferAutolinks view content address definitions others e = refl
link-stays Referenced view content address definitions others e = cc

finish-stays : (found : Option (List ℕ)) (view : ElementView) (content : ResultView)
    (definitions others : List (List ℕ)) → (finish_at found view content definitions).added ≡ []
    → finish_at found view content others ≡ finish_at found view content definitions
finish-stays None view content definitions others e = refl
finish-stays (Some address) view content definitions others e =
    link-stays view.options.link_style view content.content address definitions others e

anchors-stay : HandlerStays anchors
anchors-stay view content definitions others e = finish-stays (anchor_address view) view content definitions others e

built_in-stays : (handler : BuiltIn) → HandlerStays (meaning_of handler)
built_in-stays Image = λ view content definitions others e. refl
built_in-stays Anchor = anchors-stay
built_in-stays ListElement = λ view content definitions others e. refl
built_in-stays ListItem = λ view content definitions others e. refl
built_in-stays BlockQuote = λ view content definitions others e. refl
built_in-stays Code = λ view content definitions others e. refl
built_in-stays Strong = λ view content definitions others e. refl
built_in-stays Emphasis = λ view content definitions others e. refl
built_in-stays Heading = λ view content definitions others e. refl
built_in-stays LineBreak = λ view content definitions others e. refl
built_in-stays ThematicBreak = λ view content definitions others e. refl
built_in-stays Table = λ view content definitions others e. refl
built_in-stays TableCell = λ view content definitions others e. refl
built_in-stays TableRow = λ view content definitions others e. refl
built_in-stays TablePart = λ view content definitions others e. refl
built_in-stays Paragraph = λ view content definitions others e. refl
built_in-stays Preformatted = λ view content definitions others e. refl
built_in-stays PagePart = λ view content definitions others e. refl
built_in-stays Page = λ view content definitions others e. refl
built_in-stays Span = λ view content definitions others e. refl
built_in-stays OtherBlock = λ view content definitions others e. refl

none-stays : HandlerStays no_handler
none-stays view content definitions others e = refl

handler-stays : {X : Type 0} {F : X → Type 0} (of_box : DynBox X Global F → HandlerMeaning)
    → ((b : DynBox X Global F) → HandlerStays (of_box b)) → (handler : Handler X F)
    → HandlerStays (handler_meaning of_box handler)
handler-stays of_box boxes (registered.BuiltIn handler) = built_in-stays handler
handler-stays of_box boxes registered.Skipping = none-stays
handler-stays of_box boxes (registered.Custom handler) = boxes handler

-- the handlers of a registry, where what a box means knows nothing of definitions
pub handlers-stay : {X : Type 0} {F : X → Type 0} (of_box : DynBox X Global F → HandlerMeaning)
    → ((b : DynBox X Global F) → HandlerStays (of_box b)) → (handlers : List (Handler X F)) (index : ℕ)
    → HandlerStays (handler_at (map (handler_meaning of_box) handlers) index)
handlers-stay of_box boxes [] index = none-stays
handlers-stay of_box boxes (handler ∷ handlers) zero = handler-stays of_box boxes handler
handlers-stay of_box boxes (handler ∷ handlers) (suc index) = handlers-stay of_box boxes handlers index

stays-put : (handlers : List HandlerMeaning) (place : ℕ) (handler : HandlerMeaning)
    → ((index : ℕ) → HandlerStays (handler_at handlers index)) → HandlerStays handler
    → (index : ℕ) → HandlerStays (handler_at (set handlers place handler) index)
stays-put [] place handler stay new index = none-stays
stays-put (old ∷ handlers) zero handler stay new zero = new
stays-put (old ∷ handlers) zero handler stay new (suc index) = stay (suc index)
stays-put (old ∷ handlers) (suc place) handler stay new zero = stay zero
stays-put (old ∷ handlers) (suc place) handler stay new (suc index) =
    stays-put handlers place handler (λ i. stay (suc i)) new index

-- a layer over them
pub layer-stays : (config : Config) (place : ℕ) (plan : ElementView → PlanView)
    (finish : ElementView → ResultView → Option ResultView) → HandlersStay config
    → HandlersStay (put_at config place plan finish)
layer-stays config place plan finish stay =
    stays-put config.handlers place (with_functions (handler_at config.handlers place) plan finish) stay
    (λ view content definitions others e. refl)
