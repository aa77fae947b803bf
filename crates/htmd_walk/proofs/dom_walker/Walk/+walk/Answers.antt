-- The walk writes what its definition says.
use Rattle.htmd_walk.proofs.dom_walker.Walk.+walk.Answers.HandlerAnswers as handlers
use Rattle.htmd_walk.proofs.dom_walker.Walk.+walk.Answers.ContentAnswers as contents
use Rattle.htmd_walk.proofs.dom_walker.Walk.+walk.Answers.AloneAnswers as alone
use Rattle.htmd_walk.proofs.dom_walker.Walk.+walk.Answers.ChildrenAnswers as children
use Rattle.htmd_walk.proofs.dom_walker.Walk.+walk.Answers.NodeAnswers as nodes
use Rattle.htmd_walk.proofs.dom_walker.Walk.+walk.Goals as goal
mod HandlerAnswers
mod ContentAnswers
mod AloneAnswers
mod ChildrenAnswers
mod NodeAnswers

pub without_handler-returns-then-is_markdown_alone : goal.without_handler-returns-then-is_markdown_alone
without_handler-returns-then-is_markdown_alone = handlers.without_handler-returns-then-is_markdown_alone

pub without_handler-returns : goal.without_handler-returns
without_handler-returns = handlers.without_handler-returns

pub handle-returns-in_default : goal.handle-returns-in_default
handle-returns-in_default = handlers.handle-returns-in_default

pub handle-walk_descendant-requires : goal.handle-walk_descendant-requires
handle-walk_descendant-requires = handlers.handle-walk_descendant-requires

pub handle-returns-in-Skip : goal.handle-returns-in-Skip
handle-returns-in-Skip = handlers.handle-returns-in-Skip

pub handle-returns-in-Text : goal.handle-returns-in-Text
handle-returns-in-Text = handlers.handle-returns-in-Text

pub handle-returns-in-RawHtml : goal.handle-returns-in-RawHtml
handle-returns-in-RawHtml = handlers.handle-returns-in-RawHtml

pub handle-returns-in_ok-content-in-Children : goal.handle-returns-in_ok-content-in-Children
handle-returns-in_ok-content-in-Children = handlers.handle-returns-in_ok-content-in-Children

pub handle-returns-in_ok-content-in-Descendant : goal.handle-returns-in_ok-content-in-Descendant
handle-returns-in_ok-content-in-Descendant = handlers.handle-returns-in_ok-content-in-Descendant

pub handle-returns-in-None : goal.handle-returns-in-None
handle-returns-in-None = handlers.handle-returns-in-None

pub handle-returns-in-Some-2 : goal.handle-returns-in-Some-2
handle-returns-in-Some-2 = handlers.handle-returns-in-Some-2

pub handle-returns-in-Each : goal.handle-returns-in-Each
handle-returns-in-Each = handlers.handle-returns-in-Each

pub handle_each-returns-in-Final : goal.handle_each-returns-in-Final
handle_each-returns-in-Final = handlers.handle_each-returns-in-Final

pub handle_each-returns : goal.handle_each-returns
handle_each-returns = handlers.handle_each-returns

pub content-returns-in-Some : goal.content-returns-in-Some
content-returns-in-Some = contents.content-returns-in-Some

pub walk_alone-returns : goal.walk_alone-returns
walk_alone-returns = alone.walk_alone-returns

pub walk_descendant-returns : goal.walk_descendant-returns
walk_descendant-returns = alone.walk_descendant-returns

pub walk_children-loop-rest-init : goal.walk_children-loop-rest-init
walk_children-loop-rest-init = children.walk_children-loop-rest-init

pub walk_children-walk_node-requires : goal.walk_children-walk_node-requires
walk_children-walk_node-requires = children.walk_children-walk_node-requires

pub walk_children-loop-rest-preserved-in_ok-walk_node : goal.walk_children-loop-rest-preserved-in_ok-walk_node
walk_children-loop-rest-preserved-in_ok-walk_node = children.walk_children-loop-rest-preserved-in_ok-walk_node

pub walk_children-loop-rest-preserved : goal.walk_children-loop-rest-preserved
walk_children-loop-rest-preserved = children.walk_children-loop-rest-preserved

pub walk_each-walk_kept-requires : goal.walk_each-walk_kept-requires
walk_each-walk_kept-requires = alone.walk_each-walk_kept-requires

pub walk_each-loop-node-preserved : goal.walk_each-loop-node-preserved
walk_each-loop-node-preserved = alone.walk_each-loop-node-preserved

pub walk_element-returns : goal.walk_element-returns
walk_element-returns = contents.walk_element-returns

pub walk_node-returns-in_ok-walk_children-in-Document :
    goal.walk_node-returns-in_ok-walk_children-in-Document
walk_node-returns-in_ok-walk_children-in-Document =
    nodes.walk_node-returns-in_ok-walk_children-in-Document

pub walk_node-returns-in-Doctype : goal.walk_node-returns-in-Doctype
walk_node-returns-in-Doctype = nodes.walk_node-returns-in-Doctype

pub walk_node-returns-then-is_markdown_alone : goal.walk_node-returns-then-is_markdown_alone
walk_node-returns-then-is_markdown_alone = nodes.walk_node-returns-then-is_markdown_alone

pub walk_node-returns-else-is_markdown_alone : goal.walk_node-returns-else-is_markdown_alone
walk_node-returns-else-is_markdown_alone = nodes.walk_node-returns-else-is_markdown_alone

pub walk_node-returns-in-Text : goal.walk_node-returns-in-Text
walk_node-returns-in-Text = nodes.walk_node-returns-in-Text

pub walk_kept-keep-requires-clause-right :
    goal.walk_kept-keep-requires-clause-right
walk_kept-keep-requires-clause-right =
    alone.walk_kept-keep-requires-clause-right

pub walk_kept-returns-clause-ok :
    goal.walk_kept-returns-clause-ok
walk_kept-returns-clause-ok =
    alone.walk_kept-returns-clause-ok

pub walk_node-returns-in-Some :
    goal.walk_node-returns-in-Some
walk_node-returns-in-Some =
    nodes.walk_node-returns-in-Some

pub walk_node-returns-in_ok-given-in-Element :
    goal.walk_node-returns-in_ok-given-in-Element
walk_node-returns-in_ok-given-in-Element =
    nodes.walk_node-returns-in_ok-given-in-Element
