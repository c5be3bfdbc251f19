use Rattle.std.proofs.Common.{suc, ◌≡◌, [], ◌∷◌, ◌++◌, length, replicate, refl, sym, ◌∙◌, ap, arith, subst, Some}
use Rattle.std.specs.Prelude.{slice_get, slice_set}
use Rattle.std.proofs.lemmas.Option.{slice_get_read}
use Rattle.js_document.specs.declared.open.Node.{Node}
use Rattle.js_document.specs.Trie.{IsOpen, IsTable, brace_with, place_of}
use Rattle.js_document.proofs.TableLemmas.{at_end, node_more, opens_told, place_inside, zeros}
use Rattle.js_document.proofs.TrieLemmas.{link_inside, opens}
use Rattle.js_document.proofs.open.OpenTrie.open.Goals as goal

pub index-child-requires : goal.index-child-requires
index-child-requires c =
    let scopes = c.requires.inside.0 in
    let inside = place_inside c.self.inside.nodes.items c.self.inside.children.items c.args.link c.args.scope scopes
    c.self.invariant c.requires.few
    (subst (λ ns. IsOpen ns c.args.link scopes) (sym c.self.view_is) c.requires.inside.1) in
    let long = c.self.inside.children.ok.0 in
    omega (arith, inside, long)

pub returns-then-child-ne0-clause-ok : goal.returns-then-child-ne0-clause-ok
returns-then-child-ne0-clause-ok c = λ scopes is.
    let nodes = c.self.inside.nodes.items in
    let children = c.self.inside.children.items in
    let here : IsOpen nodes c.args.link scopes =
    subst (λ ns. IsOpen ns c.args.link scopes) (sym c.self.view_is) is in
    let inside = place_inside nodes children c.args.link c.args.scope scopes c.self.invariant c.requires.few here in
    subst (λ ns. IsOpen ns c.index-child.result.now (c.args.scope ∷ scopes)) c.self.view_is
    (opens_told nodes children c.args.link c.args.scope c.index-child.result.now scopes c.self.invariant c.requires.few
    (slice_get_read children (length children) (place_of c.args.link c.args.scope) c.index-child.result.now refl inside
    c.index-child.ensures)
    c.if-child-ne0.true here)

pub index_mut-requires : goal.index_mut-requires
index_mut-requires c =
    let scopes = c.requires.inside.0 in
    let inside = place_inside c.self.inside.nodes.items c.self.inside.children.items c.args.link c.args.scope scopes
    c.self.invariant c.requires.few
    (subst (λ ns. IsOpen ns c.args.link scopes) (sym c.self.view_is) c.requires.inside.1) in
    let long = c.self.inside.children.ok.0 in
    let more = c.in_ok-extend_from_slice.ensures.len in
    omega (arith, inside, long, more)

pub invariant_of-self-2 : goal.invariant_of-self-2
invariant_of-self-2 c =
    let scopes = c.requires.inside.0 in
    let nodes = c.self.inside.nodes.items in
    let children = c.self.inside.children.items in
    let node : Node =
    record { parent = c.args.link; scope = c.args.scope; brace = c.brace_with-brace.result } in
    let place = place_of c.args.link c.args.scope in
    let here : IsOpen nodes c.args.link scopes =
    subst (λ ns. IsOpen ns c.args.link scopes) (sym c.self.view_is) c.requires.inside.1 in
    let inside = place_inside nodes children c.args.link c.args.scope scopes c.self.invariant c.requires.few here in
    let there : slice_get children place ≡ Some c.index-child.result.now =
    slice_get_read children (length children) place c.index-child.result.now refl inside c.index-child.ensures in
    let empty : slice_get children place ≡ Some 0 = there ∙ ap Some c.if-child-ne0.false in
    let table = node_more nodes children (replicate 8 0) c.self.invariant (zeros 8) node
    (link_inside nodes c.args.link scopes here) c.requires.few empty refl
    (c.brace_with-brace.ensures ∙ ap (λ ns. brace_with ns c.args.link c.args.scope) (sym c.self.view_is)) in
    subst (λ ns. IsTable ns (slice_set c.extend_from_slice.new.self.items place c.in_ok-child.child))
    (sym (c.in_ok-push.ensures.items ∙ ap (λ ns. ns ++ node ∷ []) c.reserve.ensures.items))
    (subst (λ cs. IsTable (nodes ++ node ∷ []) (slice_set cs place c.in_ok-child.child))
    (sym c.in_ok-extend_from_slice.ensures.items)
    (subst (λ n. IsTable (nodes ++ node ∷ []) (slice_set (children ++ replicate 8 0) place n))
    (let is = c.in_ok-child.ensures in let same = ap (λ l. length l) c.self.view_is in omega (arith, is, same)) table))

pub returns-clause-ok : goal.returns-clause-ok
returns-clause-ok c = λ scopes is.
    let nodes = c.self.inside.nodes.items in
    let node : Node =
    record { parent = c.args.link; scope = c.args.scope; brace = c.brace_with-brace.result } in
    let here : IsOpen nodes c.args.link scopes =
    subst (λ ns. IsOpen ns c.args.link scopes) (sym c.self.view_is) is in
    let next : suc (length nodes) ≡ c.in_ok-child.child =
    (let is = c.in_ok-child.ensures in let same = ap (λ l. length l) c.self.view_is in omega (arith, is, same)) in
    subst (λ ns. IsOpen ns c.in_ok-child.child (c.args.scope ∷ scopes))
    (sym (c.in_ok-push.ensures.items ∙ ap (λ ns. ns ++ node ∷ []) c.reserve.ensures.items))
    (subst (λ n. IsOpen (nodes ++ node ∷ []) n (c.args.scope ∷ scopes))
    next (opens nodes node scopes here (at_end nodes node)))
