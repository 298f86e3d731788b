use Rattle.std.proofs.Common.{◌≡◌, ℤ, false, Option, Some, None, length, get_or, refl, sym, ap, ◌∙◌, subst}
use Rattle.std.specs.Option.{is_some}
use Rattle.std.specs.Prelude.{IsSomeAnd}
use Rattle.std.proofs.lemmas.Option.{get_or_from_slice_get, slice_get_read}
use Rattle.p3l_skel.specs.declared.tree.Form.TheVariants as forms
use Rattle.p3l_skel.specs.declared.tree.Node.{Node}
use Rattle.p3l_skel.specs.Tree.{node_at, no_node, rescue_of}
use Rattle.p3l_code.specs.declared.instr.Code.{Code}
use Rattle.p3l_units.specs.Table.{Served, DoesNode}
use Rattle.p3l_units.proofs.Body.{place_inside, own_code, does_node}
use Rattle.p3l_units.proofs.table.bare_node.Goals as goal

none_of : (o : Option ℤ) → false ≡ is_some o → None ≡ o
none_of None e = refl
none_of (Some x) e = absurd cc

pub returns : goal.returns
returns c =
    let k = c.args.node in
    let tree = c.args.tree.now in
    let served : Served = record { tree = tree; codes = c.args.codes.now } in
    let places = c.args.places.now in
    let there = c.requires.there in
    let placed = c.requires.placed in
    let node = c.index-as_slice-node.result in
    let code = c.index-codes-place.result in
    let place = get_or places node.module 0 in
    let read : node ≡ get_or tree.nodes k node = c.index-as_slice-node.is ∙ ap (λ xs. get_or xs k node) c.as_slice.ensures in
    let found : node ≡ node_at tree k = sym (get_or_from_slice_get tree.nodes k node no_node (slice_get_read tree.nodes (length tree.nodes) k node refl there read)) in
    let form : (node_at tree k).form ≡ forms.Seq = ap (λ (n : Node). n.form) (sym found) ∙ c.in-Seq.is in
    let bare : None ≡ rescue_of tree (node_at tree k).module = none_of _ c.if-is_some.ensures ∙ c.rescue_of.ensures ∙ ap (λ (n : Node). rescue_of tree n.module) found in
    let at : place ≡ get_or places (node_at tree k).module 0 = ap (λ (n : Node). get_or places n.module 0) found in
    let own = own_code served places placed k there form place code at c.index-codes-place.is in
    let does : DoesNode served k code node.module = subst (λ (n : Node). DoesNode served k code n.module) (sym found) (does_node served places placed k there form code own bare) in
    subst (λ o. IsSomeAnd o (λ (x : Code). DoesNode served k x node.module))
    (sym (slice_get_read served.codes (length served.codes) place code refl (place_inside served places placed k there form place at) c.index-codes-place.is))
    does
