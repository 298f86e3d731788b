use Rattle.std.proofs.Common.{◌<◌, None, length, get_or, sym, ap, ◌∙◌, subst}
use Rattle.p3l_code.specs.declared.instr.Code.{Code}
use Rattle.p3l_units.specs.Table.{Served, DoesNode, IsBareNode}
use Rattle.p3l_units.proofs.Bare.{bare_at, bare_inside, bare_does}
use Rattle.p3l_units.proofs.table.UnitTable.bare_code.Goals as goal

pub bounds-as_slice-bare : goal.bounds-as_slice-bare
bounds-as_slice-bare c =
    let k = c.args.node in
    let bare = c.in_ok-bare.bare in
    let served : Served = record { tree = c.self.inside.tree.now; codes = c.self.inside.codes } in
    let low : k < length served.tree.nodes = subst (λ (s : Served). k < length s.tree.nodes) (sym c.self.view_is) c.requires in
    let is : IsBareNode served k bare = bare_at served c.self.inside.bare_nodes k bare c.self.invariant.bare low (ap (λ xs. get_or xs k None) (sym c.as_slice.ensures) ∙ c.in_ok-bare.was) in
    subst (λ xs. bare.place < length xs) (sym c.as_slice-2.ensures) (bare_inside served k bare is)

pub returns : goal.returns
returns c =
    let k = c.args.node in
    let bare = c.in_ok-bare.bare in
    let code = c.index-as_slice-bare.result in
    let served : Served = record { tree = c.self.inside.tree.now; codes = c.self.inside.codes } in
    let low : k < length served.tree.nodes = subst (λ (s : Served). k < length s.tree.nodes) (sym c.self.view_is) c.requires in
    let is : IsBareNode served k bare = bare_at served c.self.inside.bare_nodes k bare c.self.invariant.bare low (ap (λ xs. get_or xs k None) (sym c.as_slice.ensures) ∙ c.in_ok-bare.was) in
    let does : DoesNode served k code bare.module = bare_does served k bare code is (c.index-as_slice-bare.is ∙ ap (λ xs. get_or xs bare.place code) c.as_slice-2.ensures) in
    subst (λ (s : Served). DoesNode s k c.in_ok-code.code.now bare.module) c.self.view_is
    (subst (λ (x : Code). DoesNode served k x bare.module) (sym c.in_ok-code.ensures) does)
