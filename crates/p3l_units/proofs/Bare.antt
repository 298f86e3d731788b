-- Bare nodes, as a table has them.
use Rattle.std.proofs.Common.{◌≡◌, ℕ, ◌<◌, List, length, get_or, Option, Some, None, refl, subst, arith}
use Rattle.std.specs.Prelude.{IfSome, IsSomeAnd}
use Rattle.std.proofs.lemmas.Option.{slice_get-get_or, slice_get_read}
use Rattle.p3l_code.specs.declared.instr.Code.{Code}
use Rattle.p3l_units.specs.declared.table.BareNode.{BareNode}
use Rattle.p3l_units.specs.Table.{Served, DoesNode, IsBareNode, HasBareNodes}
use Rattle.p3l_units.proofs.Body.{there_within}

-- the bare node that a table has for a node
pub bare_at : (served : Served) (bare_nodes : List (Option BareNode)) (k : ℕ) (bare : BareNode) → HasBareNodes served bare_nodes → k < length served.tree.nodes → get_or bare_nodes k None ≡ Some bare → IsBareNode served k bare
bare_at served bare_nodes k bare has inside found =
    let low : k < length bare_nodes = omega (arith, has.whole, inside) in
    subst (λ o. IfSome o (IsBareNode served k)) found (has.each k (get_or bare_nodes k None) (slice_get-get_or bare_nodes k None low))

-- a code is at its place
pub bare_inside : (served : Served) (k : ℕ) (bare : BareNode) → IsBareNode served k bare → bare.place < length served.codes
bare_inside served k bare is = there_within (λ (code : Code). DoesNode served k code bare.module) served.codes bare.place is

-- the code at its place does all that the node does
pub bare_does : (served : Served) (k : ℕ) (bare : BareNode) (code : Code) → IsBareNode served k bare → code ≡ get_or served.codes bare.place code → DoesNode served k code bare.module
bare_does served k bare code is found =
    subst (λ o. IsSomeAnd o (λ (x : Code). DoesNode served k x bare.module)) (slice_get_read served.codes (length served.codes) bare.place code refl (bare_inside served k bare is) found) is
