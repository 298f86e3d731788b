use Rattle.std.proofs.Common.{rules, ◌≡◌, Some, sym, ◌∙◌}
use Rattle.p3l_firing.specs.declared.process.ProcKind.{ProcKind}
use Rattle.p3l_firing.specs.declared.process.ProcKind.TheVariants.{Run}
use Rattle.p3l_net.proofs.Sides.{is_described, kind_described}
use Rattle.p3l_net.proofs.store.Store.is_ready.Goals as goal

some_same : (x y : ProcKind) → Some x ≡ Some y → x ≡ y
some_same x y is = cc

pub can_run-requires-clause-run : goal.can_run-requires-clause-run
can_run-requires-clause-run c =
    let kind : c.descriptor-descriptor.result.now.kind ≡ Run = search rules in
    record { described = is_described c.requires.sides c.descriptor-descriptor.ensures; kind = kind }

pub is_other_ready-requires-clause-other : goal.is_other_ready-requires-clause-other
is_other_ready-requires-clause-other c =
    λ run.
    let kind : c.descriptor-descriptor.result.now.kind ≡ Run = some_same _ _ (sym (kind_described (is_described c.requires.sides c.descriptor-descriptor.ensures)) ∙ run) in
    search rules
