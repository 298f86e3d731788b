use Rattle.std.proofs.Common.{◌≡◌, ◌+◌, Result, Err, map, drop, subst, arith}
use Rattle.p3l_ast.specs.declared.refusal.SourceRefusal.{SourceRefusal}
use Rattle.p3l_ast.specs.Tree.{entry_tree}
use Rattle.p3l_types.specs.Verdict.{Gives}
use Rattle.p3l_check.specs.Entry.{Checked, none_checked, checked_of, checked_entries}
use Rattle.p3l_check.proofs.Entries.{entries-kept, refused-left, handed-result}
use Rattle.p3l_check.proofs.Sound.{entry-adds}
use Rattle.p3l_check.proofs.progress.Progress.in_order.Goals as goal

pub returns-in_err-progress-2 : goal.returns-in_err-progress-2
returns-in_err-progress-2 c =
    let refusal = c.in_err-progress-2.field-0.0 in
    let left = refused-left (checked_of c.loop-place.progress) c.args.entries.now _ c.in_ok-places.ensures c.loop-place.place c.index-entries-place.result refusal (omega arith) c.index-entries-place.is c.in_err-progress-2.ensures in
    handed-result _ refusal _ c.from_residual-in_err-progress-2.ensures.1 (subst (λ (m : Result Checked SourceRefusal). Gives {A = Checked} (Err refusal) m) c.loop-place.invariant.all left)

pub loop-place-preserved : goal.loop-place-preserved
loop-place-preserved c =
    let more = entries-kept (checked_of c.loop-place.progress) c.args.entries.now _ c.in_ok-places.ensures c.loop-place.place c.index-entries-place.result (checked_of c.in_ok-progress-2.progress) in
    let all : checked_entries (checked_of c.in_ok-progress-2.progress) (map entry_tree (drop (c.loop-place.place + 1) c.args.entries.now)) ≡ checked_entries none_checked (map entry_tree c.args.entries.now) =
    grind (arith, more, c.in_ok-progress-2.ensures, c.loop-place.invariant.all, c.index-entries-place.is) in
    let adds = entry-adds (checked_of c.loop-place.progress) _ _ (checked_of c.in_ok-progress-2.progress) c.in_ok-progress-2.ensures in
    record { all = all; few = omega (arith, adds, c.loop-place.invariant.few) }
